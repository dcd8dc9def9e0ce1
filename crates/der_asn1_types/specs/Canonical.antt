-- The canonical encoding of the value that octets encode (X.690 10, 11).
use Rattle.std.specs.Prelude.{◌≡◌, ◌⊎◌, ℕ, Bool, true, List, Result, Ok, Err, IsOk, Vec}
use Rattle.std.specs.declared.alloc.Global.{Global}
use Rattle.der_tlv.specs.declared.error.Error.{Error}
use Rattle.der_tlv.specs.declared.error.ErrorKind.{ErrorKind}
use Rattle.der_tlv.specs.declared.error.ErrorKind.TheVariants.{Memory}
use Rattle.der_elem.specs.declared.form.Form as form
use Rattle.der_elem.specs.Decoding.{AllRead}

-- the result is that of parsing, unless memory ran out
abbrev pub Gives : Result (Vec ℕ Global) Error → Result (List ℕ) ErrorKind → Type 0
Gives (Ok encoding) given = given ≡ Ok encoding.items
Gives (Err error) given = (error.kind ≡ Memory) ⊎ (given ≡ Err error.kind)

-- the reason why nothing is returned: parsing returns an error, or memory ran out, if reading takes memory or the octets have no error
abbrev pub NotGiven : Bool → Result (List ℕ) ErrorKind → ErrorKind → Type 0
NotGiven takes_memory given kind = (given ≡ Err kind) ⊎ ((kind ≡ Memory) × ((takes_memory ≡ true) ⊎ IsOk given))

-- the encoding is that of a value that is read from all of the octets
pub record EncodingOfRead {T : Type 0} (F : form.Ghosts T) (octets encoding : List ℕ) : Type 0 where
  pub value : T
  pub read : AllRead F octets value
  pub written : encoding ≡ F.encoding value
