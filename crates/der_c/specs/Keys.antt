-- Why there is no attribute or no public key of these octets.
use Rattle.std.specs.Prelude.{◌≡◌, ◌⊎◌, ◌≢◌, ℕ, List, length, false}
use Rattle.std.specs.Str.{is_utf8}
use Rattle.der_tlv.specs.declared.error.ErrorKind.{ErrorKind}
use Rattle.der_tlv.specs.declared.error.ErrorKind.TheVariants as kinds
use Rattle.der_tlv.specs.declared.tag.Tag.TheVariants as tags
use Rattle.der_build.specs.Attributes.{RefusesText}
use Rattle.der_build.specs.Keys.{is_p256_point}
use Rattle.der_c.specs.Building.{IsOfKind}
use Rattle.der_c.specs.declared.fault.Fault.{Fault}

-- a text that is no UTF-8 (12), or the reason why there is no attribute with this type and text
abbrev pub IsNoAttribute : List ℕ → List ℕ → Fault → Type 0
IsNoAttribute type text fault =
    ((is_utf8 text ≡ false) × IsOfKind kinds.Utf8 fault)
    ⊎ ((kind : ErrorKind) × RefusesText type text kind × IsOfKind kind fault)

-- 7: another number of octets than 32
abbrev pub IsNoEd25519 : List ℕ → Fault → Type 0
IsNoEd25519 key fault = (length key ≢ 32) × IsOfKind (kinds.Length tags.BitString) fault

-- 13: octets that are no point
abbrev pub IsNoPoint : List ℕ → Fault → Type 0
IsNoPoint point fault = (is_p256_point point ≡ false) × IsOfKind (kinds.Value tags.BitString) fault
