-- The results of reading contents octets as a whole.
use Rattle.std.specs.Prelude.{◌≡◌, List, ℕ, length, true, false}
use Rattle.der_tlv.specs.declared.error.ErrorKind.{ErrorKind}
use Rattle.der_tlv.specs.declared.error.ErrorKind.TheVariants.{Failed}
use Rattle.der_tlv.specs.ReaderState.{ReaderState, after_read, rest}

-- all of the octets that the reader showed were read
pub record ContentsRead (old new : ReaderState) (octets : List ℕ) : Type 0 where
  pub ready : old.failed ≡ false
  pub all : octets ≡ rest old
  pub after : new ≡ after_read old (length (rest old))

-- none was read: the reader had refused before
pub record ContentsRefused (old new : ReaderState) (kind : ErrorKind) : Type 0 where
  pub before : old.failed ≡ true
  pub fault_is : kind ≡ Failed
  pub after : new ≡ old
