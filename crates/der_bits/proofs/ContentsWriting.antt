-- Writing an octet and then other octets.
use Rattle.std.proofs.Common.{ℕ, List, [], ◌∷◌, false, inl, Result, Ok, Err, refl}
use Rattle.der_tlv.specs.declared.error.ErrorKind.{ErrorKind}
use Rattle.der_tlv.specs.declared.error.Error.{Error}
use Rattle.der_tlv.specs.Writing.{WriterState, Wrote, WriterRefused, Writes}
use Rattle.der_elem.specs.Encoding.{Encodes}
use Rattle.der_elem.proofs.Written.{wrote_nothing, refused_within, last_part}

-- one write of all octets
write_all : {A : Type 0} (octets : List ℕ) (old new : WriterState) (r : Result A Error) → Writes octets old new r → Encodes octets false old new r
write_all octets old new (Ok v) w = w
write_all octets old new (Err k) w = inl w

module _ (first : ℕ) (octets : List ℕ) where
  -- the write of the first octet failed
  pub first_refused : (old new : WriterState) (kind : ErrorKind) → WriterRefused (first ∷ []) old new kind → WriterRefused (first ∷ octets) old new kind
  first_refused old new kind refused =
      refused_within (wrote_nothing old) (first ∷ octets) (first ∷ []) octets refl refused

  -- the first octet was written, and then the others, or not all of them
  pub write_after : {A : Type 0} (old mid new : WriterState) (r : Result A Error) → Wrote (first ∷ []) old mid → Writes octets mid new r → Encodes (first ∷ octets) false old new r
  write_after old mid new r written w =
      last_part written (first ∷ octets) octets refl false false (λ h. h) new r (write_all octets mid new r w)
