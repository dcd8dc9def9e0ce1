-- Writing octets with a 00 before them, or without.
use Rattle.std.proofs.Common.{◌≡◌, ℕ, List, [], ◌∷◌, false, inl, Result, Ok, Err, refl, sym, subst}
use Rattle.der_tlv.specs.declared.error.ErrorKind.{ErrorKind}
use Rattle.der_tlv.specs.declared.error.Error.{Error}
use Rattle.der_tlv.specs.Writing.{WriterState, Wrote, WriterRefused, Writes}
use Rattle.der_elem.specs.Encoding.{Encodes}
use Rattle.der_elem.proofs.Written.{wrote_nothing, refused_within, last_part}

-- one write of all octets
pub write_all : {A : Type 0} (octets all : List ℕ) (old new : WriterState) (r : Result A Error) → all ≡ octets → Writes octets old new r → Encodes all false old new r
write_all octets all old new (Ok v) e w = subst (λ o. Wrote o old new) (sym e) w
write_all octets all old new (Err k) e w = inl (subst (λ o. WriterRefused o old new k.kind) (sym e) w)

-- the write of the 00 failed
pub first_refused : (octets all : List ℕ) (old new : WriterState) (kind : ErrorKind) → all ≡ 0 ∷ octets → WriterRefused (0 ∷ []) old new kind → WriterRefused all old new kind
first_refused octets all old new kind e refused = refused_within (wrote_nothing old) all (0 ∷ []) octets e refused

-- the 00 was written, and then the octets, or not all of them
pub write_after : {A : Type 0} (octets all : List ℕ) (old mid new : WriterState) (r : Result A Error) → all ≡ 0 ∷ octets → Wrote (0 ∷ []) old mid → Writes octets mid new r → Encodes all false old new r
write_after octets all old mid new r e written w = last_part written all octets e false false (λ h. h) new r (write_all octets octets mid new r refl w)
