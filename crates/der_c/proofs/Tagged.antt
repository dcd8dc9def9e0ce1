-- Octets that are written with the tag of a SET OF.
use Rattle.std.proofs.Common.{◌≡◌, ℕ, ◌<◌, List, [], ◌∷◌, length, inl, inr, ap, sym, ◌∙◌, arith}
use Rattle.der_c.specs.Rooms.{Written}
use Rattle.der_c.specs.SignedAttributes.{with_set_tag}
use Rattle.der_c.specs.declared.fault.Fault.{Fault}

-- the tag is written over that of octets that were written
pub written_tagged : (own old room new : List ℕ) (count : ℕ) (old_fault fault : Fault) (answer : ℕ) → 0 < length own → Written own old room count old_fault fault answer → answer ≡ 0 → new ≡ with_set_tag room → Written (with_set_tag own) old new count old_fault fault answer
written_tagged [] old room new count old_fault fault answer some w is e = absurd (omega arith)
written_tagged (x ∷ xs) old room new count old_fault fault answer some (inl filled) is e = inl (record {
  fits = filled.fits;
  octets_are = e ∙ ap with_set_tag filled.octets_are;
  count_is = filled.count_is;
  no_fault = filled.no_fault;
})
written_tagged (x ∷ xs) old room new count old_fault fault answer some (inr short) is e =
    let number = short.number in
    absurd (omega arith)

-- nothing was written to a buffer that is too short
pub not_tagged : (own old room : List ℕ) (count : ℕ) (old_fault fault : Fault) (answer : ℕ) → 0 < length own → Written own old room count old_fault fault answer → (answer ≡ 0 → ⊥) → Written (with_set_tag own) old room count old_fault fault answer
not_tagged [] old room count old_fault fault answer some w other = absurd (omega arith)
not_tagged (x ∷ xs) old room count old_fault fault answer some (inl filled) other = absurd (other filled.no_fault.number)
not_tagged (x ∷ xs) old room count old_fault fault answer some (inr short) other = inr (record {
  short = short.short;
  unchanged = short.unchanged;
  count_is = short.count_is;
  number = short.number;
  written = short.written;
})
