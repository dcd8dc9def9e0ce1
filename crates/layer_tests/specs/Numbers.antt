-- Numbers with one encoding are the same.
use Rattle.std.specs.Prelude.{◌≡◌, ◌==◌, ℕ}
use Rattle.std.proofs.Common.{ap, sym, ◌∙◌}
use Rattle.der_tlv.specs.declared.tag.Tag.TheVariants.{Integer}
use Rattle.der_tlv.specs.HeaderOctets.{tlv}
use Rattle.der_tlv.specs.HeaderLaws.{tlv-injective}
use Rattle.der_elem.specs.Integer.{big_endian_number, natural_contents}
use Rattle.der_elem.specs.IntegerLaws.{number_natural_contents}

pub same_number : (n v w : ℕ) → tlv Integer (natural_contents v) ≡ tlv Integer (natural_contents w) → (v == n) ≡ (w == n)
same_number n v w e =
    let contents : natural_contents v ≡ natural_contents w = (tlv-injective Integer Integer (natural_contents v) (natural_contents w) e).1 in
    ap (λ k. k == n) (sym (number_natural_contents v) ∙ ap big_endian_number contents ∙ number_natural_contents w)
