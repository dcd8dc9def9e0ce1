use Rattle.std.proofs.Common.{◌≡◌, ◌∷◌, ◌<◌, suc, subst, slice_index_or}
use Rattle.der_bits.proofs.bit_string_ref.BitStringRef.of_contents.Goals as goal

pub invariant_of-result-clause-octet : goal.invariant_of-result-clause-octet
invariant_of-result-clause-octet c k =
    let whole : c.args.contents.now ≡ c.in-Some.unused.now ∷ c.in-Some.octets.now = c.in-Some.ensures.cases.0 in
    subst (λ contents. slice_index_or contents (suc k) 0 < 256) whole (c.type_inv.contents (suc k)).fits
