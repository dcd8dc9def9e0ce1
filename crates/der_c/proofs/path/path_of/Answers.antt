-- A valid chain, and the error of 6.1.
use Rattle.std.proofs.Common.{ℕ, ◌<◌, List, length, flat_map, Ok, Err, inl, inr, ap, sym, subst, ◌∙◌, arith}
use Rattle.der_pkix.specs.declared.certificate.certificate.Certificate.{Certificate}
use Rattle.der_path.specs.Keys.{first_key}
use Rattle.der_path.specs.PolicyLists.{policy_octets}
use Rattle.der_c.specs.ChainPlaces.{EachAt, EachPlaced}
use Rattle.der_c.specs.Chains.{Validates}
use Rattle.der_c.proofs.path.path_of.Goals as goal

pub returns-in-Ok-found_path-clause-ok : goal.returns-in-Ok-found_path-clause-ok
returns-in-Ok-found_path-clause-ok c =
    let octets = c.args.octets.now in
    let chain = c.args.chain.now in
    let parts = c.in-Ok.parts in
    let few = c.if-octets-gt-MOST.false in
    let fits : length octets < 4294967296 = omega arith in
    let has = c.in-Ok.ensures.ok in
    let read = c.in-Ok-each_there.ensures.ok in
    let finds = c.in-Ok-found_path.ensures in
    let same = c.deref-in-Ok-policies_at.ensures.value in
    let told = c.deref-in-Ok-policies_at-2.ensures.value in
    record {
      parts = parts;
      are_parts = has;
      certificates = c.in-Ok-each_there.certificates.items;
      are_certificates = read;
      policies = c.in-Ok-policies_at.policies;
      validates = subst (λ (cs : List Certificate). Validates c.args.at.now parts cs (Ok c.in-Ok-policies_at.policies)) c.deref.ensures.value c.in-Ok-policies_at.ensures;
      policies_are = finds.policies_are ∙ ap (λ ps. flat_map policy_octets ps) told;
      count_is = finds.count_is ∙ ap length told;
      placed = subst (λ (cs : List Certificate). EachPlaced octets (first_key parts.anchor) cs c.in-Ok-found_path.found.verifications.items) same (finds.placed fits has (subst (λ (cs : List Certificate). EachAt octets chain cs) (sym same) read));
    }

pub returns-clause-err : goal.returns-clause-err
returns-clause-err c = inr (inr (inr (inl (record {
  parts = c.in-Ok.parts;
  are_parts = c.in-Ok.ensures.ok;
  certificates = c.in-Ok-each_there.certificates.items;
  are_certificates = c.in-Ok-each_there.ensures.ok;
  error = c.in-Err-policies_at.error;
  validates = subst (λ (cs : List Certificate). Validates c.args.at.now c.in-Ok.parts cs (Err c.in-Err-policies_at.error)) c.deref.ensures.value c.in-Err-policies_at.ensures;
  refusal_is = c.refusal_of.ensures;
}))))
