use Rattle.std.proofs.Common.{rules, ◌≡◌, ◌∙◌, ◌+◌, ◌*◌, ◌<◌, ◌≤◌, ap, subst, sym, arith, inl, inr}
use Rattle.std.proofs.lemmas.Grind.{common_steps}
use Rattle.der_tlv.specs.ReaderState.{ReaderState}
use Rattle.der_tlv.proofs.Refusals.{refused_at, went_on}
use Rattle.der_tlv.proofs.Lengths.{OctetsSoFar, one_more, so_far-lt, room_for_more}
use Rattle.der_tlv.proofs.LongLengths.{octet_missing_at, first_missing, long_octets, not_fewest, fewest_read, whole_long}
use Rattle.der_tlv.proofs.length.decode_long.Goals as goal
use Rattle.der_tlv.proofs.length.decode_long.Goals.{then-first-eq0-via-then-first-eq0, then-first-eq0-via-else-first-eq0+then-length-lt128}

pub returns-in_err-first : goal.returns-in_err-first
returns-in_err-first g c =
    let there = first_missing _ (g.R.Source.state c.read_byte.new.self) c.args.count (omega (arith, c.requires.some)) c.in_err-first.ensures in
    search rules

pub overflow_mul-length : goal.overflow_mul-length
overflow_mul-length g c =
    let few : c.octets.read ≤ 3 = omega (arith, c.requires.few) in
    let small = room_for_more _ _ few (so_far-lt c.octets.invariant) in
    omega arith

pub returns-in_err-read_byte : goal.returns-in_err-read_byte
returns-in_err-read_byte g c =
    let there = octet_missing_at c.octets.invariant c.args.count (omega arith) c.in_err-read_byte.ensures in
    search rules

pub overflow_add-length : goal.overflow_add-length
overflow_add-length g c =
    let few : c.octets.read ≤ 3 = omega (arith, c.requires.few) in
    let small = room_for_more _ _ few (so_far-lt c.octets.invariant) in
    omega arith

pub octets-preserved : goal.octets-preserved
octets-preserved g c =
    let small : c.in_ok-read_byte.field-0 < 256 = search rules in
    subst (λ octet. OctetsSoFar (g.R.Source.state c.args.reader.now) (g.R.Source.state c.read_byte-in-octets.new.self) (c.octets.read + 1) (c.octets.length * 256 + octet)) (sym c.from.ensures) (one_more _ _ _ _ _ _ c.octets.invariant c.in_ok-read_byte.ensures small)

pub returns-then-first-eq0-clause-head : goal.returns-then-first-eq0-clause-head
returns-then-first-eq0-clause-head g c =
    let all : c.octets.read ≡ c.args.count = omega (arith, c.requires.some) in
    let so_far = subst (λ k. OctetsSoFar (g.R.Source.state c.args.reader.now) (g.R.Source.state c.octets.reader) k c.octets.length) all c.octets.invariant in
    let octets = long_octets so_far c.in_ok-first.ensures c.requires.some in
    not_fewest octets (elim c.then-first-eq0.branch [
      | then-first-eq0-via-then-first-eq0 w ↦ inl w.if-first-eq0.true
      | then-first-eq0-via-else-first-eq0+then-length-lt128 w ↦ inr w.if-length-lt128.true
    ]) c.error.ensures.kind (refused_at so_far.ready (went_on _ so_far.after) (ap (λ (s : ReaderState). s.failed) so_far.after ∙ so_far.ready) c.error.ensures.failed)

pub returns-clause-head : goal.returns-clause-head
returns-clause-head g c =
    let all : c.octets.read ≡ c.args.count = omega (arith, c.requires.some) in
    let so_far = subst (λ k. OctetsSoFar (g.R.Source.state c.args.reader.now) (g.R.Source.state c.octets.reader) k c.octets.length) all c.octets.invariant in
    let some : 0 < c.in_ok-first.first = grind (arith, common_steps) in
    fewest_read (long_octets so_far c.in_ok-first.ensures c.requires.some) some c.if-length-lt128.false so_far.after

pub returns-clause-whole : goal.returns-clause-whole
returns-clause-whole g c =
    let all : c.octets.read ≡ c.args.count = omega (arith, c.requires.some) in
    let so_far = subst (λ k. OctetsSoFar (g.R.Source.state c.args.reader.now) (g.R.Source.state c.octets.reader) k c.octets.length) all c.octets.invariant in
    let some : 0 < c.in_ok-first.first = grind (arith, common_steps) in
    whole_long (long_octets so_far c.in_ok-first.ensures c.requires.some) some c.if-length-lt128.false
