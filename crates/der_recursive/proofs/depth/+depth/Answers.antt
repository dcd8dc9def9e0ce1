use Rattle.std.proofs.Common.{rules, ◌≡◌, ℕ, List, ◌-◌, [], suc, length, Some, None, Option, refl, subst, arith}
use Rattle.std.specs.Borrow.{Bor}
use Rattle.der_tlv.specs.declared.encoding_rules.EncodingRules.TheVariants.{Der}
use Rattle.der_tlv.specs.declared.error.ErrorKind.{ErrorKind}
use Rattle.der_tlv.specs.ReaderState.{IsReaderState, rest}
use Rattle.der_tlv.specs.Views.{slice_reader_state}
use Rattle.der_elem.specs.FirstTagLaws.{has_first_tag_some}
use Rattle.der_elem.proofs.ItemReading.{more_left}
use Rattle.der_recursive.specs.Depth.{AreValuesTo}
use Rattle.der_recursive.specs.Held.{HeldRead}
use Rattle.der_recursive.specs.Checking.{ChecksDepth, AreNot, NextFault}
use Rattle.der_recursive.proofs.Faults.{refuses_long, too_many, at_zero}
use Rattle.der_recursive.proofs.Walking.{none_walked, one_more_walked, less_to_walk, all_walked, fault_of_next}
use Rattle.der_recursive.proofs.WalkingHeld.{rewound, all_held, one_more_held, held_fault}
use Rattle.der_recursive.proofs.depth.+depth.Goals as goal

pub check_depth-returns-in-Err : goal.check_depth-returns-in-Err
check_depth-returns-in-Err g t c =
    too_many g.T.Form g.T.Recursive.held c.args.depth c.args.octets.now c.in-Err.e.kind (refuses_long (length c.args.octets.now) c.in-Err.ensures.ok.1) c.in-Err.ensures.err

pub check_depth-returns-then-depth-eq0 : goal.check_depth-returns-then-depth-eq0
check_depth-returns-then-depth-eq0 g t c =
    let zero : 0 ≡ c.args.depth = omega arith in
    subst (λ (n : ℕ). ChecksDepth g.T.Form g.T.Recursive.held n c.args.octets.now c.none_left.result) zero (at_zero g.T.Form g.T.Recursive.held c.args.octets.now (slice_reader_state c.in-Ok.reader) c.none_left.result c.in-Ok.ensures.state (c.in-Ok.ensures.ok.0 refl) c.none_left.ensures.ok c.none_left.ensures.err)

pub check_depth-values-init : goal.check_depth-values-init
check_depth-values-init g t c =
    none_walked g.T.Form g.T.Recursive.held (c.args.depth - 1) c.args.octets.now (slice_reader_state c.in-Ok.reader) c.in-Ok.ensures.state

pub check_depth-values-smaller : goal.check_depth-values-smaller
check_depth-values-smaller g t c =
    let some = more_left _ _ c.is_finished.ensures c.values-test.true in
    let nonempty = has_first_tag_some g.T.Form g.met.T.Choice.has_first_tag Der in
    less_to_walk c.values.invariant nonempty some c.in_ok-check_next.ensures

pub check_depth-values-preserved : goal.check_depth-values-preserved
check_depth-values-preserved g t c =
    let some = more_left _ _ c.is_finished.ensures c.values-test.true in
    let nonempty = has_first_tag_some g.T.Form g.met.T.Choice.has_first_tag Der in
    one_more_walked c.values.invariant nonempty some c.in_ok-check_next.ensures

pub check_depth-returns-in_err-check_next : goal.check_depth-returns-in_err-check_next
check_depth-returns-in_err-check_next g t c =
    let some = more_left _ _ c.is_finished.ensures c.values-test.true in
    let nonempty = has_first_tag_some g.T.Form g.met.T.Choice.has_first_tag Der in
    let sound : IsReaderState (slice_reader_state c.values.reader) = record { ordered = c.values.reader.ordered; inside = c.values.reader.inside; short = c.values.reader.short } in
    let kind : ErrorKind = c.in_err-check_next.field-0.0.kind in
    let fault = fault_of_next c.values.invariant nonempty some sound g.met.T.Recursive.held_by_encoding kind c.in_err-check_next.ensures in
    let one_less : suc (c.args.depth - 1) ≡ c.args.depth = omega arith in
    let are_not : AreNot g.T.Form g.T.Recursive.held c.args.depth c.args.octets.now kind = subst (λ (n : ℕ). AreNot g.T.Form g.T.Recursive.held n c.args.octets.now kind) one_less fault in
    search rules

pub check_depth-returns : goal.check_depth-returns
check_depth-returns g t c =
    let sound : IsReaderState (slice_reader_state c.values.reader) = record { ordered = c.values.reader.ordered; inside = c.values.reader.inside; short = c.values.reader.short } in
    let none : rest (slice_reader_state c.values.reader) ≡ [] = search rules in
    let one_less : suc (c.args.depth - 1) ≡ c.args.depth = omega arith in
    subst (λ (n : ℕ). AreValuesTo g.T.Form g.T.Recursive.held n c.args.octets.now) one_less (all_walked c.values.invariant sound none)

pub check_next-returns-in-None : goal.check_next-returns-in-None
check_next-returns-in-None g t c =
    let is : c.in_ok-octets.field-0 ≡ None = cc in
    let read = subst (λ (lent : Option (Bor (List ℕ))). HeldRead g.T.Form g.T.Recursive.held c.held.index (slice_reader_state c.held.reader) (slice_reader_state c.read_held.new.reader) lent) is c.in_ok-octets.ensures in
    all_held {n = c.args.depth} c.held.invariant read

pub check_next-returns-in-Err : goal.check_next-returns-in-Err
check_next-returns-in-Err g t c =
    let is : c.in_ok-octets.field-0 ≡ Some c.in-Some.octets = cc in
    let read = subst (λ (lent : Option (Bor (List ℕ))). HeldRead g.T.Form g.T.Recursive.held c.held.index (slice_reader_state c.held.reader) (slice_reader_state c.read_held.new.reader) lent) is c.in_ok-octets.ensures in
    let kind : c.in-Err.e.kind ≡ c.error.result.kind = cc in
    let fault = held_fault {n = c.args.depth} c.held.invariant c.in-Some.octets read c.in-Err.e.kind c.requires.rules c.in-Err.ensures in
    subst (NextFault g.T.Form g.T.Recursive.held (AreValuesTo g.T.Form g.T.Recursive.held c.args.depth) (AreNot g.T.Form g.T.Recursive.held c.args.depth) (slice_reader_state c.args.reader.now).position (rest (slice_reader_state c.args.reader.now))) kind fault

pub check_next-held-preserved : goal.check_next-held-preserved
check_next-held-preserved g t c =
    let is : c.in_ok-octets.field-0 ≡ Some c.in-Some.octets = cc in
    let read = subst (λ (lent : Option (Bor (List ℕ))). HeldRead g.T.Form g.T.Recursive.held c.held.index (slice_reader_state c.held.reader) (slice_reader_state c.read_held.new.reader) lent) is c.in_ok-octets.ensures in
    let back = rewound (slice_reader_state c.args.reader.now) (slice_reader_state c.held.reader) (slice_reader_state c.read_held.new.reader) (slice_reader_state c.rewind.new.self) c.position-start.result read.decoded.taken c.held.invariant.same c.position-start.ensures read.decoded.after c.rewind.ensures in
    one_more_held {n = c.args.depth} c.held.invariant c.in-Some.octets read g.met.T.Recursive.held_by_encoding (slice_reader_state c.rewind.new.self) back c.in-Ok.ensures
