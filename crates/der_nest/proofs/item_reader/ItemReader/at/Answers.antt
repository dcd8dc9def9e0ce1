use Rattle.std.proofs.Common.{◌≡◌, ◌<◌, List, ℕ, length, drop, ap, sym, ◌∙◌, arith, add-one, Option, Some, None, Result, Ok, Err}
use Rattle.std.proofs.lemmas.List.{length-drop}
use Rattle.der_tlv.specs.Views.{slice_reader_state}
use Rattle.der_tlv.specs.declared.error.Error.{Error}
use Rattle.der_elem.specs.declared.form.Form as form
use Rattle.der_nest.specs.ReReading.{encodings_left, ReReads, ReReadsAt}
use Rattle.der_nest.proofs.BorrowedOrder.{next_at}
use Rattle.der_nest.proofs.item_reader.ItemReader.at.Goals as goal

-- the next item is the one at the index
next_there : {T : Type 0} (F : form.Ghosts T) (es old new : List (List ℕ)) (i : ℕ) (r : Option (Result T Error)) → old ≡ drop i es → i < length es → ReReads F old new r → ReReadsAt F es i r
next_there F es old new i None is inside told = let l = length-drop i es in let n = ap length (sym is ∙ told.0) in omega arith
next_there F es old new i (Some (Ok v)) is inside told = (told.0, (next_at es i (F.encoding v) new (sym is ∙ told.1)).1)
next_there F es old new i (Some (Err e)) is inside told = (told.0, told.1, inside)

pub returns-in-None : goal.returns-in-None
returns-in-None g c =
    let es = encodings_left c.args.self.left g.T.Form.parse (slice_reader_state c.args.self.reader) in
    let told = c.in-None.ensures in
    let l = length-drop c.skipped._i es in
    let n = ap length (sym c.skipped.invariant ∙ told.0) in
    omega arith

pub returns : goal.returns
returns g c =
    let es = encodings_left c.args.self.left g.T.Form.parse (slice_reader_state c.args.self.reader) in
    let i : c.skipped._i ≡ c.args.index = omega arith in
    let count = c.args.self.counted in
    next_there g.T.Form es _ _ c.args.index c.next-2.result (c.skipped.invariant ∙ ap (λ k. drop k es) i) (omega arith) c.next-2.ensures

pub skipped-preserved : goal.skipped-preserved
skipped-preserved g c =
    let es = encodings_left c.args.self.left g.T.Form.parse (slice_reader_state c.args.self.reader) in
    let told = rw c.in-Some-Ok.field-0-is at c.in-Some-Ok.ensures in
    rw add-one (next_at es c.skipped._i _ _ (sym c.skipped.invariant ∙ told.1)).0
