use Rattle.std.proofs.Common.{◌≡◌, ap, subst, ◌∙◌, Result, Bool, Ok, Err, rules}
use Rattle.std.specs.Io.KnownBytes.{Appends}
use Rattle.der_lines.specs.Sink.{AppendsFront}
use Rattle.der_lines.specs.declared.fault.Fault.{Fault}
use Rattle.der_lines.specs.declared.fault.Fault.TheVariants.{Input}
use Rattle.der_lines.proofs.Cuts.{read_failed, write_failed, memory_refused, line_answered, refused, begins}
use Rattle.der_lines.proofs.answering.run.Goals as goal

pub returns-in_err-next_line-clause-prompt : goal.returns-in_err-next_line-clause-prompt
returns-in_err-next_line-clause-prompt g c =
    read_failed c.from_residual.result g.N.Names.table (g.R.Read.remaining c.args.input.now.reader) _ _ _ _ _ c.lines.invariant.answered _ c.in_err-next_line.ensures.err

pub returns-in_err-next_line-clause-beginning : goal.returns-in_err-next_line-clause-beginning
returns-in_err-next_line-clause-beginning g c =
    begins c.from_residual.result g.N.Names.table (g.R.Read.remaining c.args.input.now.reader) _ _ _
    (read_failed c.from_residual.result g.N.Names.table (g.R.Read.remaining c.args.input.now.reader) _ _ _ _ _ c.lines.invariant.answered _ c.in_err-next_line.ensures.err)

pub returns-in_err-next_line-clause-input : goal.returns-in_err-next_line-clause-input
returns-in_err-next_line-clause-input g c =
    λ h. let err : ◌≡◌ {A = Result Bool Fault} (Err c.in_err-next_line.field-0.0) (Err Input) = search rules in
    refused g.N.Names.table (g.R.Read.remaining c.args.input.now.reader) _ _ _ _ _ c.lines.invariant.answered
    (c.next_line.new.self.failure) (c.next_line.new.self.lines_left) (c.in_err-next_line.ensures.input err) (search rules)

pub returns-in_err-answer-clause-prompt : goal.returns-in_err-answer-clause-prompt
returns-in_err-answer-clause-prompt g c =
    memory_refused _ g.N.Names.table (g.R.Read.remaining c.args.input.now.reader) _ _ _ _ _ c.lines.invariant.answered _ _
    (c.in_ok-next_line.ensures.line (ap Ok c.if-branch.true))

pub returns-in_err-put-clause-prompt : goal.returns-in_err-put-clause-prompt
returns-in_err-put-clause-prompt g c =
    let text = c.deref.ensures.value ∙ c.in_ok-answer.ensures.reply in
    write_failed _ g.N.Names.table (g.R.Read.remaining c.args.input.now.reader) _ _ _ _ _ c.lines.invariant.answered _ _ _
    (c.in_ok-next_line.ensures.line (ap Ok c.if-branch.true))
    (subst (AppendsFront _ _) text c.in_err-put.ensures.err)

pub lines-preserved : goal.lines-preserved
lines-preserved g c =
    let text = c.deref.ensures.value ∙ c.in_ok-answer.ensures.reply in
    record {
      answered = line_answered g.N.Names.table (g.R.Read.remaining c.args.input.now.reader) _ _ _ _ _ c.lines.invariant.answered _ _ _ _
          (c.in_ok-next_line.ensures.line (ap Ok c.if-branch.true))
          (c.in_ok-next_line.ensures.fewer (ap Ok c.if-branch.true))
          (subst (Appends _ _) text c.in_ok-put.ensures.ok)
          c.in_ok-answer.ensures.memory;
      read = search rules;
      wrote = search rules;
    }

pub returns-in_err-answer-clause-beginning : goal.returns-in_err-answer-clause-beginning
returns-in_err-answer-clause-beginning g c =
    begins _ g.N.Names.table (g.R.Read.remaining c.args.input.now.reader) _ _ _
    (memory_refused _ g.N.Names.table (g.R.Read.remaining c.args.input.now.reader) _ _ _ _ _ c.lines.invariant.answered _ _
    (c.in_ok-next_line.ensures.line (ap Ok c.if-branch.true)))

pub returns-in_err-put-clause-beginning : goal.returns-in_err-put-clause-beginning
returns-in_err-put-clause-beginning g c =
    let text = c.deref.ensures.value ∙ c.in_ok-answer.ensures.reply in
    begins _ g.N.Names.table (g.R.Read.remaining c.args.input.now.reader) _ _ _
    (write_failed _ g.N.Names.table (g.R.Read.remaining c.args.input.now.reader) _ _ _ _ _ c.lines.invariant.answered _ _ _
    (c.in_ok-next_line.ensures.line (ap Ok c.if-branch.true))
    (subst (AppendsFront _ _) text c.in_err-put.ensures.err))
