use Rattle.std.proofs.Common.{◌∙◌, sym, refl, Ok, Err}
use Rattle.der_opaque.proofs.any_ref.AnyRef.sequence.Goals as goal

pub returns-in-Ok-finish-clause-called : goal.returns-in-Ok-finish-clause-called
returns-in-Ok-finish-clause-called g c tag =
    let finished = c.in-Ok-finish.ensures.ok.0 refl in
    record {
      old = c.in-Ok.reader;
      new = c.f.new.arg2;
      answer = Ok c.in-Ok-f.value;
      opens = c.in-Ok.ensures.state;
      returns = record { shown = _; shows = refl; left = _; met = c.in-Ok-f.ensures; leaves = refl };
      ends = (λ e. refl, λ e. absurd (let k = sym finished ∙ e in cc));
    }

pub returns-in-Err-finish-clause-called : goal.returns-in-Err-finish-clause-called
returns-in-Err-finish-clause-called g c tag =
    record {
      old = c.in-Ok.reader;
      new = c.f.new.arg2;
      answer = Ok c.in-Ok-f.value;
      opens = c.in-Ok.ensures.state;
      returns = record { shown = _; shows = refl; left = _; met = c.in-Ok-f.ensures; leaves = refl };
      ends = (λ e. absurd (let k = c.in-Err-finish.ensures.ok.1 e in cc), λ e. (c.in-Err-finish.e, c.in-Err-finish.ensures.err, c.from-in-Err-finish.ensures));
    }

pub returns-in-Err-f-clause-called : goal.returns-in-Err-f-clause-called
returns-in-Err-f-clause-called g c tag =
    record {
      old = c.in-Ok.reader;
      new = c.f.new.arg2;
      answer = Err c.in-Err-f.e;
      opens = c.in-Ok.ensures.state;
      returns = record { shown = _; shows = refl; left = _; met = c.in-Err-f.ensures; leaves = refl };
      ends = refl;
    }
