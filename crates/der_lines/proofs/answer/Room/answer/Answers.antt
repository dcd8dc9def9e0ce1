use Rattle.std.proofs.Common.{rules, subst, OnOk}
use Rattle.der_lines.specs.Answer.{NotRefusedForMemory}
use Rattle.der_lines.proofs.answer.Room.answer.Goals as goal

pub returns-in-Some-Err-clause-memory : goal.returns-in-Some-Err-clause-memory
returns-in-Some-Err-clause-memory g c =
    subst (λ line. OnOk c.put_refused.result (NotRefusedForMemory g.N.Names.table line)) c.deref.ensures.value (search rules)
