-- The chain that was put.
use Rattle.std.proofs.Common.{rules, ◌≡◌, false, subst, sym}
use Rattle.std.specs.Prelude.{Contains}
use Rattle.std.proofs.lemmas.List.Elements.{Contains-push}
use Rattle.der_path.specs.Finding.{stands_in}
use Rattle.der_path.proofs.Searching.{puts_one}
use Rattle.der_path.proofs.chain.put_one.Goals as goal

pub returns-clause-kept : goal.returns-clause-kept
returns-clause-kept c =
    let new : stands_in c.args.link.now c.args.chain.now.octets.items ≡ false = search (rules, c.if-not-may_extend.ensures.new) in
    puts_one c.args.chain.now c.args.link.now c.args.stack.now.items c.push.new.self.items c.in_ok-longer.longer c.in_ok-push.ensures.items
    (record { octets = c.in_ok-longer.ensures.octets; first = c.in_ok-longer.ensures.first; new = new })

pub returns-clause-put : goal.returns-clause-put
returns-clause-put c = λ fit may. (
  c.in_ok-longer.longer,
  subst (λ s. Contains s c.in_ok-longer.longer) (sym c.in_ok-push.ensures.items) (Contains-push c.args.stack.now.items c.in_ok-longer.longer),
  record { octets = c.in_ok-longer.ensures.octets; first = c.in_ok-longer.ensures.first; new = may.1 },
)
