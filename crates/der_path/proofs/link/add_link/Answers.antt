-- The certificate is there, or is added.
use Rattle.std.proofs.Common.{refl, sym, ap, ◌∙◌}
use Rattle.der_path.specs.Finding.{has_octets}
use Rattle.der_path.proofs.Links.{adds_none, adds_one, is_there, one_read}
use Rattle.der_path.proofs.link.add_link.Goals as goal

pub returns-then-has_octets-clause-added : goal.returns-then-has_octets-clause-added
returns-then-has_octets-clause-added c = adds_none c.args.octets c.args.links.now.items c.args.links.now.items refl

pub returns-then-has_octets-clause-read : goal.returns-then-has_octets-clause-read
returns-then-has_octets-clause-read c = is_there c.args.octets c.args.links.now.items (ap (has_octets c.args.octets.now) (sym c.deref.ensures.value) ∙ sym c.has_octets.ensures ∙ c.if-has_octets.true)

pub returns-in_err-push-in-Ok-clause-added : goal.returns-in_err-push-in-Ok-clause-added
returns-in_err-push-in-Ok-clause-added c = adds_none c.args.octets c.args.links.now.items c.push.new.self.items c.in_err-push-in-Ok.ensures.items

pub returns-in_ok-push-in-Ok-clause-added : goal.returns-in_ok-push-in-Ok-clause-added
returns-in_ok-push-in-Ok-clause-added c = adds_one c.args.octets c.args.links.now.items c.push.new.self.items c.in-Ok.link c.in_ok-push-in-Ok.ensures.items c.in-Ok.ensures

pub returns-in_ok-push-in-Ok-clause-read : goal.returns-in_ok-push-in-Ok-clause-read
returns-in_ok-push-in-Ok-clause-read c = one_read c.args.octets c.args.links.now.items c.push.new.self.items c.in-Ok.link c.in_ok-push-in-Ok.ensures.items c.in-Ok.ensures

pub returns-in-Err-clause-added : goal.returns-in-Err-clause-added
returns-in-Err-clause-added c = adds_none c.args.octets c.args.links.now.items c.args.links.now.items refl
