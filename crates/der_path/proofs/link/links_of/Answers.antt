-- One certificate more.
use Rattle.std.proofs.Common.{refl, sym, subst, inl, arith}
use Rattle.std.specs.Prelude.{All, Contains}
use Rattle.std.proofs.lemmas.List.{nil_from_length}
use Rattle.std.proofs.lemmas.List.Elements.{All-contains_itself, All-nil, All-rest}
use Rattle.der_path.specs.Finding.{IsLinkOf}
use Rattle.der_path.proofs.Links.{all_read, given_on, read_on}
use Rattle.der_path.proofs.Searching.{front_is}
use Rattle.der_path.proofs.link.links_of.Goals as goal

pub each-init : goal.each-init
each-init c = record {
  left = All-contains_itself c.args.certificates.now;
  given = subst (All (IsLinkOf c.args.certificates.now)) (sym c.new-links.ensures.items) (All-nil (IsLinkOf c.args.certificates.now));
  read = λ o held. inl held;
}

pub each-preserved : goal.each-preserved
each-preserved c =
    let front = front_is c.each.left.now _ _ _ c.in-len1-up.len_at_least refl refl in
    record {
      left = All-rest (Contains c.args.certificates.now) _ _ c.each.left.now front c.each.invariant.left;
      given = given_on c.args.certificates.now c.each.links.items c.add_link.new.links.items c.each.left.now _ _ front c.add_link.ensures.added c.each.invariant.left c.each.invariant.given;
      read = read_on c.args.certificates.now c.each.links.items c.add_link.new.links.items c.each.left.now _ _ front c.add_link.ensures.added c.each.invariant.read c.in_ok-add_link.ensures.read;
    }

pub returns : goal.returns
returns c = all_read c.args.certificates.now c.each.left.now c.each.links.items (nil_from_length c.each.left.now (omega arith)) c.each.invariant.given c.each.invariant.read
