use Rattle.std.proofs.Common.{◌∙◌, arith, sym}
use Rattle.der_c.proofs.Finds.{still_begins, still_ends, still_found, still_goes}
use Rattle.der_c.proofs.Left.{left_counted, read_at}
use Rattle.der_c.proofs.finding.find_item.Goals as goal

pub each-init : goal.each-init
each-init g c = still_begins g.T.Form c.args.octets.now (g.P.Wanted.is_wanted c.args.wanted.now) c.args.items

pub returns-then-is_wanted-clause-read : goal.returns-then-is_wanted-clause-read
returns-then-is_wanted-clause-read g c = read_at c.in-Some.ensures.front

pub returns-then-is_wanted-clause-first : goal.returns-then-is_wanted-clause-first
returns-then-is_wanted-clause-first g c = still_found g.T.Form c.args.octets.now (g.P.Wanted.is_wanted c.args.wanted.now) c.args.items c.each.left c.in-Some.item c.each.invariant c.in-Some.ensures (sym c.is_wanted.ensures ∙ c.if-is_wanted.true)

pub each-preserved : goal.each-preserved
each-preserved g c =
    let has = c.in-Some.ensures in
    let read = has.front.read in
    let moved = c.behind-left.ensures read.some (left_counted c.args.octets.now c.each.left read.within read.fits) in
    still_goes g.T.Form c.args.octets.now (g.P.Wanted.is_wanted c.args.wanted.now) c.args.items c.each.left c.behind-left.result c.in-Some.item c.each.invariant has moved (sym c.is_wanted.ensures ∙ c.if-is_wanted.false)

pub each-smaller : goal.each-smaller
each-smaller g c =
    let has = c.in-Some.ensures in
    let some = has.some in
    let read = has.front.read in
    let moved = c.behind-left.ensures read.some (left_counted c.args.octets.now c.each.left read.within read.fits) in
    let begins = moved.begins in
    let ends = moved.ends in
    omega arith

pub returns-clause-first : goal.returns-clause-first
returns-clause-first g c = still_ends g.T.Form c.args.octets.now (g.P.Wanted.is_wanted c.args.wanted.now) c.args.items c.each.left c.each.invariant (rw c.in_default.is at c.front_item.ensures)
