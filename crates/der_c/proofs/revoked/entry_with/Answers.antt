use Rattle.std.proofs.Common.{length, refl, subst, sym, ◌∙◌, ◌<◌, arith}
use Rattle.der_c.specs.Building.{octets_at}
use Rattle.der_c.proofs.Entries.{encoding_some, is_among, place_is}
use Rattle.der_c.proofs.revoked.entry_with.Goals as goal

pub returns-then-field-eq0-clause-present : goal.returns-then-field-eq0-clause-present
returns-then-field-eq0-clause-present c own e s l given a =
    let some = encoding_some own e in
    let none = c.if-field-eq0.true in
    absurd (omega arith)

pub returns-in-Some-clause-present : goal.returns-in-Some-clause-present
returns-in-Some-clause-present c own e s l given a =
    let at = c.revoked_certificate_at.ensures in
    let item = c.in-Some.item in
    is_among c.args.field c.der_items-entries.result own e s l c.der_items-entries.ensures.items (c.in-Some.ensures.first refl) given a (record {
      whole = place_is at.offset at.length;
      fields = at.fields (octets_at c.args.octets.now item.1) c.in-Some.ensures.read;
      revocation_date = at.revocation_date;
    })

pub returns-in-None-clause-present : goal.returns-in-None-clause-present
returns-in-None-clause-present c own e s l given a =
    is_among c.args.field c.der_items-entries.result own e s l c.der_items-entries.ensures.items (c.in-None.ensures.first refl) given a refl
