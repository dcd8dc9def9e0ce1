use Rattle.std.proofs.Common.{rules, ◌≡◌, ◌<◌, ◌∷◌, get_or, sym, ap, refl, ◌∙◌}
use Rattle.der_tlv.specs.Reading.{OctetRead}
use Rattle.der_tlv.specs.ReaderState.{rest, after_read}
use Rattle.der_tlv.proofs.ReaderStates.{rest_first}
use Rattle.der_tlv.proofs.ShortReads.{short_tag_read}
use Rattle.der_tlv.proofs.tag.Tag.peek.Goals as goal

pub returns-in-Some-clause-head : goal.returns-in-Some-clause-head
returns-in-Some-clause-head g c =
    let old = g.R.Source.state c.args.reader.now in
    let first = get_or c.octets.result.now c.cursor-cursor.result.position 0 in
    let small : first < 256 = search rules in
    let left : old.position < old.end = search rules in
    let is : get_or old.input old.position 0 ≡ first = search rules in
    let read : OctetRead old (after_read old 1) first = record { ready = search rules; first = rest_first old (search rules) left ∙ ap (λ x. x ∷ rest (after_read old 1)) is; after = refl } in
    let head = short_tag_read read small (sym c.short_tag.ensures ∙ c.in-Some.is) in
    record { ready = head.ready; parsed = head.parsed; taken = head.taken; after = refl }
