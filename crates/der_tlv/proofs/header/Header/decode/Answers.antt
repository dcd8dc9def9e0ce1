use Rattle.std.proofs.Common.{◌≡◌, ◌+◌, ◌<◌, ◌≤◌, false, get_or, sym, subst, ◌∙◌, rules}
use Rattle.der_tlv.specs.HeaderOctets.{header_octets}
use Rattle.der_tlv.specs.HeaderReading.{read_header, header}
use Rattle.der_tlv.specs.Reading.{HeadRead}
use Rattle.der_tlv.specs.ReaderState.{IsReaderState, after_read}
use Rattle.der_tlv.proofs.ShortReads.{short_header_read}
use Rattle.der_tlv.proofs.header.Header.decode.Goals as goal

pub returns-in-Some-clause-head : goal.returns-in-Some-clause-head
returns-in-Some-clause-head g c =
    let old = g.R.Source.state c.args.reader.now in
    let new = g.R.Source.state c.set_cursor.new.self in
    let first = get_or c.octets.result.now c.cursor-cursor.result.position 0 in
    let len = get_or c.octets-then-cursor-ge2.result.now (c.cursor-cursor.result.position + 1) 0 in
    let sound : IsReaderState old = search rules in
    let ready : old.failed ≡ false = search rules in
    let room : old.position + 2 ≤ old.end = search rules in
    let tag_octet : get_or old.input old.position 0 ≡ first = search rules in
    let length_octet : get_or old.input (old.position + 1) 0 ≡ len = search rules in
    let small : first < 256 = search rules in
    let short : len < 128 = search rules in
    let after : new ≡ after_read old 2 = search rules in
    let read = short_header_read sound ready room tag_octet length_octet small (sym c.short_tag.ensures ∙ c.in-Some.is) short after in
    subst (λ n. HeadRead read_header (header_octets c.in-Some.tag n) old new (header c.in-Some.tag n)) (sym (c.new-length.ensures ∙ c.from.ensures)) read
