use Rattle.std.proofs.Common.{◌≡◌, ◌+◌, ◌-◌, ◌<◌, ◌≤◌, false, get_or, take, drop, sym, subst, ◌∙◌, rules}
use Rattle.der_tlv.specs.HeaderReading.{header}
use Rattle.der_tlv.specs.ReaderState.{IsReaderState, after_read}
use Rattle.der_tlv.specs.Opening.{ContentsRead}
use Rattle.der_tlv.proofs.Openings.{short_contents}
use Rattle.der_tlv.proofs.header.Header.decode_with_contents.Goals as goal

pub returns-in-Some-clause-ok : goal.returns-in-Some-clause-ok
returns-in-Some-clause-ok g c =
    let old = g.R.Source.state c.args.reader.now in
    let new = g.R.Source.state c.set_cursor.new.self in
    let start = c.cursor-cursor.result.position in
    let first = get_or c.octets.result.now start 0 in
    let len = get_or c.octets-then-cursor-ge2.result.now (start + 1) 0 in
    let contents = take (start + 2 + c.from-length.result - (start + 2)) (drop (start + 2) c.octets-in-Some.result.now) in
    let sound : IsReaderState old = search rules in
    let ready : old.failed ≡ false = search rules in
    let short : len < 128 = search rules in
    let room : old.position + 2 + len ≤ old.end = search rules in
    let tag_octet : get_or old.input old.position 0 ≡ first = search rules in
    let length_octet : get_or old.input (old.position + 1) 0 ≡ len = search rules in
    let small : first < 256 = search rules in
    let after : new ≡ after_read (after_read old 2) len = search rules in
    let count : start + 2 + c.from-length.result - (start + 2) ≡ len = search rules in
    let contents_are : contents ≡ take len (drop (old.position + 2) old.input) = search rules in
    let read = short_contents sound ready room tag_octet length_octet small (sym c.short_tag.ensures ∙ c.in-Some.is) short after contents_are in
    subst (λ n. ContentsRead old new (header c.in-Some.tag n) contents) (search rules) read
