use Rattle.std.proofs.Common.{◌≡◌, ◌+◌, ◌<◌, ◌≤◌, false, get_or, subst, rules}
use Rattle.der_tlv.specs.TagParts.{class_of, is_constructed, number_of}
use Rattle.der_tlv.specs.Identifier.{first_octet}
use Rattle.der_tlv.specs.IdentifierLaws.{low_bits}
use Rattle.der_tlv.specs.HeaderReading.{header}
use Rattle.der_tlv.specs.ReaderState.{IsReaderState, after_read, after_nest}
use Rattle.der_tlv.specs.Opening.{Opened}
use Rattle.der_tlv.proofs.Openings.{short_opened}
use Rattle.der_tlv.proofs.header.Header.open.Goals as goal

pub returns-then-length-cursor : goal.returns-then-length-cursor
returns-then-length-cursor g c =
    let old = g.R.Source.state c.args.reader.now in
    let new = g.R.Source.state c.set_cursor.new.self in
    let first = get_or c.octets.result.now c.cursor-cursor.result.position 0 in
    let len = get_or c.octets-then-value-lt31.result.now (c.cursor-cursor.result.position + 1) 0 in
    let sound : IsReaderState old = search rules in
    let ready : old.failed ≡ false = search rules in
    let short : len < 128 = search rules in
    let room : old.position + 2 + len ≤ old.end = search rules in
    let tag_octet : get_or old.input old.position 0 ≡ first = search rules in
    let length_octet : get_or old.input (old.position + 1) 0 ≡ len = search rules in
    let is_first : first ≡ first_octet (class_of c.args.tag) (is_constructed c.args.tag) (low_bits (number_of c.args.tag)) = search rules in
    let small : number_of c.args.tag < 31 = search rules in
    let after : new ≡ after_nest (after_read old 2) len = search rules in
    let end : c.new.result ≡ old.end = search rules in
    let opened = short_opened sound ready room tag_octet length_octet is_first small short after end in
    subst (λ n. Opened c.args.tag old new (header c.args.tag n) c.new.result) (search rules) opened
