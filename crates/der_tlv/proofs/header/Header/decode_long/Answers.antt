use Rattle.std.proofs.Common.{◌≡◌, ◌+◌, ◌<◌, ◌≤◌, ◌^◌, false, get_or, take, [], ◌∷◌, Some, subst, rules}
use Rattle.der_tlv.specs.TagParts.{IsTag}
use Rattle.der_tlv.specs.HeaderReading.{read_header}
use Rattle.der_tlv.specs.HeaderOctets.{header_octets}
use Rattle.der_tlv.specs.Reading.{HeadRead}
use Rattle.der_tlv.specs.LengthOctets.{length_octets}
use Rattle.der_tlv.specs.ReaderState.{IsReaderState, after_read}
use Rattle.der_tlv.specs.ShortTags.{short_tag}
use Rattle.der_tlv.proofs.LongHeaders.{long_header_read}
use Rattle.der_tlv.proofs.header.Header.decode_long.Goals as goal

pub returns-clause-some : goal.returns-clause-some
returns-clause-some g c =
    let old = g.R.Source.state c.args.reader.now in
    let new = g.R.Source.state c.set_cursor.new.self in
    let start = c.cursor-cursor.result.position in
    let x = get_or c.octets.result.now start 0 in
    let count = get_or c.octets-2.result.now (start + 1) 0 in
    let first = get_or c.octets-3.result.now (start + 2) 0 in
    let last = get_or c.octets-4.result.now (start + 3) 0 in
    let tag = c.in_ok-tag.tag in
    let taken = c.in_ok-taken.taken in
    let length = c.in_ok-taken.length in
    let sound : IsReaderState old = search rules in
    let ready : old.failed ≡ false = search rules in
    let room : old.position + 4 ≤ old.end = search rules in
    let is_x : get_or old.input old.position 0 ≡ x = search rules in
    let is_count : get_or old.input (old.position + 1) 0 ≡ count = search rules in
    let is_first : get_or old.input (old.position + 2) 0 ≡ first = search rules in
    let is_last : get_or old.input (old.position + 3) 0 ≡ last = search rules in
    let small : x < 256 = search rules in
    let is_tag : short_tag x ≡ Some tag = search rules in
    let numbered : IsTag tag = search rules in
    let octets : take taken (count ∷ first ∷ last ∷ []) ≡ length_octets length = search rules in
    let few : taken ≤ 3 = search rules in
    let below : length < 2 ^ 32 = search rules in
    let after : new ≡ after_read old (1 + taken) = search rules in
    let read = long_header_read sound ready room is_x is_count is_first is_last small is_tag numbered octets few below after in
    subst (λ h. HeadRead read_header (header_octets h.tag h.length) old new h) (search rules) read
