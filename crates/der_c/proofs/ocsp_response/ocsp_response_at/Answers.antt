use Rattle.std.proofs.Common.{lit<, sym}
use Rattle.der_tlv.specs.declared.tag.Tag.TheVariants as tags
use Rattle.der_places.specs.LayoutLaws.{second_given, whole_stands}
use Rattle.der_c.proofs.ocsp_response.ocsp_response_at.Goals as goal

pub returns-clause-fields : goal.returns-clause-fields
returns-clause-fields c read = c.places_of-fields.ensures tags.Sequence c.args.octets.now (lit< tt) read.accepted (whole_stands c.args.octets.now read.fits)

pub returns-clause-bytes : goal.returns-clause-bytes
returns-clause-bytes c read =
    let octets = c.args.octets.now in
    let whole = whole_stands octets read.fits in
    let outer = c.places_of-fields.ensures tags.Sequence octets (lit< tt) read.accepted whole in
    let held = c.response_bytes-held.ensures in
    rw (sym held) (second_given _ _ _ _ _ octets octets 0 _ _ _ outer whole (λ o r s n. c.response_bytes_at-bytes.ensures o (rw held r) s n))
