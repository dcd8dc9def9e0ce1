use Rattle.std.proofs.Common.{lit<, true}
use Rattle.der_fields.specs.MarkerTags.{marker_tag, marker_tag-in_range}
use Rattle.der_tlv.specs.declared.tag.Tag.TheVariants as tags
use Rattle.der_places.specs.LayoutLaws.{laid_inside}
use Rattle.der_c.proofs.ocsp_response.inner_bytes_at.Goals as goal

pub returns : goal.returns
returns c own a s count =
    let inner = c.contents_of-inner in
    laid_inside _ c.args.octets.now own a.0 a.2.front a.2.others (marker_tag 2 true 0) c.args.field inner.result _ (marker_tag-in_range 2 true 0) a.1 a.2.octets_are a.2.rest s count inner.ensures (λ t. c.places_of.ensures tags.Sequence a.2.front (lit< tt) a.2.first t)
