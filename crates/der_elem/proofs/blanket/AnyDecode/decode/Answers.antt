use Rattle.std.proofs.Common.{rules, ◌≡◌, ◌∙◌, ◌+◌, subst, length}
use Rattle.der_tlv.specs.Identifier.{same_identifier}
use Rattle.der_tlv.specs.HeaderReading.{octets_of}
use Rattle.der_tlv.specs.ReaderState.{IsReaderState}
use Rattle.der_tlv.specs.Opening.{Opened, after_header}
use Rattle.der_elem.specs.Decoding.{OtherHeader}
use Rattle.der_elem.proofs.AtContents.{AtContents, at_contents, refused_inside, shown_length, after_contents}
use Rattle.der_elem.proofs.OtherTags.{no_other_tag}
use Rattle.der_elem.proofs.TaggedDecoding.{NotOpened, not_opened, contents_fault, parsed_value, accepted_value}
use Rattle.der_elem.proofs.blanket.AnyDecode.decode.Goals as goal
use Rattle.der_elem.proofs.blanket.AnyDecode.decode.Goals.{In_ok-header}

pub returns-in_err-header : goal.returns-in_err-header
returns-in_err-header g c =
    let old = g.R.Source.state c.args.reader.now in
    let new = g.R.Source.state c.open.new.reader in
    let kind = c.in_err-header.field-0.0.kind in
    let parse = g.T.FormValue.value.parse in
    let sound : IsReaderState old = search rules in
    let told = subst (λ t. NotOpened t parse old new kind) c.TAG.ensures (not_opened c.TAG.result parse sound c.in_err-header.ensures) in
    search rules

contents_at : (g : _) (c : In_ok-header g) → AtContents c.in_ok-header.header (g.R.Source.state c.args.reader.now) (after_header (g.R.Source.state c.args.reader.now) c.in_ok-header.header) (g.R.Source.state c.open.new.reader) c.in_ok-header.end
contents_at g c =
    let sound : IsReaderState (g.R.Source.state c.args.reader.now) = search rules in
    at_contents sound c.in_ok-header.ensures

pub returns-in_err-value : goal.returns-in_err-value
returns-in_err-value g c =
    let at = contents_at g (goal.at.returns-in_err-value g c).In_ok-header in
    let same : c.in_ok-header.header.tag ≡ g.T.Marker.TagMarker.TAG = c.in_ok-header.ensures.tag_is ∙ c.TAG.ensures in
    let told = c.in_err-value.ensures.exact (shown_length at) in
    let fault = contents_fault g.T.FormValue.value g.T.Marker.TagMarker.TAG at same told in
    let reader = refused_inside at c.in_err-value.ensures.reader in
    let other : OtherHeader (λ u. same_identifier u g.T.Marker.TagMarker.TAG) (g.R.Source.state c.args.reader.now) → (g.R.Source.state c.decode_value.new.reader).end ≡ (g.R.Source.state c.args.reader.now).end = λ o. no_other_tag at.at g.T.Marker.TagMarker.TAG same o in
    search rules

pub returns : goal.returns
returns g c =
    let at = contents_at g (goal.at.returns g c).In_ok-header in
    let same : c.in_ok-header.header.tag ≡ g.T.Marker.TagMarker.TAG = c.in_ok-header.ensures.tag_is ∙ c.TAG.ensures in
    let told = c.in_ok-value.ensures.exact (shown_length at) in
    record {
      taken = length (octets_of c.in_ok-header.header) + c.in_ok-header.header.length;
      ready = at.at.head.ready;
      parsed = parsed_value g.T.FormValue.value g.T.Marker.TagMarker.TAG at same told;
      accepted = accepted_value g.T.FormValue.value g.T.Marker.TagMarker.TAG at same told;
      after = after_contents at told.after c.in_ok-unnest.ensures.after;
    }
