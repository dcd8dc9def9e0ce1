use Rattle.std.proofs.Common.{rules, ◌≡◌, ◌∙◌, ap, subst, true, false, take, Ok}
use Rattle.der_tlv.specs.HeaderOctets.{tlv}
use Rattle.der_tlv.specs.ReaderState.{rest, after_read}
use Rattle.der_tlv.specs.TagMatching.{match_tag}
use Rattle.der_wrap.specs.ClassTags.{class_of_bits}
use Rattle.der_wrap.specs.TaggedValues.{parse_explicit, tag_of_mode, contents_of_mode, AcceptsExplicit}
use Rattle.der_wrap.proofs.FieldDecoding.{explicit_number, accepted_field, parsed_field}
use Rattle.der_wrap.proofs.tagged_value.TaggedValue.decode_explicit.Goals as goal

pub returns : goal.returns
returns g c =
    let old = g.R.Source.state c.args.reader.now in
    let bits = g.row.CLASS in
    let n = c.args.tag_number.0 in
    let found : match_tag (class_of_bits bits) n old.position (rest old) ≡ Ok true = search rules in
    let same : g.R.Source.state c.peek_matches.new.reader ≡ old = search rules in
    let told = c.in_ok-decode.ensures in
    let w = c.in_ok-decode.field-0 in
    let own = g.T.Tagged.tag_of w.value in
    let contents = g.T.FormValue.value.contents w.value in
    let parsed : parse_explicit bits g.T.Form.parse old.rules old.position (rest old) ≡ Ok (told.taken, tlv (tag_of_mode bits w.tag_mode w.tag_number.0 own) (contents_of_mode w.tag_mode (g.T.Form.encoding w.value) contents)) = subst (λ s. parse_explicit bits g.T.Form.parse s.rules s.position (rest s) ≡ Ok (told.taken, tlv (tag_of_mode bits w.tag_mode w.tag_number.0 own) (contents_of_mode w.tag_mode (g.T.Form.encoding w.value) contents))) same told.parsed in
    let accepted : AcceptsExplicit g.T.Form.accepts bits w.tag_number.0 w.tag_mode w.value old.rules (take told.taken (rest old)) = subst (λ s. AcceptsExplicit g.T.Form.accepts bits w.tag_number.0 w.tag_mode w.value s.rules (take told.taken (rest s))) same told.accepted in
    record {
      taken = told.taken;
      ready = subst (λ s. s.failed ≡ false) same told.ready;
      parsed = parsed_field g.T.Form bits n w.tag_number.0 old.position w.tag_mode w.value own contents old.rules (rest old) told.taken found accepted parsed;
      accepted = (
        explicit_number g.T.Form bits n w.tag_number.0 old.position w.tag_mode w.value own contents old.rules (rest old) told.taken found accepted,
        accepted_field g.T.Form bits n w.tag_number.0 old.position w.tag_mode w.value own contents old.rules (rest old) told.taken found accepted,
      );
      after = told.after ∙ ap (λ s. after_read s told.taken) same;
    }
