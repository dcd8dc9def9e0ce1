use Rattle.std.proofs.Common.{rules, ◌≡◌, ◌∙◌, ◌+◌, ap, sym, refl, subst, true, false, length, ℕ, List, Result, Ok, Err, inr, inl}
use Rattle.der_tlv.specs.declared.error.ErrorKind.{ErrorKind}
use Rattle.der_tlv.specs.HeaderReading.{octets_of}
use Rattle.der_tlv.specs.Reading.{HeadRead, HeadFault}
use Rattle.der_tlv.specs.HeaderReading.{read_header}
use Rattle.der_tlv.specs.ReaderState.{rest, unless_failed}
use Rattle.der_tlv.specs.TagMatching.{match_tag}
use Rattle.der_tlv.specs.TagParts.{is_constructed}
use Rattle.der_elem.specs.Decoding.{Faults}
use Rattle.der_tlv.proofs.Refusals.{refused_octets}
use Rattle.der_elem.proofs.AtContents.{AtHeader, AtContents, refused_at_header, refused_after_header, refused_inside, shown_length, after_contents}
use Rattle.der_wrap.specs.ClassTags.{class_of_bits, class_tag}
use Rattle.der_wrap.specs.TaggedValues.{form_allowed, parse_optional_field, parse_implicit, in_implicit}
use Rattle.der_wrap.proofs.FieldDecoding.{found_fault, found_faultless, found_field, header_matched}
use Rattle.der_wrap.proofs.ImplicitDecoding.{header_fault_implicit, form_fault_implicit, too_long_implicit, contents_fault_implicit, parsed_implicit, accepted_implicit}
use Rattle.der_wrap.proofs.tagged_value.TaggedValue.decode_implicit.Goals as goal
use Rattle.der_wrap.proofs.tagged_value.TaggedValue.decode_implicit.Goals.{In_ok-header, In-Ok, In_ok-end}

header_at : (g : _) (c : In_ok-header g) → AtHeader c.in_ok-header.header (g.R.Source.state c.args.reader.now) (g.R.Source.state c.decode.new.reader)
header_at g c =
    let same : g.R.Source.state c.peek_matches.new.reader ≡ g.R.Source.state c.args.reader.now = search rules in
    record {
      head = subst (λ s. HeadRead read_header (octets_of c.in_ok-header.header) s (g.R.Source.state c.decode.new.reader) c.in_ok-header.header) same c.in_ok-header.ensures.head;
      sound = search rules;
    }

pub returns-in_err-header : goal.returns-in_err-header
returns-in_err-header g c =
    let old = g.R.Source.state c.args.reader.now in
    let bits = g.row.CLASS in
    let n = c.args.tag_number.0 in
    let own = g.T.IsConstructed.CONSTRUCTED in
    let t = class_tag bits own n in
    let found : match_tag (class_of_bits bits) n old.position (rest old) ≡ Ok true = search rules in
    let same : g.R.Source.state c.peek_matches.new.reader ≡ old = search rules in
    let ready : old.failed ≡ false = search rules in
    let head : HeadFault read_header old (g.R.Source.state c.decode.new.reader) c.in_err-header.field-0.0.kind = subst (λ s. HeadFault read_header s (g.R.Source.state c.decode.new.reader) c.in_err-header.field-0.0.kind) same c.in_err-header.ensures.head in
    let fault = found_fault bits n old ready found (parse_implicit t own g.T.FormValue.value.parse) old.rules (header_fault_implicit head t own g.T.FormValue.value.parse old.rules) in
    let reader = head.reader in
    search rules

pub returns-in-Err : goal.returns-in-Err
returns-in-Err g c =
    let old = g.R.Source.state c.args.reader.now in
    let bits = g.row.CLASS in
    let n = c.args.tag_number.0 in
    let own = g.T.IsConstructed.CONSTRUCTED in
    let t = class_tag bits own n in
    let found : match_tag (class_of_bits bits) n old.position (rest old) ≡ Ok true = search rules in
    let ready : old.failed ≡ false = search rules in
    let at = header_at g (goal.at.returns-in-Err g c).In_ok-header in
    let kind = c.in-Err.kind in
    let tag = c.in_ok-header.header.tag in
    let rules_are : c.encoding_rules.result ≡ old.rules = c.encoding_rules.ensures ∙ ap (λ s. s.rules) at.head.after in
    let by_constant : (parsed : Result (ℕ × List ℕ) ErrorKind) → in_implicit c.encoding_rules.result own tag parsed ≡ Err kind = subst (λ o. (parsed : Result (ℕ × List ℕ) ErrorKind) → in_implicit c.encoding_rules.result o tag parsed ≡ Err kind) c.CONSTRUCTED.ensures c.in-Err.ensures in
    let refused : (parsed : Result (ℕ × List ℕ) ErrorKind) → in_implicit old.rules own tag parsed ≡ Err kind = subst (λ r. (parsed : Result (ℕ × List ℕ) ErrorKind) → in_implicit r own tag parsed ≡ Err kind) rules_are by_constant in
    let fault = form_fault_implicit at t own g.T.FormValue.value.parse old.rules kind refused in
    record { reason = inr (found_fault bits n old ready found (parse_implicit t own g.T.FormValue.value.parse) old.rules fault ∙ ap Err (sym c.error.ensures.kind)); reader = refused_at_header at c.error.ensures.failed }

allowed_at : (g : _) (c : In-Ok g) → form_allowed (g.R.Source.state c.args.reader.now).rules (is_constructed c.in_ok-header.header.tag) g.T.IsConstructed.CONSTRUCTED ≡ true
allowed_at g c =
    let same : g.R.Source.state c.peek_matches.new.reader ≡ g.R.Source.state c.args.reader.now = search rules in
    let rules_are : c.encoding_rules.result ≡ (g.R.Source.state c.args.reader.now).rules = c.encoding_rules.ensures ∙ ap (λ s. s.rules) c.in_ok-header.ensures.head.after ∙ ap (λ s. s.rules) same in
    let constructed = is_constructed c.in_ok-header.header.tag in
    subst (λ r. form_allowed r constructed g.T.IsConstructed.CONSTRUCTED ≡ true) rules_are (subst (λ o. form_allowed c.encoding_rules.result constructed o ≡ true) c.CONSTRUCTED.ensures c.in-Ok.ensures)

contents_at : (g : _) (c : In_ok-end g) → AtHeader c.in_ok-header.header (g.R.Source.state c.args.reader.now) (g.R.Source.state c.decode.new.reader) → AtContents c.in_ok-header.header (g.R.Source.state c.args.reader.now) (g.R.Source.state c.decode.new.reader) (g.R.Source.state c.nest.new.self) c.in_ok-end.end
contents_at g c at = record { at = at; nest = c.in_ok-end.ensures }

pub returns-in_err-end : goal.returns-in_err-end
returns-in_err-end g c =
    let old = g.R.Source.state c.args.reader.now in
    let bits = g.row.CLASS in
    let n = c.args.tag_number.0 in
    let own = g.T.IsConstructed.CONSTRUCTED in
    let t = class_tag bits own n in
    let found : match_tag (class_of_bits bits) n old.position (rest old) ≡ Ok true = search rules in
    let ready : old.failed ≡ false = search rules in
    let at = header_at g (goal.at.returns-in_err-end g c).In_ok-header in
    let allowed = allowed_at g (goal.at.returns-in_err-end g c).In-Ok in
    let refused = c.in_err-end.ensures in
    let fault = found_fault bits n old ready found (parse_implicit t own g.T.FormValue.value.parse) old.rules (too_long_implicit at t own g.T.FormValue.value.parse old.rules allowed refused) in
    let reader = refused_after_header at (refused_octets refused) in
    search rules

pub returns-in_err-value : goal.returns-in_err-value
returns-in_err-value g c =
    let old = g.R.Source.state c.args.reader.now in
    let bits = g.row.CLASS in
    let n = c.args.tag_number.0 in
    let own = g.T.IsConstructed.CONSTRUCTED in
    let t = class_tag bits own n in
    let found : match_tag (class_of_bits bits) n old.position (rest old) ≡ Ok true = search rules in
    let ready : old.failed ≡ false = search rules in
    let at = contents_at g (goal.at.returns-in_err-value g c).In_ok-end (header_at g (goal.at.returns-in_err-value g c).In_ok-header) in
    let allowed = allowed_at g (goal.at.returns-in_err-value g c).In-Ok in
    let told = c.in_err-value.ensures.exact (shown_length at) in
    let parse = parse_implicit t own g.T.FormValue.value.parse in
    let faults : Faults g.T.FormValue.value.TAKES_MEMORY g.T.FormValue.value.FAULTS_FIRST (unless_failed (parse_optional_field bits n parse old.rules) old) c.in_err-value.field-0.0.kind = elim (contents_fault_implicit g.T.FormValue.value at t own allowed told) [
      | inl m ↦ inl (record { kind_is = m.kind_is; takes = m.takes; faultless = λ first. found_faultless bits n old ready found parse old.rules (m.faultless first) })
      | inr e ↦ inr (found_fault bits n old ready found parse old.rules e)
    ] in
    let reader = refused_inside at c.in_err-value.ensures.reader in
    search rules

pub returns : goal.returns
returns g c =
    let old = g.R.Source.state c.args.reader.now in
    let bits = g.row.CLASS in
    let n = c.args.tag_number.0 in
    let own = g.T.IsConstructed.CONSTRUCTED in
    let t = class_tag bits own n in
    let found : match_tag (class_of_bits bits) n old.position (rest old) ≡ Ok true = search rules in
    let at = contents_at g (goal.at.returns g c).In_ok-end (header_at g (goal.at.returns g c).In_ok-header) in
    let allowed = allowed_at g (goal.at.returns g c).In-Ok in
    let told = c.in_ok-value.ensures.exact (shown_length at) in
    let header = c.in_ok-header.header in
    let parse = parse_implicit t own g.T.FormValue.value.parse in
    let tag_is = header_matched bits n old.position (rest old) (length (octets_of header)) header found at.at.head.parsed in
    record {
      taken = length (octets_of header) + header.length;
      ready = at.at.head.ready;
      parsed = found_field bits n old.position parse old.rules (rest old) found ∙ parsed_implicit g.T.FormValue.value at t own allowed told;
      accepted = (refl, refl, accepted_implicit g.T.FormValue.value at t own allowed told bits n tag_is);
      after = after_contents at told.after c.in_ok-unnest.ensures.after;
    }
