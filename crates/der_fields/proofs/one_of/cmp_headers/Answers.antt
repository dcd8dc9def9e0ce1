use Rattle.std.proofs.Common.{◌≡◌, ◌∙◌, sym, ap, subst, length}
use Rattle.std.specs.Ordering.{nat_cmp}
use Rattle.der_tlv.specs.Octets.{lex}
use Rattle.der_tlv.specs.Identifier.{identifier}
use Rattle.der_fields.specs.Alternatives.{NotDecidedByHeaders}
use Rattle.der_elem.proofs.HeadersDecide.{tags_decide, lengths_decide, headers_equal}
use Rattle.der_fields.proofs.one_of.cmp_headers.Goals as goal
use Rattle.der_fields.proofs.one_of.cmp_headers.Goals.{After-cmp, After-cmp-2}

tags_are : (g : _) (c : After-cmp g) → c.cmp.result ≡ lex (identifier (g.A.Tagged.tag_of c.args.value.now)) (identifier (g.B.Tagged.tag_of c.args.other.now))
tags_are g c =
    c.cmp.ensures ∙ ap (λ t. lex (identifier t) (identifier c.tag.result)) c.tag-tag.ensures.value ∙ ap (λ t. lex (identifier (g.A.Tagged.tag_of c.args.value.now)) (identifier t)) c.tag.ensures.value

lengths_are : (g : _) (c : After-cmp-2 g) → c.cmp-2.result ≡ nat_cmp (length (g.A.FormValue.value.contents c.args.value.now)) (length (g.B.FormValue.value.contents c.args.other.now))
lengths_are g c =
    c.cmp-2.ensures ∙ ap (λ n. nat_cmp n c.in_ok-value_len-2.field-0) c.in_ok-value_len.ensures.0 ∙ ap (nat_cmp (length (g.A.FormValue.value.contents c.args.value.now))) c.in_ok-value_len-2.ensures.0

pub returns-in_default : goal.returns-in_default
returns-in_default g c =
    let at = (goal.at.returns-in_default g c).After-cmp in
    let v = c.args.value.now in
    let w = c.args.other.now in
    tags_decide (g.A.Form.encoding v) (g.B.Form.encoding w) (g.A.Tagged.tag_of v) (g.B.Tagged.tag_of w) (g.A.FormValue.value.contents v) (g.B.FormValue.value.contents w) (g.met.A.Tagged.encoding_is v) (g.met.B.Tagged.encoding_is w) c.cmp.result (tags_are g at) c.in_default.not-Equal

pub returns-in-Equal-cmp : goal.returns-in-Equal-cmp
returns-in-Equal-cmp g c =
    let at = (goal.at.returns-in-Equal-cmp g c).After-cmp in
    let at2 = (goal.at.returns-in-Equal-cmp g c).After-cmp-2 in
    let v = c.args.value.now in
    let w = c.args.other.now in
    let t = g.A.Tagged.tag_of v in
    let u = g.B.Tagged.tag_of w in
    let same = headers_equal (g.A.Form.encoding v) (g.B.Form.encoding w) t u (g.A.FormValue.value.contents v) (g.B.FormValue.value.contents w) (g.met.A.Tagged.encoding_is v) (g.met.B.Tagged.encoding_is w) (sym (tags_are g at) ∙ c.in-Equal.is) (sym (lengths_are g at2) ∙ c.in-Equal-cmp.is) in
    subst (NotDecidedByHeaders g.A.Form g.B.Form v w t u) (sym (c.from_kind.ensures.kind ∙ c.value_error.ensures)) same

pub returns-in_default-cmp : goal.returns-in_default-cmp
returns-in_default-cmp g c =
    let at = (goal.at.returns-in_default-cmp g c).After-cmp in
    let at2 = (goal.at.returns-in_default-cmp g c).After-cmp-2 in
    let v = c.args.value.now in
    let w = c.args.other.now in
    lengths_decide (g.A.Form.encoding v) (g.B.Form.encoding w) (g.A.Tagged.tag_of v) (g.B.Tagged.tag_of w) (g.A.FormValue.value.contents v) (g.B.FormValue.value.contents w) (g.met.A.Tagged.encoding_is v) (g.met.B.Tagged.encoding_is w) (sym (tags_are g at) ∙ c.in-Equal.is) c.cmp-2.result (lengths_are g at2) c.in_default-cmp.not-Equal
