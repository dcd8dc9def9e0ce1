use Rattle.std.proofs.Common.{◌≡◌, ◌∙◌, sym, ap, length}
use Rattle.std.specs.Ordering.{nat_cmp}
use Rattle.der_tlv.specs.Octets.{lex}
use Rattle.der_tlv.specs.Identifier.{identifier}
use Rattle.der_elem.proofs.Headed.{Headed, tags_decide, lengths_decide, contents_decide}
use Rattle.der_elem.proofs.blanket.AnyDerOrd.der_cmp.Goals as goal
use Rattle.der_elem.proofs.blanket.AnyDerOrd.der_cmp.Goals.{After-cmp, After-cmp-2}

headed : (g : _) (c : After-cmp g) → Headed g.T.FormValue.value g.T.Form g.T.Tagged.tag_of
headed g c = record { encoding_is = g.met.T.Tagged.encoding_is; re_reads_alike = g.met.T.Tagged.re_reads_alike; comparable_alike = g.met.T.Tagged.comparable_alike }

tags_are : (g : _) (c : After-cmp g) → c.cmp.result ≡ lex (identifier (g.T.Tagged.tag_of c.args.self.now)) (identifier (g.T.Tagged.tag_of c.args.other.now))
tags_are g c =
    c.cmp.ensures ∙ ap (λ t. lex (identifier t) (identifier c.tag-2.result)) c.tag.ensures.value ∙ ap (λ t. lex (identifier (g.T.Tagged.tag_of c.args.self.now)) (identifier t)) c.tag-2.ensures.value

lengths_are : (g : _) (c : After-cmp-2 g) → c.cmp-2.result ≡ nat_cmp (length (g.T.FormValue.value.contents c.args.self.now)) (length (g.T.FormValue.value.contents c.args.other.now))
lengths_are g c =
    c.cmp-2.ensures ∙ ap (λ n. nat_cmp n c.in_ok-value_len-2.field-0) c.in_ok-value_len.ensures.0 ∙ ap (nat_cmp (length (g.T.FormValue.value.contents c.args.self.now))) c.in_ok-value_len-2.ensures.0

pub cmp_contents_first-requires : goal.cmp_contents_first-requires
cmp_contents_first-requires g c =
    let at = (goal.at.cmp_contents_first-requires g c).After-cmp in sym (tags_are g at) ∙ c.in-Equal.is

pub returns-in_default : goal.returns-in_default
returns-in_default g c =
    let at = (goal.at.returns-in_default g c).After-cmp in
    tags_decide (headed g at) c.args.self.now c.args.other.now c.cmp.result (tags_are g at) c.in_default.not-Equal

pub returns-in_default-cmp : goal.returns-in_default-cmp
returns-in_default-cmp g c =
    let at = (goal.at.returns-in_default-cmp g c).After-cmp in
    let at2 = (goal.at.returns-in_default-cmp g c).After-cmp-2 in
    lengths_decide (headed g at) c.args.self.now c.args.other.now (sym (tags_are g at) ∙ c.in-Equal.is) c.cmp-2.result (lengths_are g at2) c.in_default-cmp.not-Equal

pub returns : goal.returns
returns g c =
    let at = (goal.at.returns g c).After-cmp in
    let at2 = (goal.at.returns g c).After-cmp-2 in
    contents_decide (headed g at) c.args.self.now c.args.other.now (sym (tags_are g at) ∙ c.in-Equal.is) (sym (lengths_are g at2) ∙ c.in-Equal-cmp.is) c.value_cmp.result c.value_cmp.ensures
