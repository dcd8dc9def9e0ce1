use Rattle.std.proofs.Common.{◌≡◌, ◌∙◌, ◌++◌, ap, sym}
use Rattle.std.specs.declared.cmp.Ordering.TheVariants.{Equal}
use Rattle.der_tlv.specs.Octets.{lex}
use Rattle.der_fields.specs.FieldLists.{first_tag_or_next}
use Rattle.std.proofs.lemmas.Bool.{or_right}
use Rattle.der_fields.specs.ComparingFields.{lex_first_tags}
use Rattle.der_fields.specs.DistinguishingLaws.{same_presence_of, other_presence_of, first_decides, others_decide, first_tags_decide, first_tags_clash, clash_refuses, starts_both}
use Rattle.der_fields.proofs.field.FieldFieldsOrd.cmp_fields.Goals as goal

pub returns-in-Equal : goal.returns-in-Equal
returns-in-Equal g c =
    let F = g.T.Form in
    let G = g.Rest.FieldList.list in
    let v = c.args.self.now in
    let x = c.args.other.now in
    let equal : Equal ≡ lex (g.T.Form.encoding c.args.self.now.first) (g.T.Form.encoding c.args.other.now.first) = sym c.in-Equal.is ∙ c.in_ok-order.ensures in
    let same = g.met.T.FirstTag.same_beginning v.first x.first (same_presence_of c.first_tag.ensures c.first_tag-2.ensures c.if-both_or_none.ensures) in
    others_decide (F.encoding v.first) (F.encoding x.first) (G.octets.contents v.rest) (G.octets.contents x.rest) _ (G.octets.comparable v.rest x.rest) _ _ (G.octets.re_reads v.rest) (G.octets.re_reads x.rest) (λ o. o.1) (or_right (F.re_reads v.first) (G.octets.re_reads v.rest)) (or_right (F.re_reads x.first) (G.octets.re_reads x.rest)) c.cmp_fields.result same equal c.cmp_fields.ensures

pub returns-in_default : goal.returns-in_default
returns-in_default g c =
    let F = g.T.Form in
    let G = g.Rest.FieldList.list in
    let v = c.args.self.now in
    let x = c.args.other.now in
    let same = g.met.T.FirstTag.same_beginning v.first x.first (same_presence_of c.first_tag.ensures c.first_tag-2.ensures c.if-both_or_none.ensures) in
    first_decides (F.encoding v.first) (F.encoding x.first) (G.octets.contents v.rest) (G.octets.contents x.rest) c.in_ok-order.order same c.in_ok-order.ensures c.in_default.not-Equal

pub returns-in-Equal-cmp_first_tags : goal.returns-in-Equal-cmp_first_tags
returns-in-Equal-cmp_first_tags g c =
    let F = g.T.Form in
    let G = g.Rest.FieldList.list in
    let v = c.args.self.now in
    let x = c.args.other.now in
    let mixed = other_presence_of c.first_tag.ensures c.first_tag-2.ensures c.if-both_or_none.ensures in
    let e : lex_first_tags (first_tag_or_next (g.T.Form.first_tag_of c.args.self.now.first) (g.Rest.FieldList.list.first_tag c.args.self.now.rest)) (first_tag_or_next (g.T.Form.first_tag_of c.args.other.now.first) (g.Rest.FieldList.list.first_tag c.args.other.now.rest)) ≡ Equal = ap (λ l. lex_first_tags l (first_tag_or_next (g.T.Form.first_tag_of c.args.other.now.first) (g.Rest.FieldList.list.first_tag c.args.other.now.rest))) (sym c.fields_first_tag.ensures) ∙ ap (lex_first_tags c.fields_first_tag.result) (sym c.fields_first_tag-2.ensures) ∙ sym c.cmp_first_tags.ensures ∙ c.in-Equal-cmp_first_tags.is in
    clash_refuses _ _ _ _ _ c.from_kind.result.kind _ (c.from_kind.ensures.kind ∙ c.value_error.ensures) (λ o. first_tags_clash F.tags (F.first_tag_of v.first) (F.first_tag_of x.first) (G.first_tag v.rest) (G.first_tag x.rest) (g.met.T.FirstTag.own_first_tag v.first) (g.met.T.FirstTag.own_first_tag x.first) mixed e o.2 o.3)

pub returns-in_default-cmp_first_tags : goal.returns-in_default-cmp_first_tags
returns-in_default-cmp_first_tags g c =
    let F = g.T.Form in
    let G = g.Rest.FieldList.list in
    let v = c.args.self.now in
    let x = c.args.other.now in
    let l = first_tag_or_next (F.first_tag_of v.first) (G.first_tag v.rest) in
    let m = first_tag_or_next (F.first_tag_of x.first) (G.first_tag x.rest) in
    let start = starts_both (F.first_tag_of v.first) (G.first_tag v.rest) (F.encoding v.first) (G.octets.contents v.rest) (g.met.T.FirstTag.starts v.first) (g.met.Rest.FieldsFirstTag.starts_fields v.rest) in
    let start' = starts_both (F.first_tag_of x.first) (G.first_tag x.rest) (F.encoding x.first) (G.octets.contents x.rest) (g.met.T.FirstTag.starts x.first) (g.met.Rest.FieldsFirstTag.starts_fields x.rest) in
    let e : c.cmp_first_tags.result ≡ lex_first_tags (first_tag_or_next (g.T.Form.first_tag_of c.args.self.now.first) (g.Rest.FieldList.list.first_tag c.args.self.now.rest)) (first_tag_or_next (g.T.Form.first_tag_of c.args.other.now.first) (g.Rest.FieldList.list.first_tag c.args.other.now.rest)) = c.cmp_first_tags.ensures ∙ ap (lex_first_tags c.fields_first_tag.result) c.fields_first_tag-2.ensures ∙ ap (λ l. lex_first_tags l (first_tag_or_next (g.T.Form.first_tag_of c.args.other.now.first) (g.Rest.FieldList.list.first_tag c.args.other.now.rest))) c.fields_first_tag.ensures in
    first_tags_decide l m (F.encoding v.first ++ G.octets.contents v.rest) (F.encoding x.first ++ G.octets.contents x.rest) c.cmp_first_tags.result start start' e c.in_default-cmp_first_tags.not-Equal
