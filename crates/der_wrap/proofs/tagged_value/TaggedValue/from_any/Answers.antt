use Rattle.std.proofs.Common.{rules, ◌≡◌, ◌∙◌, refl, sym, subst, true}
use Rattle.der_tlv.specs.TagParts.{is_constructed}
use Rattle.der_elem.specs.Decoding.{AllRead}
use Rattle.der_wrap.specs.ClassTags.{in_class}
use Rattle.der_wrap.specs.TaggedValueLaws.{class_tag-with}
use Rattle.der_wrap.proofs.tagged_value.TaggedValue.from_any.Goals as goal

pub returns : goal.returns
returns g c =
    let tag = c.tag-tag.result in
    let constructed : is_constructed tag ≡ true = search rules in
    let of_class : in_class g.row.CLASS tag ≡ true = search rules in
    (sym c.tag-tag.ensures.value ∙ class_tag-with g.row.CLASS tag true c.number.result.0 constructed of_class c.number.ensures.value, refl, subst (λ o. AllRead g.T.Form o c.in_ok-value.value) c.value.ensures c.in_ok-value.ensures)
