use Rattle.std.proofs.Common.{◌≡◌, ℕ, ◌<◌, map, get_or, refl, ap, ◌∙◌, arith, Option}
use Rattle.std.proofs.lemmas.List.FromFn.{get_or-map-range_with_len}
use Rattle.std.specs.List.{range_with_len}
use Rattle.der_tlv.specs.declared.tag.Tag.{Tag}
use Rattle.der_tlv.specs.ShortTags.{short_tag}
use Rattle.der_tlv.specs.declared.tag.short.TheConstants.{SHORT_TAGS}
use Rattle.der_tlv.proofs.tag.short.short_tag.Goals as goal

-- the table has the tag of each octet
table_is : SHORT_TAGS ≡ map short_tag (range_with_len 0 256)
table_is = refl

looked_up : (other : Option Tag) (first : ℕ) → first < 256 → get_or SHORT_TAGS first other ≡ short_tag first
looked_up other first h = ap (λ t. get_or t first other) table_is ∙ get_or-map-range_with_len short_tag 0 256 first first other h (omega arith)

pub returns : goal.returns
returns c = rw c.from.ensures (looked_up _ c.args.first (omega arith))
