-- The class, the number and the form of the tag of a tagged value.
use Rattle.std.proofs.Common.{◌≡◌, ℕ, true}
use Rattle.der_tlv.specs.declared.tag.Tag.{Tag}
use Rattle.der_tlv.specs.declared.tag.mode.TagMode.{TagMode}
use Rattle.der_tlv.specs.declared.tag.mode.TagMode.TheVariants.{Explicit, Implicit}
use Rattle.der_tlv.specs.TagParts.{class_of, is_constructed, number_of}
use Rattle.der_wrap.specs.ClassTags.{class_of_bits}
use Rattle.der_wrap.specs.TaggedValues.{tag_of_mode}
use Rattle.der_wrap.specs.TaggedValueLaws.{class_tag-class_of, class_tag-constructed, class_tag-number}

pub class_of_mode : (bits : ℕ) (mode : TagMode) (n : ℕ) (own : Tag) → class_of (tag_of_mode bits mode n own) ≡ class_of_bits bits
class_of_mode bits Explicit n own = class_tag-class_of true n bits
class_of_mode bits Implicit n own = class_tag-class_of (is_constructed own) n bits

pub number_of_mode : (bits : ℕ) (mode : TagMode) (n : ℕ) (own : Tag) → number_of (tag_of_mode bits mode n own) ≡ n
number_of_mode bits Explicit n own = class_tag-number true n bits
number_of_mode bits Implicit n own = class_tag-number (is_constructed own) n bits

pub constructed_explicit : (bits : ℕ) (mode : TagMode) (n : ℕ) (own : Tag) → mode ≡ Explicit → is_constructed (tag_of_mode bits mode n own) ≡ true
constructed_explicit bits mode n own e = rw e (class_tag-constructed true n bits)

pub constructed_implicit : (bits : ℕ) (mode : TagMode) (n : ℕ) (own : Tag) → mode ≡ Implicit → is_constructed (tag_of_mode bits mode n own) ≡ is_constructed own
constructed_implicit bits mode n own e = rw e (class_tag-constructed (is_constructed own) n bits)
