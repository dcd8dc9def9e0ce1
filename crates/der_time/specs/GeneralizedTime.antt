-- The value of a GeneralizedTime that contracts see, and the octets that are read as one.
use Rattle.std.specs.Prelude.{ℕ, List, Result}
use Rattle.der_tlv.specs.declared.error.Error.{Error}
use Rattle.der_tlv.specs.declared.tag.Tag.{Tag}
use Rattle.der_tlv.specs.declared.tag.Tag.TheVariants as tags
use Rattle.der_opaque.specs.DecodingAs.{DecodesOwnAs}
use Rattle.der_time.specs.declared.generalized_time.GeneralizedTime.{GeneralizedTime}
use Rattle.der_time.specs.DateTime.{time_contents}
use Rattle.der_time.specs.TimeReading.{parse_generalized}

-- its contents octets
abbrev pub generalized_time_contents : GeneralizedTime → List ℕ
generalized_time_contents t = time_contents t.date_time

-- the result of decoding contents octets after a tag as a GeneralizedTime
abbrev pub DecodesGeneralizedTime : Tag → List ℕ → Result GeneralizedTime Error → Type 0
DecodesGeneralizedTime = DecodesOwnAs tags.GeneralizedTime generalized_time_contents (λ time. Unit {0}) parse_generalized
