-- The value of a time that contracts see.
use Rattle.std.specs.Prelude.{◌≡◌, ℕ, false, List, Result, Ok, Err, IsOkAnd}
use Rattle.der_tlv.specs.declared.error.ErrorKind.TheVariants as kinds
use Rattle.der_tlv.specs.declared.error.Error.{Error}
use Rattle.der_time.specs.declared.date_time.DateTime.{DateTime}
use Rattle.der_time.specs.declared.fields.Fields.{Fields}
use Rattle.der_time.specs.Times.{is_time, generalized_contents, time_text}

-- the six fields
abbrev pub fields_of : DateTime → Fields
fields_of t = record {
  year = t.year;
  month = t.month;
  day = t.day;
  hour = t.hour;
  minutes = t.minutes;
  seconds = t.seconds;
}

-- its contents octets as a GeneralizedTime
abbrev pub time_contents : DateTime → List ℕ
time_contents t = generalized_contents (fields_of t)

-- the time with these fields, or (14) if they are not a time
abbrev pub TakesFields : Fields → Result DateTime Error → Type 0
TakesFields f (Ok t) = fields_of t ≡ f
TakesFields f (Err e) = (e.kind ≡ kinds.DateTime) × (is_time f ≡ false)

-- the text that Display writes: 2001-01-02T12:13:14Z
abbrev pub date_time_text : DateTime → List ℕ
date_time_text t = time_text (fields_of t)

-- the time with this text, or (14) if no time has it
abbrev pub ParsesText : List ℕ → Result DateTime Error → Type 0
ParsesText text (Ok t) = text ≡ date_time_text t
ParsesText text (Err e) = (e.kind ≡ kinds.DateTime) × ((t : DateTime) → text ≡ date_time_text t → ⊥)

-- the text that Display writes of a time gives that time
abbrev pub ParsesBack : List ℕ → Result DateTime Error → Type 0
ParsesBack text r = (t : DateTime) → text ≡ date_time_text t → IsOkAnd r (λ v. fields_of v ≡ fields_of t)
