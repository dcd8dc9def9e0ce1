-- The fields of Accuracy, by their names.
-- Made by tools/asn1 from time_stamp.asn1.
use Rattle.std.specs.Prelude.{Option, option_map, ℕ}
use Rattle.der_time_stamp.specs.declared.time_stamp.accuracy.Accuracy.{Accuracy}

-- seconds INTEGER OPTIONAL
abbrev pub seconds : Accuracy → Option ℕ
seconds v = v.fields.list.first

-- millis [0] INTEGER (1..999) OPTIONAL
abbrev pub millis : Accuracy → Option ℕ
millis v = option_map (λ x. x.value) v.fields.list.rest.first

-- micros [1] INTEGER (1..999) OPTIONAL
abbrev pub micros : Accuracy → Option ℕ
micros v = option_map (λ x. x.value) v.fields.list.rest.rest.first
