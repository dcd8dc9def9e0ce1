-- Lists of fields that a user's own struct is seen as.
use Rattle.der_fields.specs.declared.field.Field.{Field}
use Rattle.der_fields.specs.declared.end.End.{End}
use Rattle.der_fields.specs.declared.with_default.WithDefault.{WithDefault}

-- a field, and the list of the fields after it
abbrev pub field : {T Rest : Type 0} → T → Rest → Field T Rest
field first rest = record { first = first; rest = rest }

-- no further field
abbrev pub end : End
end = record {}

-- a value of a field with a DEFAULT
abbrev pub with_default : {T D : Type 0} → T → WithDefault T D
with_default value = record { value = value; default = record {} }
