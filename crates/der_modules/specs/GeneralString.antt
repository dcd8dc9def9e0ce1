-- The octets of a GeneralString of a module.
use Rattle.std.specs.Prelude.{ℕ, List}
use Rattle.der_modules.specs.declared.general_string.GeneralStringOctets.{GeneralStringOctets}

-- the octets of the string
abbrev pub octets_of : GeneralStringOctets → List ℕ
octets_of string = string.octets.now
