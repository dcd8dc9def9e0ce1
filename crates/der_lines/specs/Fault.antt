-- The names of `Fault`.
use Rattle.std.specs.Prelude.{ℕ, List, codes}
use Rattle.der_lines.specs.declared.fault.Fault.{Fault}
use Rattle.der_lines.specs.declared.fault.Fault.TheVariants.{Input, Output, Memory}

-- the name of a `Fault`, as it is printed
abbrev pub text_of : Fault → List ℕ
text_of Input = codes "input failed"
text_of Output = codes "output failed"
text_of Memory = codes "out of memory"
