-- The result of writing a value as a new vector.
use Rattle.std.specs.Prelude.{◌≡◌, ℕ, Result, Ok, Err, Vec}
use Rattle.std.specs.declared.alloc.Global.{Global}
use Rattle.der_tlv.specs.declared.error.Error.{Error}
use Rattle.der_elem.specs.declared.form.Form as form
use Rattle.der_elem.specs.Encoding.{NoVector}

-- the one encoding of the value, or the reason why there is none: it has too many octets for a length (9), or else memory ran out (1)
abbrev pub WritesAll : {T : Type 0} → form.Ghosts T → T → Result (Vec ℕ Global) Error → Type 0
WritesAll F v (Ok octets) = octets.items ≡ F.encoding v
WritesAll F v (Err e) = NoVector (F.encoding v) (F.re_reads v) e.kind
