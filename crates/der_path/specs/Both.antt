-- Two results as one.
use Rattle.std.specs.Prelude.{◌≡◌, ◌⊎◌, Result, Ok, Err}

-- both values, or the error of one
abbrev pub BothAre : {A B E : Type 0} → Result A E → Result B E → Result (A × B) E → Type 0
BothAre first second (Ok p) = (first ≡ Ok p.0) × (second ≡ Ok p.1)
BothAre first second (Err e) = (first ≡ Err e) ⊎ (second ≡ Err e)
