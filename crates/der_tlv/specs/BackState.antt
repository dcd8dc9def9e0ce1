-- The state of a writer that is filled from its end.
use Rattle.std.specs.Prelude.{ℕ, List, []}

-- the number of octets that it still takes, the octets that it holds, and the number of octets before them that are open for writing in order
pub record BackState : Type 0 where
  pub room : ℕ
  pub held : List ℕ
  pub gap : ℕ

-- a writer that is not filled from its end
abbrev pub no_back : BackState
no_back = record { room = 0; held = []; gap = 0 }
