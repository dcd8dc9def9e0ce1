-- Which inputs are shown.
use Rattle.std.specs.Prelude.{ℕ, List, Bool, true, false, None, ◌≡◌, ◌⊎◌, codes}
use Rattle.memchr.specs.Find.{OccursAt}
use Rattle.certview_text.specs.Faults.{first_fault}
use Rattle.certview_text.specs.Grammars.{grammar_of}
use Rattle.certview_text.specs.Kinds.{has_tag, kind_of}

-- the octets are one message that the grammar of its kind reads
abbrev pub IsMessage : List ℕ → Type 0
IsMessage octets = first_fault (grammar_of (kind_of octets)) octets ≡ None

-- The octets are PEM text: they contain the start of a block and do not begin with a SEQUENCE (30 hexadecimal). Each message begins with one,
-- except ECParameters that are a name or NULL.
abbrev pub IsText : List ℕ → Type 0
IsText octets = (has_tag 48 octets ≡ false) × ((place : ℕ) × OccursAt octets (codes "-----BEGIN ") place)

abbrev pub IsShown : List ℕ → Type 0
IsShown octets = IsMessage octets ⊎ IsText octets
