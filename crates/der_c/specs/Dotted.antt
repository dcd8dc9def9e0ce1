-- Object identifiers as text (X.690 8.19), such as 2.5.29.17.
use Rattle.std.specs.Prelude.{◌≡◌, ◌≢◌, ◌⊎◌, ℕ, ◌-◌, ◌*◌, ◌/◌, ◌<◌, ◌≤◌, ◌^◌, min, List, [], ◌∷◌, ◌++◌, length, Bool, true, false, Option, Some, None, decimal, All}
use Rattle.std.specs.List.{flat_map}
use Rattle.std.specs.Borrow.{Bor}
use Rattle.der_tlv.specs.Identifier.{number_octets}
use Rattle.der_c.specs.RoomText.{Puts, counted, ended, over}

-- "The contents octets shall be an (ordered) list of encodings of subidentifiers": one or more, each in base 128 and in the fewest octets (8.19.2), and here of at most 64 bits
pub record AreSubidentifiers (contents numbers : List ℕ) : Type 0 where
  pub some : 0 < length numbers
  pub small : All (λ n. n < 2 ^ 64) numbers
  pub octets_are : contents ≡ flat_map number_octets numbers

-- the first subidentifier is X * 40 + Y, for the first arc X and the second arc Y: X is 0, 1 or 2, and Y is less than 40 if X is 0 or 1 (8.19.4)
abbrev pub first_arc : ℕ → ℕ
first_arc number = min (number / 40) 2

abbrev pub second_arc : ℕ → ℕ
second_arc number = number - 40 * first_arc number

-- an arc in decimal, with the dot before it
abbrev pub dot_arc : ℕ → List ℕ
dot_arc arc = 46 ∷ decimal arc

-- the arcs of the first subidentifier, or the arc of another one
abbrev pub arcs_text : Bool → ℕ → List ℕ
arcs_text true number = decimal (first_arc number) ++ dot_arc (second_arc number)
arcs_text false number = dot_arc number

-- the arcs of subidentifiers, with dots between them
abbrev pub dotted : List ℕ → List ℕ
dotted [] = []
dotted (first ∷ others) = arcs_text true first ++ flat_map dot_arc others

-- the text of the contents octets of an object identifier
pub record HasText (contents text : List ℕ) : Type 0 where
  pub numbers : List ℕ
  pub are : AreSubidentifiers contents numbers
  pub text_is : text ≡ dotted numbers

abbrev pub HasNoText : List ℕ → Type 0
HasNoText contents = (text : List ℕ) → HasText contents text → ⊥

-- the buffer holds as much of the text as fits before a zero octet; the result is the length of the text, or the greatest number of 64 bits if the length is greater
pub record TextGiven (contents old new : List ℕ) (answer : ℕ) : Type 0 where
  pub text : List ℕ
  pub has : HasText contents text
  pub held : new ≡ over (ended text (length old)) old
  pub length_is : answer ≡ counted (length text)

-- 0: the octets are no object identifier, or have a subidentifier of more than 64 bits, and the buffer holds a zero octet
pub record NoTextGiven (contents old new : List ℕ) (answer : ℕ) : Type 0 where
  pub none : HasNoText contents
  pub held : new ≡ over (ended [] (length old)) old
  pub number : answer ≡ 0

abbrev pub AnswersText : List ℕ → List ℕ → List ℕ → ℕ → Type 0
AnswersText contents old new answer = TextGiven contents old new answer ⊎ NoTextGiven contents old new answer

-- 1 if this is the text of the octets, else 0
abbrev pub AnswersIs : List ℕ → List ℕ → ℕ → Type 0
AnswersIs contents text answer = (HasText contents text × (answer ≡ 1)) ⊎ ((HasText contents text → ⊥) × (answer ≡ 0))

-- the same as true or false
abbrev pub Matches : List ℕ → List ℕ → Bool → Type 0
Matches contents text true = HasText contents text
Matches contents text false = HasText contents text → ⊥

-- the text of contents octets is written to a buffer from a position on
pub record TextPut (contents old : List ℕ) (position : ℕ) (new : List ℕ) (next : ℕ) : Type 0 where
  pub text : List ℕ
  pub has : HasText contents text
  pub put : Puts text old position new next

abbrev pub PutsText : List ℕ → List ℕ → ℕ → List ℕ → Option ℕ → Type 0
PutsText contents old position new None = HasNoText contents
PutsText contents old position new (Some next) = TextPut contents old position new next

-- the subidentifier at the front of octets, and the octets after it; or the octets begin with none of at most 64 bits
abbrev pub FindsNumber : List ℕ → Option (ℕ × Bor (List ℕ)) → Type 0
FindsNumber octets None = (n : ℕ) (others : List ℕ) → octets ≡ number_octets n ++ others → 2 ^ 64 ≤ n
FindsNumber octets (Some found) = (found.0 < 2 ^ 64) × (octets ≡ number_octets found.0 ++ found.1.now)

-- what follows a beginning of a text, if it begins so
abbrev pub Strips : List ℕ → List ℕ → Option (Bor (List ℕ)) → Type 0
Strips text beginning None = (others : List ℕ) → text ≢ beginning ++ others
Strips text beginning (Some others) = text ≡ beginning ++ others.now
