-- Items that are read one after another, up to a capacity (X.690 8.10, 8.12).
use Rattle.std.specs.Prelude.{ℕ, zero, suc, ◌+◌, ◌<◌, List, [], ◌∷◌, length, drop, Result, Ok, Err}
use Rattle.std.specs.List.{concat}
use Rattle.der_tlv.specs.declared.error.ErrorKind.{ErrorKind}
use Rattle.der_tlv.specs.declared.error.ErrorKind.TheVariants.{Overlength}
use Rattle.der_tlv.specs.declared.encoding_rules.EncodingRules.{EncodingRules}
use Rattle.der_elem.specs.Items.{AcceptsItems}
use Rattle.der_elem.specs.Parsing.{Parse}

-- each item is accepted from its part of the octets, which is not empty
abbrev pub AcceptsEach : {T : Type 0} → (T → List ℕ → Type 0) → List T → List ℕ → Type 0
AcceptsEach accepts vs octets = AcceptsItems (λ v part. accepts v part × (0 < length part)) vs octets

-- an encoding before the result of the others
abbrev pub before_others : List ℕ → Result (List (List ℕ)) ErrorKind → Result (List (List ℕ)) ErrorKind
before_others encoding (Ok others) = Ok (encoding ∷ others)
before_others encoding (Err k) = Err k

-- a first item, and then the others
abbrev pub then_others : Result (ℕ × List ℕ) ErrorKind → (ℕ → Result (List (List ℕ)) ErrorKind) → Result (List (List ℕ)) ErrorKind
then_others (Err k) others = Err k
then_others (Ok (n, encoding)) others = before_others encoding (others n)

-- an item beyond the capacity is read, and then refused (10)
abbrev pub one_too_many : Result (ℕ × List ℕ) ErrorKind → Result (List (List ℕ)) ErrorKind
one_too_many (Err k) = Err k
one_too_many (Ok item) = Err Overlength

abbrev pub parse_up_to : ℕ → (ℕ → List ℕ → Result (ℕ × List ℕ) ErrorKind) → ℕ → List ℕ → Result (List (List ℕ)) ErrorKind
parse_up_to zero parse p [] = Ok []
parse_up_to zero parse p (x ∷ xs) = one_too_many (parse p (x ∷ xs))
parse_up_to (suc more) parse p [] = Ok []
parse_up_to (suc more) parse p (x ∷ xs) = then_others (parse p (x ∷ xs)) (λ n. parse_up_to more parse (p + n) (drop n (x ∷ xs)))

-- Item after item until nothing is left, up to a capacity: their encodings, or the first error from the left.
unfoldable pub parse_each : ℕ → Parse → EncodingRules → ℕ → List ℕ → Result (List (List ℕ)) ErrorKind
parse_each capacity parse rules p octets = parse_up_to capacity (parse rules) p octets

-- the encodings, joined
abbrev pub join_encodings : Result (List (List ℕ)) ErrorKind → Result (List ℕ) ErrorKind
join_encodings (Ok encodings) = Ok (concat encodings)
join_encodings (Err k) = Err k
