-- CHOICE: a value of one of two alternatives, which its tag selects (X.680 29).
use Rattle.std.specs.Prelude.{◌≡◌, ℕ, ◌≤◌, ◌^◌, List, length, Bool, true, false, if◌then◌else◌, Option, Some, None, Result, Ok, Err, ◌⊎◌}
use Rattle.std.specs.declared.cmp.Ordering.{Ordering}
use Rattle.der_tlv.specs.declared.error.ErrorKind.{ErrorKind}
use Rattle.der_tlv.specs.declared.error.ErrorKind.TheVariants.{Overflow, Memory, Value, TagUnexpected}
use Rattle.der_tlv.specs.declared.error.Error.{Error}
use Rattle.der_tlv.specs.declared.tag.Tag.{Tag}
use Rattle.der_tlv.specs.HeaderReading.{read_tag}
use Rattle.der_tlv.specs.Octets.{lex}
use Rattle.der_elem.specs.declared.form.Form as form
use Rattle.der_elem.specs.Comparing.{SameHeader}
use Rattle.der_elem.specs.Parsing.{Parse, ContentsParse}
use Rattle.der_fields.specs.declared.one_of.OneOf.{OneOf}
use Rattle.der_fields.specs.declared.one_of.OneOf.TheVariants.{First, Other}

-- a value has a tag, which is one of these tags, or none of them
abbrev pub TagIs : (Tag → Bool) → Bool → Option Tag → Type 0
TagIs tags one None = ⊥
TagIs tags one (Some t) = tags t ≡ one

-- the function of the value's alternative
abbrev pub of_one : {A B C : Type 0} → (A → C) → (B → C) → OneOf A B → C
of_one first other (First v) = first v
of_one first other (Other w) = other w

-- the value is read from these octets, and its tag selects its alternative
abbrev pub AcceptsOne : {A B : Type 0} → (Tag → Bool) → (A → Option Tag) → (B → Option Tag) → (A → List ℕ → Type 0) → (B → List ℕ → Type 0) → OneOf A B → List ℕ → Type 0
AcceptsOne tags first_tag first_tag' accepts accepts' (First v) octets = accepts v octets × TagIs tags true (first_tag v)
AcceptsOne tags first_tag first_tag' accepts accepts' (Other w) octets = accepts' w octets × TagIs tags false (first_tag' w)

abbrev pub ReadableOne : {A B : Type 0} → (Tag → Bool) → (A → Option Tag) → (B → Option Tag) → (A → Type 0) → (B → Type 0) → OneOf A B → Type 0
ReadableOne tags first_tag first_tag' readable readable' (First v) = readable v × TagIs tags true (first_tag v)
ReadableOne tags first_tag first_tag' readable readable' (Other w) = readable' w × TagIs tags false (first_tag' w)

-- two values are comparable: they are of one alternative and comparable there, or the tags distinguish them
abbrev pub ComparableOne : {A B : Type 0} → (Tag → Bool) → (A → Option Tag) → (B → Option Tag) → (A → A → Type 0) → (B → B → Type 0) → OneOf A B → OneOf A B → Type 0
ComparableOne tags first_tag first_tag' comparable comparable' (First v) (First x) = comparable v x
ComparableOne tags first_tag first_tag' comparable comparable' (Other w) (Other y) = comparable' w y
ComparableOne tags first_tag first_tag' comparable comparable' (First v) (Other w) = TagIs tags true (first_tag v) × TagIs tags false (first_tag' w)
ComparableOne tags first_tag first_tag' comparable comparable' (Other w) (First v) = TagIs tags true (first_tag v) × TagIs tags false (first_tag' w)

-- the condition of the value's alternative holds
abbrev pub AskedOfOne : {A B : Type 0} → (A → Type 0) → (B → Type 0) → OneOf A B → Type 0
AskedOfOne asked asked' (First v) = asked v
AskedOfOne asked asked' (Other w) = asked' w

-- the condition of the alternative holds if both values are of it
abbrev pub AskedOfBoth : {A B : Type 0} → (A → A → Type 0) → (B → B → Type 0) → OneOf A B → OneOf A B → Type 0
AskedOfBoth asked asked' (First v) (First x) = asked v x
AskedOfBoth asked asked' (Other w) (Other y) = asked' w y
AskedOfBoth asked asked' (First v) (Other w) = Unit {0}
AskedOfBoth asked asked' (Other w) (First v) = Unit {0}

-- a copy is of the same alternative
abbrev pub IsCopyOne : {A B : Type 0} → (A → A → Type 0) → (B → B → Type 0) → OneOf A B → OneOf A B → Type 0
IsCopyOne is_copy is_copy' (First v) (First x) = is_copy v x
IsCopyOne is_copy is_copy' (Other w) (Other y) = is_copy' w y
IsCopyOne is_copy is_copy' (First v) (Other w) = ⊥
IsCopyOne is_copy is_copy' (Other w) (First v) = ⊥

-- after the tag is read: the alternative that has it, or the error for a tag of no alternative (4)
abbrev pub parse_by_tag : (Tag → Bool) → (Tag → Bool) → Result (ℕ × List ℕ) ErrorKind → Result (ℕ × List ℕ) ErrorKind → Result (ℕ × Tag) ErrorKind → Result (ℕ × List ℕ) ErrorKind
parse_by_tag tags tags' first other (Err k) = Err k
parse_by_tag tags tags' first other (Ok (count, tag)) =
    if tags tag then first else if tags' tag then other else Err (TagUnexpected None tag)

-- The errors of the tag, a tag of no alternative (4), the errors of the alternative that has the tag.
abbrev pub parse_one : (Tag → Bool) → (Tag → Bool) → Parse → Parse → Parse
parse_one tags tags' first other rules p octets = parse_by_tag tags tags' (first rules p octets) (other rules p octets) (read_tag p octets)

-- contents octets without a tag do not select an alternative
abbrev pub parse_without_tag : ContentsParse
parse_without_tag rules p octets = Ok octets

-- the reason why two values of two types are not compared: one has too many octets for a length, their headers are equal, or memory ran out where items are read again
abbrev pub NotDecidedByHeaders : {A B : Type 0} → form.Ghosts A → form.Ghosts B → A → B → Tag → Tag → ErrorKind → Type 0
NotDecidedByHeaders F G x y t u Overflow = (2 ^ 32 ≤ length (F.encoding x)) ⊎ (2 ^ 32 ≤ length (G.encoding y))
NotDecidedByHeaders F G x y t u (Value tag) = (t ≡ u) × SameHeader (F.encoding x) (G.encoding y)
NotDecidedByHeaders F G x y t u Memory = (F.re_reads x ≡ true) ⊎ (G.re_reads y ≡ true)
NotDecidedByHeaders F G x y t u _ = ⊥

-- the result of comparing the headers of values of two types, with these tags: the order of their encodings, or the reason why there is none
abbrev pub ComparesHeaders : {A B : Type 0} → form.Ghosts A → form.Ghosts B → A → B → Tag → Tag → Result Ordering Error → Type 0
ComparesHeaders F G x y t u (Ok order) = order ≡ lex (F.encoding x) (G.encoding y)
ComparesHeaders F G x y t u (Err e) = NotDecidedByHeaders F G x y t u e.kind
