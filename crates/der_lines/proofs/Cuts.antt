-- The cut of a text between two lines, and the lines that were answered before it.
use Rattle.std.proofs.Common.{◌≡◌, ◌≢◌, ◌⊎◌, inl, inr, ℕ, ◌+◌, ◌<◌, List, [], ◌∷◌, ◌++◌, Option, None, Some, IfSome, Result, Ok, Err, OnErr, cond, length, refl, sym, ap, subst, Bool, true, false, eqb, ◌∙◌, arith, append_assoc, append-nil, length-append, ne_eqb}
use Rattle.std.proofs.lemmas.List.Elements.{All-nil, All-cons, All-append, All-head, All-tail}
use Rattle.std.proofs.lemmas.Grind.{flat_map-append}
use Rattle.std.proofs.KnownBytes.{Appends-nil, Appends-trans}
use Rattle.std.proofs.Transfers.{StopsAt-of_All, StopsAt-append}
use Rattle.std.specs.List.{All, flat_map}
use Rattle.std.specs.Io.{StopsAt}
use Rattle.std.specs.Io.KnownBytes.{Consumes, IsAtEnd, Appends}
use Rattle.der_lines.specs.Answer.{NotRefusedForMemory}
use Rattle.der_lines.specs.Lines.{lines_of, onto_first, reply_to, replies_to}
use Rattle.der_lines.specs.Run.{IsCut, AnswersWholeLines, AnswersAllButOne, WritesBeginning, HasTooManyLines}
use Rattle.der_lines.specs.declared.fault.Fault.{Fault}
use Rattle.std.specs.declared.io.ErrorKind.{ErrorKind}
use Rattle.der_lines.specs.Failure.{HasFailed}
use Rattle.der_lines.specs.Sink.{AppendsFront}
use Rattle.der_lines.specs.Source.{HasNoEnd, TakesLine, TakesPart, IsRefused}
use Rattle.der_lines.specs.Tables.{Table}

-- a line and its LF are the first line of a text
pub lines_of-line : (line rest : List ℕ) → HasNoEnd line → lines_of ((line ++ 10 ∷ []) ++ rest) ≡ line ∷ lines_of rest
lines_of-line [] rest no_end = refl
lines_of-line (octet ∷ line) rest no_end =
    let tail = (line ++ 10 ∷ []) ++ rest in
    ap (λ b. cond b ([] ∷ lines_of tail) (onto_first octet (lines_of tail))) (ne_eqb octet 10 (All-head (λ o. o ≢ 10) octet line no_end))
    ∙ ap (onto_first octet) (lines_of-line line rest (All-tail (λ o. o ≢ 10) octet line no_end))

-- a last line with no LF
pub lines_of-last : (line : List ℕ) → HasNoEnd line → 0 < length line → lines_of line ≡ line ∷ []
lines_of-last [] no_end some = absurd (omega arith)
lines_of-last (octet ∷ []) no_end some = ap (λ b. cond b ([] ∷ []) ((octet ∷ []) ∷ [])) (ne_eqb octet 10 (All-head (λ o. o ≢ 10) octet [] no_end))
lines_of-last (octet ∷ next ∷ line) no_end some =
    ap (λ b. cond b ([] ∷ lines_of (next ∷ line)) (onto_first octet (lines_of (next ∷ line)))) (ne_eqb octet 10 (All-head (λ o. o ≢ 10) octet (next ∷ line) no_end))
    ∙ ap (onto_first octet) (lines_of-last (next ∷ line) (All-tail (λ o. o ≢ 10) octet (next ∷ line) no_end) (omega arith))

-- a text that isn't empty has a line
pub lines_of-some : (text : List ℕ) → text ≢ [] → 0 < length (lines_of text)
lines_of-some [] some = absurd (some refl)
lines_of-some (octet ∷ text) some = either (eqb octet 10) (lines_of text)
  where
    front_some : (lines : List (List ℕ)) → 0 < length (onto_first octet lines)
    front_some [] = omega arith
    front_some (line ∷ lines) = omega arith

    either : (b : Bool) (lines : List (List ℕ)) → 0 < length (cond b ([] ∷ lines) (onto_first octet lines))
    either true lines = omega arith
    either false lines = front_some lines

-- known octets without their front
pub consumed : (before after : Option (List ℕ)) (rest part : List ℕ) → before ≡ Some rest → Consumes before after part
    → (left : List ℕ) × (after ≡ Some left) × (rest ≡ part ++ left)
consumed None after rest part e taken = cc
consumed (Some known) None rest part e taken = absurd taken
consumed (Some known) (Some left) rest part e taken = let same : rest ≡ known = cc in (left, refl, same ∙ taken)

-- a line ends where the front ends, with any octets after it
abbrev pub IsClosed : List ℕ → Type 0
IsClosed front = (behind : List ℕ) → lines_of (front ++ behind) ≡ lines_of front ++ lines_of behind

pub IsClosed-nil : IsClosed []
IsClosed-nil behind = refl

pub IsClosed-line : (front line : List ℕ) → IsClosed front → HasNoEnd line → IsClosed (front ++ (line ++ 10 ∷ []))
IsClosed-line front line closed no_end behind =
    let ended = line ++ 10 ∷ [] in
    let alone : lines_of ended ≡ line ∷ [] = ap lines_of (sym (append-nil ended)) ∙ lines_of-line line [] no_end in
    ap lines_of (append_assoc front ended behind) ∙ closed (ended ++ behind) ∙ ap (λ l. lines_of front ++ l) (lines_of-line line behind no_end)
    ∙ sym (ap (λ l. l ++ lines_of behind) (closed ended ∙ ap (λ l. lines_of front ++ l) alone) ∙ append_assoc (lines_of front) (line ∷ []) (lines_of behind))

-- the lines before the rest were answered
pub record Answered (table : Table) (allowed left : ℕ) (text : List ℕ) (after old new : Option (List ℕ)) : Type 0 where
  pub front : List ℕ
  pub rest : List ℕ
  pub known : after ≡ Some rest
  pub joined : text ≡ front ++ rest
  pub closed : IsClosed front ⊎ (rest ≡ [])
  pub count : allowed ≡ length (lines_of front) + left
  pub written : Appends old new (replies_to table front)
  pub memory : All (NotRefusedForMemory table) (lines_of front)

-- a line that was taken, as the front of the rest
pub record Taken (rest line : List ℕ) (after : Option (List ℕ)) : Type 0 where
  pub part : List ℕ
  pub left : List ℕ
  pub known : after ≡ Some left
  pub joined : rest ≡ part ++ left
  pub some : 0 < length part
  pub one_line : StopsAt part 10
  pub line_is : lines_of part ≡ line ∷ []
  pub then_rest : lines_of rest ≡ line ∷ lines_of left
  pub closed : (front : List ℕ) → IsClosed front → IsClosed (front ++ part) ⊎ (left ≡ [])

pub taken : (before after : Option (List ℕ)) (rest line : List ℕ) → before ≡ Some rest → TakesLine before line after → Taken rest line after
taken before after rest line e takes = elim takes.1 [
  | inl ended ↦ let c = consumed before after rest (line ++ 10 ∷ []) e ended in record {
    part = line ++ 10 ∷ [];
    left = c.0;
    known = c.1;
    joined = c.2;
    some = simp length-append (omega arith);
    one_line = StopsAt-append line (10 ∷ []) 10 takes.0 (All-nil (λ o. o ≢ 10));
    line_is = ap lines_of (sym (append-nil (line ++ 10 ∷ []))) ∙ lines_of-line line [] takes.0;
    then_rest = ap lines_of c.2 ∙ lines_of-line line c.0 takes.0;
    closed = λ front closed. inl (IsClosed-line front line closed takes.0);
  }
  | inr last ↦ let c = consumed before after rest line e last.0 in let none : c.0 ≡ [] = at_end after c.0 c.1 last.1 in record {
    part = line;
    left = c.0;
    known = c.1;
    joined = c.2;
    some = last.2;
    one_line = StopsAt-of_All line 10 takes.0;
    line_is = lines_of-last line takes.0 last.2;
    then_rest = ap lines_of (c.2 ∙ ap (λ l. line ++ l) none ∙ append-nil line) ∙ lines_of-last line takes.0 last.2 ∙ ap (λ l. line ∷ lines_of l) (sym none);
    closed = λ front closed. inr none;
  }
]
  where
    at_end : (o : Option (List ℕ)) (left : List ℕ) → o ≡ Some left → IsAtEnd o → left ≡ []
    at_end None left e end = cc
    at_end (Some known) left e end = cc

-- an answered front is closed if there is a rest
closed_front : (front rest : List ℕ) → IsClosed front ⊎ (rest ≡ []) → 0 < length rest → IsClosed front
closed_front front rest closed some = elim closed [ inl c ↦ c | inr none ↦ absurd (omega (arith, ap length none)) ]

-- the text is cut at the end of the answered front, with any octets read next
cut_at : (text front rest : List ℕ) → text ≡ front ++ rest → IsClosed front ⊎ (rest ≡ []) → IsCut text front rest
cut_at text front rest joined closed = record {
  joined = joined;
  between_lines = elim closed [
    | inl c ↦ ap lines_of joined ∙ c rest
    | inr none ↦ ap lines_of (joined ∙ ap (λ l. front ++ l) none ∙ append-nil front) ∙ sym (ap (λ l. lines_of front ++ lines_of l) none ∙ append-nil (lines_of front))
  ];
}

-- the replies to a cut text
pub replies_to-cut : (table : Table) (text front behind : List ℕ) → IsCut text front behind → replies_to table text ≡ replies_to table front ++ replies_to table behind
replies_to-cut table text front behind cut = ap (flat_map (reply_to table)) cut.between_lines ∙ flat_map-append (reply_to table) (lines_of front) (lines_of behind)

module _ (table : Table) (allowed left : ℕ) (text : List ℕ) (after old new : Option (List ℕ)) (so_far : Answered table allowed left text after old new) where
  -- the beginning of a line was read
  pub whole_lines : (later : Option (List ℕ)) → TakesPart after later → AnswersWholeLines table text later old new
  whole_lines later part =
      let c = consumed after later so_far.rest part.0 so_far.known part.2 in record {
        front = so_far.front;
        part = part.0;
        rest = c.0;
        left = c.1;
        cut = cut_at text so_far.front (part.0 ++ c.0) (so_far.joined ∙ ap (λ l. so_far.front ++ l) c.2)
            (subst (λ l. IsClosed so_far.front ⊎ (l ≡ [])) c.2 so_far.closed);
        no_end = part.1;
        memory = so_far.memory;
        written = so_far.written;
      }

  -- a line was read, and a beginning of its reply written
  pub all_but_one : (later : Option (List ℕ)) (line : List ℕ) (newer : Option (List ℕ)) → TakesLine after line later → AppendsFront new newer (reply_to table line)
      → AnswersAllButOne table text later old newer
  all_but_one later line newer takes begun =
      let t = taken after later so_far.rest line so_far.known takes in record {
        front = so_far.front;
        part = t.part;
        rest = t.left;
        begun = begun.0;
        unwritten = begun.1 ++ replies_to table t.left;
        left = t.known;
        cut = cut_at text so_far.front (t.part ++ t.left) (so_far.joined ∙ ap (λ l. so_far.front ++ l) t.joined)
            (subst (λ l. IsClosed so_far.front ⊎ (l ≡ [])) t.joined so_far.closed);
        one_line = t.one_line;
        memory = so_far.memory;
        begins = ap (flat_map (reply_to table)) (ap lines_of (sym t.joined) ∙ t.then_rest) ∙ ap (λ l. l ++ replies_to table t.left) begun.2 ∙ append_assoc begun.0 begun.1 (replies_to table t.left);
        written = Appends-trans old new newer (replies_to table so_far.front) begun.0 so_far.written begun.3;
      }

  -- a line was read, and its reply was written
  pub one_more : (later : Option (List ℕ)) (line : List ℕ) (newer : Option (List ℕ)) (fewer : ℕ) → TakesLine after line later → left ≡ fewer + 1 → Appends new newer (reply_to table line) → NotRefusedForMemory table line
      → Answered table allowed fewer text later old newer
  one_more later line newer fewer takes less wrote not_memory =
      let t = taken after later so_far.rest line so_far.known takes in
      let front = so_far.front ++ t.part in
      let closed = closed_front so_far.front so_far.rest so_far.closed (rw t.joined (simp length-append (let some = t.some in omega arith))) in
      let lines : lines_of front ≡ lines_of so_far.front ++ line ∷ [] = closed t.part ∙ ap (λ l. lines_of so_far.front ++ l) t.line_is in
      record {
        front = front;
        rest = t.left;
        known = t.known;
        joined = so_far.joined ∙ ap (λ l. so_far.front ++ l) t.joined ∙ sym (append_assoc so_far.front t.part t.left);
        closed = t.closed so_far.front closed;
        count = let count = so_far.count in rw lines (simp length-append (omega arith));
        written = subst (Appends old newer) (sym (ap (flat_map (reply_to table)) lines ∙ flat_map-append (reply_to table) (lines_of so_far.front) (line ∷ []) ∙ ap (λ l. replies_to table so_far.front ++ l) (append-nil (reply_to table line))))
            (Appends-trans old new newer (replies_to table so_far.front) (reply_to table line) so_far.written wrote);
        memory = subst (All (NotRefusedForMemory table)) (sym lines) (All-append (NotRefusedForMemory table) (lines_of so_far.front) (line ∷ []) so_far.memory (All-cons (NotRefusedForMemory table) line [] not_memory (All-nil (NotRefusedForMemory table))));
      }

  -- no more lines may be read, and there are more
  pub too_many : left ≡ 0 → IfSome after (λ rest. rest ≢ []) → allowed < length (lines_of text)
  too_many none more =
      let some : so_far.rest ≢ [] = subst (λ o. IfSome o (λ rest. rest ≢ [])) so_far.known more in
      let cut = cut_at text so_far.front so_far.rest so_far.joined so_far.closed in
      let positive = lines_of-some so_far.rest some in
      let count = so_far.count in
      rw (cut.between_lines) (simp length-append (omega arith))

-- a beginning of a line is part of one line
pub all_but_one_of_whole : (table : Table) (text : List ℕ) (after old new : Option (List ℕ)) → AnswersWholeLines table text after old new → AnswersAllButOne table text after old new
all_but_one_of_whole table text after old new whole = record {
  front = whole.front;
  part = whole.part;
  rest = whole.rest;
  begun = [];
  unwritten = replies_to table (whole.part ++ whole.rest);
  left = whole.left;
  cut = whole.cut;
  one_line = StopsAt-of_All whole.part 10 whole.no_end;
  memory = whole.memory;
  begins = refl;
  written = subst (Appends old new) (sym (append-nil (replies_to table whole.front))) whole.written;
}

pub beginning : (table : Table) (text : List ℕ) (after old new : Option (List ℕ)) → AnswersAllButOne table text after old new → WritesBeginning table text old new
beginning table text after old new stops = (
  replies_to table stops.front ++ stops.begun,
  stops.unwritten,
  replies_to-cut table text stops.front (stops.part ++ stops.rest) stops.cut ∙ ap (λ l. replies_to table stops.front ++ l) stops.begins ∙ sym (append_assoc (replies_to table stops.front) stops.begun stops.unwritten),
  stops.written,
)

-- ---- for a text that may be unknown

if_some : (o : Option (List ℕ)) (P Q : List ℕ → Type 0) → ((text : List ℕ) → P text → Q text) → IfSome o P → IfSome o Q
if_some None P Q f h = tt
if_some (Some text) P Q f h = f text h

on_err : {T E P : Type 0} (result : Result T E) → P → OnErr result P
on_err (Ok x) h = tt
on_err (Err e) h = h

module _ (table : Table) (before : Option (List ℕ)) (allowed left : ℕ) (after old new : Option (List ℕ))
    (so_far : IfSome before (λ text. Answered table allowed left text after old new)) where
  pub line_answered : (later : Option (List ℕ)) (line : List ℕ) (newer : Option (List ℕ)) (fewer : ℕ) → TakesLine after line later → left ≡ fewer + 1 → Appends new newer (reply_to table line) → NotRefusedForMemory table line
      → IfSome before (λ text. Answered table allowed fewer text later old newer)
  line_answered later line newer fewer takes less wrote not_memory = if_some before (λ text. Answered table allowed left text after old new) (λ text. Answered table allowed fewer text later old newer)
      (λ text h. one_more table allowed left text after old new h later line newer fewer takes less wrote not_memory) so_far

  pub refused : (failure : Option ErrorKind) (kept : ℕ) → IsRefused failure left after → kept ≡ left → HasFailed failure ⊎ HasTooManyLines before allowed kept
  refused failure kept why same = elim why [
    | inl read ↦ inl read
    | inr over ↦ inr (
      same ∙ over.0,
      if_some before (λ text. Answered table allowed left text after old new) (λ text. allowed < length (lines_of text))
          (λ text h. too_many table allowed left text after old new h over.0 over.1) so_far,
    )
  ]

module _ {T : Type 0} (result : Result T Fault) (table : Table) (before : Option (List ℕ)) (allowed left : ℕ) (after old new : Option (List ℕ))
    (so_far : IfSome before (λ text. Answered table allowed left text after old new)) where
  pub read_failed : (later : Option (List ℕ)) → TakesPart after later → OnErr result (IfSome before (λ text. AnswersAllButOne table text later old new))
  read_failed later part = on_err result (if_some before (λ text. Answered table allowed left text after old new) (λ text. AnswersAllButOne table text later old new)
      (λ text h. all_but_one_of_whole table text later old new (whole_lines table allowed left text after old new h later part)) so_far)

  pub write_failed : (later : Option (List ℕ)) (line : List ℕ) (newer : Option (List ℕ)) → TakesLine after line later → AppendsFront new newer (reply_to table line)
      → OnErr result (IfSome before (λ text. AnswersAllButOne table text later old newer))
  write_failed later line newer takes begun = on_err result (if_some before (λ text. Answered table allowed left text after old new) (λ text. AnswersAllButOne table text later old newer)
      (λ text h. all_but_one table allowed left text after old new h later line newer takes begun) so_far)

  pub memory_refused : (later : Option (List ℕ)) (line : List ℕ) → TakesLine after line later
      → OnErr result (IfSome before (λ text. AnswersAllButOne table text later old new))
  memory_refused later line takes = write_failed later line new takes ([], reply_to table line, refl, Appends-nil new)

pub begins : {T : Type 0} (result : Result T Fault) (table : Table) (before after old new : Option (List ℕ)) → OnErr result (IfSome before (λ text. AnswersAllButOne table text after old new))
    → OnErr result (IfSome before (λ text. WritesBeginning table text old new))
begins (Ok x) table before after old new h = tt
begins (Err e) table before after old new h = if_some before (λ text. AnswersAllButOne table text after old new) (λ text. WritesBeginning table text old new) (λ text. beginning table text after old new) h
