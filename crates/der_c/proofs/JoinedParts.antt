-- Texts of items that are joined one after another.
use Rattle.std.proofs.Common.{◌≡◌, ℕ, ◌+◌, ◌-◌, ◌^◌, ◌<◌, ◌≤◌, Bool, true, false, List, [], ◌∷◌, ◌++◌, length, take, drop, reverse, Some, None, Ok, refl, sym, ap, ◌∙◌, arith, append_assoc, subst}
use Rattle.std.specs.List.{flat_map}
use Rattle.std.proofs.lemmas.Grind.{flat_map-append}
use Rattle.std.proofs.lemmas.List.{length-append, length-drop, length-take-le, reverse-append, drop_at, drop-drop}
use Rattle.der_tlv.specs.ReaderState.{ReaderState}
use Rattle.der_elem.specs.declared.form.Form as form
use Rattle.der_lists.specs.ReadingOn.{ReadsOn}
use Rattle.der_verify.specs.Shown.{ShownToCome}
use Rattle.der_verify.proofs.ShownItems.{next_shown, none_shown}
use Rattle.der_c.specs.Joined.{Before, joined, last_first, unless_first}
use Rattle.der_c.specs.RoomText.{Puts, counted, over}
use Rattle.der_c.proofs.RoomTexts.{puts_both, puts_none}

append_nil : {X : Type 0} (xs : List X) → xs ++ [] ≡ xs
append_nil [] = refl
append_nil (x ∷ xs) = ap (λ z. x ∷ z) (append_nil xs)

assoc : {X : Type 0} (xs ys zs : List X) → (xs ++ ys) ++ zs ≡ xs ++ (ys ++ zs)
assoc [] ys zs = refl
assoc (x ∷ xs) ys zs = ap (λ z. x ∷ z) (assoc xs ys zs)

-- whether there is no text yet
abbrev pub none_yet : List (List ℕ) → Bool
none_yet [] = true
none_yet (text ∷ texts) = false

none_later : (texts : List (List ℕ)) (t : List ℕ) → false ≡ none_yet (texts ++ (t ∷ []))
none_later [] t = refl
none_later (text ∷ texts) t = refl

-- ---- one text more, behind the others

joined_more : (separator : ℕ) (texts : List (List ℕ)) (t : List ℕ) → joined separator (texts ++ (t ∷ [])) ≡ joined separator texts ++ (unless_first (none_yet texts) separator ++ t)
joined_more separator [] t = append_nil t
joined_more separator (text ∷ texts) t =
    ap (λ z. text ++ z) (flat_map-append (λ t. separator ∷ t) texts (t ∷ [])) ∙ ap (λ z. text ++ (flat_map (λ t. separator ∷ t) texts ++ z)) (append_nil (separator ∷ t))
    ∙ sym (append_assoc text (flat_map (λ t. separator ∷ t) texts) (separator ∷ t))

-- ---- one text more, before the others

reverse_more : (texts : List (List ℕ)) (t : List ℕ) → reverse (texts ++ (t ∷ [])) ≡ t ∷ reverse texts
reverse_more texts t = reverse-append texts (t ∷ [])

first_of : (texts : List (List ℕ)) (t : List ℕ) → joined 44 (t ∷ texts) ≡ (t ++ unless_first (none_yet texts) 44) ++ joined 44 texts
first_of [] t = sym (append_nil (t ++ []))
first_of (text ∷ texts) t = sym (append_assoc t (44 ∷ []) (joined 44 (text ∷ texts)))

none_reversed : (texts : List (List ℕ)) → none_yet (reverse texts) ≡ none_yet texts
none_reversed [] = refl
none_reversed (text ∷ texts) = ap none_yet (reverse-append (text ∷ []) texts) ∙ sym (none_later (reverse texts) text)

before_more : (texts : List (List ℕ)) (t : List ℕ) → last_first (texts ++ (t ∷ [])) ≡ (t ++ unless_first (none_yet texts) 44) ++ last_first texts
before_more texts t =
    ap (joined 44) (reverse_more texts t) ∙ first_of (reverse texts) t ∙ ap (λ b. (t ++ unless_first b 44) ++ last_first texts) (none_reversed texts)

-- the texts so far are the end of all
ends_all : (more texts : List (List ℕ)) → (front : List ℕ) × (last_first (texts ++ more) ≡ front ++ last_first texts)
ends_all [] texts = ([], ap last_first (append_nil texts))
ends_all (t ∷ more) texts =
    let others = ends_all more (texts ++ (t ∷ [])) in (
      others.0 ++ (t ++ unless_first (none_yet texts) 44),
      ap last_first (sym (assoc texts (t ∷ []) more)) ∙ others.1 ∙ ap (λ z. others.0 ++ z) (before_more texts t) ∙ sym (append_assoc others.0 (t ++ unless_first (none_yet texts) 44) (last_first texts)),
    )

-- ---- what was read and what is left

module _ {T : Type 0} (F : form.Ghosts T) (shows : T → List ℕ → Type 0) where
  -- some of all texts are written, and others are those of the items that are left
  pub record SoFar (all : List (List ℕ)) (now : ReaderState) (is_first : Bool) : Type 0 where
    pub done : List (List ℕ)
    pub left : List (List ℕ)
    pub to_come : ShownToCome F shows now left
    pub all_are : all ≡ done ++ left
    pub first_is : is_first ≡ none_yet done

  abbrev begin : (all : List (List ℕ)) (now : ReaderState) → ShownToCome F shows now all → SoFar all now true
  begin all now a = record { done = []; left = all; to_come = a; all_are = refl; first_is = refl }

  module _ (respects : (v w : T) (text : List ℕ) → F.encoding v ≡ F.encoding w → shows v text → shows w text) where
    -- the text of the next item
    record OneMore (all : List (List ℕ)) (new : ReaderState) (v : T) (done : List (List ℕ)) : Type 0 where
      text : List ℕ
      more : List (List ℕ)
      shows_it : shows v text
      all_are : all ≡ done ++ (text ∷ more)
      so_far : SoFar all new false
      done_are : so_far.done ≡ done ++ (text ∷ [])

    one_more : (all : List (List ℕ)) (now new : ReaderState) (is_first : Bool) (v : T) (s : SoFar all now is_first) → ReadsOn F now new (Some (Ok v)) → OneMore all new v s.done
    one_more all now new is_first v s on =
        let next = next_shown F shows respects now new s.left v s.to_come on in
        let all_are : all ≡ s.done ++ (next.first ∷ next.others) = s.all_are ∙ ap (λ z. s.done ++ z) next.are in
        record {
          text = next.first;
          more = next.others;
          shows_it = next.shows_it;
          all_are = all_are;
          so_far = record { done = s.done ++ (next.first ∷ []); left = next.others; to_come = next.left; all_are = all_are ∙ sym (assoc s.done (next.first ∷ []) next.others); first_is = none_later s.done next.first };
          done_are = refl;
        }

  all_done : (all : List (List ℕ)) (now new : ReaderState) (is_first : Bool) (s : SoFar all now is_first) → ReadsOn F now new None → all ≡ s.done
  all_done all now new is_first s on = s.all_are ∙ ap (λ z. s.done ++ z) (none_shown F shows now new s.left s.to_come on) ∙ append_nil s.done

  -- ---- joined

  pub record PutSoFar (all : List (List ℕ)) (now : ReaderState) (is_first : Bool) (old : List ℕ) (position : ℕ) (new : List ℕ) (next : ℕ) : Type 0 where
    pub so_far : SoFar all now is_first
    pub put : Puts (joined 43 so_far.done) old position new next

  abbrev pub PutLeft : ReaderState → ReaderState → Bool → List ℕ → ℕ → List ℕ → ℕ → Type 0
  PutLeft start now is_first old position new next = (all : List (List ℕ)) → ShownToCome F shows start all → PutSoFar all now is_first old position new next

  pub put_begins : (start : ReaderState) (old : List ℕ) (position : ℕ) → position < 2 ^ 64 → PutLeft start start true old position old position
  put_begins start old position h = λ all a. record { so_far = begin all start a; put = puts_none old position h }

  pub put_goes : ((v w : T) (text : List ℕ) → F.encoding v ≡ F.encoding w → shows v text → shows w text) → (start now then : ReaderState) (is_first : Bool) (v : T) (old a b new : List ℕ) (position i j n : ℕ) → length old < 2 ^ 64 → length a < 2 ^ 64 → PutLeft start now is_first old position a i → ReadsOn F now then (Some (Ok v)) → Puts (unless_first is_first 43) a i b j → ((text : List ℕ) → shows v text → Puts text b j new n) → PutLeft start then false old position new n
  put_goes respects start now then is_first v old a b new position i j n few short left on one two = λ all shown.
      let so = left all shown in
      let next = one_more respects all now then is_first v so.so_far on in
      let separated = unless_first is_first 43 in
      let P : Bool → Type 0 = λ f. Puts (unless_first f 43 ++ next.text) a i new n in
      let piece = subst P so.so_far.first_is (puts_both (unless_first is_first 43) next.text a b new i j n short one (two next.text next.shows_it)) in
      let Q : List ℕ → Type 0 = λ t. Puts t old position new n in
      let whole : joined 43 next.so_far.done ≡ joined 43 so.so_far.done ++ (unless_first (none_yet so.so_far.done) 43 ++ next.text) = ap (joined 43) next.done_are ∙ joined_more 43 so.so_far.done next.text in
      record { so_far = next.so_far; put = subst Q (sym whole) (puts_both (joined 43 so.so_far.done) (unless_first (none_yet so.so_far.done) 43 ++ next.text) old a new position i n few so.put piece) }

  pub put_ends : (start now new : ReaderState) (is_first : Bool) (old room : List ℕ) (position next : ℕ) → PutLeft start now is_first old position room next → ReadsOn F now new None → (all : List (List ℕ)) → ShownToCome F shows start all → Puts (joined 43 all) old position room next
  put_ends start now new is_first old room position next left on all shown =
      let so = left all shown in
      let P : List (List ℕ) → Type 0 = λ t. Puts (joined 43 t) old position room next in
      subst P (sym (all_done all now new is_first so.so_far on)) so.put

  -- ---- measured

  pub record CountedSoFar (all : List (List ℕ)) (now : ReaderState) (is_first : Bool) (count : ℕ) : Type 0 where
    pub so_far : SoFar all now is_first
    pub count_is : count ≡ counted (length (last_first so_far.done))

  abbrev pub CountLeft : ReaderState → ReaderState → Bool → ℕ → Type 0
  CountLeft start now is_first count = (all : List (List ℕ)) → ShownToCome F shows start all → CountedSoFar all now is_first count

  pub count_begins : (start : ReaderState) → CountLeft start start true 0
  count_begins start = λ all a. record { so_far = begin all start a; count_is = refl }

  counted_more : (own text separator other count sum all : ℕ) → own ≡ counted (0 + text) → count ≡ counted other → all ≡ (text + separator) + other → sum ≡ counted (own + separator + count) → sum ≡ counted all
  counted_more own text separator other count sum all a b c d = omega arith

  pub count_goes : ((v w : T) (text : List ℕ) → F.encoding v ≡ F.encoding w → shows v text → shows w text) → (start now then : ReaderState) (is_first : Bool) (v : T) (room : List ℕ) (own count sum : ℕ) → CountLeft start now is_first count → ReadsOn F now then (Some (Ok v)) → ((text : List ℕ) → shows v text → Puts text [] 0 room own) → sum ≡ counted (own + length (unless_first is_first 44) + count) → CountLeft start then false sum
  count_goes respects start now then is_first v room own count sum left on one both = λ all shown.
      let so = left all shown in
      let next = one_more respects all now then is_first v so.so_far on in
      let whole : last_first next.so_far.done ≡ (next.text ++ unless_first (none_yet so.so_far.done) 44) ++ last_first so.so_far.done = ap last_first next.done_are ∙ before_more so.so_far.done next.text in
      let size : length (last_first next.so_far.done) ≡ (length next.text + length (unless_first is_first 44)) + length (last_first so.so_far.done) =
      ap length whole ∙ length-append (next.text ++ unless_first (none_yet so.so_far.done) 44) (last_first so.so_far.done)
      ∙ ap (λ k. k + length (last_first so.so_far.done)) (length-append next.text (unless_first (none_yet so.so_far.done) 44))
      ∙ ap (λ f. (length next.text + length (unless_first f 44)) + length (last_first so.so_far.done)) (sym so.so_far.first_is) in
      record {
        so_far = next.so_far;
        count_is = counted_more own (length next.text) (length (unless_first is_first 44)) (length (last_first so.so_far.done)) count sum (length (last_first next.so_far.done)) (one next.text next.shows_it).next_is so.count_is size both;
      }

  pub count_ends : (start now new : ReaderState) (is_first : Bool) (count : ℕ) → CountLeft start now is_first count → ReadsOn F now new None → (all : List (List ℕ)) → ShownToCome F shows start all → count ≡ counted (length (last_first all))
  count_ends start now new is_first count left on all shown =
      let so = left all shown in
      so.count_is ∙ ap (λ t. counted (length (last_first t))) (sym (all_done all now new is_first so.so_far on))

  -- ---- written, the last one first

  pub record WrittenSoFar (all : List (List ℕ)) (now : ReaderState) (is_first : Bool) (count : ℕ) (old new : List ℕ) (end : ℕ) : Type 0 where
    pub so_far : SoFar all now is_first
    pub ends : end + length (last_first so_far.done) ≡ count
    pub octets_are : drop end new ≡ last_first so_far.done ++ drop count old

  abbrev pub WriteLeft : ReaderState → ReaderState → Bool → ℕ → List ℕ → List ℕ → ℕ → Type 0
  WriteLeft start now is_first count old new end = (all : List (List ℕ)) → ShownToCome F shows start all → count ≡ length (last_first all) → count ≤ length old → WrittenSoFar all now is_first count old new end

  pub write_begins : (start : ReaderState) (count : ℕ) (old : List ℕ) → WriteLeft start start true count old old count
  write_begins start count old = λ all a e f. record { so_far = begin all start a; ends = omega arith; octets_are = refl }

  pub write_goes : ((v w : T) (text : List ℕ) → F.encoding v ≡ F.encoding w → shows v text → shows w text) → (start now then : ReaderState) (is_first : Bool) (v : T) (count : ℕ) (old mid new : List ℕ) (end begin : ℕ) → length mid ≡ length old → WriteLeft start now is_first count old mid end → ReadsOn F now then (Some (Ok v))
      → ((text : List ℕ) → shows v text → length (text ++ unless_first is_first 44) ≤ end → end ≤ length mid → Before (text ++ unless_first is_first 44) mid end new begin) → WriteLeft start then false count old new begin
  write_goes respects start now then is_first v count old mid new end begin same left on one = λ all shown size fits.
      let so = left all shown size fits in
      let done = so.so_far.done in
      let next = one_more respects all now then is_first v so.so_far on in
      let piece : List ℕ = next.text ++ unless_first is_first 44 in
      let tail = ends_all next.more (done ++ (next.text ∷ [])) in
      let whole : last_first (done ++ (next.text ∷ [])) ≡ piece ++ last_first done =
      before_more done next.text ∙ ap (λ f. (next.text ++ unless_first f 44) ++ last_first done) (sym so.so_far.first_is) in
      let total : count ≡ length tail.0 + (length piece + length (last_first done)) =
      size ∙ ap (λ t. length (last_first t)) (next.all_are ∙ sym (assoc done (next.text ∷ []) next.more)) ∙ ap length tail.1 ∙ length-append tail.0 (last_first (done ++ (next.text ∷ [])))
      ∙ ap (λ k. length tail.0 + k) (ap length whole ∙ length-append piece (last_first done)) in
      let e = so.ends in
      let before = one next.text next.shows_it (omega arith) (omega arith) in
      let b = before.ends in
      let now_done : last_first next.so_far.done ≡ piece ++ last_first done = ap last_first next.done_are ∙ whole in
      let long : length (last_first next.so_far.done) ≡ length piece + length (last_first done) = ap length now_done ∙ length-append piece (last_first done) in
      record {
        so_far = next.so_far;
        ends = omega arith;
        octets_are = before.octets_are ∙ ap (λ z. piece ++ z) so.octets_are ∙ sym (append_assoc piece (last_first done) (drop count old)) ∙ ap (λ z. z ++ drop count old) (sym now_done);
      }

  pub write_ends : (start now new : ReaderState) (is_first : Bool) (count : ℕ) (old room : List ℕ) (end : ℕ) → WriteLeft start now is_first count old room end → ReadsOn F now new None → (all : List (List ℕ)) → ShownToCome F shows start all → count ≡ length (last_first all) → count ≤ length old → room ≡ last_first all ++ drop count old
  write_ends start now new is_first count old room end left on all shown size fits =
      let so = left all shown size fits in
      let done = all_done all now new is_first so.so_far on in
      let l : length (last_first all) ≡ length (last_first so.so_far.done) = ap (λ t. length (last_first t)) done in
      let e = so.ends in
      let front : end ≡ 0 = omega arith in
      ap (λ k. drop k room) (sym front) ∙ so.octets_are ∙ ap (λ t. last_first t ++ drop count old) (sym done)

-- ---- one piece before what follows it

pub over_whole : (text room : List ℕ) → length text ≤ length room → over text room ≡ text ++ drop (length text) room
over_whole [] room h = refl
over_whole (x ∷ text) [] h = absurd (omega arith)
over_whole (x ∷ text) (octet ∷ room) h = ap (λ z. x ∷ z) (over_whole text room (omega arith))

pub put_before : (text old mid new a : List ℕ) (is_first : Bool) (own begin end j n : ℕ) → length old < 2 ^ 64 → end < 2 ^ 64 → Puts text [] 0 a own → begin ≡ end - own - length (unless_first is_first 44) → Puts text old begin mid j → Puts (unless_first is_first 44) mid j new n → length (text ++ unless_first is_first 44) ≤ end → end ≤ length old → Before (text ++ unless_first is_first 44) old end new begin
put_before text old mid new a is_first own begin end j n few short measured is one two room within =
    let piece : List ℕ = text ++ unless_first is_first 44 in
    let size : length piece ≡ length text + length (unless_first is_first 44) = length-append text (unless_first is_first 44) in
    let ends : begin + length piece ≡ end = at own (length text) (length (unless_first is_first 44)) (length piece) begin end measured.next_is is size room short in
    let both = puts_both text (unless_first is_first 44) old mid new begin j n few one two in
    let front : length (take begin old) ≡ begin = length-take-le begin old (omega arith) in
    let behind : length (drop begin old) ≡ length old - begin = length-drop begin old in
    record {
      ends = ends;
      octets_are = ap (drop begin) both.octets_are ∙ drop_at (take begin old) (over piece (drop begin old)) begin front ∙ over_whole piece (drop begin old) (omega arith)
          ∙ ap (λ z. piece ++ z) (drop-drop (length piece) begin old ∙ ap (λ k. drop k old) ends);
    }
  where
    at : (own text separator piece begin end : ℕ) → own ≡ counted (0 + text) → begin ≡ end - own - separator → piece ≡ text + separator → piece ≤ end → end < 2 ^ 64 → begin + piece ≡ end
    at own text separator piece begin end o b p r s = omega arith
