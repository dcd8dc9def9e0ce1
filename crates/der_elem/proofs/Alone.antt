-- Octets that are an encoding and nothing else.
use Rattle.std.proofs.Common.{◌≡◌, ℕ, ◌+◌, ◌-◌, ◌^◌, nat_lt, ◌≤◌, List, [], ◌∷◌, length, take, Bool, true, false, ◌⊎◌, inl, inr, Ok, Err, refl, sym, ap, ◌∙◌, subst, arith, not, ◌==◌, zero-add}
use Rattle.std.specs.Prelude.{IsOk}
use Rattle.std.proofs.lemmas.List.{append-nil}
use Rattle.std.proofs.lemmas.Bool.{and_parts, false_from_ne_true, false≢true}
use Rattle.std.proofs.lemmas.Bool.Decides.{nat_tests}
use Rattle.std.proofs.Math.Seq.{take-length}
use Rattle.der_tlv.specs.declared.error.ErrorKind.{ErrorKind}
use Rattle.der_tlv.specs.declared.error.ErrorKind.TheVariants.{Overflow, TrailingData}
use Rattle.der_tlv.specs.declared.encoding_rules.EncodingRules.TheVariants.{Der}
use Rattle.der_tlv.specs.declared.tag.Tag.{Tag}
use Rattle.der_tlv.specs.ReaderState.{ReaderState, rest, unless_failed, new_reader, can_finish, finish_fault}
use Rattle.der_elem.specs.declared.form.Form as form
use Rattle.der_elem.specs.Accepting.{Fits, MayFollow}
use Rattle.der_elem.specs.Decoding.{RanOut, Decoded, NotDecoded, parse_all, all_parsed, AllRead, NotAllRead}

-- a new reader of all the octets
pub record OpenOf (octets : List ℕ) (s : ReaderState) : Type 0 where
  pub state : s ≡ new_reader octets Der
  pub fits : Fits octets

rest_of : {octets : List ℕ} {s : ReaderState} → OpenOf octets s → rest s ≡ octets
rest_of {octets} h = ap rest h.state ∙ take-length octets

-- an empty list may follow any octets
nothing_follows : (tags : Tag → Bool) (b : List ℕ) → MayFollow tags b []
nothing_follows tags [] = tt
nothing_follows tags (y ∷ b) = tt

module _ {T : Type 0} (F : form.Ghosts T) where
  -- the result of parsing an encoding alone
  pub parse_alone : (v : T) (octets : List ℕ) → Fits octets → F.accepts Der v octets → F.parse Der 0 octets ≡ Ok (length octets, F.encoding v)
  parse_alone v octets fits a =
      ap (F.parse Der 0) (sym (append-nil octets)) ∙ F.parse_of_accepted Der v 0 octets [] a fits (nothing_follows F.tags octets)

  -- the result of parsing that the reader sees
  parse_seen : {octets : List ℕ} {s : ReaderState} → OpenOf octets s → F.parse s.rules s.position (rest s) ≡ F.parse Der 0 octets
  parse_seen {octets} {s} h =
      ap (λ r. F.parse r s.position (rest s)) (ap (λ s. s.rules) h.state) ∙ ap (λ p. F.parse Der p (rest s)) (ap (λ s. s.position) h.state) ∙ ap (F.parse Der 0) (rest_of h)

  -- the result of parsing octets whose number fits a length
  fitting : (octets : List ℕ) → Fits octets → parse_all F.parse octets ≡ all_parsed (length octets) (F.parse Der 0 octets)
  fitting octets h = let t : nat_lt (length octets) (2 ^ 32) ≡ true = grind (arith, nat_tests) in rw t refl

  -- parsing all octets of a value gives its encoding
  pub all_of_accepted : (w : T) (octets : List ℕ) → F.accepts Der w octets → Fits octets → parse_all F.parse octets ≡ Ok (F.encoding w)
  all_of_accepted w octets a fits =
      let same : (length octets == length octets) ≡ true = grind (arith, nat_tests) in
      fitting octets fits ∙ ap (all_parsed (length octets)) (parse_alone w octets fits a) ∙ rw same refl

  fault_unread : {octets : List ℕ} {kind : ErrorKind} → parse_all F.parse octets ≡ Err kind → NotAllRead F octets kind
  fault_unread {octets} e = record { fault = e; nothing = λ w a fits. let k = sym (all_of_accepted w octets a fits) ∙ e in absurd (cc) }

  pub too_many : {octets : List ℕ} {kind : ErrorKind} → 2 ^ 32 ≤ length octets → kind ≡ Overflow → NotAllRead F octets kind
  too_many {octets} {kind} h e =
      let t : nat_lt (length octets) (2 ^ 32) ≡ false = grind (arith, nat_tests) in
      let fault : parse_all F.parse octets ≡ Err kind = rw t (ap Err (sym e)) in
      fault_unread fault

  seen_by : {octets : List ℕ} {s : ReaderState} → OpenOf octets s → unless_failed (F.parse s.rules) s ≡ F.parse Der 0 octets
  seen_by {octets} {s} h = let ready : s.failed ≡ false = ap (λ s. s.failed) h.state in rw ready (parse_seen h)

  pub not_read : {octets : List ℕ} {s new : ReaderState} {kind : ErrorKind} → OpenOf octets s → NotDecoded F s new kind → RanOut F.TAKES_MEMORY F.FAULTS_FIRST (F.parse Der 0 octets) kind ⊎ NotAllRead F octets kind
  not_read {octets} {s} {new} {kind} h told =
      elim told.reason [
        | inl m ↦ inl (record { kind_is = m.kind_is; takes = m.takes; faultless = λ first. subst IsOk (seen_by h) (m.faultless first) })
        | inr e ↦ inr (let ready : s.failed ≡ false = ap (λ s. s.failed) h.state in let there : F.parse s.rules s.position (rest s) ≡ Err kind = rw ready at e in fault_unread (fitting octets h.fits ∙ ap (all_parsed (length octets)) (sym (parse_seen h) ∙ there)))
      ]

  -- the result of parsing all octets, if a value was decoded from the first of them
  parsed_first : {octets : List ℕ} {s new : ReaderState} {v : T} → OpenOf octets s → (told : Decoded F s new v) → parse_all F.parse octets ≡ all_parsed (length octets) (Ok (told.taken, F.encoding v))
  parsed_first {octets} h told = fitting octets h.fits ∙ ap (all_parsed (length octets)) (sym (parse_seen h) ∙ told.parsed)

  position_of : {octets : List ℕ} {s new : ReaderState} {v : T} → OpenOf octets s → (told : Decoded F s new v) → new.position ≡ told.taken
  position_of h told =
      ap (λ s. s.position) told.after ∙ ap (λ s. s.position + told.taken) h.state ∙ zero-add told.taken

  input_of : {octets : List ℕ} {s new : ReaderState} {v : T} → OpenOf octets s → Decoded F s new v → new.input ≡ octets
  input_of h told = ap (λ s. s.input) told.after ∙ ap (λ s. s.input) h.state

  -- octets are left over
  pub left_over_unread : {octets : List ℕ} {s new : ReaderState} {v : T} {kind : ErrorKind} → OpenOf octets s → Decoded F s new v → can_finish new ≡ false → kind ≡ finish_fault new → NotAllRead F octets kind
  left_over_unread {octets} {s} {new} {v} {kind} h told unfinished e =
      let ready : new.failed ≡ false = ap (λ s. s.failed) told.after ∙ told.ready in
      let not_all : (new.position == length new.input) ≡ false = rw ready at unfinished in
      let other : (told.taken == length octets) ≡ false = ap (λ p. p == length octets) (sym (position_of h told)) ∙ ap (λ i. new.position == length i) (sym (input_of h told)) ∙ not_all in
      let fault : kind ≡ TrailingData told.taken (length octets - told.taken) = e ∙ unfinished_fault new ready ∙ ap (λ p. TrailingData p (length new.input - p)) (position_of h told) ∙ ap (λ i. TrailingData told.taken (length i - told.taken)) (input_of h told) in
      fault_unread (parsed_first h told ∙ rw other (ap Err (sym fault)))
    where
      unfinished_fault : (s : ReaderState) → s.failed ≡ false → finish_fault s ≡ TrailingData s.position (length s.input - s.position)
      unfinished_fault s ready = rw ready refl

  -- all of the octets belong to the value
  pub all_read : {octets : List ℕ} {s new : ReaderState} {v : T} → OpenOf octets s → Decoded F s new v → can_finish new ≡ true → AllRead F octets v
  all_read {octets} {s} {new} {v} h told finished =
      let same : (new.position == length new.input) ≡ true = (and_parts (not new.failed) (new.position == length new.input) finished).1 in
      let ends : new.position ≡ length new.input = grind (arith, nat_tests) in
      let all : told.taken ≡ length octets = sym (position_of h told) ∙ ends ∙ ap length (input_of h told) in
      let octets_are : take told.taken (rest s) ≡ octets = ap (take told.taken) (rest_of h) ∙ ap (λ n. take n octets) all ∙ take-length octets in
      let accepted : F.accepts Der v octets = subst (λ r. F.accepts r v octets) (ap (λ s. s.rules) h.state) (subst (F.accepts s.rules v) octets_are told.accepted) in
      record { accepted = accepted; fits = h.fits; parsed = all_of_accepted v octets accepted h.fits }

-- a test that is true only on success is false without success
pub unless_true : (b : Bool) → (b ≡ true → false ≡ true) → b ≡ false
unless_true b h = false_from_ne_true b (λ e. false≢true (h e))
