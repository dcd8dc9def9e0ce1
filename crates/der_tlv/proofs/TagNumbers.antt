-- Reading a tag number of more than 30, digit by digit.
use Rattle.std.proofs.Common.{◌≡◌, ℕ, zero, suc, ◌+◌, ◌<◌, ◌≤◌, ◌^◌, List, [], ◌∷◌, ◌++◌, length, take, Bool, true, false, if◌then◌else◌, Some, None, Result, Err, refl, sym, ap, ◌∙◌, arith, append_assoc, append-nil, length-append, add-zero}
use Rattle.std.proofs.lemmas.List.{take_at}
use Rattle.der_tlv.specs.declared.error.ErrorKind.{ErrorKind}
use Rattle.der_tlv.specs.declared.error.ErrorKind.TheVariants.{Failed, TagNumberInvalid}
use Rattle.der_tlv.specs.ReaderState.{ReaderState, rest, after_read, after_fault, read_fault, read_fault_at, unless_failed}
use Rattle.der_tlv.specs.Identifier.{number_octets}
use Rattle.der_tlv.specs.HeaderReading.{read_number}
use Rattle.der_tlv.specs.Reading.{OctetRead, Refuses, Refused, HeadRead, HeadFault}
use Rattle.der_tlv.proofs.Refusals.{went_on, went_further, refused_at, refused_since, refused_octet, refused_here, ready_not_failed, failed_fault}
use Rattle.der_tlv.specs.TagDigits.{leading_octets, with_digit}
use Rattle.der_tlv.specs.TagReadingLaws.{read_number-missing, read_number-invalid, read_number-last, leading_octets-more, with_digit-fits}

-- the digits of n have been read, each with bit 8 set
pub record NumberSoFar (old now : ReaderState) (n : ℕ) : Type 0 where
  pub fits : n < 2 ^ 32
  pub taken : rest old ≡ leading_octets n ++ rest now
  pub after : now ≡ after_read old (length (leading_octets n))
  pub begun : 0 < length (leading_octets n) → old.failed ≡ false

-- before the first digit
pub no_digits : (s : ReaderState) → NumberSoFar s s 0
no_digits s = record { fits = omega arith; taken = refl; after = sym (ap (λ k. record s { position = k }) (add-zero s.position)); begun = λ some. absurd (omega arith) }

-- one octet after those that were read
pub taken_with : {old now next : ReaderState} {n octet : ℕ} → NumberSoFar old now n → OctetRead now next octet → rest old ≡ (leading_octets n ++ (octet ∷ [])) ++ rest next
taken_with {next = next} {n = n} {octet = octet} so_far read = so_far.taken ∙ ap (λ z. leading_octets n ++ z) read.first ∙ sym (append_assoc (leading_octets n) (octet ∷ []) (rest next))

-- the state of the reader after one more octet
after_with : {old now next : ReaderState} {n octet : ℕ} → NumberSoFar old now n → OctetRead now next octet → next ≡ after_read old (length (leading_octets n ++ (octet ∷ [])))
after_with {old = old} {n = n} {octet = octet} so_far read =
    let count = length-append (leading_octets n) (octet ∷ []) in
    let position : old.position + length (leading_octets n) + 1 ≡ old.position + length (leading_octets n ++ (octet ∷ [])) = omega arith in
    read.after ∙ ap (λ s. after_read s 1) so_far.after ∙ ap (λ k. record old { position = k }) position

-- the reader had not failed before
ready_before : {old now : ReaderState} {n : ℕ} → NumberSoFar old now n → now.failed ≡ false → old.failed ≡ false
ready_before so_far ready = sym (ap (λ (s : ReaderState). s.failed) so_far.after) ∙ ready

-- one more digit, which is not the last
pub one_digit_more : {old now next : ReaderState} {n octet more : ℕ} → NumberSoFar old now n → OctetRead now next octet → Some more ≡ with_digit n octet → 128 ≤ octet → octet < 256 → NumberSoFar old next more
one_digit_more {old = old} {next = next} {n = n} {octet = octet} {more = more} so_far read digit high small =
    let octets = leading_octets-more n octet more (sym digit) high small in record {
      fits = with_digit-fits n octet more (sym digit);
      taken = taken_with so_far read ∙ ap (λ z. z ++ rest next) octets;
      after = after_with so_far read ∙ ap (λ z. after_read old (length z)) octets;
      begun = λ some. ready_before so_far read.ready;
    }

-- the last digit
pub number_read : {old now next : ReaderState} {n octet v : ℕ} → NumberSoFar old now n → OctetRead now next octet → with_digit n octet ≡ Some v → octet < 128 → HeadRead read_number (number_octets v) old next v
number_read {old = old} {next = next} {n = n} {octet = octet} {v = v} so_far read digit low =
    let last = read_number-last old.position n octet v (rest next) digit low in
    let whole : rest old ≡ number_octets v ++ rest next = taken_with so_far read ∙ ap (λ z. z ++ rest next) last.1 in
    record {
      ready = ready_before so_far read.ready;
      parsed = ap (read_number old.position) (taken_with so_far read ∙ append_assoc (leading_octets n) (octet ∷ []) (rest next)) ∙ last.0;
      taken = ap (take (length (number_octets v))) whole ∙ take_at (number_octets v) (rest next) (length (number_octets v)) refl;
      after = after_with so_far read ∙ ap (λ z. after_read old (length z)) last.1;
    }

-- the result of parsing for a reader that has not failed
pub seen_ready : {A : Type 0} (parse : ℕ → List ℕ → Result A ErrorKind) (s : ReaderState) → s.failed ≡ false → unless_failed parse s ≡ parse s.position (rest s)
seen_ready parse s e = ap (λ b. if b then Err Failed else parse s.position (rest s)) e

-- an octet that is not a valid digit
pub number_invalid : {old now next new : ReaderState} {n octet : ℕ} → NumberSoFar old now n → OctetRead now next octet → with_digit n octet ≡ None → new ≡ after_fault next → HeadFault read_number old new TagNumberInvalid
number_invalid {old = old} {next = next} {n = n} {octet = octet} so_far read digit after = record {
  fault_is = seen_ready read_number old (ready_before so_far read.ready) ∙ ap (read_number old.position) (taken_with so_far read ∙ append_assoc (leading_octets n) (octet ∷ []) (rest next)) ∙ read_number-invalid old.position n octet (rest next) digit;
  reader = refused_at (ready_before so_far read.ready) (went_further (went_on _ so_far.after) (went_on _ read.after)) (ap (λ (s : ReaderState). s.failed) read.after ∙ read.ready) after;
}

-- a digit is missing
pub number_missing : {old now new : ReaderState} {n : ℕ} {kind : ErrorKind} → NumberSoFar old now n → Refuses now new kind (read_fault now 1) × (now.failed ≡ false → rest now ≡ []) × (now.failed ≡ false → kind ≡ read_fault_at now.position 1 0) → HeadFault read_number old new kind
number_missing {old = old} {now = now} {new = new} {n = n} {kind = kind} so_far (refused, none, fault) = record { fault_is = at old.failed refl; reader = refused_there old.failed refl }
  where
    same_failed : now.failed ≡ old.failed
    same_failed = ap (λ (s : ReaderState). s.failed) so_far.after

    -- nothing was read from a reader that had failed
    unread : (count : ℕ) → (0 < count → old.failed ≡ false) → old.failed ≡ true → count ≡ 0
    unread zero ready e = refl
    unread (suc k) ready e = ready_not_failed (ready (omega arith)) e

    unmoved : old.failed ≡ true → now ≡ old
    unmoved e = so_far.after ∙ ap (λ k. record old { position = old.position + k }) (unread (length (leading_octets n)) so_far.begun e) ∙ ap (λ k. record old { position = k }) (add-zero old.position)

    refused_there : (b : Bool) → old.failed ≡ b → Refused old new kind
    refused_there true e = refused_here (refused.after ∙ ap after_fault (unmoved e)) (λ h. refused.fault_is ∙ failed_fault now 1 (same_failed ∙ h))
    refused_there false e = refused_since e (went_on _ so_far.after) (refused_octet refused)

    at : (b : Bool) → old.failed ≡ b → unless_failed read_number old ≡ Err kind
    at true e = ap (λ b. if b then Err Failed else read_number old.position (rest old)) e ∙ ap (λ k. Err k) (sym (refused.fault_is ∙ failed_fault now 1 (same_failed ∙ e)))
    at false e =
        let ready : now.failed ≡ false = same_failed ∙ e in
        let whole : rest old ≡ leading_octets n = so_far.taken ∙ ap (λ z. leading_octets n ++ z) (none ready) ∙ append-nil (leading_octets n) in
        let position : now.position ≡ old.position + length (leading_octets n) = ap (λ (s : ReaderState). s.position) so_far.after in
        seen_ready read_number old e ∙ ap (read_number old.position) whole ∙ read_number-missing old.position n so_far.fits
        ∙ ap (λ k. Err k) (sym (fault ready ∙ ap (λ k. read_fault_at k 1 0) position))
