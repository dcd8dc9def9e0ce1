-- A length of at least 128, after its octets are read.
use Rattle.std.proofs.Common.{◌≡◌, ◌≢◌, ℕ, zero, suc, ◌+◌, ◌-◌, ◌<◌, ◌≤◌, Bool, true, false, List, [], ◌∷◌, length, take, get_or, Ok, Err, refl, sym, ap, ◌∙◌, subst, arith, nat_lt, nat_eq, ◌⊎◌, inl, inr, lit≤}
use Rattle.std.proofs.lemmas.List.{length-take}
use Rattle.std.proofs.lemmas.Bool.{false_from_ne_true}
use Rattle.std.proofs.lemmas.Bool.Decides.{nat_tests}
use Rattle.std.specs.Cmp.Lexicographic.{pointwise, bytes_decides}
use Rattle.std.specs.Int.Digits.{digits_of, number_from_digits, AllBelowBase}
use Rattle.std.proofs.lemmas.Int.Digits.{first_digits_of}
use Rattle.der_tlv.specs.declared.error.ErrorKind.{ErrorKind}
use Rattle.der_tlv.specs.declared.error.ErrorKind.TheVariants.{Overlength}
use Rattle.der_tlv.specs.LengthOctets.{length_octets}
use Rattle.der_tlv.specs.LengthLaws.{digits_of-number, pointwise-same}
use Rattle.der_tlv.specs.ReaderState.{ReaderState, rest, after_read, read_fault, read_fault_at}
use Rattle.der_tlv.specs.HeaderReading.{read_long_length}
use Rattle.der_tlv.specs.Reading.{OctetRead, Refuses, Refused, HeadFault, HeadRead}
use Rattle.der_tlv.proofs.Refusals.{refused_at_first, refused_since, refused_octet, went_on}
use Rattle.der_tlv.proofs.Lengths.{OctetsSoFar, no_octets, missing}

-- one of the octets is missing
pub octet_missing_at : {old now new : ReaderState} {done n : ℕ} → OctetsSoFar old now done n → (count : ℕ) → done < count → {kind : ErrorKind} → Refuses now new kind (read_fault now 1) × (now.failed ≡ false → rest now ≡ []) × (now.failed ≡ false → kind ≡ read_fault_at now.position 1 0) → HeadFault (read_long_length count) old new kind
octet_missing_at so_far count more (refused, none, fault) =
    let ready = ap (λ s. s.failed) so_far.after ∙ so_far.ready in
    record { fault_is = missing so_far count more (none ready) _ (fault ready); reader = refused_since so_far.ready (went_on _ so_far.after) (refused_octet refused) }

pub first_missing : (old new : ReaderState) (count : ℕ) → 0 < count → {kind : ErrorKind} → Refuses old new kind (read_fault old 1) × (old.failed ≡ false → rest old ≡ []) × (old.failed ≡ false → kind ≡ read_fault_at old.position 1 0) → HeadFault (read_long_length count) old new kind
first_missing old new count more (refused, none, fault) =
    refused_at_first (read_long_length count) old new _ refused (λ ready. let m = missing (no_octets old ready) count more (none ready) _ (fault ready) in let n = rw ready at m in n)

-- the octets of a length, with a known first octet
pub record LongOctets (old : ReaderState) (count n first : ℕ) : Type 0 where
  pub ready : old.failed ≡ false
  pub there : count ≤ length (rest old)
  pub number : n ≡ number_from_digits 256 (take count (rest old))
  pub below : AllBelowBase 256 (take count (rest old))
  pub others : List ℕ
  pub begins : take count (rest old) ≡ first ∷ others

pub long_octets : {old now read : ReaderState} {count n first : ℕ} → OctetsSoFar old now count n → OctetRead old read first → 0 < count → LongOctets old count n first
long_octets {old} {read} {count} {first} so_far told some =
    record { ready = so_far.ready; there = so_far.there; number = so_far.number; below = so_far.below; others = take (count - 1) (rest read); begins = ap (take count) told.first ∙ first_taken count some first (rest read) }
  where
    first_taken : (count : ℕ) → 0 < count → (x : ℕ) (xs : List ℕ) → take count (x ∷ xs) ≡ x ∷ take (count - 1) xs
    first_taken zero some x xs = absurd (omega arith)
    first_taken (suc k) some x xs = let e : suc k - 1 ≡ k = omega arith in rw e refl

enough : {old : ReaderState} {count n first : ℕ} → LongOctets old count n first → nat_lt (length (rest old)) count ≡ false
enough octets = let h = octets.there in grind (arith, nat_tests)

-- a length that does not begin with 00 and is at least 128 has the fewest octets
pub digits-of-long : {old : ReaderState} {count n first : ℕ} → LongOctets old count n first → 0 < first → digits_of 256 n ≡ take count (rest old)
digits-of-long {old} {count} {n} {first} octets some =
    ap (digits_of 256) (octets.number ∙ ap (number_from_digits 256) octets.begins) ∙ digits_of-number 256 first octets.others (lit≤ tt) some (subst (AllBelowBase 256) octets.begins octets.below) ∙ sym octets.begins

pub count-of-long : {old : ReaderState} {count n first : ℕ} → LongOctets old count n first → 0 < first → length (digits_of 256 n) ≡ count
count-of-long {old} {count} octets some = ap length (digits-of-long octets some) ∙ (let h = octets.there in omega (arith, length-take count (rest old)))

parsed_as : {old : ReaderState} {count n first : ℕ} → LongOctets old count n first → 0 < first → 128 ≤ n → read_long_length count old.position (rest old) ≡ Ok (count, n)
unfolding read_long_length length_octets
parsed_as {old} {count} {n} octets some long =
    let c = count-of-long octets some in
    let ds = digits-of-long octets some in
    let e : nat_lt n 128 ≡ false = grind (arith, nat_tests) in
    let same : pointwise nat_eq (length_octets n) ((128 + count) ∷ take count (rest old)) ≡ true = rw (e, ← ds, c) (pointwise-same ((128 + count) ∷ digits_of 256 n)) in
    rw (enough octets, ← octets.number, same) refl

pub fewest_read : {old now : ReaderState} {count n first : ℕ} → LongOctets old count n first → 0 < first → 128 ≤ n → now ≡ after_read old count → HeadRead (read_long_length count) (digits_of 256 n) old now n
fewest_read {old} {now} {count} {n} octets some long after =
    let c = count-of-long octets some in
    let ds = digits-of-long octets some in
    record {
      ready = octets.ready;
      parsed = parsed_as octets some long ∙ ap (λ k. Ok (k, n)) (sym c);
      taken = ap (λ k. take k (rest old)) c ∙ sym ds;
      after = after ∙ ap (after_read old) (sym c);
    }

short_differs : (n count : ℕ) (c : List ℕ) → nat_lt n 128 ≡ true → length_octets n ≢ (128 + count) ∷ c
unfolding length_octets
short_differs n count c e h =
    let k = rw e at h in
    let first : n ≡ 128 + count = cc in
    let small : n < 128 = grind (arith, nat_tests) in
    omega arith

zero_differs : (n count : ℕ) (c : List ℕ) → nat_lt n 128 ≡ false → length_octets n ≢ (128 + count) ∷ 0 ∷ c
unfolding length_octets
zero_differs n count c e h =
    let k = rw e at h in
    let ds : digits_of 256 n ≡ 0 ∷ c = cc in
    let more : 0 < n = grind (arith, nat_tests) in
    let first : 0 < get_or (digits_of 256 n) 0 0 = first_digits_of 256 n (lit≤ tt) more in
    let zero_first : get_or (digits_of 256 n) 0 0 ≡ 0 = ap (λ c. get_or c 0 0) ds in
    omega arith

differs : {old : ReaderState} {count n first : ℕ} → LongOctets old count n first → (first ≡ 0) ⊎ (n < 128) → length_octets n ≢ (128 + count) ∷ take count (rest old)
differs {old} {count} {n} octets more h = at (nat_lt n 128) refl
  where
    at : (b : Bool) → nat_lt n 128 ≡ b → ⊥
    at true e = short_differs n count _ e h
    at false e = elim more [
      | inl z ↦ zero_differs n count octets.others e (h ∙ ap (λ c. (128 + count) ∷ c) (octets.begins ∙ ap (λ x. x ∷ octets.others) z))
      | inr small ↦ let b : n < 128 = small in absurd (grind (arith, nat_tests))
    ]

-- a length that begins with 00 or is below 128 has an encoding in fewer octets
pub not_fewest : {old new : ReaderState} {count n first : ℕ} → LongOctets old count n first → (first ≡ 0) ⊎ (n < 128) → {kind : ErrorKind} → kind ≡ Overlength → Refused old new kind → HeadFault (read_long_length count) old new kind
unfolding read_long_length
not_fewest {old} {new} {count} {n} octets more e refused =
    let unequal : pointwise nat_eq (length_octets n) ((128 + count) ∷ take count (rest old)) ≡ false = false_from_ne_true _ (λ h. differs octets more ((bytes_decides (length_octets n) ((128 + count) ∷ take count (rest old))).0 h)) in
    record { fault_is = rw (octets.ready, enough octets, ← octets.number, unequal) (ap Err (sym e)); reader = refused }

pub whole_long : {old : ReaderState} {count n first : ℕ} → LongOctets old count n first → 0 < first → 128 ≤ n → length_octets n ≡ (128 + count) ∷ digits_of 256 n
unfolding length_octets
whole_long {old} {count} {n} octets some long =
    let e : nat_lt n 128 ≡ false = grind (arith, nat_tests) in
    rw (e, count-of-long octets some) refl
