-- A length, from its first octet on.
use Rattle.std.proofs.Common.{◌≡◌, ℕ, suc, ◌+◌, ◌-◌, ◌<◌, ◌≤◌, true, false, List, [], ◌∷◌, length, take, Result, Ok, Err, refl, sym, ap, ◌∙◌, arith, nat_lt, ◌==◌}
use Rattle.std.proofs.lemmas.Bool.Decides.{nat_tests}
use Rattle.std.specs.Int.Digits.{digits_of}
use Rattle.der_tlv.specs.declared.error.ErrorKind.{ErrorKind}
use Rattle.der_tlv.specs.declared.error.ErrorKind.TheVariants.{Overlength, IndefiniteLength}
use Rattle.der_tlv.specs.LengthOctets.{length_octets}
use Rattle.der_tlv.specs.ReaderState.{ReaderState, rest, after_read, after_fault, read_fault, read_fault_at}
use Rattle.der_tlv.specs.HeaderReading.{read_length, read_long_length, after_one}
use Rattle.std.specs.Prelude.{IfOk}
use Rattle.der_tlv.specs.declared.error.Error.{Error}
use Rattle.der_tlv.specs.Reading.{OctetRead, Refuses, HeadFault, HeadRead, ReadsHead}
use Rattle.der_tlv.proofs.Refusals.{went_on, refused_at, refused_since, refused_at_first}
use Rattle.der_tlv.proofs.Lengths.{after_more}

pub short_length : {old new : ReaderState} {x : ℕ} → OctetRead old new x → x < 128 → HeadRead read_length (length_octets x) old new x
unfolding read_length length_octets
short_length {old} {new} {x} read small =
    let e : nat_lt x 128 ≡ true = grind (arith, nat_tests) in
    record {
      ready = read.ready;
      parsed = rw (read.first, e) refl;
      taken = rw (read.first, e) refl;
      after = rw e read.after;
    }

pub no_length : {old new : ReaderState} {kind : ErrorKind} → Refuses old new kind (read_fault old 1) × (old.failed ≡ false → rest old ≡ []) × (old.failed ≡ false → kind ≡ read_fault_at old.position 1 0) → HeadFault read_length old new kind
unfolding read_length
no_length {old} {new} {kind} (refused, none, fault) =
    refused_at_first read_length old new kind refused (λ ready. rw (none ready) (ap Err (at_zero old.position ∙ sym (fault ready))))
  where
    at_zero : (p : ℕ) → read_fault_at (p + 0) 1 0 ≡ read_fault_at p 1 0
    at_zero p = ap (λ q. read_fault_at q 1 0) (let e : p + 0 ≡ p = omega arith in e)

-- a first octet that begins no length octets
pub bad_length : {old mid new : ReaderState} {x : ℕ} → OctetRead old mid x → (fault : ErrorKind) → ((p : ℕ) (xs : List ℕ) → read_length p (x ∷ xs) ≡ Err fault) → {kind : ErrorKind} → kind ≡ fault → new ≡ after_fault mid → HeadFault read_length old new kind
bad_length read fault bad e after =
    record { fault_is = rw (read.ready, read.first) (bad _ _ ∙ ap Err (sym e)); reader = refused_at read.ready (went_on _ read.after) (ap (λ s. s.failed) read.after ∙ read.ready) after }

pub indefinite : (x : ℕ) → x ≡ 128 → (p : ℕ) (xs : List ℕ) → read_length p (x ∷ xs) ≡ Err IndefiniteLength
unfolding read_length
indefinite x e p xs = rw e refl

pub too_many : (x : ℕ) → 132 < x → (p : ℕ) (xs : List ℕ) → read_length p (x ∷ xs) ≡ Err Overlength
unfolding read_length
too_many x h p xs =
    let a : nat_lt x 128 ≡ false = grind (arith, nat_tests) in
    let b : (x == 128) ≡ false = grind (arith, nat_tests) in
    let c : nat_lt 132 x ≡ true = grind (arith, nat_tests) in
    rw (a, b, c) refl

long-read : (x : ℕ) → 128 < x → x ≤ 132 → (p : ℕ) (xs : List ℕ) → read_length p (x ∷ xs) ≡ after_one (read_long_length (x - 128) (p + 1) xs)
unfolding read_length
long-read x h k p xs =
    let a : nat_lt x 128 ≡ false = grind (arith, nat_tests) in
    let b : (x == 128) ≡ false = grind (arith, nat_tests) in
    let c : nat_lt 132 x ≡ false = grind (arith, nat_tests) in
    rw (a, b, c) refl

pub long_length : {old mid new : ReaderState} {x n : ℕ} → OctetRead old mid x → 128 < x → x ≤ 132 → HeadRead (read_long_length (x - 128)) (digits_of 256 n) mid new n → length_octets n ≡ (128 + (x - 128)) ∷ digits_of 256 n → HeadRead read_length (length_octets n) old new n
long_length {old} {mid} {new} {x} {n} read h k head whole =
    let e : 128 + (x - 128) ≡ x = omega arith in
    let octets : length_octets n ≡ x ∷ digits_of 256 n = whole ∙ ap (λ x. x ∷ digits_of 256 n) e in
    let mid_position : mid.position ≡ old.position + 1 = ap (λ s. s.position) read.after in
    let parsed_there : read_long_length (x - 128) (old.position + 1) (rest mid) ≡ Ok (length (digits_of 256 n), n) = ap (λ p. read_long_length (x - 128) p (rest mid)) (sym mid_position) ∙ head.parsed in
    record {
      ready = read.ready;
      parsed = ap (read_length old.position) read.first ∙ long-read x h k old.position (rest mid) ∙ ap after_one parsed_there ∙ ap (λ c. Ok (length c, n)) (sym octets);
      taken = rw octets (ap (take (suc (length (digits_of 256 n)))) read.first ∙ ap (λ c. x ∷ c) head.taken);
      after = rw octets (head.after ∙ ap (λ s. after_read s (length (digits_of 256 n))) read.after ∙ after_more old 1 (length (digits_of 256 n)) ∙ ap (after_read old) (let s : 1 + length (digits_of 256 n) ≡ suc (length (digits_of 256 n)) = omega arith in s));
    }

pub long_fault : {old mid new : ReaderState} {x : ℕ} {kind : ErrorKind} → OctetRead old mid x → 128 < x → x ≤ 132 → HeadFault (read_long_length (x - 128)) mid new kind → HeadFault read_length old new kind
long_fault {old} {mid} {new} {x} {kind} read h k fault =
    let ready : mid.failed ≡ false = ap (λ s. s.failed) read.after ∙ read.ready in
    let there = rw ready at fault.fault_is in
    let mid_position : mid.position ≡ old.position + 1 = ap (λ s. s.position) read.after in
    let parsed_there : read_long_length (x - 128) (old.position + 1) (rest mid) ≡ Err kind = ap (λ p. read_long_length (x - 128) p (rest mid)) (sym mid_position) ∙ there in
    record { fault_is = rw read.ready (ap (read_length old.position) read.first ∙ long-read x h k old.position (rest mid) ∙ ap after_one parsed_there); reader = refused_since read.ready (went_on _ read.after) fault.reader }

pub long_reads : {old mid : ReaderState} {x : ℕ} (new : ReaderState) → OctetRead old mid x → 128 < x → x ≤ 132 → (r : Result ℕ Error) → ReadsHead (read_long_length (x - 128)) (digits_of 256) mid new r → IfOk r (λ n. length_octets n ≡ (128 + (x - 128)) ∷ digits_of 256 n) → ReadsHead read_length length_octets old new r
long_reads new read h k (Ok n) head whole = long_length read h k head whole
long_reads new read h k (Err e) head whole = long_fault read h k head
