-- Reading identifier octets: the first, and then the number.
use Rattle.std.proofs.Common.{◌≡◌, ℕ, suc, ◌+◌, ◌%◌, ◌<◌, ◌≤◌, [], ◌∷◌, length, take, false, Result, Ok, Err, sym, ap, subst, ◌∙◌, arith}
use Rattle.der_tlv.specs.declared.error.ErrorKind.{ErrorKind}
use Rattle.der_tlv.specs.declared.tag.Tag.{Tag}
use Rattle.der_tlv.specs.ReaderState.{ReaderState, rest, after_read, after_fault, read_fault, read_fault_at}
use Rattle.der_tlv.specs.Identifier.{identifier, number_octets}
use Rattle.der_tlv.specs.HeaderReading.{read_number, read_tag, tag_of_octets, tag_with_number, counted_tag}
use Rattle.der_tlv.specs.Reading.{OctetRead, Refuses, HeadRead, HeadFault}
use Rattle.der_tlv.specs.TagReadingLaws.{read_tag-short, read_tag-long}
use Rattle.der_tlv.proofs.Refusals.{Went, went_on, went_further, refused_at, refused_since, refused_at_first}
use Rattle.der_tlv.proofs.TagNumbers.{seen_ready}
use Rattle.der_tlv.proofs.TagsOfOctets.{identifier-short, identifier-long}

-- the first octet and the number have been read
pub data NumberRead (old now : ReaderState) (first n : ℕ) : Type 0 where
  in_first : OctetRead old now first → first < 256 → first % 32 < 31 → n ≡ first % 32 → NumberRead old now first n
  behind : (mid : ReaderState) → OctetRead old mid first → first < 256 → first % 32 ≡ 31 → HeadRead read_number (number_octets n) mid now n → 31 ≤ n → NumberRead old now first n

-- the number is in the first octet
pub number_in_first : {old mid now : ReaderState} {first n : ℕ} → OctetRead old mid first → first < 256 → first % 32 < 31 → n ≡ first % 32 → now ≡ mid → NumberRead old now first n
number_in_first {old = old} {first = first} {n = n} read small low is same = subst (λ s. NumberRead old s first n) (sym same) (in_first read small low is)

-- the number is after the first octet
pub number_following : {old mid last now : ReaderState} {first m n : ℕ} → OctetRead old mid first → first < 256 → 31 ≤ first % 32 → HeadRead read_number (number_octets m) mid last m → 31 ≤ m → n ≡ m → now ≡ last → NumberRead old now first n
number_following {old = old} {mid = mid} {last = last} {now = now} {first = first} {m = m} {n = n} read small low number great is same =
    subst (λ s. NumberRead old s first n) (sym same) (subst (λ k. NumberRead old last first k) (sym is) (behind mid read small (omega arith) number great))

-- the first octet is missing
pub first_missing : {old new : ReaderState} {kind : ErrorKind} → Refuses old new kind (read_fault old 1) × (old.failed ≡ false → rest old ≡ []) × (old.failed ≡ false → kind ≡ read_fault_at old.position 1 0) → HeadFault read_tag old new kind
unfolding read_tag
first_missing {old = old} {new = new} {kind = kind} (refused, none, fault) =
    refused_at_first read_tag old new kind refused (λ e. let k : old.position + 0 ≡ old.position = omega arith in ap (read_tag old.position) (none e) ∙ ap (λ p. Err (read_fault_at p 1 0)) k ∙ ap (λ x. Err x) (sym (fault e)))

-- the result of reading, from the number on
parsed_number : {old now : ReaderState} {first n : ℕ} → NumberRead old now first n → (r : Result Tag ErrorKind) → tag_of_octets first n ≡ r → (count : ℕ) × (read_tag old.position (rest old) ≡ counted_tag count r)
parsed_number {old = old} {now = now} {first = first} {n = n} (in_first read small low is) r e =
    (1, ap (read_tag old.position) read.first ∙ read_tag-short old.position first (rest now) (λ k. omega arith) ∙ ap (λ k. counted_tag 1 (tag_of_octets first k)) (sym is) ∙ ap (counted_tag 1) e)
parsed_number {old = old} {now = now} {first = first} {n = n} (behind mid read small low number great) r e =
    let position : mid.position ≡ old.position + 1 = ap (λ (s : ReaderState). s.position) read.after in
    (1 + length (number_octets n), ap (read_tag old.position) read.first ∙ read_tag-long old.position first (rest mid) low ∙ ap (λ p. tag_with_number first (read_number p (rest mid))) (sym position) ∙ ap (tag_with_number first) number.parsed ∙ ap (counted_tag (1 + length (number_octets n))) e)

-- the reader had not failed
ready_then : {old now : ReaderState} {first n : ℕ} → NumberRead old now first n → old.failed ≡ false
ready_then (in_first read small low is) = read.ready
ready_then (behind mid read small low number great) = read.ready

-- the reader has read further
went_with : {old now : ReaderState} {first n : ℕ} → NumberRead old now first n → Went old now
went_with (in_first read small low is) = went_on _ read.after
went_with (behind mid read small low number great) = went_further (went_on _ read.after) (went_on _ number.after)

still_ready : {old now : ReaderState} {first n : ℕ} → NumberRead old now first n → now.failed ≡ false
still_ready (in_first read small low is) = ap (λ (s : ReaderState). s.failed) read.after ∙ read.ready
still_ready (behind mid read small low number great) = ap (λ (s : ReaderState). s.failed) number.after ∙ number.ready

-- these octets are the identifier of no tag
pub tag_refused : {old now new : ReaderState} {first n : ℕ} {kind : ErrorKind} → NumberRead old now first n → tag_of_octets first n ≡ Err kind → new ≡ after_fault now → HeadFault read_tag old new kind
tag_refused {old = old} {kind = kind} number e after = record {
  fault_is = seen_ready read_tag old (ready_then number) ∙ (parsed_number number (Err kind) e).1;
  reader = refused_at (ready_then number) (went_with number) (still_ready number) after;
}

-- an error in the number
pub number_refused : {old mid new : ReaderState} {first : ℕ} {kind : ErrorKind} → OctetRead old mid first → first % 32 ≡ 31 → HeadFault read_number mid new kind → HeadFault read_tag old new kind
number_refused {old = old} {mid = mid} {first = first} read low fault =
    let position : mid.position ≡ old.position + 1 = ap (λ (s : ReaderState). s.position) read.after in
    let ready : mid.failed ≡ false = ap (λ (s : ReaderState). s.failed) read.after ∙ read.ready in
    record {
      fault_is = seen_ready read_tag old read.ready ∙ ap (read_tag old.position) read.first ∙ read_tag-long old.position first (rest mid) low ∙ ap (λ p. tag_with_number first (read_number p (rest mid))) (sym position) ∙ ap (tag_with_number first) (sym (seen_ready read_number mid ready) ∙ fault.fault_is);
      reader = refused_since read.ready (went_on _ read.after) fault.reader;
    }

-- the tag of these octets
pub tag_read : {old now : ReaderState} {first n : ℕ} {t : Tag} → NumberRead old now first n → tag_of_octets first n ≡ Ok t → HeadRead read_tag (identifier t) old now t
tag_read {old = old} {now = now} {first = first} {n = n} {t = t} (in_first read small low is) e =
    let tag : tag_of_octets first (first % 32) ≡ Ok t = ap (tag_of_octets first) (sym is) ∙ e in
    let octets : first ∷ [] ≡ identifier t = sym (identifier-short first t small low tag) in
    record {
      ready = read.ready;
      parsed = ap (read_tag old.position) read.first ∙ read_tag-short old.position first (rest now) (λ k. omega arith) ∙ ap (counted_tag 1) tag ∙ ap (λ z. Ok (length z, t)) octets;
      taken = ap (take (length (identifier t))) read.first ∙ ap (λ z. take (length z) (first ∷ rest now)) (sym octets) ∙ octets;
      after = read.after ∙ ap (λ z. after_read old (length z)) octets;
    }
tag_read {old = old} {now = now} {first = first} {n = n} {t = t} (behind mid read small low number great) e =
    let octets : first ∷ number_octets n ≡ identifier t = sym (identifier-long first n t small low great e) in
    let position : mid.position ≡ old.position + 1 = ap (λ (s : ReaderState). s.position) read.after in
    let count : 1 + length (number_octets n) ≡ suc (length (number_octets n)) = omega arith in
    let further : old.position + 1 + length (number_octets n) ≡ old.position + suc (length (number_octets n)) = omega arith in
    record {
      ready = read.ready;
      parsed = ap (read_tag old.position) read.first ∙ read_tag-long old.position first (rest mid) low ∙ ap (λ p. tag_with_number first (read_number p (rest mid))) (sym position) ∙ ap (tag_with_number first) number.parsed ∙ ap (counted_tag (1 + length (number_octets n))) e ∙ ap (λ k. Ok (k, t)) count ∙ ap (λ z. Ok (length z, t)) octets;
      taken = ap (take (length (identifier t))) read.first ∙ ap (λ z. take (length z) (first ∷ rest mid)) (sym octets) ∙ ap (λ z. first ∷ z) number.taken ∙ octets;
      after = number.after ∙ ap (λ s. after_read s (length (number_octets n))) read.after ∙ ap (λ p. record old { position = p }) further ∙ ap (λ z. after_read old (length z)) octets;
    }
