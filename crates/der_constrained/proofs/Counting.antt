-- Encodings are counted one after another, by their headers.
use Rattle.std.proofs.Common.{◌≡◌, ℕ, zero, suc, ◌+◌, ◌-◌, ◌<◌, ◌≤◌, List, [], length, drop, false, Result, Ok, Err, refl, sym, ap, ◌∙◌, arith}
use Rattle.std.proofs.Math.Seq.{take-length}
use Rattle.std.proofs.lemmas.List.{length-append, length-drop}
use Rattle.der_tlv.specs.declared.encoding_rules.EncodingRules.TheVariants.{Der}
use Rattle.der_tlv.specs.declared.error.ErrorKind.{ErrorKind}
use Rattle.der_tlv.specs.declared.header.Header.{Header}
use Rattle.der_tlv.specs.Identifier.{identifier}
use Rattle.der_tlv.specs.IdentifierLaws.{length-identifier-positive}
use Rattle.der_tlv.specs.LengthOctets.{length_octets}
use Rattle.der_tlv.specs.HeaderOctets.{tlv}
use Rattle.der_tlv.specs.HeaderReading.{octets_of}
use Rattle.der_tlv.specs.Opening.{ContentsRead, ContentsRefused}
use Rattle.der_tlv.specs.ReaderState.{ReaderState, IsReaderState, rest, new_reader, after_read}
use Rattle.der_tlv.proofs.ReaderStates.{rest-after_read}
use Rattle.der_elem.proofs.AtContents.{at_header}
use Rattle.der_opaque.specs.AnyForm.{parse_any}
use Rattle.der_opaque.proofs.AnyDecoding.{not_read_any, parsed_any, after_any}
use Rattle.der_nest.specs.Lists.{before_others, then_others, parse_each}
use Rattle.der_nest.specs.ListLaws.{parse_each-end, parse_each-step}
use Rattle.der_nest.specs.ReReading.{encodings_or_none}
use Rattle.der_constrained.specs.Components.{component_count}

-- the count plus the number of the other encodings, or 0 if the others are not read
abbrev pub with_others : ℕ → Result (List (List ℕ)) ErrorKind → ℕ
with_others count (Ok others) = count + length others
with_others count (Err kind) = 0

with_no_others : (others : Result (List (List ℕ)) ErrorKind) → length (encodings_or_none others) ≡ with_others 0 others
with_no_others (Ok others) = omega arith
with_no_others (Err kind) = refl

with_one_more : (count : ℕ) (encoding : List ℕ) (others : Result (List (List ℕ)) ErrorKind) → with_others count (before_others encoding others) ≡ with_others (count + 1) others
with_one_more count encoding (Ok others) = omega arith
with_one_more count encoding (Err kind) = refl

-- the octets left of a reader, read as at most `most` encodings
abbrev pub left_to_read : ℕ → ReaderState → Result (List (List ℕ)) ErrorKind
left_to_read most s = parse_each most parse_any Der s.position (rest s)

-- the count increases by one if the next encoding is read
one_more_read : (count most p taken : ℕ) (octets encoding : List ℕ) → 0 < length octets → length octets ≤ most → parse_any Der p octets ≡ Ok (taken, encoding) → with_others count (parse_each most parse_any Der p octets) ≡ with_others (count + 1) (parse_each (most - 1) parse_any Der (p + taken) (drop taken octets))
one_more_read count zero p taken octets encoding some enough parsed = absurd (omega arith)
one_more_read count (suc more) p taken octets encoding some enough parsed =
    let one_less : more ≡ suc more - 1 = omega arith in
    ap (with_others count) (parse_each-step more parse_any Der p octets some ∙ ap (λ r. then_others r (λ n. parse_each more parse_any Der (p + n) (drop n octets))) parsed)
    ∙ with_one_more count encoding (parse_each more parse_any Der (p + taken) (drop taken octets))
    ∙ ap (λ m. with_others (count + 1) (parse_each m parse_any Der (p + taken) (drop taken octets))) one_less

-- the count is 0 if the next encoding is not read
none_read : (count most p : ℕ) (octets : List ℕ) (kind : ErrorKind) → 0 < length octets → length octets ≤ most → parse_any Der p octets ≡ Err kind → with_others count (parse_each most parse_any Der p octets) ≡ 0
none_read count zero p octets kind some enough fault = absurd (omega arith)
none_read count (suc more) p octets kind some enough fault =
    ap (with_others count) (parse_each-step more parse_any Der p octets some ∙ ap (λ r. then_others r (λ n. parse_each more parse_any Der (p + n) (drop n octets))) fault)

-- a header has octets
some_taken : (h : Header) → 0 < length (octets_of h)
some_taken h =
    let some = length-identifier-positive h.tag in
    omega (arith, length-append (identifier h.tag) (length_octets h.length))

module _ (octets : List ℕ) where
  -- this number of encodings was read, and the others are in the octets left
  pub record CountedTo (now : ReaderState) (count : ℕ) : Type 0 where
    pub ready : now.failed ≡ false
    pub rules : now.rules ≡ Der
    pub most : ℕ
    pub few : most + count ≡ length octets
    pub enough : length (rest now) ≤ most
    pub whole : component_count octets ≡ with_others count (left_to_read most now)

  pub none_counted : (now : ReaderState) → now ≡ new_reader octets Der → CountedTo now 0
  none_counted now new =
      let left : rest now ≡ octets = ap rest new ∙ take-length octets in
      record {
        ready = ap (λ s. s.failed) new;
        rules = ap (λ s. s.rules) new;
        most = length octets;
        few = omega arith;
        enough = omega (arith, ap length left);
        whole = with_no_others (parse_each (length octets) parse_any Der 0 octets)
            ∙ ap (λ c. with_others 0 (parse_each (length octets) parse_any Der 0 c)) (sym (take-length octets))
            ∙ ap (λ s. with_others 0 (left_to_read (length octets) s)) (sym new);
      }

  module _ {now : ReaderState} {count : ℕ} (so_far : CountedTo now count) where
    module _ (sound : IsReaderState now) (some : 0 < length (rest now)) {new : ReaderState} where
      -- the count after the next encoding
      pub one_more_counted : {header : Header} {contents : List ℕ} → ContentsRead now new header contents → CountedTo new (count + 1)
      one_more_counted {header} {contents} read =
          let at = at_header sound read.head in
          let taken = length (octets_of header) + header.length in
          let parsed = parsed_any at read.contents_are Der in
          let after : new ≡ after_read now taken = after_any at read.contents_are in
          let behind : rest new ≡ drop taken (rest now) = ap rest after ∙ rest-after_read now taken in
          let long = some_taken header in
          let few = so_far.few in
          let enough = so_far.enough in
          record {
            ready = ap (λ s. s.failed) after ∙ so_far.ready;
            rules = ap (λ s. s.rules) after ∙ so_far.rules;
            most = so_far.most - 1;
            few = omega arith;
            enough = omega (arith, ap length behind, length-drop taken (rest now));
            whole = so_far.whole
                ∙ one_more_read count so_far.most now.position taken (rest now) (tlv header.tag contents) some so_far.enough parsed
                ∙ ap (λ c. with_others (count + 1) (parse_each (so_far.most - 1) parse_any Der (now.position + taken) c)) (sym (rest-after_read now taken))
                ∙ ap (λ s. with_others (count + 1) (left_to_read (so_far.most - 1) s)) (sym after);
          }

      -- fewer octets are left after it
      pub less_left : {header : Header} {contents : List ℕ} → ContentsRead now new header contents → length (rest new) < length (rest now)
      less_left {header} {contents} read =
          let at = at_header sound read.head in
          let taken = length (octets_of header) + header.length in
          let behind : rest new ≡ drop taken (rest now) = ap rest (after_any at read.contents_are) ∙ rest-after_read now taken in
          let long = some_taken header in
          omega (arith, ap length behind, length-drop taken (rest now))

      -- the count is 0 if the next encoding is not read
      pub not_counted : {kind : ErrorKind} → ContentsRefused now new kind → 0 ≡ component_count octets
      not_counted {kind} refused =
          let fault : parse_any Der now.position (rest now) ≡ Err kind = rw so_far.ready at (not_read_any sound Der refused).0 in
          sym (so_far.whole ∙ none_read count so_far.most now.position (rest now) kind some so_far.enough fault)

    -- if no octets are left, all encodings are counted
    pub all_counted : rest now ≡ [] → count ≡ component_count octets
    all_counted none =
        sym (so_far.whole ∙ ap (with_others count) (ap (parse_each so_far.most parse_any Der now.position) none ∙ parse_each-end so_far.most parse_any Der now.position) ∙ omega arith)
