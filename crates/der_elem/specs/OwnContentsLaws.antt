-- Laws of types whose values are each read only from their own contents octets.
use Rattle.std.proofs.Common.{◌≡◌, ℕ, List, length, Bool, Ok, refl, sym, ap, ◌∙◌, IsTrue, ◌↔◌, Decides}
use Rattle.der_tlv.specs.declared.encoding_rules.EncodingRules.{EncodingRules}
use Rattle.der_elem.specs.Parsing.{ContentsParse}
use Rattle.der_elem.specs.Accepting.{Fits}
use Rattle.der_elem.specs.OwnContents.{accepts_own, accepts_within}

module _ {T : Type 0} (contents : T → List ℕ) where
  -- octets that are accepted are parsed as the value
  pub parse_of_own : (parse : ContentsParse) (own : (rules : EncodingRules) (v : T) (p : ℕ) → parse rules p (contents v) ≡ Ok (contents v)) (rules : EncodingRules) (v : T) (p : ℕ) (c : List ℕ) → accepts_own contents rules v c → Fits c → parse rules p c ≡ Ok (contents v)
  parse_of_own parse own rules v p c e fits = ap (parse rules p) e ∙ own rules v p

  -- accepted octets are as many as the contents octets of the value
  pub same_length_own : (rules : EncodingRules) (v : T) (c : List ℕ) → accepts_own contents rules v c → length (contents v) ≡ length c
  same_length_own rules v c e = ap length (sym e)

  -- the contents octets of a value are accepted
  pub accepts_own_contents : (rules : EncodingRules) (v : T) → Unit {0} → accepts_own contents rules v (contents v)
  accepts_own_contents rules v _ = refl

module _ {T : Type 0} (contents : T → List ℕ) (Within : T → Type 0) where
  -- accepted octets are parsed as the value, for the values within a range
  pub parse_of_within : (parse : ContentsParse) (own : (rules : EncodingRules) (v : T) (p : ℕ) → Within v → parse rules p (contents v) ≡ Ok (contents v)) (rules : EncodingRules) (v : T) (p : ℕ) (c : List ℕ) → accepts_within contents Within rules v c → Fits c → parse rules p c ≡ Ok (contents v)
  parse_of_within parse own rules v p c (e, within) fits = ap (parse rules p) e ∙ own rules v p within

  -- accepted octets are as many as the contents octets of the value, for the values within a range
  pub same_length_within : (rules : EncodingRules) (v : T) (c : List ℕ) → accepts_within contents Within rules v c → length (contents v) ≡ length c
  same_length_within rules v c (e, within) = ap length (sym e)

  -- the contents octets of a value within the range are accepted
  pub accepts_contents_within : (rules : EncodingRules) (v : T) → Within v → accepts_within contents Within rules v (contents v)
  accepts_contents_within rules v within = (refl, within)

  -- only values within the range are read
  pub only_within : (rules : EncodingRules) (v : T) (c : List ℕ) → accepts_within contents Within rules v c → Within v
  only_within rules v c (e, within) = within

-- if no two values have the same contents octets, values are equal exactly if their contents octets are
pub contents_eq_own : {T : Type 0} (contents : T → List ℕ) (eq : T → T → Bool) (decides : (v w : T) → Decides (eq v w) (v ≡ w)) (injective : (v w : T) → contents v ≡ contents w → v ≡ w) (v w : T) → Unit {0} → (IsTrue (eq v w) ↔ (contents v ≡ contents w))
contents_eq_own contents eq decides injective v w _ =
    (λ e. ap contents ((decides v w).0 e), λ e. (decides v w).1 (injective v w e))

-- a copy that is the value itself has its contents octets
pub copy_contents_own : {T : Type 0} (contents : T → List ℕ) (v w : T) → w ≡ v → contents w ≡ contents v
copy_contents_own contents v w e = ap contents e
