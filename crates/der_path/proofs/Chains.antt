-- Certificates that are read one after another, and what has to verify of each.
use Rattle.std.proofs.Common.{◌≡◌, ℕ, ◌+◌, List, [], ◌∷◌, ◌++◌, length, Err, refl, sym, ap, ◌∙◌, subst, append_assoc, arith, inl, inr}
use Rattle.std.proofs.lemmas.List.{append-nil, length-append}
use Rattle.std.specs.Borrow.{Bor}
use Rattle.der_tlv.specs.declared.error.Error.{Error}
use Rattle.der_elem.specs.Decoding.{AllRead, NotAllRead, ReadsAll}
use Rattle.der_pkix.specs.declared.certificate.certificate.Certificate.{Certificate}
use Rattle.der_pkix.specs.declared.certificate.extension.Extension.{Extension}
use Rattle.der_path.specs.contracts.meanings.MeaningsMeantCertificate.TheImpl as certificate_form
use Rattle.der_path.specs.declared.keys.Anchor.{Anchor}
use Rattle.der_path.specs.declared.keys.Verification.{Verification}
use Rattle.der_path.specs.declared.keys.WorkingKey.{WorkingKey}
use Rattle.der_path.specs.declared.path.Inputs.{Inputs}
use Rattle.der_path.specs.declared.path.PathError.{PathError}
use Rattle.der_path.specs.declared.path.PathError.TheVariants as error
use Rattle.der_path.specs.Chains.{ChecksPath, EachRead, NotReadAt, ReadsChain}
use Rattle.der_path.specs.Keys.{next_key, HasToVerify, HaveToVerify}
use Rattle.der_path.specs.Paths.{AnswersChain, EachListed}
use Rattle.der_path.proofs.Listed.{listed_chain}

abbrev Octets : Type 0
Octets = Bor (List ℕ)

-- reading a certificate takes no memory
pub refused : (octets : List ℕ) (e : Error) → ReadsAll certificate_form.ghosts.FORM octets (Err e) → NotAllRead certificate_form.ghosts.FORM octets e.kind
refused octets e (inl ran) = absurd (let t = ran.takes in cc)
refused octets e (inr refusal) = refusal

-- the certificates that were read, and the octets that are left
pub record ReadSoFar (chain : List Octets) (found : List Certificate) (at : ℕ) (left : List Octets) : Type 0 where
  pub done : List Octets
  pub chain_is : chain ≡ done ++ left
  pub are_read : EachRead done found
  pub at_is : at ≡ length done

pub begun : (chain : List Octets) (found : List Certificate) → found ≡ [] → ReadSoFar chain found 0 chain
begun chain found none = record { done = []; chain_is = refl; are_read = subst (EachRead []) (sym none) tt; at_is = refl }

read_more : (os : List Octets) (cs : List Certificate) (o : Octets) (c : Certificate) → EachRead os cs → AllRead certificate_form.ghosts.FORM o.now c → EachRead (os ++ o ∷ []) (cs ++ c ∷ [])
read_more [] [] o c each one = (one, tt)
read_more [] (d ∷ ds) o c each one = absurd each
read_more (p ∷ ps) [] o c each one = absurd each
read_more (p ∷ ps) (d ∷ ds) o c each one = (each.0, read_more ps ds o c each.1 one)

module _ (chain : List Octets) (found : List Certificate) (at : ℕ) (left : List Octets) (o : Octets) (others : List Octets) (is : left ≡ o ∷ others) (so : ReadSoFar chain found at left) where
  pub one_more : (c : Certificate) (more : List Certificate) → AllRead certificate_form.ghosts.FORM o.now c → more ≡ found ++ c ∷ [] → ReadSoFar chain more (at + 1) others
  one_more c more read are = record {
    done = so.done ++ o ∷ [];
    chain_is = so.chain_is ∙ ap (λ l. so.done ++ l) is ∙ sym (append_assoc so.done (o ∷ []) others);
    are_read = subst (EachRead (so.done ++ o ∷ [])) (sym are) (read_more so.done found o c so.are_read read);
    at_is = let n = so.at_is in omega (arith, length-append so.done (o ∷ []));
  }

  pub not_read : (e : Error) → NotAllRead certificate_form.ghosts.FORM o.now e.kind → NotReadAt at chain e
  not_read e refusal = record {
    before = so.done;
    octets = o;
    others = others;
    chain_is = so.chain_is ∙ ap (λ l. so.done ++ l) is;
    at_is = so.at_is;
    certificates = found;
    are_read = so.are_read;
    refused = refusal;
  }

pub whole_read : (chain : List Octets) (found : List Certificate) (at : ℕ) (left : List Octets) → left ≡ [] → ReadSoFar chain found at left → EachRead chain found
whole_read chain found at left none so = subst (λ c. EachRead c found) (sym (so.chain_is ∙ ap (λ l. so.done ++ l) none ∙ append-nil so.done)) so.are_read

-- what has to verify of the certificates before, and of those that are left once that is found
pub record FoundSoFar (first working : WorkingKey) (chain : List Octets) (certificates : List Certificate) (found : List Verification) (left : List Octets) (behind : List Certificate) : Type 0 where
  pub are_read : EachRead left behind
  pub whole : (rest : List Verification) → HaveToVerify working left behind rest → HaveToVerify first chain certificates (found ++ rest)

pub none_found : (first : WorkingKey) (chain : List Octets) (certificates : List Certificate) (found : List Verification) → found ≡ [] → EachRead chain certificates → FoundSoFar first first chain certificates found chain certificates
none_found first chain certificates found none read = record {
  are_read = read;
  whole = λ rest have. subst (λ f. HaveToVerify first chain certificates (f ++ rest)) (sym none) have;
}

module _ (first working : WorkingKey) (chain : List Octets) (certificates : List Certificate) (found : List Verification) (left : List Octets) (behind : List Certificate) where
  pub one_found : (so : FoundSoFar first working chain certificates found left behind) (o : Octets) (os : List Octets) (c : Certificate) (cs : List Certificate) → left ≡ o ∷ os → behind ≡ c ∷ cs → (v : Verification) (more : List Verification) → (AllRead certificate_form.ghosts.FORM o.now c → HasToVerify working o.now c v) → more ≡ found ++ v ∷ [] → FoundSoFar first (next_key c working) chain certificates more os cs
  one_found so o os c cs l b v more has are =
      let read : EachRead (o ∷ os) (c ∷ cs) = subst (EachRead (o ∷ os)) b (subst (λ l. EachRead l behind) l so.are_read) in
      record {
        are_read = read.1;
        whole = λ rest have.
            let now : HaveToVerify working left behind (v ∷ rest) = subst (λ l. HaveToVerify working l behind (v ∷ rest)) (sym l) (subst (λ b. HaveToVerify working (o ∷ os) b (v ∷ rest)) (sym b) (has read.0, have)) in
            subst (HaveToVerify first chain certificates) (sym (append_assoc found (v ∷ []) rest) ∙ ap (λ f. f ++ rest) (sym are)) (so.whole (v ∷ rest) now);
      }

  pub all_found : FoundSoFar first working chain certificates found left behind → left ≡ [] → HaveToVerify first chain certificates found
  all_found so none =
      let nothing : HaveToVerify working left behind [] = nothing_left left behind none so.are_read in
      subst (HaveToVerify first chain certificates) (append-nil found) (so.whole [] nothing)
    where
      nothing_left : (l : List Octets) (b : List Certificate) → l ≡ [] → EachRead l b → HaveToVerify working l b []
      nothing_left [] [] e each = tt
      nothing_left [] (c ∷ cs) e each = absurd each
      nothing_left (o ∷ os) b e each = absurd (cc)

-- the results of check_path
module _ (a : Anchor) (chain : List Octets) (i : Inputs) where
  pub not_all_read : (e : PathError) → ReadsChain chain (Err e) → ChecksPath a chain i (Err e)
  not_all_read error.Memory r = tt
  not_all_read error.Empty r = absurd r
  not_all_read (error.NotRead at e) r = r
  not_all_read (error.Unread at) r = absurd r
  not_all_read (error.Refused at x) r = absurd r

  pub not_valid : (certificates : List Certificate) → EachRead chain certificates → (e : PathError) → ((lists : List (List Extension)) → EachListed certificates lists → AnswersChain a.name certificates lists i (Err e)) → ChecksPath a chain i (Err e)
  not_valid certificates read error.Memory answers = tt
  not_valid certificates read (error.NotRead at e) answers = let l = listed_chain chain certificates read in absurd (answers l.lists l.are)
  not_valid certificates read error.Empty answers = record { certificates = certificates; are_read = read; listed = listed_chain chain certificates read; answers = answers }
  not_valid certificates read (error.Unread at) answers = record { certificates = certificates; are_read = read; listed = listed_chain chain certificates read; answers = answers }
  not_valid certificates read (error.Refused at x) answers = record { certificates = certificates; are_read = read; listed = listed_chain chain certificates read; answers = answers }
