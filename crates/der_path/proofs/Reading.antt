-- Facts that are read one certificate after another.
use Rattle.std.proofs.Common.{◌≡◌, true, ℕ, zero, ◌+◌, List, [], ◌∷◌, ◌++◌, length, None, Result, Ok, Err, refl, sym, ap, ◌∙◌, subst, append_assoc, arith, inl, inr}
use Rattle.std.proofs.lemmas.List.{append-nil, length-append}
use Rattle.std.specs.Prelude.{IsErrAnd, Vec}
use Rattle.std.specs.declared.alloc.Global.{Global}
use Rattle.der_pkix.specs.declared.certificate.certificate.Certificate.{Certificate}
use Rattle.der_pkix.specs.declared.certificate.extension.Extension.{Extension}
use Rattle.der_pkix.specs.declared.name.rdn_sequence.RdnSequence.{RdnSequence}
use Rattle.der_pkix.specs.Certificate.Certificate as certificate
use Rattle.der_pkix.specs.Certificate.TbsCertificate as tbs
use Rattle.der_verify.specs.Rfc5280.{AreListed}
use Rattle.der_path.specs.contracts.meanings.MeaningsMeantExtension.TheImpl as extension_form
use Rattle.der_path.specs.declared.facts.Facts.{Facts}
use Rattle.der_path.specs.declared.facts.NameFacts.{NameFacts}
use Rattle.der_path.specs.declared.facts.NoFacts.{NoFacts}
use Rattle.der_path.specs.declared.facts.NoFacts.TheVariants as none
use Rattle.der_path.specs.declared.facts.PolicyFacts.{PolicyFacts}
use Rattle.der_path.specs.declared.names.Part.{Part}
use Rattle.der_path.specs.declared.path.Inputs.{Inputs}
use Rattle.der_path.specs.declared.path.PathError.{PathError}
use Rattle.der_path.specs.declared.path.PathError.TheVariants as error
use Rattle.der_path.specs.declared.policy.Policy.{Policy}
use Rattle.der_path.specs.Both.{BothAre}
use Rattle.der_path.specs.Facts.{KeepsNames, Reads, ShowsFacts, ShowsNames, ShowsParts, ShowsPolicies}
use Rattle.der_path.specs.Paths.{answer, Answers, AnswersChain, EachListed, HasNoFacts, no_facts_at, ReadsEach, ShowsEach}
use Rattle.der_path.specs.Policies.{is_any}

-- what has no value of one kind has none of another that shows it
pub fails : {X Y : Type 0} (P : X → Type 0) (Q : Y → Type 0) → ((y : Y) → Q y → (x : X) × P x) → (e : NoFacts) → Reads P (Err e) → Reads Q (Err e)
fails P Q part none.Unread refused = λ y q. let one = part y q in refused one.0 one.1
fails P Q part none.Memory refused = tt

pub passed : {X : Type 0} (Q : X → Type 0) (e : NoFacts) (r : Result X NoFacts) → IsErrAnd r (λ y. y ≡ e) → Reads Q (Err e) → Reads Q r
passed Q e (Ok x) is refusal = absurd is
passed Q e (Err y) is refusal = subst (λ y. Reads Q (Err y)) (sym is) refusal

-- two values that are read
pub reads_both : {A B : Type 0} (P : A → Type 0) (Q : B → Type 0) (first : Result A NoFacts) (second : Result B NoFacts) (r : Result (A × B) NoFacts) → BothAre first second r → Reads P first → Reads Q second → Reads (λ (p : A × B). P p.0 × Q p.1) r
reads_both P Q first second (Ok p) are one other = (subst (Reads P) are.0 one, subst (Reads Q) are.1 other)
reads_both P Q first second (Err none.Memory) are one other = tt
reads_both P Q first second (Err none.Unread) (inl e) one other = λ p s. subst (Reads P) e one p.0 s.0
reads_both P Q first second (Err none.Unread) (inr e) one other = λ p s. subst (Reads Q) e other p.1 s.1

-- a part of the facts that is not there
pub facts_fail : (c : Certificate) (listed : List Extension) (names : Result NameFacts NoFacts) (policies : Result PolicyFacts NoFacts) (issuer subject : Result (Vec Part Global) NoFacts) (two : Result (NameFacts × PolicyFacts) NoFacts) (parts : Result (Vec Part Global × Vec Part Global) NoFacts) (r : Result ((NameFacts × PolicyFacts) × (Vec Part Global × Vec Part Global)) NoFacts) (e : NoFacts)
    → Reads (ShowsNames listed) names → Reads (ShowsPolicies listed) policies
    → Reads (λ (p : Vec Part Global). ShowsParts (tbs.issuer (certificate.tbs_certificate c)) p.items) issuer
    → Reads (λ (p : Vec Part Global). ShowsParts (tbs.subject (certificate.tbs_certificate c)) p.items) subject
    → BothAre names policies two → BothAre issuer subject parts → BothAre two parts r → r ≡ Err e → Reads (ShowsFacts c listed) (Err e)
facts_fail c listed names policies issuer subject two parts r e n p i s are_two are_parts are is =
    let Two = λ (x : NameFacts × PolicyFacts). ShowsNames listed x.0 × ShowsPolicies listed x.1 in
    let Parts = λ (x : Vec Part Global × Vec Part Global). ShowsParts (tbs.issuer (certificate.tbs_certificate c)) x.0.items × ShowsParts (tbs.subject (certificate.tbs_certificate c)) x.1.items in
    let All = λ (x : (NameFacts × PolicyFacts) × (Vec Part Global × Vec Part Global)). Two x.0 × Parts x.1 in
    let all : Reads All r = reads_both Two Parts two parts r are (reads_both (ShowsNames listed) (ShowsPolicies listed) names policies two are_two n p) (reads_both _ _ issuer subject parts are_parts i s) in
    fails All (ShowsFacts c listed) (λ f s. (((f.names, f.policies), (f.issuer, f.subject)), ((s.names, s.policies), (s.issuer, s.subject)))) e (subst (Reads All) is all)

-- the certificates whose facts were read, and those that are left
pub record SoFar (chain : List Certificate) (lists : List (List Extension)) (found : List Facts) (at : ℕ) (left : List Certificate) : Type 0 where
  pub done : List Certificate
  pub done_lists : List (List Extension)
  pub left_lists : List (List Extension)
  pub chain_is : chain ≡ done ++ left
  pub lists_are : lists ≡ done_lists ++ left_lists
  pub shows : ShowsEach done done_lists found
  pub listed : EachListed left left_lists
  pub at_is : at ≡ length done

pub none_read : (chain : List Certificate) (lists : List (List Extension)) (found : List Facts) → found ≡ [] → EachListed chain lists → SoFar chain lists found 0 chain
none_read chain lists found none listed = record {
  done = [];
  done_lists = [];
  left_lists = lists;
  chain_is = refl;
  lists_are = refl;
  shows = subst (ShowsEach [] []) (sym none) tt;
  listed = listed;
  at_is = refl;
}

shows_more : (cs : List Certificate) (ls : List (List Extension)) (fs : List Facts) (c : Certificate) (l : List Extension) (f : Facts) → ShowsEach cs ls fs → ShowsFacts c l f → ShowsEach (cs ++ c ∷ []) (ls ++ l ∷ []) (fs ++ f ∷ [])
shows_more [] [] [] c l f each one = (one, tt)
shows_more (d ∷ ds) (m ∷ ms) (g ∷ gs) c l f each one = (each.0, shows_more ds ms gs c l f each.1 one)
shows_more [] (m ∷ ms) fs c l f each one = absurd each
shows_more [] [] (g ∷ gs) c l f each one = absurd each
shows_more (d ∷ ds) [] fs c l f each one = absurd each
shows_more (d ∷ ds) (m ∷ ms) [] c l f each one = absurd each

none_behind : (cs : List Certificate) (ls : List (List Extension)) (fs : List Facts) (left : List Certificate) (left_lists : List (List Extension)) → ShowsEach cs ls fs → HasNoFacts zero left left_lists → HasNoFacts (length cs) (cs ++ left) (ls ++ left_lists)
none_behind [] [] [] left left_lists each refusal = refusal
none_behind (d ∷ ds) (m ∷ ms) (g ∷ gs) left left_lists each refusal = none_behind ds ms gs left left_lists each.1 refusal
none_behind [] (m ∷ ms) fs left left_lists each refusal = absurd each
none_behind [] [] (g ∷ gs) left left_lists each refusal = absurd each
none_behind (d ∷ ds) [] fs left left_lists each refusal = absurd each
none_behind (d ∷ ds) (m ∷ ms) [] left left_lists each refusal = absurd each

-- the extensions of the first certificate, and those of the others
record Split (c : Certificate) (others : List Certificate) (left_lists : List (List Extension)) : Type 0 where
  first : List Extension
  behind : List (List Extension)
  are : left_lists ≡ first ∷ behind
  listed : AreListed extension_form.ghosts.FORM (tbs.extensions (certificate.tbs_certificate c)) first
  others_listed : EachListed others behind

split : (c : Certificate) (others : List Certificate) (left_lists : List (List Extension)) → EachListed (c ∷ others) left_lists → Split c others left_lists
split c others [] each = absurd each
split c others (l ∷ ls) each = record { first = l; behind = ls; are = refl; listed = each.0; others_listed = each.1 }

module _ (chain : List Certificate) (lists : List (List Extension)) (found : List Facts) (at : ℕ) (left : List Certificate) (c : Certificate) (others : List Certificate) (is : left ≡ c ∷ others) (so : SoFar chain lists found at left) where
  ahead : Split c others so.left_lists
  ahead = split c others so.left_lists (subst (λ l. EachListed l so.left_lists) is so.listed)

  pub one_read : (f : Facts) (more : List Facts) → ((listed : List Extension) → AreListed extension_form.ghosts.FORM (tbs.extensions (certificate.tbs_certificate c)) listed → ShowsFacts c listed f) → more ≡ found ++ f ∷ [] → SoFar chain lists more (at + 1) others
  one_read f more shows are = record {
    done = so.done ++ c ∷ [];
    done_lists = so.done_lists ++ ahead.first ∷ [];
    left_lists = ahead.behind;
    chain_is = so.chain_is ∙ ap (λ l. so.done ++ l) is ∙ sym (append_assoc so.done (c ∷ []) others);
    lists_are = so.lists_are ∙ ap (λ l. so.done_lists ++ l) ahead.are ∙ sym (append_assoc so.done_lists (ahead.first ∷ []) ahead.behind);
    shows = subst (ShowsEach (so.done ++ c ∷ []) (so.done_lists ++ ahead.first ∷ [])) (sym are) (shows_more so.done so.done_lists found c ahead.first f so.shows (shows ahead.first ahead.listed));
    listed = ahead.others_listed;
    at_is = let n = so.at_is in omega (arith, length-append so.done (c ∷ []));
  }

  pub none_at : ((listed : List Extension) → AreListed extension_form.ghosts.FORM (tbs.extensions (certificate.tbs_certificate c)) listed → (f : Facts) → ShowsFacts c listed f → ⊥) → HasNoFacts at chain lists
  none_at refusal =
      subst (λ n. HasNoFacts n chain lists) (sym so.at_is)
      (subst (λ l. HasNoFacts (length so.done) l lists) (sym (so.chain_is ∙ ap (λ l. so.done ++ l) is))
      (subst (λ l. HasNoFacts (length so.done) (so.done ++ c ∷ others) l) (sym (so.lists_are ∙ ap (λ l. so.done_lists ++ l) ahead.are))
      (none_behind so.done so.done_lists found (c ∷ others) (ahead.first ∷ ahead.behind) so.shows (refusal ahead.first ahead.listed))))

  pub unread_at : (why : NoFacts) (fault : PathError) → fault ≡ no_facts_at at why → ((listed : List Extension) → AreListed extension_form.ghosts.FORM (tbs.extensions (certificate.tbs_certificate c)) listed → Reads (ShowsFacts c listed) (Err why)) → ReadsEach chain lists (Err fault)
  unread_at none.Memory fault e refusal = subst (λ y. ReadsEach chain lists (Err y)) (sym e) tt
  unread_at none.Unread fault e refusal = subst (λ y. ReadsEach chain lists (Err y)) (sym e) (none_at refusal)

none_left : (lists : List (List Extension)) → EachListed [] lists → lists ≡ []
none_left [] each = refl
none_left (l ∷ ls) each = absurd each

pub all_read : (chain : List Certificate) (lists : List (List Extension)) (found : List Facts) (at : ℕ) (left : List Certificate) → left ≡ [] → SoFar chain lists found at left → ShowsEach chain lists found
all_read chain lists found at left none so =
    let lists_left : so.left_lists ≡ [] = none_left so.left_lists (subst (λ l. EachListed l so.left_lists) none so.listed) in
    subst (λ c. ShowsEach c lists found) (sym (so.chain_is ∙ ap (λ l. so.done ++ l) none ∙ append-nil so.done))
    (subst (λ l. ShowsEach so.done l found) (sym (so.lists_are ∙ ap (λ l. so.done_lists ++ l) lists_left ∙ append-nil so.done_lists)) so.shows)

-- the answer, from the facts
pub answered : (anchor : RdnSequence) (chain : List Certificate) (lists : List (List Extension)) (i : Inputs) (parts : List Part) (initial : NameFacts) (facts : List Facts) (any : Policy) (result : Result (Vec Policy Global) PathError) → ShowsParts anchor parts → KeepsNames None i.constraints initial → ShowsEach chain lists facts → is_any any ≡ true → Answers (answer any parts initial facts i) result → AnswersChain anchor chain lists i result
answered anchor chain lists i parts initial facts any (Ok policies) p n f a r = record { parts = parts; are_parts = p; initial = initial; is_initial = n; facts = facts; are_facts = f; any = any; is_any = a; answers = r }
answered anchor chain lists i parts initial facts any (Err error.Memory) p n f a r = tt
answered anchor chain lists i parts initial facts any (Err error.Empty) p n f a r = record { parts = parts; are_parts = p; initial = initial; is_initial = n; facts = facts; are_facts = f; any = any; is_any = a; answers = r }
answered anchor chain lists i parts initial facts any (Err (error.Unread at)) p n f a r = absurd r
answered anchor chain lists i parts initial facts any (Err (error.NotRead at e)) p n f a r = absurd r
answered anchor chain lists i parts initial facts any (Err (error.Refused at x)) p n f a r = record { parts = parts; are_parts = p; initial = initial; is_initial = n; facts = facts; are_facts = f; any = any; is_any = a; answers = r }

-- no answer, since there are no facts
pub unread : (anchor : RdnSequence) (chain : List Certificate) (lists : List (List Extension)) (i : Inputs) (e : PathError) → ReadsEach chain lists (Err e) → AnswersChain anchor chain lists i (Err e)
unread anchor chain lists i error.Memory r = tt
unread anchor chain lists i error.Empty r = absurd r
unread anchor chain lists i (error.NotRead at e) r = absurd r
unread anchor chain lists i (error.Unread at) r = r
unread anchor chain lists i (error.Refused at x) r = absurd r

pub passed_on : (anchor : RdnSequence) (chain : List Certificate) (lists : List (List Extension)) (i : Inputs) (e : PathError) (r : Result (Vec Policy Global) PathError) → IsErrAnd r (λ y. y ≡ e) → ReadsEach chain lists (Err e) → AnswersChain anchor chain lists i r
passed_on anchor chain lists i e (Ok policies) is refusal = absurd is
passed_on anchor chain lists i e (Err y) is refusal = unread anchor chain lists i y (subst (λ y. ReadsEach chain lists (Err y)) (sym is) refusal)
