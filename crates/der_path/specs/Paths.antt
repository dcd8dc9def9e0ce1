-- Certification path validation (RFC 5280 section 6.1), with the policies of RFC 9618. Keys and signatures (6.1.3 (a)(1)) stand in Keys.antt, and revocation ((a)(3)) is the caller's.
use Rattle.std.specs.Prelude.{◌≡◌, ℕ, zero, suc, ◌==◌, ◌+◌, nat_lt, List, [], ◌∷◌, length, take, Bool, true, false, not, ◌&&◌, ◌||◌, if◌then◌else◌, Option, Some, None, Result, Ok, Err, Vec}
use Rattle.std.specs.declared.alloc.Global.{Global}
use Rattle.std.specs.List.{list_any}
use Rattle.der_pkix.specs.declared.certificate.certificate.Certificate.{Certificate}
use Rattle.der_pkix.specs.declared.certificate.extension.Extension.{Extension}
use Rattle.der_pkix.specs.declared.name.rdn_sequence.RdnSequence.{RdnSequence}
use Rattle.der_pkix.specs.Certificate.Certificate as certificate
use Rattle.der_pkix.specs.Certificate.TbsCertificate as tbs
use Rattle.der_verify.specs.Rfc5280.{AreListed}
use Rattle.der_verify.specs.Shown.{ShowEach}
use Rattle.der_path.specs.contracts.meanings.MeaningsMeantExtension.TheImpl as extension_form
use Rattle.der_path.specs.declared.counters.Counters.{Counters}
use Rattle.der_path.specs.declared.facts.Facts.{Facts}
use Rattle.der_path.specs.declared.facts.NameFacts.{NameFacts}
use Rattle.der_path.specs.declared.facts.NoFacts.{NoFacts}
use Rattle.der_path.specs.declared.facts.NoFacts.TheVariants as none
use Rattle.der_path.specs.declared.names.Part.{Part}
use Rattle.der_path.specs.declared.path.Inputs.{Inputs}
use Rattle.der_path.specs.declared.path.PathError.{PathError}
use Rattle.der_path.specs.declared.path.PathError.TheVariants as error
use Rattle.der_path.specs.declared.policy.Mapping.{Mapping}
use Rattle.der_path.specs.declared.policy.Policy.{Policy}
use Rattle.der_path.specs.declared.state.State.{State}
use Rattle.der_path.specs.declared.state.Stop.{Stop}
use Rattle.der_path.specs.declared.state.Stop.TheVariants as stop
use Rattle.der_path.specs.declared.step.Step.{Step}
use Rattle.der_path.specs.declared.step.Step.TheVariants as step
use Rattle.der_path.specs.Basic.{basic_fault, is_self_issued}
use Rattle.der_path.specs.Counters.{after_certificate, explicit_at_last, first_counters}
use Rattle.der_path.specs.Facts.{KeepsNames, ShowsFacts, ShowsParts}
use Rattle.der_path.specs.Graphs.{authority_of, first_graph, is_null, null_graph, process, process_mappings, seen_graph, user_constrained, SeenGraph}
use Rattle.der_path.specs.Policies.{is_any}

-- the state of 6.1.2: the numbers, and valid_policy_graph. permitted_subtrees and excluded_subtrees are those of the certificates before, and the working issuer name is the subject of the last of them.
pub record SeenState : Type 0 where
  pub counters : Counters
  pub graph : SeenGraph

abbrev pub seen_state : State → SeenState
seen_state s = record { counters = s.counters; graph = seen_graph s.graph }

-- 6.1.2, for a number of certificates
abbrev pub first_state : Policy → ℕ → Inputs → SeenState
first_state any count i = record { counters = first_counters count i.explicit_policy i.any_policy_inhibit i.mapping_inhibit; graph = first_graph any }

-- 6.1.3 (d), (e)
abbrev pub processed_graph : Option (Vec Policy Global) → Bool → ℕ → SeenGraph → SeenGraph
processed_graph None may_be_any depth g = null_graph
processed_graph (Some policies) may_be_any depth g = process policies.items may_be_any depth g

-- 6.1.3 (f)
abbrev pub policies_fault : ℕ → SeenGraph → Option Step
policies_fault explicit g = if explicit == 0 && is_null g then Some step.Policies else None

-- 6.1.4 (b)
abbrev pub mapped_graph : Option (Vec Mapping Global) → Bool → ℕ → SeenGraph → SeenGraph
mapped_graph None is_mapping depth g = g
mapped_graph (Some mappings) is_mapping depth g = process_mappings is_mapping mappings.items depth g

-- 6.1.4 (a)
abbrev pub one_is_of_any : List Mapping → Bool
one_is_of_any mappings = list_any (λ (m : Mapping). is_any m.issuer || is_any m.subject) mappings

abbrev pub maps_any : Option (Vec Mapping Global) → Bool
maps_any None = false
maps_any (Some mappings) = one_is_of_any mappings.items

abbrev pub forbids_signing : Option Bool → Bool
forbids_signing None = false
forbids_signing (Some has) = not has

-- 6.1.4 (a), (k), (l), (n), (o)
abbrev pub prepare_fault : Counters → Facts → Option Step
prepare_fault c f =
    if maps_any f.policies.mappings then Some step.AnyPolicyIsMapped
    else (if not (f.version == 2 && f.uses.is_ca) then Some step.Ca
    else (if not (is_self_issued f) && c.max_path_length == 0 then Some step.PathLength
    else (if forbids_signing f.uses.key_cert_sign then Some step.KeyUsage
    else (if f.has_unknown_critical then Some step.UnknownExtension else None))))

-- a step that refuses the certificate, or else what comes after it
abbrev pub unless_stopped : {X : Type 0} → Option Step → Result X Step → Result X Step
unless_stopped None after = after
unless_stopped (Some x) after = Err x

-- 6.1.4, after the graph of 6.1.3
abbrev pub prepared : Facts → ℕ → Counters → SeenGraph → Result SeenState Step
prepared f depth c g = unless_stopped (policies_fault c.explicit_policy g) (unless_stopped (prepare_fault c f) (Ok (record {
  counters = after_certificate c (is_self_issued f) f.policies f.uses;
  graph = mapped_graph f.policies.mappings (nat_lt 0 c.policy_mapping) depth g;
})))

-- 6.1.3 and 6.1.4 for a certificate after others that is not the last
abbrev pub next_state : NameFacts → List Facts → List Part → Facts → ℕ → SeenState → Result SeenState Step
next_state initial before issuer f moment s =
    unless_stopped (basic_fault initial before issuer f moment false)
    (prepared f (length before + 1) s.counters (processed_graph f.policies.policies (nat_lt 0 s.counters.inhibit_any_policy || is_self_issued f) (length before + 1) s.graph))

-- 6.1.5 (f)
abbrev pub last_fault : Facts → Option Step
last_fault f = if f.has_unknown_critical then Some step.UnknownExtensionAtEnd else None

-- 6.1.5 (g): "If either (1) the value of explicit_policy variable is greater than zero or (2) the user_constrained_policy_set is not empty"
abbrev pub accepted : ℕ → List Policy → Result (List Policy) Step
accepted explicit policies = if explicit == 0 && length policies == 0 then Err step.UserPolicies else Ok policies

-- 6.1.5, after the graph of 6.1.3
abbrev pub wrapped_up : Facts → ℕ → Counters → List Policy → SeenGraph → Result (List Policy) Step
wrapped_up f depth c wanted g =
    unless_stopped (policies_fault c.explicit_policy g)
    (unless_stopped (last_fault f) (accepted (explicit_at_last c f.policies) (user_constrained (authority_of depth g) wanted)))

-- 6.1.3 and 6.1.5 for the last certificate
abbrev pub last_answer : NameFacts → List Facts → List Part → Facts → Inputs → SeenState → Result (List Policy) Step
last_answer initial before issuer f i s =
    unless_stopped (basic_fault initial before issuer f i.moment true)
    (wrapped_up f (length before + 1) s.counters i.policies.now (processed_graph f.policies.policies (nat_lt 0 s.counters.inhibit_any_policy) (length before + 1) s.graph))

-- the answer for the certificate at an index
abbrev pub at_index : ℕ → Result (List Policy) Step → Result (List Policy) PathError
at_index at (Ok policies) = Ok policies
at_index at (Err x) = Err (error.Refused at x)

-- the error of a step that stops at an index
abbrev pub fault_at : ℕ → Stop → PathError
fault_at at stop.Memory = error.Memory
fault_at at (stop.At x) = error.Refused at x

abbrev pub go_on : ℕ → Result SeenState Step → (SeenState → Result (List Policy) PathError) → Result (List Policy) PathError
go_on at (Ok s) others = others s
go_on at (Err x) others = Err (error.Refused at x)

-- 6.1 from the certificate at an index on: user_constrained_policy_set (6.1.6), or the first certificate that a step refuses, and the first such step
abbrev pub answer_from : Inputs → NameFacts → List Facts → ℕ → List Part → SeenState → List Facts → Result (List Policy) PathError
answer_from i initial chain at issuer s [] = Err error.Empty
answer_from i initial chain at issuer s (f ∷ []) = at_index at (last_answer initial (take at chain) issuer f i s)
answer_from i initial chain at issuer s (f ∷ (g ∷ others)) = go_on at (next_state initial (take at chain) issuer f i.moment s) (λ s. answer_from i initial chain (at + 1) f.subject.items s (g ∷ others))

-- 6.1 for the facts that are shown: of the anchor's name, of the initial constraints of names, and of the certificates
abbrev pub answer : Policy → List Part → NameFacts → List Facts → Inputs → Result (List Policy) PathError
answer any anchor initial chain i = answer_from i initial chain 0 anchor (first_state any (length chain) i) chain

-- the extensions of each certificate
abbrev pub EachListed : List Certificate → List (List Extension) → Type 0
EachListed = ShowEach (λ c listed. AreListed extension_form.ghosts.FORM (tbs.extensions (certificate.tbs_certificate c)) listed)

-- the facts of each certificate
abbrev pub ShowsEach : List Certificate → List (List Extension) → List Facts → Type 0
ShowsEach [] [] [] = Unit {0}
ShowsEach (c ∷ cs) (l ∷ ls) (f ∷ fs) = ShowsFacts c l f × ShowsEach cs ls fs
ShowsEach _ _ _ = ⊥

-- the certificate at an index has no facts
abbrev pub HasNoFacts : ℕ → List Certificate → List (List Extension) → Type 0
HasNoFacts zero (c ∷ cs) (l ∷ ls) = (f : Facts) → ShowsFacts c l f → ⊥
HasNoFacts (suc at) (c ∷ cs) (l ∷ ls) = HasNoFacts at cs ls
HasNoFacts _ _ _ = ⊥

abbrev pub no_facts_at : ℕ → NoFacts → PathError
no_facts_at at none.Memory = error.Memory
no_facts_at at none.Unread = error.Unread at

abbrev pub ReadsEach : List Certificate → List (List Extension) → Result (Vec Facts Global) PathError → Type 0
ReadsEach chain lists (Ok facts) = ShowsEach chain lists facts.items
ReadsEach chain lists (Err error.Memory) = Unit {0}
ReadsEach chain lists (Err (error.Unread at)) = HasNoFacts at chain lists
ReadsEach chain lists (Err error.Empty) = ⊥
ReadsEach chain lists (Err (error.NotRead at e)) = ⊥
ReadsEach chain lists (Err (error.Refused at x)) = ⊥

-- the results of the steps, or memory ran out
abbrev pub Continues : Result SeenState Step → Result State Stop → Type 0
Continues wanted (Ok s) = wanted ≡ Ok (seen_state s)
Continues wanted (Err (stop.At x)) = wanted ≡ Err x
Continues wanted (Err stop.Memory) = Unit {0}

abbrev pub Decides : Result (List Policy) Step → Result (Vec Policy Global) Stop → Type 0
Decides wanted (Ok policies) = wanted ≡ Ok policies.items
Decides wanted (Err (stop.At x)) = wanted ≡ Err x
Decides wanted (Err stop.Memory) = Unit {0}

abbrev pub Answers : Result (List Policy) PathError → Result (Vec Policy Global) PathError → Type 0
Answers wanted (Ok policies) = wanted ≡ Ok policies.items
Answers wanted (Err error.Memory) = Unit {0}
Answers wanted (Err (error.Unread at)) = ⊥
Answers wanted (Err (error.NotRead at e)) = ⊥
Answers wanted (Err error.Empty) = wanted ≡ Err error.Empty
Answers wanted (Err (error.Refused at x)) = wanted ≡ Err (error.Refused at x)

-- the answer of 6.1 for the facts that a chain shows
pub record IsAnswer (anchor : RdnSequence) (chain : List Certificate) (lists : List (List Extension)) (i : Inputs) (result : Result (Vec Policy Global) PathError) : Type 0 where
  pub parts : List Part
  pub are_parts : ShowsParts anchor parts
  pub initial : NameFacts
  pub is_initial : KeepsNames None i.constraints initial
  pub facts : List Facts
  pub are_facts : ShowsEach chain lists facts
  pub any : Policy
  pub is_any : is_any any ≡ true
  pub answers : Answers (answer any parts initial facts i) result

abbrev pub AnswersChain : RdnSequence → List Certificate → List (List Extension) → Inputs → Result (Vec Policy Global) PathError → Type 0
AnswersChain anchor chain lists i (Ok policies) = IsAnswer anchor chain lists i (Ok policies)
AnswersChain anchor chain lists i (Err error.Memory) = Unit {0}
AnswersChain anchor chain lists i (Err (error.Unread at)) = HasNoFacts at chain lists
AnswersChain anchor chain lists i (Err (error.NotRead at e)) = ⊥
AnswersChain anchor chain lists i (Err error.Empty) = IsAnswer anchor chain lists i (Err error.Empty)
AnswersChain anchor chain lists i (Err (error.Refused at x)) = IsAnswer anchor chain lists i (Err (error.Refused at x))
