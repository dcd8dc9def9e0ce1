-- Certificates that are read one after another.
use Rattle.std.proofs.Common.{◌≡◌, ℕ, true, List, [], ◌∷◌, ◌++◌, Ok, Err, ◌⊎◌, inl, inr, sym, ap, ◌∙◌, subst, arith}
use Rattle.std.proofs.lemmas.List.{append-nil}
use Rattle.std.proofs.lemmas.List.Elements.{All-append, All-head, All-nil, All-push, All-weaker, Contains-append_left, Contains-push}
use Rattle.std.proofs.lemmas.List.Folds.{Any-from_list_any}
use Rattle.std.proofs.lemmas.Slice.Eq.{bytes_eq-Decides}
use Rattle.std.specs.Borrow.{Bor}
use Rattle.std.specs.Cmp.Lexicographic.{pointwise}
use Rattle.std.specs.Prelude.{All, Contains, Result, nat_eq}
use Rattle.der_path.specs.declared.finding.FindError.{FindError}
use Rattle.der_path.specs.declared.finding.FindError.TheVariants as error
use Rattle.der_path.specs.declared.finding.FoundPath.{FoundPath}
use Rattle.der_path.specs.declared.finding.Search.{Search}
use Rattle.der_path.specs.declared.link.Link.{Link}
use Rattle.der_path.specs.declared.path.Inputs.{Inputs}
use Rattle.der_path.specs.Finding.{has_octets, AddsLinks, AreLinks, Finds, FindsAmong, IsLink, IsLinkOf, IsRead}
use Rattle.der_path.proofs.Searching.{cons_cases}

-- what is added
module _ (octets : Bor (List ℕ)) (old new : List Link) where
  pub adds_none : new ≡ old → AddsLinks octets old new
  adds_none same = record { more = []; new_is = same ∙ sym (append-nil old); links = All-nil (IsLink octets) }

  pub adds_one : (l : Link) → new ≡ old ++ l ∷ [] → IsLink octets l → AddsLinks octets old new
  adds_one l pushed is = record { more = l ∷ []; new_is = pushed; links = All-push (IsLink octets) [] l (All-nil (IsLink octets)) is }

  pub one_read : (l : Link) → new ≡ old ++ l ∷ [] → IsLink octets l → IsRead new octets
  one_read l pushed is = inl (l, subst (λ s. Contains s l) (sym pushed) (Contains-push old l), ap (λ (o : Bor (List ℕ)). o.now) is.is_octets)

-- a certificate that is there
pub is_there : (octets : Bor (List ℕ)) (links : List Link) → has_octets octets.now links ≡ true → IsRead links octets
is_there octets links e =
    let found = Any-from_list_any (λ (l : Link). pointwise nat_eq l.octets.now octets.now) links e in
    inl (found.1, (found.0, found.2, found.3), (bytes_eq-Decides found.1.octets.now octets.now).0 found.4)

-- what was read stays
still_read : (octets by : Bor (List ℕ)) (old new : List Link) → AddsLinks by old new → IsRead old octets → IsRead new octets
still_read octets by old new adds (inl one) = inl (one.0, subst (λ l. Contains l one.0) (sym adds.new_is) (Contains-append_left old adds.more one.0 one.1), one.2)
still_read octets by old new adds (inr refused) = inr refused

module _ (certificates : List (Bor (List ℕ))) (old new : List Link) (left : List (Bor (List ℕ))) (o : Bor (List ℕ)) (others : List (Bor (List ℕ))) (front : left ≡ o ∷ others) (adds : AddsLinks o old new) where
  pub given_on : All (Contains certificates) left → All (IsLinkOf certificates) old → All (IsLinkOf certificates) new
  given_on given before =
      let held : Contains certificates o = All-head (Contains certificates) o others (subst (All (Contains certificates)) front given) in
      subst (All (IsLinkOf certificates)) (sym adds.new_is) (All-append (IsLinkOf certificates) old adds.more before
      (All-weaker (IsLink o) (IsLinkOf certificates) (λ l is. record { octets = o; given = held; link = is }) adds.more adds.links))

  pub read_on : ((x : Bor (List ℕ)) → Contains certificates x → Contains left x ⊎ IsRead old x) → IsRead new o → (x : Bor (List ℕ)) → Contains certificates x → Contains others x ⊎ IsRead new x
  read_on each one x held = elim (each x held) [
    | inl in_left ↦ elim (cons_cases o x others (subst (λ s. Contains s x) front in_left)) [
      | inl same ↦ inr (subst (IsRead new) same one)
      | inr more ↦ inl more
    ]
    | inr done ↦ inr (still_read x o old new adds done)
  ]

pub all_read : (certificates left : List (Bor (List ℕ))) (links : List Link) → left ≡ [] → All (IsLinkOf certificates) links
    → ((x : Bor (List ℕ)) → Contains certificates x → Contains left x ⊎ IsRead links x) → AreLinks certificates links
all_read certificates left links none given each = record {
  given = given;
  read = λ x held. elim (each x held) [
    | inl in_left ↦ absurd (let no = (subst (λ s. Contains s x) none in_left).1 in omega (arith, no))
    | inr done ↦ done
  ];
}

-- the result of a search among these certificates
pub finds : (s : Search) (i : Inputs) (links : List Link) (end : Link) (r : Result FoundPath FindError)
    → AreLinks s.certificates.now links → IsLink s.end end → FindsAmong s links end i r → Finds s i r
finds s i links end (Ok f) are is told = record { links = links; are_links = are; end = end; is_end = is; finds = told }
finds s i links end (Err error.Memory) are is told = tt
finds s i links end (Err (error.NotRead e)) are is told = absurd told
finds s i links end (Err error.Limit) are is told = tt
finds s i links end (Err (error.NoPath r)) are is told = record { links = links; are_links = are; end = end; is_end = is; finds = told }
