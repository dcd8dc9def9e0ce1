-- Chains that are looked at in turn, and those that are on the stack.
use Rattle.std.proofs.Common.{◌≡◌, ℕ, ◌-◌, ◌<◌, ◌≤◌, Bool, true, false, List, [], ◌∷◌, ◌++◌, length, take, drop, get_or, Option, Some, None, ◌⊎◌, inl, inr, refl, sym, ap, ◌∙◌, subst, append_assoc, arith}
use Rattle.std.proofs.lemmas.List.{append-nil, take_all}
use Rattle.std.proofs.lemmas.List.Elements.{All-append, All-head, All-nil, All-pop, All-push, All-weaker, Contains-append_cases, Contains-append_left, Contains-push, Contains-push_cases}
use Rattle.std.specs.Prelude.{All, Contains, OnOk, Result, Ok, Err, ⊤}
use Rattle.der_path.specs.declared.chain.Chain.{Chain}
use Rattle.der_path.specs.declared.finding.RefusedPath.{RefusedPath}
use Rattle.der_path.specs.declared.finding.Search.{Search}
use Rattle.der_path.specs.declared.keys.Anchor.{Anchor}
use Rattle.der_path.specs.declared.link.Link.{Link}
use Rattle.der_path.specs.declared.path.Inputs.{Inputs}
use Rattle.der_path.specs.Finding.{earlier, first_of, fits, octets_of, stands_in, AreNamed, AreRefused, AreSome, BeginsFirst, EachRefuses, HasNoPath, IsChain, IsLonger, MayStand, NamesMatch, Puts, PutsEach, Stands}

module _ {X : Type 0} where
  pub cons_cases : (x y : X) (xs : List X) → Contains (x ∷ xs) y → (x ≡ y) ⊎ Contains xs y
  cons_cases x y xs held = elim (Contains-append_cases (x ∷ []) xs y held) [
    | inl one ↦ elim (Contains-push_cases [] x y one) [ inl none ↦ absurd (omega (arith, none.1)) | inr is ↦ inl is ]
    | inr others ↦ inr others
  ]

  others_are : (e : X) (es others : List X) → others ≡ take (length (e ∷ es) - 1) (drop 1 (e ∷ es)) → others ≡ es
  others_are e es others o = o ∙ take_all (length (e ∷ es) - 1) es (omega arith)

  pub front_is : (xs : List X) (d x : X) (others : List X) → 1 ≤ length xs → x ≡ get_or xs 0 d → others ≡ take (length xs - 1) (drop 1 xs) → xs ≡ x ∷ others
  front_is [] d x others some at o = absurd (omega arith)
  front_is (e ∷ es) d x others some at o = ap (λ y. y ∷ es) (sym at) ∙ ap (λ l. x ∷ l) (sym (others_are e es others o))

  pub front_cases : (xs : List X) (d x y : X) (others : List X) → 1 ≤ length xs → x ≡ get_or xs 0 d → others ≡ take (length xs - 1) (drop 1 xs) → Contains xs y → (x ≡ y) ⊎ Contains others y
  front_cases xs d x y others some at o held = cons_cases x y others (subst (λ l. Contains l y) (front_is xs d x others some at o) held)

-- what is put is put behind
module _ (chain : Chain) where
  pub puts_none : (P : Link → Type 0) (old new : List Chain) → new ≡ old → Puts P chain old new
  puts_none P old new same = record { more = []; new_is = same ∙ sym (append-nil old); longer = All-nil (λ (c : Chain). (l : Link) × P l × IsLonger l chain c) }

  pub puts_one : (l : Link) (old new : List Chain) (longer : Chain) → new ≡ old ++ longer ∷ [] → IsLonger l chain longer → Puts (λ x. x ≡ l) chain old new
  puts_one l old new longer pushed is =
      let P : Chain → Type 0 = λ c. (x : Link) × (x ≡ l) × IsLonger x chain c in
      record { more = longer ∷ []; new_is = pushed; longer = All-push P [] longer (All-nil P) (l, refl, is) }

  pub puts_weaker : (P Q : Link → Type 0) → ((l : Link) → P l → Q l) → (old new : List Chain) → Puts P chain old new → Puts Q chain old new
  puts_weaker P Q weaker old new puts = record {
    more = puts.more;
    new_is = puts.new_is;
    longer = All-weaker (λ (c : Chain). (l : Link) × P l × IsLonger l chain c) (λ (c : Chain). (l : Link) × Q l × IsLonger l chain c) (λ c one. (one.0, weaker one.0 one.1, one.2)) puts.more puts.longer;
  }

  pub puts_both : (P : Link → Type 0) (old between new : List Chain) → Puts P chain old between → Puts P chain between new → Puts P chain old new
  puts_both P old between new first second = record {
    more = first.more ++ second.more;
    new_is = second.new_is ∙ ap (λ l. l ++ second.more) first.new_is ∙ append_assoc old first.more second.more;
    longer = All-append (λ (c : Chain). (l : Link) × P l × IsLonger l chain c) first.more second.more first.longer second.longer;
  }

  pub still_stands : (P : Link → Type 0) (old new : List Chain) (l : Link) → Puts P chain old new → Stands old l chain → Stands new l chain
  still_stands P old new l puts stands = (stands.0, subst (λ x. Contains x stands.0) (sym puts.new_is) (Contains-append_left old puts.more stands.0 stands.1), stands.2)

-- certificates that are put one after another
module _ (links : List Link) (chain : Chain) (fitting : Bool) (old between new : List Chain) (left : List Link) (l : Link) (others : List Link) (front : left ≡ l ∷ others) where
  pub put_on : All (Contains links) left → Puts (Contains links) chain old between → Puts (λ x. x ≡ l) chain between new → Puts (Contains links) chain old new
  put_on given before one =
      let held : Contains links l = All-head (Contains links) l others (subst (All (Contains links)) front given) in
      puts_both chain (Contains links) old between new before (puts_weaker chain (λ x. x ≡ l) (Contains links) (λ x e. subst (Contains links) (sym e) held) between new one)

  abbrev pub IsPut : List Chain → Link → Type 0
  IsPut chains x = fits x.subject_key chain.first.authority_key ≡ fitting → MayStand x chain → Stands chains x chain

  pub each_on : ((x : Link) → Contains links x → Contains left x ⊎ IsPut between x) → Puts (λ x. x ≡ l) chain between new → IsPut new l → (x : Link) → Contains links x → Contains others x ⊎ IsPut new x
  each_on each one put x held = elim (each x held) [
    | inl in_left ↦ elim (cons_cases l x others (subst (λ s. Contains s x) front in_left)) [
      | inl same ↦ inr (subst (IsPut new) same put)
      | inr more ↦ inl more
    ]
    | inr done ↦ inr (λ fit may. still_stands chain (λ y. y ≡ l) between new x one (done fit may))
  ]

module _ (links : List Link) (chain : Chain) (between new : List Chain) where
  by_fit : (l : Link) (b : Bool) → (b ≡ false → Stands new l chain) → (b ≡ true → Stands new l chain) → Stands new l chain
  by_fit l false unfit fit = unfit refl
  by_fit l true unfit fit = fit refl

  -- first those that do not fit, then the others
  pub put_both : PutsEach links (λ l. fits l.subject_key chain.first.authority_key ≡ false) chain between → Puts (Contains links) chain between new
      → PutsEach links (λ l. fits l.subject_key chain.first.authority_key ≡ true) chain new → PutsEach links (λ l. ⊤) chain new
  put_both first puts second l held any may =
      by_fit l (fits l.subject_key chain.first.authority_key) (λ e. still_stands chain (Contains links) between new l puts (first l held e may)) (λ e. second l held e may)

pub on_ok : {T E : Type 0} (P Q : Type 0) → (P → Q) → (r : Result T E) → OnOk r P → OnOk r Q
on_ok P Q then (Ok x) p = then p
on_ok P Q then (Err e) p = tt

-- the last certificates of a chain
abbrev pub EndsWith : List Link → List Link → Type 0
EndsWith [] after = after ≡ []
EndsWith (l ∷ others) after = (after ≡ l ∷ others) ⊎ EndsWith others after

ends_whole : (whole : List Link) → EndsWith whole whole
ends_whole [] = refl
ends_whole (l ∷ others) = inl refl

ends_empty : (whole : List Link) → EndsWith whole []
ends_empty [] = refl
ends_empty (l ∷ others) = inr (ends_empty others)

-- one more, if these are not all
ends_longer : (whole after : List Link) → EndsWith whole after → (whole ≡ after) ⊎ ((l : Link) × EndsWith whole (l ∷ after))
ends_longer [] after is = inl (sym is)
ends_longer (x ∷ xs) after (inl is) = inl (sym is)
ends_longer (x ∷ xs) after (inr is) = elim (ends_longer xs after is) [
  | inl all ↦ inr (x, inl (ap (λ r. x ∷ r) (sym all)))
  | inr longer ↦ inr (longer.0, inr longer.1)
]

module _ (links : List Link) (end : Link) where
  some_at_end : (whole after : List Link) → EndsWith whole after → AreSome links end whole → AreSome links end after
  some_at_end [] after is some = subst (AreSome links end) (sym is) tt
  some_at_end (x ∷ xs) after (inl is) some = subst (AreSome links end) (sym is) some
  some_at_end (x ∷ xs) after (inr is) some = some_at_end xs after is some.2

  named_at_end : (whole after : List Link) → EndsWith whole after → AreNamed end whole → AreNamed end after
  named_at_end [] after is named = subst (AreNamed end) (sym is) tt
  named_at_end (x ∷ xs) after (inl is) named = subst (AreNamed end) (sym is) named
  named_at_end (x ∷ xs) after (inr is) named = named_at_end xs after is named.1

  shorter_at_end : (whole after : List Link) → EndsWith whole after → length (octets_of end after) ≤ length (octets_of end whole)
  shorter_at_end [] after is = subst (λ a. length (octets_of end a) ≤ length (octets_of end [])) (sym is) (omega arith)
  shorter_at_end (x ∷ xs) after (inl is) = subst (λ a. length (octets_of end a) ≤ length (octets_of end (x ∷ xs))) (sym is) (omega arith)
  shorter_at_end (x ∷ xs) after (inr is) = let e = shorter_at_end xs after is in omega arith

  -- a chain on the stack has these certificates before the end certificate
  pub record Shows (after : List Link) (c : Chain) : Type 0 where
    pub octets : c.octets.items ≡ octets_of end after
    pub first : c.first ≡ first_of end after

  -- a chain of these certificates, in which each has the name that the next one names
  pub record IsSought (depth : ℕ) (whole : List Link) : Type 0 where
    pub some : AreSome links end whole
    pub named : AreNamed end whole
    pub fits : length (octets_of end whole) ≤ depth

  -- a chain on the stack that another ends with
  pub record IsToCome (stack : List Chain) (whole : List Link) : Type 0 where
    pub after : List Link
    pub ends : EndsWith whole after
    pub chain : Chain
    pub stands : Contains stack chain
    pub shows : Shows after chain

  abbrev pub IsRefusedAfterAll : List Anchor → Inputs → List Link → Type 0
  IsRefusedAfterAll anchors i whole = EachRefuses anchors (octets_of end whole) (first_of end whole) i

  -- the chains on the stack are of these certificates
  abbrev pub AreChains : List Chain → Type 0
  AreChains stack = All (IsChain links end) stack

  put_chains : (chain : Chain) (old new : List Chain) → IsChain links end chain → AreChains old → Puts (Contains links) chain old new → AreChains new
  put_chains chain old new is chains puts =
      subst AreChains (sym puts.new_is) (All-append (IsChain links end) old puts.more chains
      (All-weaker (λ (c : Chain). (l : Link) × Contains links l × IsLonger l chain c) (IsChain links end) (λ c one. record {
        before = one.0 ∷ is.before;
        some = (one.1, subst (λ o. stands_in one.0 o ≡ false) is.octets one.2.new, is.some);
        octets = one.2.octets ∙ ap (λ o. one.0.octets ∷ o) is.octets;
        first = one.2.first;
      }) puts.more puts.longer))

  module _ (depth : ℕ) (anchors : List Anchor) (i : Inputs) (whole : List Link) (sought : IsSought depth whole) where
    abbrev pub IsCovered : List Chain → Type 0
    IsCovered stack = IsToCome stack whole ⊎ IsRefusedAfterAll anchors i whole

    -- the chain that is looked at: it is this one, or a longer one is put
    looked_at : (old new : List Chain) (chain : Chain) (after : List Link) → EndsWith whole after → Shows after chain
        → Puts (Contains links) chain old new → (length chain.octets.items < depth → PutsEach links (λ l. ⊤) chain new)
        → EachRefuses anchors chain.octets.items chain.first i → IsCovered new
    looked_at old new chain after ends shows puts each refused = elim (ends_longer whole after ends) [
      | inl all ↦ inr (subst (λ f. EachRefuses anchors (octets_of end whole) f i) (shows.first ∙ ap (first_of end) (sym all)) (subst (λ o. EachRefuses anchors o chain.first i) (shows.octets ∙ ap (octets_of end) (sym all)) refused))
      | inr longer ↦
          let l = longer.0 in
          let some = some_at_end whole (l ∷ after) longer.1 sought.some in
          let named = named_at_end whole (l ∷ after) longer.1 sought.named in
          let short = shorter_at_end whole (l ∷ after) longer.1 in
          let limit = sought.fits in
          let count : length chain.octets.items ≡ length (octets_of end after) = ap length shows.octets in
          let match : NamesMatch l.subject chain.first.issuer = subst (λ (f : Link). NamesMatch l.subject f.issuer) (sym shows.first) named.0 in
          let new_one : stands_in l chain.octets.items ≡ false = subst (λ o. stands_in l o ≡ false) (sym shows.octets) some.1 in
          let put : Stands new l chain = each (omega arith) l some.0 tt (match, new_one) in
          inl (record {
            after = l ∷ after;
            ends = longer.1;
            chain = put.0;
            stands = put.1;
            shows = record { octets = put.2.octets ∙ ap (λ o. l.octets ∷ o) shows.octets; first = put.2.first };
          })
    ]

    -- a chain is taken from the stack
    pub covered_on : (stack old new : List Chain) (chain : Chain) → stack ≡ old ++ chain ∷ [] → Puts (Contains links) chain old new
        → (length chain.octets.items < depth → PutsEach links (λ l. ⊤) chain new) → EachRefuses anchors chain.octets.items chain.first i
        → IsCovered stack → IsCovered new
    covered_on stack old new chain is puts each refused (inr done) = inr done
    covered_on stack old new chain is puts each refused (inl here) = elim (Contains-push_cases old chain here.chain (subst (λ s. Contains s here.chain) is here.stands)) [
      | inl before ↦ inl (record {
        after = here.after;
        ends = here.ends;
        chain = here.chain;
        stands = subst (λ s. Contains s here.chain) (sym puts.new_is) (Contains-append_left old puts.more here.chain before);
        shows = here.shows;
      })
      | inr same ↦ looked_at old new chain here.after here.ends (subst (Shows here.after) (sym same) here.shows) puts each refused
    ]

    -- the stack is empty
    pub none_to_come : IsCovered [] → IsRefusedAfterAll anchors i whole
    none_to_come (inr done) = done
    none_to_come (inl here) = absurd (omega (arith, here.stands.1))

    pub begun : (stack : List Chain) (c : Chain) → stack ≡ c ∷ [] → c.octets.items ≡ end.octets ∷ [] → c.first ≡ end → IsCovered stack
    begun stack c is octets first = inl (record {
      after = [];
      ends = ends_empty whole;
      chain = c;
      stands = subst (λ s. Contains s c) (sym is) (Contains-push [] c);
      shows = record { octets = octets; first = first };
    })

-- so far: the chains on the stack, what was refused, and each chain that is sought
pub record Searched (s : Search) (links : List Link) (end : Link) (i : Inputs) (stack : List Chain) (refused : Option RefusedPath) : Type 0 where
  pub chains : AreChains links end stack
  pub are_refused : AreRefused s links end i refused
  pub covered : BeginsFirst s → (whole : List Link) → (sought : IsSought links end s.depth whole) → IsCovered links end s.depth s.anchors.now i whole sought stack

-- nothing is left on the stack
pub none_left : (stack : List Chain) (r : Option Chain) → ((x : Chain) → r ≡ Some x → ⊥) → (Chain → 0 < length stack → (x : Chain) × (r ≡ Some x)) → stack ≡ []
none_left [] r other some = refl
none_left (c ∷ cs) r other some = let one = some c (omega arith) in absurd (other one.0 one.1)

module _ (s : Search) (links : List Link) (end : Link) (i : Inputs) where
  pub first_searched : (stack : List Chain) (c : Chain) → stack ≡ c ∷ [] → c.octets.items ≡ end.octets ∷ [] → c.first ≡ end → Searched s links end i stack None
  first_searched stack c is octets first = record {
    chains = subst (AreChains links end) (sym is) (All-push (IsChain links end) [] c (All-nil (IsChain links end)) (record { before = []; some = tt; octets = octets; first = first }));
    are_refused = tt;
    covered = λ begins whole sought. begun links end s.depth s.anchors.now i whole sought stack c is octets first;
  }

  -- a chain that is taken from the stack
  pub is_taken : (stack old : List Chain) (chain : Chain) (refused : Option RefusedPath) → stack ≡ old ++ chain ∷ [] → Searched s links end i stack refused → IsChain links end chain
  is_taken stack old chain refused is so_far = (All-pop (IsChain links end) stack old (Some chain) is so_far.chains).1

  earlier_refused : (first second : Option RefusedPath) → AreRefused s links end i first → AreRefused s links end i second → AreRefused s links end i (earlier first second)
  earlier_refused None second one other = other
  earlier_refused (Some r) second one other = one

  pub searched_on : (stack old new : List Chain) (chain : Chain) (refused one next : Option RefusedPath) → stack ≡ old ++ chain ∷ []
      → Puts (Contains links) chain old new → (length chain.octets.items < s.depth → PutsEach links (λ l. ⊤) chain new)
      → (IsChain links end chain → AreRefused s links end i one × (BeginsFirst s → EachRefuses s.anchors.now chain.octets.items chain.first i))
      → next ≡ earlier refused one → Searched s links end i stack refused → Searched s links end i new next
  searched_on stack old new chain refused one next is puts each attempted next_is so_far =
      let taken = is_taken stack old chain refused is so_far in
      let told = attempted taken in
      record {
        chains = put_chains links end chain old new taken (All-pop (IsChain links end) stack old (Some chain) is so_far.chains).0 puts;
        are_refused = subst (AreRefused s links end i) (sym next_is) (earlier_refused refused one so_far.are_refused told.0);
        covered = λ begins whole sought. covered_on links end s.depth s.anchors.now i whole sought stack old new chain is puts each (told.1 begins) (so_far.covered begins whole sought);
      }

  pub all_searched : (stack : List Chain) (refused : Option RefusedPath) → stack ≡ [] → Searched s links end i stack refused → AreRefused s links end i refused × (BeginsFirst s → HasNoPath s links end i)
  all_searched stack refused none so_far = (
    so_far.are_refused,
    λ begins whole some named short.
        let sought : IsSought links end s.depth whole = record { some = some; named = named; fits = short } in
        none_to_come links end s.depth s.anchors.now i whole sought (subst (IsCovered links end s.depth s.anchors.now i whole sought) none (so_far.covered begins whole sought)),
  )
