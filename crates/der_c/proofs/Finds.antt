-- Items that are read one after another until one is wanted.
use Rattle.std.proofs.Common.{◌≡◌, ℕ, suc, ◌+◌, ◌-◌, ◌^◌, ◌<◌, ◌≤◌, ◌++◌, List, [], ◌∷◌, length, take, drop, Bool, true, false, ◌||◌, if◌then◌else◌, Option, Some, None, Result, Ok, Err, inl, inr, refl, sym, ap, ap₂, subst, ◌∙◌, arith}
use Rattle.std.specs.Prelude.{is_some}
use Rattle.std.specs.List.{list_any}
use Rattle.std.proofs.lemmas.List.{drop-drop, drop-take, take-append-drop}
use Rattle.std.proofs.Math.Seq.{drop-append_seam}
use Rattle.der_tlv.specs.declared.encoding_rules.EncodingRules.TheVariants.{Der}
use Rattle.der_tlv.specs.declared.error.ErrorKind.{ErrorKind}
use Rattle.der_elem.specs.Accepting.{Fits}
use Rattle.der_elem.specs.ItemLaws.{first_fits}
use Rattle.der_elem.specs.declared.form.Form as form
use Rattle.der_lists.specs.Items.{AreItems}
use Rattle.der_places.specs.declared.place.Place.{Place}
use Rattle.der_c.specs.Answers.{FrontRefused}
use Rattle.der_c.specs.Building.{octets_at}
use Rattle.der_c.specs.Finding.{HasFront, IsFirst, NoneIsLeft, first_of}
use Rattle.der_c.specs.Items.{EndsWithin, FrontIs, IsBehind, LeftRead, LeftRefused}
use Rattle.der_c.specs.declared.fault.Fault.{Fault}
use Rattle.der_c.proofs.Left.{left_length, taken_counted}

same_item : (x y : ℕ × List ℕ) (r : Result (ℕ × List ℕ) ErrorKind) → r ≡ Ok x → r ≡ Ok y → x ≡ y
same_item x y r e f = cc

no_error : (x : ℕ × List ℕ) (k : ErrorKind) (r : Result (ℕ × List ℕ) ErrorKind) → r ≡ Ok x → r ≡ Err k → ⊥
no_error x k r e f = absurd (cc)

not_both : (b : Bool) → b ≡ true → b ≡ false → ⊥
not_both b e f = absurd (cc)

module _ {T : Type 0} (F : form.Ghosts T) where
  -- the first of items
  record FirstItem (octets : List ℕ) (v : T) (vs : List T) : Type 0 where
    part : List ℕ
    some : 0 < length part
    parsed : F.parse Der 0 octets ≡ Ok (length part, F.encoding v)
    others : AreItems F (drop (length part) octets) vs

  first_item : (octets : List ℕ) (v : T) (vs : List T) → AreItems F octets (v ∷ vs) → Fits octets → FirstItem octets v vs
  first_item octets v vs ([], d, e, a, others) fits = let h = a.1 in absurd (omega arith)
  first_item octets v vs (y ∷ b, d, e, a, others) fits = record {
    part = y ∷ b;
    some = a.1;
    parsed = ap (F.parse Der 0) e ∙ F.parse_of_accepted Der v 0 (y ∷ b) d a.0 (first_fits octets (y ∷ b) d e fits) tt;
    others = subst (λ o. AreItems F o vs) (sym (ap (drop (suc (length b))) e ∙ drop-append_seam b d)) others;
  }

  refused_item : (octets : List ℕ) (kind : ErrorKind) (x : ℕ × List ℕ) → FrontRefused F octets kind → F.parse Der 0 octets ≡ Ok x → F.TAKES_MEMORY ≡ false → Fits octets → ⊥
  refused_item octets kind x (inl (fits, inl ran)) parsed free few = not_both F.TAKES_MEMORY ran.takes free
  refused_item octets kind x (inl (fits, inr e)) parsed free few = no_error x kind (F.parse Der 0 octets) parsed e
  refused_item octets kind x (inr (k, long)) parsed free few =
      let f : length octets < 2 ^ 32 = few in
      absurd (omega arith)

  module _ (octets : List ℕ) where
    left_fits : (left : Place) → EndsWithin octets left → Fits octets → Fits (octets_at octets left)
    left_fits left within fits =
        let ends : left.offset + left.length ≤ length octets = within in
        let few : length octets < 2 ^ 32 = fits in
        let count = left_length octets left within in
        let all : length (octets_at octets left) < 2 ^ 32 = omega arith in
        all

    -- what is left is refused only where there is no item
    pub none_if_refused : (left : Place) (fault : Fault) → LeftRefused F octets left fault → NoneIsLeft F octets left
    none_if_refused left fault (inl many) free fits within items a =
        let long = many.long in
        let few : length octets < 2 ^ 32 = fits in
        absurd (omega arith)
    none_if_refused left fault (inr (inl out)) free fits within items a = absurd (out.outside within)
    none_if_refused left fault (inr (inr refused)) free fits within [] a = refl
    none_if_refused left fault (inr (inr refused)) free fits within (v ∷ vs) a =
        let few = left_fits left within fits in
        let one = first_item (octets_at octets left) v vs a few in
        absurd (refused_item (octets_at octets left) refused.error.kind (length one.part, F.encoding v) refused.reason one.parsed free few)

    same_count : (left : Place) (value v : T) (vs : List T) (taken : ℕ) → LeftRead F octets left value taken → (one : FirstItem (octets_at octets left) v vs) → length one.part ≡ taken
    same_count left value v vs taken read one = ap (λ (q : ℕ × List ℕ). q.0) (same_item (length one.part, F.encoding v) (taken, F.encoding value) (F.parse Der 0 (octets_at octets left)) one.parsed read.read.parsed)

    -- nor is there one where a value of no octets is read
    pub none_if_empty : (left : Place) (value : T) (taken : ℕ) → LeftRead F octets left value taken → taken ≡ 0 → NoneIsLeft F octets left
    none_if_empty left value taken read empty free fits within [] a = refl
    none_if_empty left value taken read empty free fits within (v ∷ vs) a =
        let one = first_item (octets_at octets left) v vs a (left_fits left within fits) in
        let count = same_count left value v vs taken read one in
        let some = one.some in
        absurd (omega arith)

    -- the octets behind those that were taken
    octets_behind : (left next : Place) (taken : ℕ) → taken ≤ left.length → IsBehind left next taken → drop taken (octets_at octets left) ≡ octets_at octets next
    octets_behind left next taken some moved =
        let begins = moved.begins in
        let ends = moved.ends in
        let rest = drop left.offset octets in
        let count : left.length ≡ taken + next.length = omega arith in
        ap (λ n. drop taken (take n rest)) count
        ∙ drop-take taken next.length rest
        ∙ ap (take next.length) (drop-drop taken left.offset octets)
        ∙ ap (λ n. take next.length (drop n octets)) (sym begins)

    -- the items behind the one that was read
    others_are : (left next : Place) (value : T) (taken : ℕ) (items : List T) → AreItems F (octets_at octets left) items → LeftRead F octets left value taken → 0 < taken → IsBehind left next taken → (others : List T) × AreItems F (octets_at octets next) others
    others_are left next value taken [] a read some moved =
        let none = ap length a in
        let count = left_length octets left read.within in
        let most = read.some in
        absurd (omega arith)
    others_are left next value taken (v ∷ vs) a read some moved =
        let one = first_item (octets_at octets left) v vs a (left_fits left read.within read.fits) in
        let count = same_count left value v vs taken read one in
        (vs, subst (λ o. AreItems F o vs) (ap (λ n. drop n (octets_at octets left)) count ∙ octets_behind left next taken read.some moved) one.others)

    -- the item that was read, before those that are behind it
    before_others : (left next : Place) (value : T) (taken : ℕ) (items : List T) → LeftRead F octets left value taken → 0 < taken → IsBehind left next taken → AreItems F (octets_at octets next) items → AreItems F (octets_at octets left) (value ∷ items)
    before_others left next value taken items read some moved a =
        let own = octets_at octets left in
        let count = taken_counted octets left taken read.within read.some in
        let filled : 0 < length (take taken own) = subst (λ n. 0 < n) (sym count) some in
        (take taken own, drop taken own, sym (take-append-drop taken own), (read.read.accepted, filled), subst (λ o. AreItems F o items) (sym (octets_behind left next taken read.some moved)) a)

    -- the encoding of the value that was read has as many octets
    counted : (left : Place) (value : T) (taken : ℕ) → LeftRead F octets left value taken → length (F.encoding value) ≡ taken
    counted left value taken read = F.same_length Der value (take taken (octets_at octets left)) read.read.accepted ∙ taken_counted octets left taken read.within read.some

    module _ (wanted : T → Bool) (start : Place) where
      -- the first item that is wanted is among those that are left
      pub record Going (left : Place) : Type 0 where
        pub within : EndsWithin octets left
        pub rest : List T
        pub are : AreItems F (octets_at octets left) rest
        pub back : (items : List T) → AreItems F (octets_at octets left) items → (all : List T) × AreItems F (octets_at octets start) all × (first_of F wanted start.offset all ≡ first_of F wanted left.offset items)

      abbrev pub StillWanted : Place → Type 0
      StillWanted left = F.TAKES_MEMORY ≡ false → Fits octets → EndsWithin octets start → (given : List T) → AreItems F (octets_at octets start) given → Going left

      pub still_begins : StillWanted start
      still_begins free fits within given a = record { within = within; rest = given; are = a; back = λ items b. (items, b, refl) }

      unwanted : (left next : Place) (value : T) (taken : ℕ) (items : List T) → LeftRead F octets left value taken → IsBehind left next taken → wanted value ≡ false → first_of F wanted left.offset (value ∷ items) ≡ first_of F wanted next.offset items
      unwanted left next value taken items read moved is_not =
          ap (λ b. if b then Some (value, record { offset = left.offset; length = length (F.encoding value) }) else first_of F wanted (left.offset + length (F.encoding value)) items) is_not
          ∙ ap (λ n. first_of F wanted n items) (ap (λ n. left.offset + n) (counted left value taken read) ∙ sym moved.begins)

      pub still_goes : (left next : Place) (item : T × Place) → StillWanted left → HasFront F octets left item → IsBehind left next item.1.length → wanted item.0 ≡ false → StillWanted next
      still_goes left next item still has moved is_not free fits within given a =
          let now = still free fits within given a in
          let read = has.front.read in
          let begins = moved.begins in
          let ends = moved.ends in
          let most : left.offset + left.length ≤ length octets = now.within in
          let others = others_are left next item.0 item.1.length now.rest now.are read has.some moved in
          let inside : next.offset + next.length ≤ length octets = omega arith in
          record {
            within = inside;
            rest = others.0;
            are = others.1;
            back = λ items b.
                let all = now.back (item.0 ∷ items) (before_others left next item.0 item.1.length items read has.some moved b) in
                (all.0, all.1, all.2 ∙ unwanted left next item.0 item.1.length items read moved is_not);
          }

      pub still_found : (left : Place) (item : T × Place) → StillWanted left → HasFront F octets left item → wanted item.0 ≡ true → F.TAKES_MEMORY ≡ false → Fits octets → EndsWithin octets start → (given : List T) → AreItems F (octets_at octets start) given → IsFirst F wanted octets start (Some item)
      still_found left item still has is_one free fits within given a =
          let now = still free fits within given a in
          let read = has.front.read in
          let most = read.some in
          let next : Place = record { offset = left.offset + item.1.length; length = left.length - item.1.length } in
          let ends : (left.offset + item.1.length) + (left.length - item.1.length) ≡ left.offset + left.length = omega arith in
          let moved : IsBehind left next item.1.length = record { begins = refl; ends = ends } in
          let others = others_are left next item.0 item.1.length now.rest now.are read has.some moved in
          let all = now.back (item.0 ∷ others.0) (before_others left next item.0 item.1.length others.0 read has.some moved others.1) in
          let place_is : record { offset = left.offset; length = length (F.encoding item.0) } ≡ item.1 = ap₂ (λ (m : ℕ) (n : ℕ). let p : Place = record { offset = m; length = n } in p) (sym has.front.begins) (counted left item.0 item.1.length read) in
          let is : first_of F wanted left.offset (item.0 ∷ others.0) ≡ Some item =
          ap (λ b. if b then Some (item.0, record { offset = left.offset; length = length (F.encoding item.0) }) else first_of F wanted (left.offset + length (F.encoding item.0)) others.0) is_one
          ∙ ap (λ (p : Place). Some (item.0, p)) place_is in
          record { items = all.0; are = all.1; found_is = sym (all.2 ∙ is) }

      pub still_ends : (left : Place) → StillWanted left → NoneIsLeft F octets left → F.TAKES_MEMORY ≡ false → Fits octets → EndsWithin octets start → (given : List T) → AreItems F (octets_at octets start) given → IsFirst F wanted octets start None
      still_ends left still none free fits within given a =
          let now = still free fits within given a in
          let nothing = none free fits now.within now.rest now.are in
          let all = now.back [] (subst (λ l. AreItems F (octets_at octets left) l) nothing now.are) in
          record { items = all.0; are = all.1; found_is = sym all.2 }

  -- whether an item is found is whether one is wanted
  pub some_is : (wanted : T → Bool) (offset : ℕ) (items : List T) → is_some (first_of F wanted offset items) ≡ list_any wanted items
  some_is wanted offset [] = refl
  some_is wanted offset (v ∷ vs) = go (wanted v) (some_is wanted (offset + length (F.encoding v)) vs)
    where
      go : (b : Bool) → is_some (first_of F wanted (offset + length (F.encoding v)) vs) ≡ list_any wanted vs → is_some (if b then Some (v, record { offset = offset; length = length (F.encoding v) }) else first_of F wanted (offset + length (F.encoding v)) vs) ≡ (b || list_any wanted vs)
      go true others = refl
      go false others = others
