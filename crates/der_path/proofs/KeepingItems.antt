-- Items that are read one after another, and what is kept of each.
use Rattle.std.proofs.Common.{◌≡◌, ℕ, ◌+◌, ◌<◌, List, [], ◌∷◌, ◌++◌, length, sym, subst}
use Rattle.der_tlv.specs.ReaderState.{IsReaderState, ReaderState, rest, new_reader}
use Rattle.der_tlv.specs.declared.encoding_rules.EncodingRules.TheVariants.{Der}
use Rattle.der_elem.specs.declared.form.Form as form
use Rattle.der_elem.specs.Decoding.{Decoded}
use Rattle.der_nest.proofs.CountedReading.{all_octets, none_counted, one_more_counted, CountedSoFar}
use Rattle.der_verify.specs.Shown.{AreShown, ShowEach}
use Rattle.der_path.proofs.ShowingEach.{show_more}

-- some items were read, and each shows what is kept at its index
pub record KeptSoFar {T X : Type 0} (F : form.Ghosts T) (shows : T → X → Type 0) (octets : List ℕ) (now : ReaderState) (kept : List X) : Type 0 where
  pub count : ℕ
  pub read : CountedSoFar F octets now count
  pub show : ShowEach shows read.items kept

module _ {T X : Type 0} (F : form.Ghosts T) (shows : T → X → Type 0) where
  pub none_kept : (octets : List ℕ) (now : ReaderState) (kept : List X) → now ≡ new_reader octets Der → kept ≡ [] → KeptSoFar F shows octets now kept
  none_kept octets now kept new none =
      subst (KeptSoFar F shows octets now) (sym none) (record { count = 0; read = none_counted F octets now new; show = tt })

  module _ (octets : List ℕ) (now new : ReaderState) (kept : List X) (so_far : KeptSoFar F shows octets now kept) where
    pub one_kept : ((v : T) (b : List ℕ) → F.accepts Der v b → 0 < length b) → 0 < length (rest now) → (v : T) (x : X) (more : List X) → Decoded F now new v → shows v x → more ≡ kept ++ x ∷ [] → KeptSoFar F shows octets new more
    one_kept nonempty some v x more told one is =
        subst (KeptSoFar F shows octets new) (sym is) (record {
          count = so_far.count + 1;
          read = one_more_counted so_far.read nonempty some told;
          show = show_more shows so_far.read.items kept v x so_far.show one;
        })

    pub all_kept : IsReaderState now → rest now ≡ [] → AreShown F shows octets kept
    all_kept sound none = record { items = so_far.read.items; are = all_octets so_far.read sound none; show = so_far.show }
