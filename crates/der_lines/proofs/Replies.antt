-- A reply that is filled from its front.
use Rattle.std.proofs.Common.{◌≡◌, ℕ, ◌+◌, List, [], ◌∷◌, ◌++◌, length, append_assoc, length-append, sym, ap, ◌∙◌, arith}
use Rattle.std.proofs.Common.{Result, Ok, Err, false}
use Rattle.std.proofs.lemmas.Bool.{true≢false}
use Rattle.std.specs.Prelude.{slice_set, OnOk}
use Rattle.std.specs.Result.{is_err}
use Rattle.std.proofs.Math.Seq.{set-append_seam}

-- what holds if there is no error
pub on_ok : {A E P : Type 0} (r : Result A E) → is_err r ≡ false → OnOk r P → P
on_ok (Ok a) e o = o
on_ok (Err x) e o = absurd (true≢false e)

-- the last octet after a head and digits
pub last_octet : (head digits post : List ℕ) (last octet : ℕ) → length post ≡ 1 → last ≡ length head + length digits → slice_set (head ++ (digits ++ post)) last octet ≡ head ++ (digits ++ octet ∷ [])
last_octet head digits [] last octet one e = absurd (omega (arith, one))
last_octet head digits (p ∷ q ∷ post) last octet one e = absurd (omega (arith, one))
last_octet head digits (p ∷ []) last octet one e =
    ap (λ l. slice_set l last octet) (sym (append_assoc head digits (p ∷ [])))
    ∙ ap (λ n. slice_set ((head ++ digits) ++ p ∷ []) n octet) (e ∙ sym (length-append head digits))
    ∙ set-append_seam (head ++ digits) p [] octet ∙ append_assoc head digits (octet ∷ [])
