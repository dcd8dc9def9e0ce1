use Rattle.std.proofs.Common.{◌≡◌, ℕ, ◌==◌, ◌<◌, Bool, true, false, map, cond, get_or, refl, ap, ◌∙◌, arith}
use Rattle.std.proofs.lemmas.List.FromFn.{get_or-map-range_with_len}
use Rattle.std.specs.List.{range_with_len}
use Rattle.der_ascii.specs.Characters.{is_printable}
use Rattle.der_ascii.specs.declared.characters.TheConstants.{PRINTABLE}
use Rattle.der_ascii.proofs.characters.is_printable.Goals as goal

abbrev mark : ℕ → ℕ
mark octet = cond (is_printable octet) 1 0

-- the table has the mark of each octet
table_is : PRINTABLE ≡ map mark (range_with_len 0 256)
unfolding is_printable
table_is = refl

marked : (t : Bool) → (cond t 1 0 == 1) ≡ t
marked true = refl
marked false = refl

looked_up : (octet : ℕ) → octet < 256 → (get_or PRINTABLE octet 0 == 1) ≡ is_printable octet
looked_up octet h =
    ap (λ (n : ℕ). n == 1) (ap (λ t. get_or t octet 0) table_is ∙ get_or-map-range_with_len mark 0 256 octet octet 0 h (omega arith))
    ∙ marked (is_printable octet)

pub returns : goal.returns
returns c = rw c.from.ensures (looked_up c.args.octet (omega arith))
