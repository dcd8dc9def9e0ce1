-- Encodings of equal parts are equal.
use Rattle.std.proofs.Common.{◌≡◌, List, ℕ, Bool, ap, ◌∙◌}
use Rattle.der_build.specs.Extensions.{extension_octets}

pub same_extension : {i identifier v value : List ℕ} {b critical : Bool} → i ≡ identifier → b ≡ critical → v ≡ value → extension_octets i b v ≡ extension_octets identifier critical value
same_extension {i} {identifier} {v} {value} {b} {critical} e f g =
    ap (λ (l : List ℕ). extension_octets l b v) e ∙ ap (λ (c : Bool). extension_octets identifier c v) f ∙ ap (λ (l : List ℕ). extension_octets identifier critical l) g
