use Rattle.std.proofs.Common.{◌≡◌, None, option_and_then, refl, sym, ap, ◌∙◌, rules}
use Rattle.der_time.specs.Times.{time_text}
use Rattle.der_time.specs.TimeReading.{read_text, if_time}
use Rattle.der_time.specs.DateTime.{date_time_text}
use Rattle.der_time.specs.declared.date_time.DateTime.{DateTime}
use Rattle.der_time.specs.TimeLaws.{text_refused, text_injective}
use Rattle.der_time.proofs.date_time.DateTimeFromStr.from_str.Goals as goal

pub returns-in_default : goal.returns-in_default
returns-in_default c =
    let none : option_and_then if_time (read_text c.as_bytes.result.now) ≡ None = ap (option_and_then if_time) (sym c.in_default.ensures.value) in
    let nothing = λ (t : DateTime) (own : c.args.text.now ≡ date_time_text t). text_refused t c.as_bytes.result.now none (c.as_bytes.ensures.value ∙ own) in
    ((search rules, nothing), λ t own. absurd (nothing t own))

pub returns-in-None : goal.returns-in-None
returns-in-None c =
    let none : option_and_then if_time (read_text c.as_bytes.result.now) ≡ None =
    ap (option_and_then if_time) (sym c.in-Some.ensures.value) ∙ rw c.in-None.ensures refl in
    let nothing = λ (t : DateTime) (own : c.args.text.now ≡ date_time_text t). text_refused t c.as_bytes.result.now none (c.as_bytes.ensures.value ∙ own) in
    ((search rules, nothing), λ t own. absurd (nothing t own))

pub returns-in-Some-to_date_time : goal.returns-in-Some-to_date_time
returns-in-Some-to_date_time c =
    let time = c.in-Some-to_date_time.time in
    let shown : c.args.text.now ≡ date_time_text time =
    sym c.as_bytes.ensures.value ∙ c.in-Some.ensures.digits ∙ ap time_text (sym c.in-Some-to_date_time.ensures) in
    (shown, λ t own. text_injective time t (sym shown ∙ own))
