use Rattle.std.proofs.Common.{inl, inr, subst, sym, ap, refl, length, ◌<◌, ◌∙◌}
use Rattle.der_c.proofs.Left.{left_length}
use Rattle.der_c.proofs.signed_attributes.der_signed_attributes.Goals as goal

pub returns-in-Some : goal.returns-in-Some
returns-in-Some c =
    let there = c.in-Some.ensures in
    let count = ap length there.are ∙ left_length c.args.octets.now c.args.signed_attrs.now there.within in
    inl (c.in-Some.own.now, there, c.fill_set.ensures (subst (λ n. 0 < n) (sym count) there.some))

pub returns-in-None : goal.returns-in-None
returns-in-None c =
    let told = c.refuse_call.ensures in
    inr (c.in-None.ensures, told.written, record { number = told.number ∙ sym (ap (λ f. f.number) told.written); unchanged = refl; count_is = refl })
