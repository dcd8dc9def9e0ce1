use Rattle.std.proofs.Common.{rules, ◌≡◌, ◌∙◌, sym, ap, length, Ok}
use Rattle.std.specs.declared.cmp.Ordering.TheVariants.{Equal}
use Rattle.std.specs.Ordering.{nat_cmp}
use Rattle.der_tlv.specs.Identifier.{identifier}
use Rattle.der_tlv.specs.Octets.{lex}
use Rattle.der_elem.proofs.Headed.{Headed, equal_decides, lengths_decide, contents_decide}
use Rattle.der_elem.proofs.blanket.cmp_contents_first.Goals as goal
use Rattle.der_elem.proofs.blanket.cmp_contents_first.Goals.{After-cmp}

lengths_are : (g : _) (c : After-cmp g) → c.cmp.result ≡ nat_cmp (length (g.T.FormValue.value.contents c.args.value.now)) (length (g.T.FormValue.value.contents c.args.other.now))
lengths_are g c =
    c.cmp.ensures ∙ ap (λ n. nat_cmp n c.in_ok-value_len-2.field-0) c.in_ok-value_len.ensures.0 ∙ ap (nat_cmp (length (g.T.FormValue.value.contents c.args.value.now))) c.in_ok-value_len-2.ensures.0

pub returns-in-Ok-Equal : goal.returns-in-Ok-Equal
returns-in-Ok-Equal g c =
    let headed : Headed g.T.FormValue.value g.T.Form g.T.Tagged.tag_of = record { encoding_is = g.met.T.Tagged.encoding_is; re_reads_alike = g.met.T.Tagged.re_reads_alike; comparable_alike = g.met.T.Tagged.comparable_alike } in
    let same_tag : lex (identifier (g.T.Tagged.tag_of c.args.value.now)) (identifier (g.T.Tagged.tag_of c.args.other.now)) ≡ Equal = search rules in
    let equal : c.value_cmp-contents.result ≡ Ok Equal = search rules in
    equal_decides headed c.args.value.now c.args.other.now same_tag c.value_cmp-contents.result equal c.value_cmp-contents.ensures

pub returns-in-Equal : goal.returns-in-Equal
returns-in-Equal g c =
    let headed : Headed g.T.FormValue.value g.T.Form g.T.Tagged.tag_of = record { encoding_is = g.met.T.Tagged.encoding_is; re_reads_alike = g.met.T.Tagged.re_reads_alike; comparable_alike = g.met.T.Tagged.comparable_alike } in
    let same_tag : lex (identifier (g.T.Tagged.tag_of c.args.value.now)) (identifier (g.T.Tagged.tag_of c.args.other.now)) ≡ Equal = search rules in
    let at = (goal.at.returns-in-Equal g c).After-cmp in
    contents_decide headed c.args.value.now c.args.other.now same_tag (sym (lengths_are g at) ∙ c.in-Equal.is) c.value_cmp-contents.result c.value_cmp-contents.ensures

pub returns-in_default-cmp : goal.returns-in_default-cmp
returns-in_default-cmp g c =
    let headed : Headed g.T.FormValue.value g.T.Form g.T.Tagged.tag_of = record { encoding_is = g.met.T.Tagged.encoding_is; re_reads_alike = g.met.T.Tagged.re_reads_alike; comparable_alike = g.met.T.Tagged.comparable_alike } in
    let same_tag : lex (identifier (g.T.Tagged.tag_of c.args.value.now)) (identifier (g.T.Tagged.tag_of c.args.other.now)) ≡ Equal = search rules in
    let at = (goal.at.returns-in_default-cmp g c).After-cmp in
    lengths_decide headed c.args.value.now c.args.other.now same_tag c.cmp.result (lengths_are g at) c.in_default-cmp.not-Equal
