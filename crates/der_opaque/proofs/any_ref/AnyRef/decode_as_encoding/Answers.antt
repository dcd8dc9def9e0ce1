use Rattle.std.proofs.Common.{◌≡◌, ◌∙◌, sym, ap, subst, length, true}
use Rattle.der_opaque.specs.DecodingAs.{DecodesAs}
use Rattle.der_opaque.proofs.CarriedContents.{rest_opened, decodes_as}
use Rattle.der_opaque.proofs.any_ref.AnyRef.decode_as_encoding.Goals as goal

pub returns : goal.returns
returns g c =
    let allowed : g.T.Form.tags c.header.result.tag ≡ true = ap g.T.Form.tags c.header.ensures.tag ∙ sym c.if-not-can_decode.ensures in
    let told = c.decode_value.ensures.exact (ap length (rest_opened c.args.self.value.now c.args.rules c.in-Ok.ensures.state) ∙ sym c.header.ensures.length) in
    let as_told = decodes_as g.T.Form g.T.FormValue.value c.args.rules c.header.result c.args.self.value.now c.args.self.short allowed _ _ c.decode_value.result c.in-Ok.ensures.state told in
    subst (λ t. DecodesAs g.T.Form g.T.FormValue.value c.args.rules t c.args.self.value.now c.decode_value.result) c.header.ensures.tag as_told
