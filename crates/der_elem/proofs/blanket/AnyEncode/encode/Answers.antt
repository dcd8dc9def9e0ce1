use Rattle.std.proofs.Common.{rules, ◌≡◌, ◌∙◌, ◌++◌, sym, ap}
use Rattle.der_tlv.specs.HeaderOctets.{header_octets, tlv}
use Rattle.der_elem.proofs.Written.{refused_within, wrote_nothing, last_part}
use Rattle.der_elem.proofs.blanket.AnyEncode.encode.Goals as goal
use Rattle.der_elem.proofs.blanket.AnyEncode.encode.Goals.{After-encode}

whole : (g : _) (c : After-encode g) → g.T.Form.encoding c.args.self.now ≡ header_octets c.new-header.result.tag c.new-header.result.length ++ g.T.FormValue.value.contents c.args.self.now
whole g c =
    g.met.T.Tagged.encoding_is c.args.self.now ∙ ap (λ t. tlv t (g.T.FormValue.value.contents c.args.self.now)) (sym (c.new-header.ensures.tag ∙ c.tag.ensures.value)) ∙ ap (λ n. header_octets c.new-header.result.tag n ++ g.T.FormValue.value.contents c.args.self.now) (sym (c.new-header.ensures.length ∙ c.in_ok-value_len.ensures.0))

pub returns-in_err-encode : goal.returns-in_err-encode
returns-in_err-encode g c =
    let refused = refused_within (wrote_nothing (g.W.Writer.state c.args.writer.now)) (g.T.Form.encoding c.args.self.now) (header_octets c.new-header.result.tag c.new-header.result.length) (g.T.FormValue.value.contents c.args.self.now) (whole g (goal.at.returns-in_err-encode g c).After-encode) c.in_err-encode.ensures in
    search rules

pub returns : goal.returns
returns g c =
    last_part c.in_ok-encode.ensures (g.T.Form.encoding c.args.self.now) (g.T.FormValue.value.contents c.args.self.now) (whole g (goal.at.returns g c).After-encode) (g.T.FormValue.value.re_reads c.args.self.now) (g.T.Form.re_reads c.args.self.now) (g.met.T.Tagged.re_reads_alike c.args.self.now) (g.W.Writer.state c.encode_value.new.writer) c.encode_value.result c.encode_value.ensures
