use Rattle.std.proofs.Common.{◌∙◌, ap}
use Rattle.der_tlv.specs.declared.encoding_rules.EncodingRules.TheVariants.{Der}
use Rattle.der_tlv.specs.ReaderState.{new_reader}
use Rattle.der_opaque.proofs.any.Any.sequence.Goals as goal

pub returns-clause-called : goal.returns-clause-called
returns-clause-called g c tag =
    let told = c.sequence.ensures.called (c.to_ref.ensures.tag ∙ tag) in
    record {
      old = told.old;
      new = told.new;
      answer = told.answer;
      opens = told.opens ∙ ap (λ octets. new_reader octets Der) c.to_ref.ensures.value;
      returns = told.returns;
      ends = told.ends;
    }
