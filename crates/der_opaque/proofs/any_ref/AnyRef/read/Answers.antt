use Rattle.std.proofs.Common.{rules, ◌+◌, length}
use Rattle.der_tlv.specs.HeaderReading.{octets_of}
use Rattle.der_tlv.specs.ReaderState.{IsReaderState}
use Rattle.der_elem.proofs.AtContents.{at_header}
use Rattle.der_opaque.proofs.AnyDecoding.{not_read_any, parsed_any, taken_any, after_any}
use Rattle.der_opaque.proofs.any_ref.AnyRef.read.Goals as goal

pub returns-in-Err : goal.returns-in-Err
returns-in-Err g c =
    let old = g.R.Source.state c.args.reader.now in
    let sound : IsReaderState old = search rules in
    let told = not_read_any sound old.rules c.in-Err.ensures.err in
    let fault = told.0 in
    let reader = told.1 in
    search rules

pub returns-in-Ok : goal.returns-in-Ok
returns-in-Ok g c =
    let old = g.R.Source.state c.args.reader.now in
    let sound : IsReaderState old = search rules in
    let read = c.in-Ok.ensures.ok in
    let at = at_header sound read.head in
    record {
      taken = length (octets_of c.in-Ok.header) + c.in-Ok.header.length;
      ready = at.head.ready;
      parsed = parsed_any at read.contents_are old.rules;
      accepted = (c.in-Ok.ensures.bounded, taken_any at read.contents_are);
      after = after_any at read.contents_are;
    }
