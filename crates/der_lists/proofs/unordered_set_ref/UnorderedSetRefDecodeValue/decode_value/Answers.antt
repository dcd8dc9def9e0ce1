use Rattle.std.proofs.Common.{rules, ◌<◌, ◌^◌, length, subst, sym}
use Rattle.der_tlv.specs.ReaderState.{IsReaderState, rest}
use Rattle.der_nest.specs.KeptFormat.{Keeps, parse_of_kept}
use Rattle.der_lists.specs.UnorderedSetRef.{octets_of}
use Rattle.der_nest.specs.BorrowedSequences.{items_format}
use Rattle.der_nest.proofs.SetReading.{rest_fits}
use Rattle.der_lists.proofs.unordered_set_ref.UnorderedSetRefDecodeValue.decode_value.Goals as goal

pub returns-in-Ok-clause-exact : goal.returns-in-Ok-clause-exact
returns-in-Ok-clause-exact g c = λ shows.
    let old = g.R.Source.state c.args.reader.now in
    let sound : IsReaderState old = search rules in
    let F = items_format g.T.Form in
    let fits = rest_fits old sound in
    let read = c.in_ok-octets.ensures.ok shows in
    let kept = c.in-Ok.ensures.kept (subst (λ o. length o < 2 ^ 32) (sym read.all) fits) in
    let accepted = subst (Keeps octets_of F c.in-Ok.list) read.all kept in
    record {
      ready = read.ready;
      parsed = parse_of_kept octets_of F c.in-Ok.list (rest old) accepted fits;
      accepted = accepted;
      tag = tt;
      after = read.after;
    }
