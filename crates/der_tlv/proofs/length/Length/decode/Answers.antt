use Rattle.std.proofs.Common.{rules, sym, subst}
use Rattle.der_tlv.specs.declared.error.ErrorKind.TheVariants.{Overlength, IndefiniteLength}
use Rattle.der_tlv.specs.LengthOctets.{length_octets}
use Rattle.der_tlv.specs.HeaderReading.{read_length}
use Rattle.der_tlv.specs.Reading.{HeadRead}
use Rattle.der_tlv.proofs.ShortLengths.{short_length, no_length, bad_length, indefinite, too_many, long_reads}
use Rattle.der_tlv.proofs.length.Length.decode.Goals as goal

pub returns-in_err-first : goal.returns-in_err-first
returns-in_err-first g c = let there = no_length c.in_err-first.ensures in search rules

pub returns-in-0-to-127 : goal.returns-in-0-to-127
returns-in-0-to-127 g c =
    subst (λ n. HeadRead read_length (length_octets n) (g.R.Source.state c.args.reader.now) (g.R.Source.state c.read_byte.new.self) n) (sym c.from.ensures) (short_length c.in_ok-first.ensures (search rules))

pub returns-in-128 : goal.returns-in-128
returns-in-128 g c =
    bad_length c.in_ok-first.ensures IndefiniteLength (indefinite c.in_ok-first.first (search rules)) c.error.ensures.kind c.error.ensures.failed

pub returns-in-129-to-132 : goal.returns-in-129-to-132
returns-in-129-to-132 g c =
    long_reads _ c.in_ok-first.ensures (search rules) (search rules) c.decode_long.result c.decode_long.ensures.head c.decode_long.ensures.whole

pub returns-in_default : goal.returns-in_default
returns-in_default g c =
    bad_length c.in_ok-first.ensures Overlength (too_many c.in_ok-first.first (search rules)) c.error-in_default.ensures.kind c.error-in_default.ensures.failed
