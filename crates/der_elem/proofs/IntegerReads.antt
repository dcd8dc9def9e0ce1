-- Integers that are read from all of the contents octets.
use Rattle.std.proofs.Common.{ℕ, ◌<◌, List, ℤ, Ok, sym, ap, ◌∙◌}
use Rattle.der_tlv.specs.ReaderState.{ReaderState}
use Rattle.der_elem.specs.Contents.{ContentsRead}
use Rattle.der_elem.specs.OwnContents.{OwnDecoded}
use Rattle.der_elem.specs.Integer.{natural_contents, integer_contents, FitsSignedWidth, FitsUnsignedWidth}
use Rattle.der_elem.specs.IntegerReading.{ReadsSigned, ReadsUnsigned, parse_signed, parse_unsigned}
use Rattle.der_elem.specs.IntegerReadingLaws.{parse_signed-own, parse_unsigned-own}

-- an integer that the octets of a reader are read as was decoded from them
pub signed_decoded : (width : ℕ) (some : 0 < width) (old new : ReaderState) (octets : List ℕ) (integer : ℤ) → ContentsRead old new octets → ReadsSigned width octets (Ok integer) → OwnDecoded integer_contents (FitsSignedWidth width) (parse_signed width) old new integer
signed_decoded width some old new octets integer read reads =
    let own = sym read.all ∙ reads.0 in
    record {
      ready = read.ready;
      parsed = ap (parse_signed width old.rules old.position) own ∙ parse_signed-own width some old.rules integer old.position reads.1;
      own = own;
      within = reads.1;
      after = read.after;
    }

-- a number that the octets of a reader are read as was decoded from them
pub unsigned_decoded : (width : ℕ) (old new : ReaderState) (octets : List ℕ) (number : ℕ) → ContentsRead old new octets → ReadsUnsigned width octets (Ok number) → OwnDecoded natural_contents (FitsUnsignedWidth width) (parse_unsigned width) old new number
unsigned_decoded width old new octets number read reads =
    let own = sym read.all ∙ reads.0 in
    record {
      ready = read.ready;
      parsed = ap (parse_unsigned width old.rules old.position) own ∙ parse_unsigned-own width old.rules number old.position reads.1;
      own = own;
      within = reads.1;
      after = read.after;
    }
