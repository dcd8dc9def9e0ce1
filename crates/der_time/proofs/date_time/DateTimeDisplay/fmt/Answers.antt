use Rattle.std.proofs.Common.{sym, subst}
use Rattle.std.specs.Str.{IsUtf8}
use Rattle.der_time.specs.TimeLaws.{text_utf8}
use Rattle.der_time.proofs.date_time.DateTimeDisplay.fmt.Goals as goal

pub unreachable-requires : goal.unreachable-requires
unreachable-requires g c =
    c.in-Err.ensures.cases.0 (subst IsUtf8 (sym c.text-text.ensures) (text_utf8 c.args.self.now))
