use Rattle.std.proofs.Common.{subst}
use Rattle.std.specs.Prelude.{Err}
use Rattle.der_path.specs.Facts.{Reads}
use Rattle.der_path.specs.RevocationFacts.{ShowsEntryFacts}
use Rattle.der_path.proofs.revocation_facts.KeepEntryKeeperRevokedCertificate.keep.Goals as goal

pub returns-in-Err-Unread : goal.returns-in-Err-Unread
returns-in-Err-Unread c = λ listed a.
    subst (λ e. Reads (ShowsEntryFacts c.args.item.now listed) (Err e)) c.in-Err-Unread.field-0-is (c.in-Err-Unread.ensures listed a)
