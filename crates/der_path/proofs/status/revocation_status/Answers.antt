use Rattle.std.proofs.Common.{refl, subst, sym}
use Rattle.std.specs.Prelude.{Err, Vec}
use Rattle.std.specs.declared.alloc.Global.{Global}
use Rattle.der_pkix.specs.Certificate.Certificate as certificate
use Rattle.der_path.specs.declared.points.Point.{Point}
use Rattle.der_path.specs.Facts.{Reads}
use Rattle.der_path.specs.Points.{ShowsPoints}
use Rattle.der_path.specs.RevocationFacts.{ShowsTarget}
use Rattle.der_path.proofs.status.revocation_status.Goals as goal

pub returns-in-Err-Unread : goal.returns-in-Err-Unread
returns-in-Err-Unread c = λ listed a t points is_target are_points.
    (subst (λ e. Reads (ShowsTarget (certificate.tbs_certificate c.args.certificate.now) listed) (Err e)) c.in-Err-Unread.field-0-is (subst (λ v. Reads (ShowsTarget v listed) (Err c.in-Err-Unread.field-0)) c.tbs_certificate.ensures (c.in-Err-Unread.ensures listed (rw c.tbs_certificate.ensures a)))) t is_target

pub returns-in-Err-Unread-points_of : goal.returns-in-Err-Unread-points_of
returns-in-Err-Unread-points_of c = λ listed a t points is_target are_points.
    (subst (λ e. Reads (λ (p : Vec Point Global). ShowsPoints (certificate.tbs_certificate c.args.certificate.now) listed p.items) (Err e)) c.in-Err-Unread-points_of.field-0-is
    (subst (λ v. Reads (λ (p : Vec Point Global). ShowsPoints v listed p.items) (Err c.in-Err-Unread-points_of.field-0)) c.tbs_certificate-2.ensures (c.in-Err-Unread-points_of.ensures listed (rw c.tbs_certificate-2.ensures a)))) points are_points

pub returns : goal.returns
returns c = λ listed a. record {
  asked = record { target = c.in-Ok.target; lists = c.in-Ok-trusted_lists.lists; moment = c.args.moment; use_deltas = c.args.use_deltas };
  is_target = subst (λ v. ShowsTarget v listed c.in-Ok.target) c.tbs_certificate.ensures (c.in-Ok.ensures listed (rw c.tbs_certificate.ensures a));
  are_lists = c.in-Ok-trusted_lists.ensures;
  moment_is = refl;
  deltas_are = refl;
  points = c.deref.result.now;
  are_points = subst (ShowsPoints (certificate.tbs_certificate c.args.certificate.now) listed) (sym c.deref.ensures.value) (subst (λ v. ShowsPoints v listed c.in-Ok-points_of.points.items) c.tbs_certificate-2.ensures (c.in-Ok-points_of.ensures listed (rw c.tbs_certificate-2.ensures a)));
  status_is = c.status_of.ensures;
}
