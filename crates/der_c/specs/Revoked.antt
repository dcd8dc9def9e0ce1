-- The entry of a list of revoked certificates with a serial number (RFC 5280 5.1.2.6).
use Rattle.std.specs.Prelude.{◌≡◌, ℕ, nat_eq, List, length, Bool, Option, None, Some}
use Rattle.std.specs.Cmp.Lexicographic.{pointwise}
use Rattle.der_elem.specs.declared.form.Form as form
use Rattle.der_lists.specs.ListRef.{octets_of}
use Rattle.der_lists.specs.declared.list_ref.ListRef.{ListRef}
use Rattle.der_numbers.specs.IntRef.{contents_of}
use Rattle.der_pkix.specs.Crl.RevokedCertificate as revoked
use Rattle.der_pkix.specs.declared.crl.revoked_certificate.RevokedCertificate.{RevokedCertificate}
use Rattle.der_places.specs.Layout.{LaidOut, Layout}
use Rattle.der_places.specs.Walking.{StandAt}
use Rattle.der_places.specs.declared.crl.revoked_certificate.RevokedCertificatePlaces.{RevokedCertificatePlaces}
use Rattle.der_places.specs.declared.place.Place.{Place}
use Rattle.der_c.specs.Building.{octets_at}
use Rattle.der_c.specs.Finding.{IsFirst}
use Rattle.der_c.specs.Times.{seconds_of}
use Rattle.der_c.specs.declared.revoked_certificate.RevokedCertificateAt.{RevokedCertificateAt}

-- whether the serial number of an entry has these contents octets
abbrev pub has_serial : List ℕ → RevokedCertificate → Bool
has_serial serial v = pointwise nat_eq (contents_of (revoked.user_certificate v)) serial

abbrev pub nowhere : Place
nowhere = record { offset = 0; length = 0 }

-- no entry
abbrev pub no_entry : RevokedCertificateAt
no_entry = record {
  whole = nowhere;
  fields = record { user_certificate = nowhere; revocation_date = nowhere; crl_entry_extensions = nowhere };
  revocation_date = 0;
}

-- an entry, the byte ranges of its fields, and its date
pub record IsEntry (layout : RevokedCertificate → Layout) (listed : RevokedCertificatePlaces → List Place) (octets : List ℕ) (entry : RevokedCertificate × Place) (at : RevokedCertificateAt) : Type 0 where
  pub whole : at.whole ≡ entry.1
  pub fields : LaidOut (layout entry.0) entry.1.offset (listed at.fields) (octets_at octets entry.1)
  pub revocation_date : at.revocation_date ≡ seconds_of (revoked.revocation_date entry.0)

abbrev pub ShowsEntry : (RevokedCertificate → Layout) → (RevokedCertificatePlaces → List Place) → List ℕ → Option (RevokedCertificate × Place) → RevokedCertificateAt → Type 0
ShowsEntry layout listed octets None at = at ≡ no_entry
ShowsEntry layout listed octets (Some entry) at = IsEntry layout listed octets entry at

-- the contents octets of a list are somewhere in the octets, and this is the first of its entries with this serial number, if there is one
pub record IsAmong (F : form.Ghosts RevokedCertificate) (layout : RevokedCertificate → Layout) (listed : RevokedCertificatePlaces → List Place) (serial octets entries : List ℕ) (at : RevokedCertificateAt) : Type 0 where
  pub place : Place
  pub stands : StandAt octets place.offset entries
  pub length_is : place.length ≡ length entries
  pub found : Option (RevokedCertificate × Place)
  pub is_first : IsFirst F (has_serial serial) octets place found
  pub shown : ShowsEntry layout listed octets found at

-- the entries of a field that may be absent
abbrev pub FindsRevoked : form.Ghosts RevokedCertificate → (RevokedCertificate → Layout) → (RevokedCertificatePlaces → List Place) → List ℕ → List ℕ → Option (ListRef RevokedCertificate) → RevokedCertificateAt → Type 0
FindsRevoked F layout listed serial octets None at = at ≡ no_entry
FindsRevoked F layout listed serial octets (Some entries) at = IsAmong F layout listed serial octets (octets_of entries) at
