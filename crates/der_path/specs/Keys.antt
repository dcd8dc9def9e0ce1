-- The working public key (RFC 5280 6.1.2 (g) to (i), 6.1.4 (d) to (f)), and what has to verify with it (6.1.3 (a)(1)).
use Rattle.std.specs.Prelude.{◌≡◌, ℕ, ◌==◌, nat_eq, List, [], ◌∷◌, length, Bool, ◌&&◌, if◌then◌else◌, Option, Some, None}
use Rattle.std.specs.Borrow.{Bor}
use Rattle.std.specs.Cmp.Lexicographic.{pointwise}
use Rattle.der_tlv.specs.declared.encoding_rules.EncodingRules.TheVariants.{Der}
use Rattle.der_tlv.specs.declared.tag.Tag.TheVariants.{Null}
use Rattle.der_tlv.specs.contracts.tag.TagPartialEq.TheImpl as tags
use Rattle.der_opaque.specs.declared.any_ref.AnyRef.{AnyRef}
use Rattle.der_opaque.specs.AnyRef.{contents_of, tag_of}
use Rattle.der_opaque.specs.ObjectIdentifierRef.{octets_of}
use Rattle.der_pkix.specs.declared.algorithm_identifier.AlgorithmIdentifier.{AlgorithmIdentifier}
use Rattle.der_pkix.specs.declared.certificate.certificate.Certificate.{Certificate}
use Rattle.der_pkix.specs.declared.certificate.subject_public_key_info.SubjectPublicKeyInfo.{SubjectPublicKeyInfo}
use Rattle.der_pkix.specs.Certificate.Certificate as certificate
use Rattle.der_pkix.specs.Certificate.SubjectPublicKeyInfo as key
use Rattle.der_pkix.specs.Certificate.TbsCertificate as tbs
use Rattle.der_verify.specs.Signed.{ReadsFirst}
use Rattle.der_path.specs.contracts.meanings.MeaningsMeantTbsCertificate.TheImpl as tbs_form
use Rattle.der_path.specs.declared.keys.Anchor.{Anchor}
use Rattle.der_path.specs.declared.keys.Verification.{Verification}
use Rattle.der_path.specs.declared.keys.WorkingKey.{WorkingKey}

-- NULL, 05 00
abbrev pub is_null : AnyRef → Bool
is_null p = tags.ghosts.eq (tag_of p) Null && length (contents_of p) == 0

-- "non-null parameters"
abbrev pub non_null : Option AnyRef → Option AnyRef
non_null None = None
non_null (Some p) = if is_null p then None else Some p

abbrev pub same_algorithm : AlgorithmIdentifier → AlgorithmIdentifier → Bool
same_algorithm a b = pointwise nat_eq (octets_of a.oid) (octets_of b.oid)

abbrev pub or_else : Option AnyRef → Option AnyRef → Option AnyRef
or_else None other = other
or_else (Some p) other = Some p

-- 6.1.2 (g) to (i), with the parameters of the anchor's key (6.1.1 (d)(4))
abbrev pub first_key : Anchor → WorkingKey
first_key a = record { key = a.key; parameters = non_null (key.algorithm a.key).parameters }

-- 6.1.4 (e): "If the certificate subjectPublicKey algorithm and the working_public_key_algorithm are different, set the working_public_key_parameters to null"
abbrev pub inherited : AlgorithmIdentifier → WorkingKey → Option AnyRef
inherited a w = if same_algorithm a (key.algorithm w.key) then w.parameters else None

abbrev pub parameters_after : AlgorithmIdentifier → WorkingKey → Option AnyRef
parameters_after a w = or_else (non_null a.parameters) (inherited a w)

abbrev pub key_of : Certificate → SubjectPublicKeyInfo
key_of c = tbs.subject_public_key_info (certificate.tbs_certificate c)

-- 6.1.4 (d) to (f)
abbrev pub next_key : Certificate → WorkingKey → WorkingKey
next_key c w = record { key = key_of c; parameters = parameters_after (key.algorithm (key_of c)) w }

-- 6.1.3 (a)(1), for a certificate that was read from its octets
pub record HasToVerify (w : WorkingKey) (octets : List ℕ) (c : Certificate) (v : Verification) : Type 0 where
  pub signed : ReadsFirst (tbs_form.ghosts.FORM.accepts Der (certificate.tbs_certificate c)) octets v.signed.now
  pub algorithm : v.algorithm ≡ certificate.signature_algorithm c
  pub signature : v.signature ≡ certificate.signature_value c
  pub key : v.key ≡ w.key
  pub parameters : v.parameters ≡ w.parameters

-- from a certificate on, each with the working key after the one before
abbrev pub HaveToVerify : WorkingKey → List (Bor (List ℕ)) → List Certificate → List Verification → Type 0
HaveToVerify w [] [] [] = Unit {0}
HaveToVerify w (o ∷ os) (c ∷ cs) (v ∷ vs) = HasToVerify w o.now c v × HaveToVerify (next_key c w) os cs vs
HaveToVerify _ _ _ _ = ⊥
