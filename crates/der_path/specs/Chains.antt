-- A chain of certificates by their octets: the certificates that are read, the answer of 6.1 for them, and what has to verify.
use Rattle.std.specs.Prelude.{◌≡◌, ℕ, List, ◌∷◌, ◌++◌, length, Result, Ok, Err, Vec}
use Rattle.std.specs.Borrow.{Bor}
use Rattle.std.specs.declared.alloc.Global.{Global}
use Rattle.der_tlv.specs.declared.error.Error.{Error}
use Rattle.der_elem.specs.Decoding.{AllRead, NotAllRead}
use Rattle.der_pkix.specs.declared.certificate.certificate.Certificate.{Certificate}
use Rattle.der_pkix.specs.declared.certificate.extension.Extension.{Extension}
use Rattle.der_verify.specs.Shown.{ShowEach}
use Rattle.der_path.specs.contracts.meanings.MeaningsMeantCertificate.TheImpl as certificate_form
use Rattle.der_path.specs.declared.keys.Anchor.{Anchor}
use Rattle.der_path.specs.declared.path.Inputs.{Inputs}
use Rattle.der_path.specs.declared.path.PathError.{PathError}
use Rattle.der_path.specs.declared.path.PathError.TheVariants as error
use Rattle.der_path.specs.declared.path.ValidPath.{ValidPath}
use Rattle.der_path.specs.Keys.{first_key, HaveToVerify}
use Rattle.der_path.specs.Paths.{AnswersChain, EachListed}

-- each certificate is read from its octets
abbrev pub EachRead : List (Bor (List ℕ)) → List Certificate → Type 0
EachRead = ShowEach (λ (o : Bor (List ℕ)) (c : Certificate). AllRead certificate_form.ghosts.FORM o.now c)

-- the octets at an index are read as no certificate, and this is the first error in them; those before are read
pub record NotReadAt (at : ℕ) (chain : List (Bor (List ℕ))) (e : Error) : Type 0 where
  pub before : List (Bor (List ℕ))
  pub octets : Bor (List ℕ)
  pub others : List (Bor (List ℕ))
  pub chain_is : chain ≡ before ++ octets ∷ others
  pub at_is : at ≡ length before
  pub certificates : List Certificate
  pub are_read : EachRead before certificates
  pub refused : NotAllRead certificate_form.ghosts.FORM octets.now e.kind

abbrev pub ReadsChain : List (Bor (List ℕ)) → Result (Vec Certificate Global) PathError → Type 0
ReadsChain chain (Ok certificates) = EachRead chain certificates.items
ReadsChain chain (Err (error.NotRead at e)) = NotReadAt at chain e
ReadsChain chain (Err error.Memory) = Unit {0}
ReadsChain chain (Err error.Empty) = ⊥
ReadsChain chain (Err (error.Unread at)) = ⊥
ReadsChain chain (Err (error.Refused at x)) = ⊥

-- the extensions of each certificate
pub record AreAllListed (certificates : List Certificate) : Type 0 where
  pub lists : List (List Extension)
  pub are : EachListed certificates lists

-- the policies of 6.1.6, and what has to verify
pub record IsValid (a : Anchor) (chain : List (Bor (List ℕ))) (i : Inputs) (p : ValidPath) : Type 0 where
  pub certificates : List Certificate
  pub are_read : EachRead chain certificates
  pub listed : AreAllListed certificates
  pub answers : (lists : List (List Extension)) → EachListed certificates lists → AnswersChain a.name certificates lists i (Ok p.policies)
  pub verifications : HaveToVerify (first_key a) chain certificates p.verifications.items

-- the certificates are read, and 6.1 gives an error
pub record IsNotValid (a : Anchor) (chain : List (Bor (List ℕ))) (i : Inputs) (e : PathError) : Type 0 where
  pub certificates : List Certificate
  pub are_read : EachRead chain certificates
  pub listed : AreAllListed certificates
  pub answers : (lists : List (List Extension)) → EachListed certificates lists → AnswersChain a.name certificates lists i (Err e)

abbrev pub ChecksPath : Anchor → List (Bor (List ℕ)) → Inputs → Result ValidPath PathError → Type 0
ChecksPath a chain i (Ok p) = IsValid a chain i p
ChecksPath a chain i (Err error.Memory) = Unit {0}
ChecksPath a chain i (Err (error.NotRead at e)) = NotReadAt at chain e
ChecksPath a chain i (Err error.Empty) = IsNotValid a chain i error.Empty
ChecksPath a chain i (Err (error.Unread at)) = IsNotValid a chain i (error.Unread at)
ChecksPath a chain i (Err (error.Refused at x)) = IsNotValid a chain i (error.Refused at x)
