-- The answer of OCSP for facts that were read.
use Rattle.std.proofs.Common.{ℕ, List, Result, Ok, Err}
use Rattle.der_pkix.specs.declared.name.rdn_sequence.RdnSequence.{RdnSequence}
use Rattle.der_ocsp.specs.declared.ocsp.basic_ocsp_response.BasicOcspResponse.{BasicOcspResponse}
use Rattle.der_path.specs.declared.names.Part.{Part}
use Rattle.der_path.specs.declared.ocsp.CertificateHashes.{CertificateHashes}
use Rattle.der_path.specs.declared.ocsp.OcspError.{OcspError}
use Rattle.der_path.specs.declared.ocsp.OcspError.TheVariants as error
use Rattle.der_path.specs.declared.ocsp.OcspStatus.{OcspStatus}
use Rattle.der_path.specs.declared.ocsp_facts.AnswerFacts.{AnswerFacts}
use Rattle.der_path.specs.Facts.{ShowsParts}
use Rattle.der_path.specs.Ocsp.{ocsp_answer, AnswersOcsp, Decides}
use Rattle.der_path.specs.OcspFacts.{ShowsAnswer}

pub answers_by : (v : BasicOcspResponse) (n : RdnSequence) (h : CertificateHashes) (moment : ℕ) (issuer : List Part) (facts : AnswerFacts) (r : Result OcspStatus OcspError) → ShowsParts n issuer → ShowsAnswer v facts → Decides (ocsp_answer issuer facts h moment) r → AnswersOcsp v n h moment r
answers_by v n h moment issuer facts (Ok s) parts shows decides = record { issuer = issuer; is_issuer = parts; facts = facts; are_facts = shows; answers = decides }
answers_by v n h moment issuer facts (Err error.Memory) parts shows decides = tt
answers_by v n h moment issuer facts (Err (error.Refused x)) parts shows decides = record { issuer = issuer; is_issuer = parts; facts = facts; are_facts = shows; answers = decides }
