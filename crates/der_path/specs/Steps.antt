-- The section and the letter of each step that refuses a certificate, and the part of the certificate that it looks at.
use Rattle.std.specs.Prelude.{ℕ, List, codes}
use Rattle.der_verify.specs.Rfc5280.{id_ce}
use Rattle.der_path.specs.declared.step.Field.{Field}
use Rattle.der_path.specs.declared.step.Field.TheVariants as part
use Rattle.der_path.specs.declared.step.Step.{Step}
use Rattle.der_path.specs.declared.step.Step.TheVariants as step

abbrev pub letter : Step → List ℕ
letter step.Validity = codes "6.1.3 (a)(2)"
letter step.Issuer = codes "6.1.3 (a)(4)"
letter step.Permitted = codes "6.1.3 (b)"
letter step.Excluded = codes "6.1.3 (c)"
letter step.Policies = codes "6.1.3 (f)"
letter step.AnyPolicyIsMapped = codes "6.1.4 (a)"
letter step.Ca = codes "6.1.4 (k)"
letter step.PathLength = codes "6.1.4 (l)"
letter step.KeyUsage = codes "6.1.4 (n)"
letter step.UnknownExtension = codes "6.1.4 (o)"
letter step.UnknownExtensionAtEnd = codes "6.1.5 (f)"
letter step.UserPolicies = codes "6.1.5 (g)"

-- certificatePolicies, policyMappings, basicConstraints and keyUsage by their identifiers (4.2.1)
abbrev pub field : Step → Field
field step.Validity = part.Validity
field step.Issuer = part.Issuer
field step.Permitted = part.Names
field step.Excluded = part.Names
field step.Policies = part.Extension (id_ce 32)
field step.AnyPolicyIsMapped = part.Extension (id_ce 33)
field step.Ca = part.Extension (id_ce 19)
field step.PathLength = part.Certificate
field step.KeyUsage = part.Extension (id_ce 15)
field step.UnknownExtension = part.CriticalExtensions
field step.UnknownExtensionAtEnd = part.CriticalExtensions
field step.UserPolicies = part.Extension (id_ce 32)
