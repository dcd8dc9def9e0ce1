-- Kept contents octets of types whose values within a range are each read from their own octets.
use Rattle.std.proofs.Common.{◌≡◌, ℕ, List, true, Ok, Err, sym, ap, ◌∙◌}
use Rattle.der_tlv.specs.declared.error.ErrorKind.{ErrorKind}
use Rattle.der_tlv.specs.declared.encoding_rules.EncodingRules.TheVariants.{Der}
use Rattle.der_tlv.specs.declared.tag.Tag.{Tag}
use Rattle.der_tlv.specs.Identifier.{same_identifier}
use Rattle.der_elem.specs.OwnContents.{accepts_within}
use Rattle.der_elem.specs.Parsing.{ContentsParse}
use Rattle.der_opaque.specs.DecodingAs.{parse_as, OwnDecodedAs, OwnNotDecodedAs}

module _ {T : Type 0} (own : Tag) (contents : T → List ℕ) (Within : T → Type 0) (parse : ContentsParse) (parses : (v : T) → Within v → parse Der 0 (contents v) ≡ Ok (contents v)) (t : Tag) (octets : List ℕ) where
  -- the value within the range that has these contents octets was decoded from them
  pub own_decoded : (v : T) → same_identifier t own ≡ true → accepts_within contents Within Der v octets → OwnDecodedAs own contents Within parse t octets v
  own_decoded v allowed accepted =
      record {
        allowed = allowed;
        parsed = ap (parse Der 0) accepted.0 ∙ parses v accepted.1;
        accepted = accepted;
      }

  -- octets with an error are not the contents octets of any value
  pub own_not_decoded : (kind : ErrorKind) → parse_as (λ u. same_identifier u own) parse Der t octets ≡ Err kind → OwnNotDecodedAs own contents Within parse t octets kind
  own_not_decoded kind fault =
      record {
        fault = fault;
        nothing = λ allowed w accepted.
            let read = sym (own_decoded w allowed accepted).parsed ∙ (rw allowed at fault) in
            absurd (cc);
      }
