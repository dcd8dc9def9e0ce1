-- Contents octets that are kept as they are.
use Rattle.std.specs.Prelude.{◌≡◌, ℕ, ◌<◌, ◌≤◌, ◌^◌, List, length, Result, Ok, Err}
use Rattle.der_tlv.specs.declared.error.ErrorKind.TheVariants as kinds
use Rattle.der_tlv.specs.declared.tag.Tag.{Tag}
use Rattle.der_tlv.specs.declared.error.Error.{Error}
use Rattle.der_elem.specs.Parsing.{ContentsParse}

-- any octets are the contents octets of some value (X.690 8.7)
abbrev pub parse_octets : ContentsParse
parse_octets rules p c = Ok c

-- a value that keeps these octets, or (7) for more octets than a length can count
abbrev pub KeepsOctets : {T : Type 0} → (T → List ℕ) → Tag → List ℕ → Result T Error → Type 0
KeepsOctets contents t octets (Ok v) = (contents v ≡ octets) × (length octets < 2 ^ 32)
KeepsOctets contents t octets (Err e) = (e.kind ≡ kinds.Length t) × (2 ^ 32 ≤ length octets)

-- a value that keeps a tag and these octets, or (7) with the tag for more octets than a length can count
abbrev pub KeepsTagged : {T : Type 0} → (T → Tag) → (T → List ℕ) → Tag → List ℕ → Result T Error → Type 0
KeepsTagged tag_of contents t octets (Ok v) = (tag_of v ≡ t) × (contents v ≡ octets) × (length octets < 2 ^ 32)
KeepsTagged tag_of contents t octets (Err e) = (e.kind ≡ kinds.Length t) × (2 ^ 32 ≤ length octets)
