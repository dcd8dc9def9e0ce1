-- Tags whose identifier is one octet.
use Rattle.std.specs.Prelude.{ℕ, ◌%◌, ◌==◌, if◌then◌else◌, Option, Some, None, Result, Ok, Err}
use Rattle.der_tlv.specs.declared.error.ErrorKind.{ErrorKind}
use Rattle.der_tlv.specs.declared.tag.Tag.{Tag}
use Rattle.der_tlv.specs.HeaderReading.{tag_of_octets}

abbrev pub tag_if_any : Result Tag ErrorKind → Option Tag
tag_if_any (Ok t) = Some t
tag_if_any (Err k) = None

-- the tag whose identifier is this octet alone: none if bits 5 to 1 are ones, and none if no tag has this octet
abbrev pub short_tag : ℕ → Option Tag
short_tag first = if first % 32 == 31 then None else tag_if_any (tag_of_octets first (first % 32))
