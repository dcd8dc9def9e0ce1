-- The alternatives of a GeneralName (RFC 5280 4.2.1.6).
use Rattle.std.specs.Prelude.{◌≡◌, ℕ, nat_eq, ◌==◌, ◌&&◌, ◌||◌, Bool, false, List, length}
use Rattle.std.specs.Cmp.Lexicographic.{pointwise}
use Rattle.std.specs.List.{list_any}
use Rattle.der_ascii.specs.CharacterStringRef as text
use Rattle.der_elem.specs.declared.form.Form as form
use Rattle.der_extensions.specs.declared.extension.general_name.GeneralName.{GeneralName}
use Rattle.der_extensions.specs.declared.extension.general_name.GeneralName.TheVariants.{OtherName, Rfc822Name, DnsName, X400Address, DirectoryName, EdiPartyName, UniformResourceIdentifier, IpAddress, RegisteredId}
use Rattle.der_lists.specs.Items.{AreItems}
use Rattle.der_opaque.specs.OctetStringRef as string
use Rattle.der_path.specs.Hosts.{names_host}
use Rattle.der_c.specs.Bits.{bit}

-- the number of the tag of the alternative
abbrev pub kind_of_name : GeneralName → ℕ
kind_of_name (OtherName v) = 0
kind_of_name (Rfc822Name v) = 1
kind_of_name (DnsName v) = 2
kind_of_name (X400Address v) = 3
kind_of_name (DirectoryName v) = 4
kind_of_name (EdiPartyName v) = 5
kind_of_name (UniformResourceIdentifier v) = 6
kind_of_name (IpAddress v) = 7
kind_of_name (RegisteredId v) = 8

-- whether a name is a dNSName that names a host (RFC 9525 6.3)
abbrev pub is_of_host : List ℕ → GeneralName → Bool
is_of_host host (OtherName v) = false
is_of_host host (Rfc822Name v) = false
is_of_host host (DnsName v) = names_host (text.octets_of v.value) host
is_of_host host (X400Address v) = false
is_of_host host (DirectoryName v) = false
is_of_host host (EdiPartyName v) = false
is_of_host host (UniformResourceIdentifier v) = false
is_of_host host (IpAddress v) = false
is_of_host host (RegisteredId v) = false

-- whether a name is an iPAddress with these octets, the 4 of IPv4 or the 16 of IPv6
abbrev pub is_address : List ℕ → GeneralName → Bool
is_address address (OtherName v) = false
is_address address (Rfc822Name v) = false
is_address address (DnsName v) = false
is_address address (X400Address v) = false
is_address address (DirectoryName v) = false
is_address address (EdiPartyName v) = false
is_address address (UniformResourceIdentifier v) = false
is_address address (IpAddress v) = (length address == 4 || length address == 16) && pointwise nat_eq (string.octets_of v.value) address
is_address address (RegisteredId v) = false

-- the contents octets are names, and this is whether one of them is wanted
pub record HasSome (F : form.Ghosts GeneralName) (wanted : GeneralName → Bool) (octets : List ℕ) (has : Bool) : Type 0 where
  pub names : List GeneralName
  pub are : AreItems F octets names
  pub has_is : has ≡ list_any wanted names

-- the same as 1 or 0
pub record HasOne (F : form.Ghosts GeneralName) (wanted : GeneralName → Bool) (octets : List ℕ) (answer : ℕ) : Type 0 where
  pub has : Bool
  pub some : HasSome F wanted octets has
  pub answer_is : answer ≡ bit has
