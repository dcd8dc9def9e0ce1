-- Names and the subtrees of name constraints (RFC 5280 sections 4.2.1.10, 6.1.3 (b) and (c), 7.1).
use Rattle.std.specs.Prelude.{ℕ, ◌==◌, List, [], ◌∷◌, length, Bool, true, false, not, ◌&&◌, ◌||◌, if◌then◌else◌}
use Rattle.std.specs.List.{list_any}
use Rattle.der_verify.specs.Names.{same_part}
use Rattle.der_path.specs.declared.names.Named.{Named}
use Rattle.der_path.specs.declared.names.Named.TheVariants as named
use Rattle.der_path.specs.declared.names.Part.{Part}
use Rattle.der_path.specs.declared.names.PathName.{PathName}
use Rattle.der_path.specs.declared.names.PathName.TheVariants as name
use Rattle.der_path.specs.declared.names.Subtree.{Subtree}
use Rattle.der_path.specs.declared.placement.Placement.{Placement}
use Rattle.der_path.specs.declared.placement.Placement.TheVariants.{OtherKind, Undefined}
use Rattle.der_path.specs.Addresses.{address_placement}
use Rattle.der_path.specs.Domains.{domain_placement}
use Rattle.der_path.specs.Mailboxes.{mailbox_placement}
use Rattle.der_path.specs.Placement.{inside_if, is_inside, is_outside, is_undefined}
use Rattle.der_path.specs.Resources.{resource_placement}

abbrev pub same_parts : Part → Part → Bool
same_parts p q = same_part p.attributes.items q.attributes.items

-- the first parts of the name match those of the base
abbrev pub is_within_name : List Part → List Part → Bool
is_within_name [] name = true
is_within_name (p ∷ ps) [] = false
is_within_name (p ∷ ps) (q ∷ qs) = same_parts p q && is_within_name ps qs

-- "they have the same number of RDNs", and these match in their order (7.1)
abbrev pub same_names : List Part → List Part → Bool
same_names first second = length first == length second && is_within_name first second

-- an rfc822Name, dNSName, uniformResourceIdentifier or iPAddress; 4.2.1.10 has no constraints for other kinds
abbrev pub placement_of_kind : ℕ → List ℕ → List ℕ → Placement
placement_of_kind kind constraint name =
    if kind == 1 then mailbox_placement constraint name
    else (if kind == 2 then domain_placement constraint name
    else (if kind == 6 then resource_placement constraint name
    else (if kind == 7 then address_placement constraint name
    else Undefined)))

-- "minimum MUST be zero, and maximum MUST be absent"
abbrev pub if_plain : Bool → Placement → Placement
if_plain plain p = if plain then p else Undefined

abbrev pub directory_placement : Bool → PathName → List Part → Placement
directory_placement plain (name.Directory base) parts = if_plain plain (inside_if (is_within_name base.items parts))
directory_placement plain (name.Octets kind base) parts = OtherKind

abbrev pub octets_placement : Bool → PathName → ℕ → List ℕ → Placement
octets_placement plain (name.Directory base) kind octets = OtherKind
octets_placement plain (name.Octets base_kind base) kind octets = if not (base_kind == kind) then OtherKind else if_plain plain (placement_of_kind kind base.now octets)

abbrev pub named_placement : Named → Subtree → Placement
named_placement (named.Directory parts) s = directory_placement s.is_plain s.base parts.now
named_placement (named.Octets kind octets) s = octets_placement s.is_plain s.base kind octets.now

abbrev pub one_has_inside : (Subtree → Placement) → List Subtree → Bool
one_has_inside place = list_any (λ s. is_inside (place s))

abbrev pub one_has_outside : (Subtree → Placement) → List Subtree → Bool
one_has_outside place = list_any (λ s. is_outside (place s))

abbrev pub one_is_undefined : (Subtree → Placement) → List Subtree → Bool
one_is_undefined place = list_any (λ s. is_undefined (place s))

-- 6.1.3 (b): within one of the permitted subtrees of the name's kind, if there are any; "the application MUST either process the constraint or reject the certificate"
abbrev pub permits : (Subtree → Placement) → List Subtree → Bool
permits place subtrees = not (one_is_undefined place subtrees) && (one_has_inside place subtrees || not (one_has_outside place subtrees))

-- 6.1.3 (c): within one of the excluded subtrees
abbrev pub excludes : (Subtree → Placement) → List Subtree → Bool
excludes place subtrees = one_has_inside place subtrees || one_is_undefined place subtrees

abbrev pub place_parts : List Part → Subtree → Placement
place_parts parts s = directory_placement s.is_plain s.base parts

abbrev pub place_octets : ℕ → List ℕ → Subtree → Placement
place_octets kind octets s = octets_placement s.is_plain s.base kind octets

abbrev pub place_name : PathName → Subtree → Placement
place_name (name.Directory parts) = place_parts parts.items
place_name (name.Octets kind octets) = place_octets kind octets.now

abbrev pub permits_name : List Subtree → PathName → Bool
permits_name subtrees n = permits (place_name n) subtrees

abbrev pub excludes_name : List Subtree → PathName → Bool
excludes_name subtrees n = excludes (place_name n) subtrees
