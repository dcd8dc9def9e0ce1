-- Internet mail addresses and their constraints (RFC 5280 sections 4.2.1.10 and 7.5).
use Rattle.std.specs.Prelude.{ℕ, ◌==◌, ◌-◌, nat_eq, nat_lt, List, length, take, drop, Bool, not, ◌&&◌, if◌then◌else◌, Option, Some, None}
use Rattle.std.specs.List.{suffix_len}
use Rattle.std.specs.Cmp.Lexicographic.{pointwise}
use Rattle.der_path.specs.declared.placement.Placement.{Placement}
use Rattle.der_path.specs.declared.placement.Placement.TheVariants.{Undefined}
use Rattle.der_path.specs.Domains.{is_domain, is_host_constraint, is_within_host, same_letters}
use Rattle.der_path.specs.Placement.{inside_if}

-- the length of the part of a mailbox up to the last @ (64), after which the host begins (RFC 2821 section 4.1.2)
abbrev pub start_of_host : List ℕ → ℕ
start_of_host octets = length octets - suffix_len (λ x. not (x == 64)) octets

abbrev pub parts_of_mailbox : List ℕ → Option (List ℕ × List ℕ)
parts_of_mailbox octets = if nat_lt 0 (start_of_host octets) then Some (take (start_of_host octets - 1) octets, drop (start_of_host octets) octets) else None

-- a local part of one octet or more, and a host that is a domain name
abbrev pub is_mailbox : List ℕ × List ℕ → Bool
is_mailbox (box, host) = not (length box == 0) && is_domain host

-- "all addresses at a particular host, or all mailboxes in a domain"
abbrev pub placement_at_host : List ℕ → List ℕ → Placement
placement_at_host constraint host = if is_host_constraint constraint then inside_if (is_within_host constraint host) else Undefined

-- "the local-part of each name is an exact match", and "the host-part of each name matches using a case-insensitive ASCII comparison" (7.5)
abbrev pub is_same_mailbox : List ℕ × List ℕ → List ℕ × List ℕ → Bool
is_same_mailbox (box, place) (local, host) = pointwise nat_eq box local && same_letters place host

abbrev pub placement_at_mailbox : List ℕ × List ℕ → List ℕ × List ℕ → Placement
placement_at_mailbox constraint name = if is_mailbox constraint then inside_if (is_same_mailbox constraint name) else Undefined

abbrev pub placement_of_parts : List ℕ → Option (List ℕ × List ℕ) → List ℕ × List ℕ → Placement
placement_of_parts constraint None name = placement_at_host constraint name.1
placement_of_parts constraint (Some mailbox) name = placement_at_mailbox mailbox name

abbrev pub placement_of_mailbox : List ℕ → Option (List ℕ × List ℕ) → Placement
placement_of_mailbox constraint None = Undefined
placement_of_mailbox constraint (Some name) = if is_mailbox name then placement_of_parts constraint (parts_of_mailbox constraint) name else Undefined

-- the placement of an rfc822Name in a constraint
abbrev pub mailbox_placement : List ℕ → List ℕ → Placement
mailbox_placement constraint name = placement_of_mailbox constraint (parts_of_mailbox name)
