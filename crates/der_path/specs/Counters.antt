-- The numbers of the state of RFC 5280 section 6.1.2, and how certificates change them.
use Rattle.std.specs.Prelude.{ℕ, ◌==◌, ◌+◌, ◌-◌, min, Bool, if◌then◌else◌, Option, Some, None}
use Rattle.der_elem.specs.Integer.{big_endian_number}
use Rattle.der_numbers.specs.AnyLength.{without_sign_octet}
use Rattle.der_numbers.specs.declared.uint_ref.UintRef.{UintRef}
use Rattle.der_numbers.specs.UintRef.{contents_of}
use Rattle.der_path.specs.declared.counters.Counters.{Counters}
use Rattle.der_path.specs.declared.facts.PolicyFacts.{PolicyFacts}
use Rattle.der_path.specs.declared.facts.Uses.{Uses}

-- the number that an INTEGER encodes
abbrev pub number_of : UintRef → ℕ
number_of v = big_endian_number (without_sign_octet (contents_of v))

-- "if .. is present and is less than .., set .. to the value"
abbrev pub bounded : ℕ → Option UintRef → ℕ
bounded number None = number
bounded number (Some bound) = min number (number_of bound)

-- at most the largest number
abbrev pub one_more : ℕ → ℕ
one_more count = min (count + 1) 18446744073709551615

-- 6.1.2 (d) "If initial-explicit-policy is set, then the initial value is 0, otherwise the initial value is n+1", (e), (f), (k)
abbrev pub first_counters : ℕ → Bool → Bool → Bool → Counters
first_counters count explicit any mapping = record {
  explicit_policy = if explicit then 0 else one_more count;
  inhibit_any_policy = if any then 0 else one_more count;
  policy_mapping = if mapping then 0 else one_more count;
  max_path_length = count;
}

abbrev pub step_of : Bool → ℕ
step_of is_self_issued = if is_self_issued then 0 else 1

-- 6.1.4 (h) "If certificate i is not self-issued", (i), (j), (l), (m)
abbrev pub after_certificate : Counters → Bool → PolicyFacts → Uses → Counters
after_certificate c is_self_issued p u = record {
  explicit_policy = bounded (c.explicit_policy - step_of is_self_issued) p.explicit_policy;
  inhibit_any_policy = bounded (c.inhibit_any_policy - step_of is_self_issued) p.inhibit_any_policy;
  policy_mapping = bounded (c.policy_mapping - step_of is_self_issued) p.policy_mapping;
  max_path_length = bounded (c.max_path_length - step_of is_self_issued) u.path_length;
}

-- 6.1.5 (a), and (b): "requireExplicitPolicy is present and has a value of 0"
abbrev pub explicit_at_last : Counters → PolicyFacts → ℕ
explicit_at_last c p = if bounded 1 p.explicit_policy == 0 then 0 else (c.explicit_policy - 1)
