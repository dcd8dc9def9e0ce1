-- The encoding at the front of the octets is found.
use Rattle.std.proofs.Common.{ap, ◌∙◌}
use Rattle.std.specs.Prelude.{slice_range}
use Rattle.der_verify.proofs.Fronts.{no_header_fault, no_slice_fault, contents_are, whole_is}
use Rattle.der_verify.proofs.signed.front.Goals as goal

pub returns-in-Err-decode : goal.returns-in-Err-decode
returns-in-Err-decode c t k others b = no_header_fault c.args.octets.now t k others b _ _ _ c.in-Ok.ensures.state c.in-Err-decode.ensures.head

pub returns-in-Err-read_slice : goal.returns-in-Err-read_slice
returns-in-Err-read_slice c t k others b = no_slice_fault c.args.octets.now t k others b _ _ _ c.in-Ok.ensures.state c.in-Ok-decode.ensures.head _ _ c.in-Err-read_slice.ensures.err

pub returns-in-Some : goal.returns-in-Some
returns-in-Some c t k others b =
    (whole_is c.args.octets.now t k others b _ _ _ c.in-Ok.ensures.state c.in-Ok-decode.ensures.head _ _ _ c.in-Ok-read_slice.ensures.ok (c.in-Some.ensures.lookup.0.2 ∙ ap (slice_range c.args.octets.now 0) (c.value-end.ensures.value ∙ c.position.ensures)), contents_are c.args.octets.now t k others b _ _ _ c.in-Ok.ensures.state c.in-Ok-decode.ensures.head _ _ c.in-Ok-read_slice.ensures.ok)
