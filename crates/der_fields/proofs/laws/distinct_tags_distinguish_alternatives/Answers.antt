use Rattle.der_fields.specs.DistinctTagLaws.{readable_distinguished, comparable_distinguished}
use Rattle.der_fields.proofs.laws.distinct_tags_distinguish_alternatives.Goals as goal

pub returns-clause-readable : goal.returns-clause-readable
returns-clause-readable g c =
    readable_distinguished g.A.Form.tags g.B.Form.tags g.A.KnownTags.known_tags g.B.KnownTags.known_tags g.A.Tagged.tag_of g.B.Tagged.tag_of g.A.Form.first_tag_of g.B.Form.first_tag_of
    g.met.A.Tagged.first_tag_is g.met.B.Tagged.first_tag_is g.met.A.Tagged.own_tag g.met.B.Tagged.own_tag g.met.A.KnownTags.are_known g.met.B.KnownTags.are_known c.requires
    g.A.Form.readable g.B.Form.readable

pub returns-clause-comparable : goal.returns-clause-comparable
returns-clause-comparable g c =
    comparable_distinguished g.A.Form.tags g.B.Form.tags g.A.KnownTags.known_tags g.B.KnownTags.known_tags g.A.Tagged.tag_of g.B.Tagged.tag_of g.A.Form.first_tag_of g.B.Form.first_tag_of
    g.met.A.Tagged.first_tag_is g.met.B.Tagged.first_tag_is g.met.A.Tagged.own_tag g.met.B.Tagged.own_tag g.met.A.KnownTags.are_known g.met.B.KnownTags.are_known c.requires
    g.A.Form.comparable g.B.Form.comparable
