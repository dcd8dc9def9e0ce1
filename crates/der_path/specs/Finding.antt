-- A path that is found among certificates. RFC 5280 section 6 validates a given path; how it is made is left to the application.
use Rattle.std.specs.Prelude.{◌≡◌, ℕ, ◌<◌, ◌≤◌, nat_eq, List, [], ◌∷◌, ◌++◌, length, slice_index_or, Bool, true, false, ◌⊎◌, Option, Some, None, Result, Ok, Err, All, Contains}
use Rattle.std.specs.Borrow.{Bor}
use Rattle.std.specs.Cmp.Lexicographic.{pointwise}
use Rattle.std.specs.List.{list_any}
use Rattle.der_tlv.specs.declared.error.Error.{Error}
use Rattle.der_elem.specs.Decoding.{AllRead, ReadsAll}
use Rattle.der_pkix.specs.declared.certificate.certificate.Certificate.{Certificate}
use Rattle.der_pkix.specs.declared.name.attribute_type_and_value.AttributeTypeAndValue.{AttributeTypeAndValue}
use Rattle.der_pkix.specs.declared.name.rdn_sequence.RdnSequence.{RdnSequence}
use Rattle.der_pkix.specs.Certificate.Certificate as certificate_fields
use Rattle.der_pkix.specs.Certificate.TbsCertificate as tbs
use Rattle.der_verify.specs.Names.{same_name, AreParts}
use Rattle.der_path.specs.Chains.{ChecksPath}
use Rattle.der_path.specs.contracts.meanings.MeaningsMeantAttributeTypeAndValue.TheImpl as attribute_form
use Rattle.der_path.specs.contracts.meanings.MeaningsMeantCertificate.TheImpl as certificate_form
use Rattle.der_path.specs.contracts.meanings.MeaningsMeantRelativeDistinguishedName.TheImpl as part_form
use Rattle.der_path.specs.declared.attempt.Attempt.{Attempt}
use Rattle.der_path.specs.declared.attempt.Attempt.TheVariants as attempt
use Rattle.der_path.specs.declared.attempt.Judged.{Judged}
use Rattle.der_path.specs.declared.attempt.Judged.TheVariants as judged
use Rattle.der_path.specs.declared.attempt.Tried.{Tried}
use Rattle.der_path.specs.declared.attempt.Tried.TheVariants as tried
use Rattle.der_path.specs.declared.chain.Chain.{Chain}
use Rattle.der_path.specs.declared.finding.FindError.{FindError}
use Rattle.der_path.specs.declared.finding.FindError.TheVariants as error
use Rattle.der_path.specs.declared.finding.FoundPath.{FoundPath}
use Rattle.der_path.specs.declared.finding.RefusedPath.{RefusedPath}
use Rattle.der_path.specs.declared.finding.Search.{Search}
use Rattle.der_path.specs.declared.keys.Anchor.{Anchor}
use Rattle.der_path.specs.declared.link.Link.{Link}
use Rattle.der_path.specs.declared.path.Inputs.{Inputs}
use Rattle.der_path.specs.declared.path.PathError.{PathError}
use Rattle.der_path.specs.declared.path.PathError.TheVariants as why
use Rattle.der_path.specs.declared.path.ValidPath.{ValidPath}

-- two names match (7.1)
pub record NamesMatch (n m : RdnSequence) : Type 0 where
  pub parts : List (List AttributeTypeAndValue)
  pub are_parts : AreParts part_form.ghosts.FORM attribute_form.ghosts.FORM n parts
  pub others : List (List AttributeTypeAndValue)
  pub are_others : AreParts part_form.ghosts.FORM attribute_form.ghosts.FORM m others
  pub same : same_name parts others ≡ true

-- what is read of a certificate
pub record IsLink (octets : Bor (List ℕ)) (l : Link) : Type 0 where
  pub certificate : Certificate
  pub read : AllRead certificate_form.ghosts.FORM octets.now certificate
  pub is_octets : l.octets ≡ octets
  pub issuer : l.issuer ≡ tbs.issuer (certificate_fields.tbs_certificate certificate)
  pub subject : l.subject ≡ tbs.subject (certificate_fields.tbs_certificate certificate)

abbrev pub NotRead : Bor (List ℕ) → Error → Type 0
NotRead octets e = ReadsAll {T = Certificate} certificate_form.ghosts.FORM octets.now (Err e)

abbrev pub ReadsLink : Bor (List ℕ) → Result Link Error → Type 0
ReadsLink octets (Ok l) = IsLink octets l
ReadsLink octets (Err e) = NotRead octets e

-- a certificate with these octets was read, or they cannot be read
abbrev pub IsRead : List Link → Bor (List ℕ) → Type 0
IsRead links octets = ((l : Link) × Contains links l × (l.octets.now ≡ octets.now)) ⊎ ((e : Error) × NotRead octets e)

-- one of these certificates was read as this
pub record IsLinkOf (certificates : List (Bor (List ℕ))) (l : Link) : Type 0 where
  pub octets : Bor (List ℕ)
  pub given : Contains certificates octets
  pub link : IsLink octets l

-- the certificates that can be read
pub record AreLinks (certificates : List (Bor (List ℕ))) (links : List Link) : Type 0 where
  pub given : All (IsLinkOf certificates) links
  pub read : (octets : Bor (List ℕ)) → Contains certificates octets → IsRead links octets

-- more certificates are read, all from these octets
pub record AddsLinks (octets : Bor (List ℕ)) (old new : List Link) : Type 0 where
  pub more : List Link
  pub new_is : new ≡ old ++ more
  pub links : All (IsLink octets) more

-- one of these certificates has these octets
abbrev pub has_octets : List ℕ → List Link → Bool
has_octets octets links = list_any (λ (l : Link). pointwise nat_eq l.octets.now octets) links

-- a subjectKeyIdentifier and the keyIdentifier of an authorityKeyIdentifier do not differ: one is absent, or they are equal (4.2.1.1, 4.2.1.2)
abbrev pub fits : Option (Bor (List ℕ)) → Option (Bor (List ℕ)) → Bool
fits (Some key) (Some authority) = pointwise nat_eq key.now authority.now
fits (Some key) None = true
fits None _ = true

-- a certificate has these octets
abbrev pub same_octets : List ℕ → Bor (List ℕ) → Bool
same_octets octets c = pointwise nat_eq octets c.now

-- a certificate is one of a chain
abbrev pub stands_in : Link → List (Bor (List ℕ)) → Bool
stands_in l chain = list_any (same_octets l.octets.now) chain

-- a chain is another with a certificate before it that is not in it
pub record IsLonger (l : Link) (chain longer : Chain) : Type 0 where
  pub octets : longer.octets.items ≡ l.octets ∷ chain.octets.items
  pub first : longer.first ≡ l
  pub new : stands_in l chain.octets.items ≡ false

-- longer chains are put behind others
pub record Puts (among : Link → Type 0) (chain : Chain) (old new : List Chain) : Type 0 where
  pub more : List Chain
  pub new_is : new ≡ old ++ more
  pub longer : All (λ (c : Chain). (l : Link) × among l × IsLonger l chain c) more

-- a certificate may stand before a chain: it has the name of the issuer of the first, and is none of the chain
abbrev pub MayStand : Link → Chain → Type 0
MayStand l chain = NamesMatch l.subject chain.first.issuer × (stands_in l chain.octets.items ≡ false)

abbrev pub Stands : List Chain → Link → Chain → Type 0
Stands chains l chain = (c : Chain) × Contains chains c × IsLonger l chain c

abbrev pub PutsEach : List Link → (Link → Type 0) → Chain → List Chain → Type 0
PutsEach links chosen chain chains = (l : Link) → Contains links l → chosen l → MayStand l chain → Stands chains l chain

-- the first certificate of a chain, and the octets of all, where these stand before the end certificate
abbrev pub first_of : Link → List Link → Link
first_of end [] = end
first_of end (l ∷ others) = l

abbrev pub octets_of : Link → List Link → List (Bor (List ℕ))
octets_of end [] = end.octets ∷ []
octets_of end (l ∷ others) = l.octets ∷ octets_of end others

-- these certificates are some of those, and none stands twice
abbrev pub AreSome : List Link → Link → List Link → Type 0
AreSome links end [] = Unit {0}
AreSome links end (l ∷ others) = Contains links l × (stands_in l (octets_of end others) ≡ false) × AreSome links end others

-- each has the name that the next one names as its issuer
abbrev pub AreNamed : Link → List Link → Type 0
AreNamed end [] = Unit {0}
AreNamed end (l ∷ others) = NamesMatch l.subject (first_of end others).issuer × AreNamed end others

-- a chain that ends with the end certificate
pub record IsChain (links : List Link) (end : Link) (c : Chain) : Type 0 where
  pub before : List Link
  pub some : AreSome links end before
  pub octets : c.octets.items ≡ octets_of end before
  pub first : c.first ≡ first_of end before

-- the item at an index
abbrev pub IsItem : {X : Type 0} → List X → ℕ → X → Type 0
IsItem xs at x = (at < length xs) × (slice_index_or xs at x ≡ x)

-- the anchor at an index is such
pub record IsAfter (anchors : List Anchor) (at : ℕ) (such : Anchor → Type 0) : Type 0 where
  pub anchor : Anchor
  pub is_anchor : IsItem anchors at anchor
  pub is_such : such anchor

-- 6.1 refuses a chain after an anchor, for a reason other than memory
abbrev pub IsRefusal : List (Bor (List ℕ)) → Inputs → PathError → Anchor → Type 0
IsRefusal chain i why.Memory a = ⊥
IsRefusal chain i why.Empty a = ChecksPath a chain i (Err why.Empty)
IsRefusal chain i (why.NotRead at e) a = ChecksPath a chain i (Err (why.NotRead at e))
IsRefusal chain i (why.Unread at) a = ChecksPath a chain i (Err (why.Unread at))
IsRefusal chain i (why.Refused at x) a = ChecksPath a chain i (Err (why.Refused at x))

-- 6.1 accepts a chain after an anchor
abbrev pub IsAccepted : List (Bor (List ℕ)) → Inputs → ValidPath → Anchor → Type 0
IsAccepted chain i path a = ChecksPath a chain i (Ok path)

abbrev pub Refuses : Anchor → List (Bor (List ℕ)) → Inputs → Type 0
Refuses a chain i = (e : PathError) × IsRefusal chain i e a

-- 6.1 refuses a chain after each anchor that has the name of its first issuer
abbrev pub EachRefuses : List Anchor → List (Bor (List ℕ)) → Link → Inputs → Type 0
EachRefuses anchors chain first i = (a : Anchor) → Contains anchors a → NamesMatch a.name first.issuer → Refuses a chain i

-- what became of a chain after an anchor
abbrev pub Judges : Anchor → Chain → Inputs → Bool → Judged → Type 0
Judges anchor chain i is_due judged.Memory = Unit {0}
Judges anchor chain i is_due (judged.Valid path) = IsAccepted chain.octets.items i path anchor
Judges anchor chain i is_due (judged.Refused e) = IsRefusal chain.octets.items i e anchor
Judges anchor chain i is_due judged.Other = is_due ≡ true → NamesMatch anchor.name chain.first.issuer → ⊥

abbrev pub Tries : List Anchor → List (Bor (List ℕ)) → Inputs → Tried → Type 0
Tries anchors chain i tried.Memory = Unit {0}
Tries anchors chain i (tried.Valid at path) = IsAfter anchors at (IsAccepted chain i path)
Tries anchors chain i (tried.Refused at e) = IsAfter anchors at (IsRefusal chain i e)
Tries anchors chain i tried.Nothing = Unit {0}

-- no more anchors are tried
abbrev pub is_decided : Tried → Bool
is_decided tried.Memory = true
is_decided (tried.Valid at path) = true
is_decided (tried.Refused at e) = false
is_decided tried.Nothing = false

-- after one more anchor: the first that refuses the chain is kept
abbrev pub refused_after : Tried → ℕ → PathError → Tried
refused_after tried.Nothing at e = tried.Refused at e
refused_after tried.Memory at e = tried.Memory
refused_after (tried.Valid before path) at e = tried.Valid before path
refused_after (tried.Refused before other) at e = tried.Refused before other

abbrev pub tried_after : Tried → ℕ → Judged → Tried
tried_after before at judged.Memory = tried.Memory
tried_after before at (judged.Valid path) = tried.Valid at path
tried_after before at (judged.Refused e) = refused_after before at e
tried_after before at judged.Other = before

-- a path of the certificates that a search has, which 6.1 accepts after one of its anchors
pub record IsFound (s : Search) (links : List Link) (end : Link) (i : Inputs) (f : FoundPath) : Type 0 where
  pub before : List Link
  pub some : AreSome links end before
  pub chain : f.chain.items ≡ octets_of end before
  pub accepted : IsAfter s.anchors.now f.anchor (IsAccepted f.chain.items i f.path)

-- a chain of the certificates that a search has, which 6.1 refuses after one of its anchors
pub record IsRefused (s : Search) (links : List Link) (end : Link) (i : Inputs) (r : RefusedPath) : Type 0 where
  pub before : List Link
  pub some : AreSome links end before
  pub chain : r.chain.items ≡ octets_of end before
  pub refused : IsAfter s.anchors.now r.anchor (IsRefusal r.chain.items i r.error)

abbrev pub AreRefused : Search → List Link → Link → Inputs → Option RefusedPath → Type 0
AreRefused s links end i None = Unit {0}
AreRefused s links end i (Some r) = IsRefused s links end i r

-- the first of two, if there is one, or else the second
abbrev pub earlier : Option RefusedPath → Option RefusedPath → Option RefusedPath
earlier (Some r) second = Some r
earlier None second = second

-- the search begins with the first chain and the first anchor
abbrev pub BeginsFirst : Search → Type 0
BeginsFirst s = (s.start.chain ≡ 0) × (s.start.anchor ≡ 0)

-- what became of a chain
abbrev pub Attempts : Search → List Link → Link → Inputs → Chain → Attempt → Type 0
Attempts s links end i chain attempt.Memory = Unit {0}
Attempts s links end i chain (attempt.Found f) = IsFound s links end i f
Attempts s links end i chain (attempt.Refused r) = AreRefused s links end i r × (BeginsFirst s → EachRefuses s.anchors.now chain.octets.items chain.first i)

-- each chain of as many certificates as the search allows, in which each has the name that the next one names, is refused
abbrev pub HasNoPath : Search → List Link → Link → Inputs → Type 0
HasNoPath s links end i = (before : List Link) → AreSome links end before → AreNamed end before → length (octets_of end before) ≤ s.depth → EachRefuses s.anchors.now (octets_of end before) (first_of end before) i

-- the result of a search among the certificates that were read
abbrev pub FindsAmong : Search → List Link → Link → Inputs → Result FoundPath FindError → Type 0
FindsAmong s links end i (Ok f) = IsFound s links end i f
FindsAmong s links end i (Err error.Memory) = Unit {0}
FindsAmong s links end i (Err (error.NotRead e)) = ⊥
FindsAmong s links end i (Err error.Limit) = Unit {0}
FindsAmong s links end i (Err (error.NoPath r)) = AreRefused s links end i r × (BeginsFirst s → HasNoPath s links end i)

-- the result of a search: the certificates and the end certificate are those that can be read
pub record IsResult (s : Search) (i : Inputs) (result : Result FoundPath FindError) : Type 0 where
  pub links : List Link
  pub are_links : AreLinks s.certificates.now links
  pub end : Link
  pub is_end : IsLink s.end end
  pub finds : FindsAmong s links end i result

abbrev pub Finds : Search → Inputs → Result FoundPath FindError → Type 0
Finds s i (Ok f) = IsResult s i (Ok f)
Finds s i (Err error.Memory) = Unit {0}
Finds s i (Err (error.NotRead e)) = NotRead s.end e
Finds s i (Err error.Limit) = Unit {0}
Finds s i (Err (error.NoPath r)) = IsResult s i (Err (error.NoPath r))
