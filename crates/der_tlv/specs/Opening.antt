-- Reading a header with what follows it (X.690 8.1.1): the contents octets, or a reader that shows only these.
use Rattle.std.specs.Prelude.{◌≡◌, ℕ, ◌⊎◌, List, length, false, Some, Result, Ok, Err}
use Rattle.der_tlv.specs.declared.error.ErrorKind.{ErrorKind}
use Rattle.der_tlv.specs.declared.error.ErrorKind.TheVariants.{TagUnexpected}
use Rattle.der_tlv.specs.declared.error.Error.{Error}
use Rattle.der_tlv.specs.declared.header.Header.{Header}
use Rattle.der_tlv.specs.declared.tag.Tag.{Tag}
use Rattle.der_tlv.specs.Identifier.{same_identifier}
use Rattle.der_tlv.specs.HeaderReading.{read_header, octets_of}
use Rattle.der_tlv.specs.ReaderState.{ReaderState, after_read, after_fault}
use Rattle.der_tlv.specs.Reading.{HeadRead, HeadFault, Nested, OctetsRead, OctetsRefused}

-- a reader that has read a header
abbrev pub after_header : ReaderState → Header → ReaderState
after_header s h = after_read s (length (octets_of h))

-- this header is next
abbrev pub HeaderStands : ReaderState → Header → Type 0
HeaderStands s h = HeadRead read_header (octets_of h) s (after_header s h) h

-- the header has the tag, and only the contents octets are shown
pub record Opened (tag : Tag) (old new : ReaderState) (header : Header) (end : ℕ) : Type 0 where
  pub head : HeaderStands old header
  pub tag_is : header.tag ≡ tag
  pub nested : Nested (after_header old header) new header.length end

-- the header has another tag, which the reader refuses (4) after the header
pub record OtherTag (tag : Tag) (old new : ReaderState) (kind : ErrorKind) : Type 0 where
  pub header : Header
  pub head : HeaderStands old header
  pub other : same_identifier header.tag tag ≡ false
  pub kind_is : kind ≡ TagUnexpected (Some tag) header.tag
  pub after : new ≡ after_fault (after_header old header)

-- the header has the tag, and its length is more octets than are left
pub record TooLong (tag : Tag) (old new : ReaderState) (kind : ErrorKind) : Type 0 where
  pub header : Header
  pub head : HeaderStands old header
  pub tag_is : header.tag ≡ tag
  pub refused : OctetsRefused (after_header old header) new header.length kind

-- the result of the call: a header and the former end, or the first error: the header's, another tag, too few octets
abbrev pub Opens : Tag → ReaderState → ReaderState → Result (Header × ℕ) Error → Type 0
Opens tag old new (Ok opened) = Opened tag old new opened.0 opened.1
Opens tag old new (Err e) = HeadFault read_header old new e.kind ⊎ (OtherTag tag old new e.kind ⊎ TooLong tag old new e.kind)

-- a header and the contents octets that it counts
pub record ContentsRead (old new : ReaderState) (header : Header) (contents : List ℕ) : Type 0 where
  pub head : HeaderStands old header
  pub contents_are : OctetsRead (after_header old header) new header.length contents

-- a header whose length is more octets than are left
pub record ContentsMissing (old new : ReaderState) (kind : ErrorKind) : Type 0 where
  pub header : Header
  pub head : HeaderStands old header
  pub refused : OctetsRefused (after_header old header) new header.length kind

-- the first error of a header and its contents octets: the header's, too few octets
abbrev pub ContentsRefused : ReaderState → ReaderState → ErrorKind → Type 0
ContentsRefused old new kind = HeadFault read_header old new kind ⊎ ContentsMissing old new kind
