pub mod AnyDecoding
pub mod CarriedContents
pub mod OwnCarried
