pub use Rattle.der_elem.proofs.ItemReading
pub use Rattle.der_elem.proofs.Written
pub use Rattle.der_tlv.proofs.ReaderStates
