-- The types of PkcsEncryption.
-- Made by tools/asn1 from encryption.asn1.
pub mod EncryptedPrivateKeyInfo
pub mod Grammar
pub mod PbeParameter
pub mod Pbes2Params
pub mod Pbkdf2Params
pub mod Pbkdf2Salt
