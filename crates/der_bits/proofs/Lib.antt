pub mod ClearedBits
pub mod ContentsWriting
pub mod EndingBits
