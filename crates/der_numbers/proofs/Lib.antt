pub mod Stripping
pub mod ContentsWriting
