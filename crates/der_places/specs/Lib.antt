pub mod Walking
pub mod Layout
pub mod LayoutLaws
