-- Laws of the merge of two lent sets.
pub mod UnionLaws
pub mod FreeLaws
pub mod LoadedLaws
pub mod AgreeLaws
