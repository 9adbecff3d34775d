-- Lemmas that proofs of this crate and of those above cite.
pub mod FieldTexts
pub mod ItemTexts
pub mod Lacking
pub mod ReplyLines
