pub mod FixedOutputs
pub mod FixedReplies
pub mod FixedTranscripts
pub mod PushedItems
pub mod Reader
pub mod SameFields
pub mod StringBytes
