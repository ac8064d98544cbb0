-- The tracker: what its entries and the votes that it keeps show, and what each call changes of it.

pub mod KeptLists
pub mod KeptVotes
pub mod PutEntry
pub mod RecordVote
pub mod ReleaseKind
pub mod ShownParts
pub mod SignerFacts
