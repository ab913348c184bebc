pub mod EntryTree
