pub mod EntryTrees
