pub mod Merged
mod Parts
mod Answering
mod Onward
mod Altered
mod Fronts
mod Trees
mod CutLevels
mod CutChild
mod CutNodes
mod CutGone
mod CutOver
mod CutWhole
mod Sized
mod Held
mod Chained
mod Opened
mod Linked
mod Loaded
mod LinkHeld
mod Others
mod Known
mod Watched
mod Spent
mod SpentAll
pub mod Lifted
pub mod Written
