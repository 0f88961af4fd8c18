pub mod LinearPlan
pub mod Stretches
pub mod Merge
pub mod Merged
pub mod Saves
pub mod OrderedBlocks
