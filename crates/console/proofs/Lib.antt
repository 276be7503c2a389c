pub mod Writing
pub mod TextLists
pub mod TextSamples
pub mod TextSizes
pub mod InputParts
pub mod ReadFronts
pub mod RecordLines
