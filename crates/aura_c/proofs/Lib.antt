pub mod Stored
pub mod Results
pub mod NumberBytes
pub mod LoadJudged
