pub mod Agreement
pub mod CaseTaken
pub mod Told
pub mod Inside
