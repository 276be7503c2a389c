pub mod Accept
pub mod Access
pub mod Member
pub mod Order5Member
pub mod Order6Access
pub mod Inside
