pub mod MemberLookups
pub mod MemberRuling
pub mod Bases
pub mod Order5Member
pub mod Order6Access
pub mod Packages
pub mod Owners
pub mod PastPrivate
