pub mod Arities
pub mod ParamsAndArgsLeft
pub mod NoneAndNil
pub mod ScoreSums
pub mod ParamSearch
pub mod BothPasses
pub mod ParamsReceived
pub mod Scores
