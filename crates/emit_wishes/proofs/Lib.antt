pub mod JoinCases
