mod Holding
pub mod Standings
