mod Judging
mod Rounds
