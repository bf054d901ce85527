mod NetLemmas
mod HistoryLemmas
mod EngineLemmas
mod PreparedLemmas
mod ChangeLemmas
mod PartLemmas
