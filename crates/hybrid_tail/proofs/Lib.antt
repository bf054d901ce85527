mod SetLemmas
mod RowLemmas
mod KeptLemmas
mod MovedLemmas
mod TaskLemmas
mod SpreadLemmas
mod AmountLemmas
