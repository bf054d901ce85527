mod TargetWalk
mod NewRows
mod PullLemmas
mod VisitSums
