pub mod OldGraphs
