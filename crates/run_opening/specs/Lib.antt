pub mod OnGraph
