pub mod RisingLists
pub mod EndLemmas
pub mod TargetLemmas
pub mod PartLemmas
