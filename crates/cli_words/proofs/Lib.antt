mod NumberLemmas
mod OptionLemmas
