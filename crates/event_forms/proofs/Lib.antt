pub mod DeclarationLemmas
pub mod KeyLemmas
pub mod PairLemmas
pub mod MapLemmas
pub mod ConstantLemmas
