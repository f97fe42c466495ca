pub mod PairLemmas
pub mod FormLemmas
pub mod OperandLemmas
pub mod SecondLemmas
