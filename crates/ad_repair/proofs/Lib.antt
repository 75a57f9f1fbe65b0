pub mod ListLemmas
pub mod ForeignLemmas
pub mod TouchLemmas
pub mod MarkLemmas
pub mod GenuineLemmas
pub mod FillLemmas
pub mod TaskLemmas
pub mod PlanLemmas
