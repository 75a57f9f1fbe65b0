pub mod SeenLemmas
pub mod CarriedLemmas
pub mod ChosenLemmas
pub mod CarriedMarkLemmas
pub mod DocumentLemmas
pub mod DocumentLaws
