pub mod RisingLemmas
pub mod PlaceLemmas
pub mod ChangeLemmas
