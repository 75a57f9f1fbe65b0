pub mod FirstLemmas
pub mod SignatureLemmas
pub mod SpareLemmas
pub mod KindLemmas
