pub mod ScanLemmas
pub mod StackLemmas
