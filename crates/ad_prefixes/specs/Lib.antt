pub mod Declarations
pub mod Heads
pub mod Phrased
pub mod Unknown
