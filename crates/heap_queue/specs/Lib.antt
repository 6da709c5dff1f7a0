pub mod Heaps
pub mod Queues
pub mod Holdings
pub mod Gaps
