pub mod Examples
pub mod Theorems
pub mod Typed
mod Reading
mod Ending
mod Splitting
mod Frames
mod Offsets
pub mod Stepping
mod Keeping
pub mod Earliest
mod Judging
mod Writing
mod Rows
mod Surveys
mod RoundContents
mod RoundTrip
mod Ordered
mod Decoded
mod Laid
mod Causes
pub mod Placing
pub mod Given
pub mod Heads
pub mod Holdings
pub mod Divided
pub mod Unframed
