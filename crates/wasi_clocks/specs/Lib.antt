pub mod Datetimes
pub mod Deadlines
pub mod Held
pub mod Instants
pub mod Runtime
pub mod Waits
pub mod WallTimes
