pub mod Reader
pub mod Recordings
pub mod Rooms
pub mod Writers
