pub mod Causes
pub mod Faults
pub mod Look
pub mod NamedFiles
pub mod Passing
pub mod Paths
pub mod Reader
pub mod Reading
