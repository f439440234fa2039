pub mod Due
pub mod Handing
pub mod Judging
pub mod Session
pub mod Small
