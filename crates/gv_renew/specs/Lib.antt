pub mod Due
pub mod Exchanging
pub mod Lasting
pub mod Mentioned
pub mod Merging
pub mod Renewal
pub mod Renewing
pub mod Touched
