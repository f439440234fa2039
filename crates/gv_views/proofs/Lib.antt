pub mod Below
pub mod Folders
pub mod FolderViews
pub mod Joins
pub mod LayeredViews
pub mod Lists
pub mod Tellings
pub mod Unions
