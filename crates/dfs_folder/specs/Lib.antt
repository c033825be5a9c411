pub mod FolderHost
pub mod Names
pub mod Opened
