pub mod Finding
pub mod Folders
pub mod Limits
pub mod Order
pub mod Places
pub mod Results
pub mod Rows
pub mod Sets
