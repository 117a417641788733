pub mod Lists
pub mod Written
pub mod BitLists
pub mod Bytes
pub mod SetBits
pub mod ByteLists
pub mod Fields
