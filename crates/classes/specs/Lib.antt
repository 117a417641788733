pub mod Classes
pub mod Systems
pub mod Members
