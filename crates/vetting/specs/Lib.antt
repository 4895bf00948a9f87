pub mod AddressMap
pub mod Finding
pub mod Report
pub mod Region
