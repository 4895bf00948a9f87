pub mod Refusal
pub mod Kind
pub mod Bits
pub mod Operation
pub mod Request
pub mod Response
pub mod AddressSet
pub mod Sizes
