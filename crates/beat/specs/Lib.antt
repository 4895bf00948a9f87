pub mod Width
pub mod Lanes
pub mod Begun
pub mod Channel
pub mod Request
pub mod Response
