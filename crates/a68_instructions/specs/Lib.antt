pub mod Bodies
pub mod Machine
pub mod Plainly
pub mod Replies
pub mod Room
pub mod Silent
pub mod Unbound
pub mod Wanting
