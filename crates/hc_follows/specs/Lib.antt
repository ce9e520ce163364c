-- When a run follows its steps, by the notes and the books alone.
pub mod Desk
pub mod Telling
pub mod Clients
pub mod Idle
pub mod Workers
pub mod Claims
pub mod Charging
pub mod Follows
