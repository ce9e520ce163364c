-- Proofs. Every schedule's run of the machine follows its steps.
pub mod Telling
pub mod Adds
pub mod Stepping
pub mod Asking
pub mod Waiting
pub mod Finding
pub mod Changing
pub mod Putting
pub mod PuttingNew
pub mod Refusing
pub mod Opening
pub mod Claims
pub mod Clock
pub mod Ending
pub mod Walking
