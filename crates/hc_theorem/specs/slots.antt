-- What fills the slots of a schedule, and what is true between two of its steps.
pub mod Opens
pub mod BetweenScene
