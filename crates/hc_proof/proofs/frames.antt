-- Proofs. What all steps share: a state in the midst of a step, and what is left as it was by notes, charges, fills and lists.
pub mod BetweenSteps
pub mod ByNumber
pub mod FlashStill
pub mod CallNotes
pub mod CallsPass
pub mod Charges
pub mod OpenCharges
pub mod Fills
pub mod FlashPasses
pub mod ItemOrder
pub mod JobLists
pub mod Lists
pub mod Queue
pub mod Unmarks
