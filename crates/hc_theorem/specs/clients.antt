-- Statements: what ties a desk to a scene of the machine, and what each kind of step does to it.
pub mod Matches
pub mod Deeds
