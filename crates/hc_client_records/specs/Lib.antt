pub mod Records
pub mod Judge
pub mod Walk
