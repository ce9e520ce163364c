pub mod Below
pub mod Reclaims
