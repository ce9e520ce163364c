-- What a step tells, by its shape: which regions are flushed, and with which note it ends.
pub mod Shapes
pub mod Asides
