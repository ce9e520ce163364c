-- Proofs. What a step tells, by its shape: which regions are flushed, and with which note it ends.
pub mod EngineShapes
pub mod Asides
pub mod PartShapes
pub mod ShapesKeep
