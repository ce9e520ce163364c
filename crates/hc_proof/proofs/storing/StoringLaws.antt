-- The laws of what is stored and removed, from what they lean on in the crates below.
use Rattle.hc_invariant.specs.Laws.{InsertKeeps, AddKeeps, RemoveKeeps}
use Rattle.hc_proof.proofs.losses.Agreements.{due_is}
use Rattle.hc_proof.proofs.books.Taking.{take_tells}
use Rattle.hc_proof.specs.calls.Planting.{PlantKeeps}
use Rattle.hc_proof.specs.calls.Serving.{ServeAllKeeps, EndFillKeeps}
use Rattle.hc_proof.specs.calls.Storing.{StoreKeeps}
use Rattle.hc_proof.proofs.calls.Serving.{serve_all_keeps, there_by_map}
use Rattle.hc_proof.proofs.calls.Ending.{end_fill_keeps}
use Rattle.hc_proof.proofs.calls.Adds.{add_keeps}
use Rattle.hc_proof.proofs.storing.Planting.{plant_keeps}
use Rattle.hc_proof.proofs.storing.Storing.{store_keeps, insert_steady}
use Rattle.hc_proof.proofs.storing.Removing.{remove_steady}
use Rattle.hc_invariant.specs.Good.{Agrees}

-- a key's item is replaced, before the Did
pub plants : PlantKeeps
plants = plant_keeps due_is take_tells

-- calls that wait are served
pub serves : ServeAllKeeps
serves = serve_all_keeps plants

pub ends : EndFillKeeps
ends = end_fill_keeps plants

-- an insert, or an add that doesn't wait, stores
pub stores : StoreKeeps
stores = store_keeps plants ends there_by_map

-- ---- the three calls

pub inserts : InsertKeeps Agrees Agrees
inserts = insert_steady due_is take_tells ends there_by_map

pub removes : RemoveKeeps Agrees Agrees
removes = remove_steady due_is take_tells ends there_by_map

pub adds : AddKeeps Agrees Agrees
adds = add_keeps stores
