-- What is under way for a job that brings a key: a get that reads a page.
use Rattle.std.specs.Prelude.{◌≡◌, Bool, true, false, List, [], ◌∷◌, Option, Some, None, ⊤}
use Rattle.hc_engines.specs.Engine.{Op, Put, Get, Delete, Flush, Reclaim, Order, Read, Write, UnderWay}
use Rattle.hc_engines.specs.pair.Held.{under_way}
use Rattle.hc_engines.specs.pair.Pair.{Pair}
use Rattle.hc_machine.specs.Nvm.{Task, Putting, Deleting, Filling, Flushing, Job}

-- a get that reads a page
abbrev pub gets_page : Op → Order → Bool
gets_page (Get key) (Read page) = true
gets_page (Get key) (Write page bytes) = false
gets_page (Put e) order = false
gets_page (Delete key) order = false
gets_page Flush order = false
gets_page Reclaim order = false

-- what is under way, if anything is, is such a get
abbrev pub is_fetch : Option UnderWay → Bool
is_fetch None = true
is_fetch (Some w) = gets_page w.op w.order

-- it is for a task that brings a key
abbrev pub serves : Task → Option UnderWay → Bool
serves Filling w = is_fetch w
serves (Putting key) w = true
serves (Deleting key) w = true
serves Flushing w = true

-- it is so for each job
abbrev pub AreServed : Pair → List Job → Type 0
AreServed pair [] = ⊤
AreServed pair (job ∷ jobs) = (serves job.task (under_way pair job.number) ≡ true) × AreServed pair jobs

-- the engines are asked for a get where the task brings a key
abbrev pub Brings : Task → Op → Type 0
Brings Filling (Get key) = ⊤
Brings Filling (Put e) = ⊥
Brings Filling (Delete key) = ⊥
Brings Filling Flush = ⊥
Brings Filling Reclaim = ⊥
Brings (Putting key) op = ⊤
Brings (Deleting key) op = ⊤
Brings Flushing op = ⊤
