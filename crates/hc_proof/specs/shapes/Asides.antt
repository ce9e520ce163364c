-- Pieces of a step: what they tell, and what they leave of calls, open charges, fills and jobs.
use Rattle.std.specs.Prelude.{◌≡◌, List, [], ◌∷◌}
use Rattle.hc_history.specs.Note.{Note, Begin, Did, End, Read, Wrote, Flushed}
use Rattle.hc_machine.specs.Nvm.{Nvm}
use Rattle.hc_machine.specs.Leaving.{Changed}
use Rattle.hc_machine.specs.Cache.{Cache, Told}
use Rattle.hc_machine.specs.Quiet.{jobs_in}
use Rattle.hc_invariant.specs.Good.{fills_of}

-- no call begins, is answered or ends, nothing is read or written, and no region is told flushed
abbrev pub Aside : List Note → Type 0
Aside [] = Unit {0}
Aside (Begin call client op ∷ notes) = ⊥
Aside (Did call reply ∷ notes) = ⊥
Aside (End call ∷ notes) = ⊥
Aside (Read page result ∷ notes) = ⊥
Aside (Wrote page bytes is_written ∷ notes) = ⊥
Aside (Flushed region ∷ notes) = ⊥
Aside (note ∷ notes) = Aside notes

-- the same, but calls may be answered
abbrev pub Answering : List Note → Type 0
Answering [] = Unit {0}
Answering (Begin call client op ∷ notes) = ⊥
Answering (End call ∷ notes) = ⊥
Answering (Read page result ∷ notes) = ⊥
Answering (Wrote page bytes is_written ∷ notes) = ⊥
Answering (note ∷ notes) = Answering notes

pub record AsideChange (nvm : Nvm) (change : Changed) : Type 0 where
  pub aside : Aside change.part
  pub fills : change.nvm.fills ≡ nvm.fills
  pub jobs : change.nvm.jobs ≡ nvm.jobs

-- the piece leaves the calls, the open charges, the fills and the jobs as they are
pub record AsidePart (cache : Cache) (told : Told) : Type 0 where
  pub aside : Aside told.part
  pub calls : told.cache.calls ≡ cache.calls
  pub charges : told.cache.memory.charges ≡ cache.memory.charges
  pub made : told.cache.memory.made ≡ cache.memory.made
  pub fills : fills_of told.cache.nvm ≡ fills_of cache.nvm
  pub jobs : jobs_in told.cache.nvm ≡ jobs_in cache.nvm
