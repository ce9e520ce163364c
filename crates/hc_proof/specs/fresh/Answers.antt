-- Who is answered in a part of a step, and what each step keeps of the fills.
use Rattle.std.specs.Prelude.{List, [], ◌∷◌, ℕ}
use Rattle.hc_history.specs.Note.{Note, Begin, Did}
use Rattle.hc_history.specs.Lawful.{past}
use Rattle.hc_machine.specs.Nvm.{Waiter}
use Rattle.hc_machine.specs.Cache.{Cache, Moved}
use Rattle.hc_invariant.specs.Fresh.{AllFresh}
use Rattle.hc_invariant.specs.Good.{fills_of}

-- no call begins, and each that is answered is one of these
abbrev pub Answers : (ℕ → Type 0) → List Note → Type 0
Answers Q [] = Unit {0}
Answers Q (Begin call client op ∷ notes) = ⊥
Answers Q (Did call reply ∷ notes) = Q call × Answers Q notes
Answers Q (note ∷ notes) = Answers Q notes

abbrev pub AllCalls : (ℕ → Type 0) → List Waiter → Type 0
AllCalls Q [] = Unit {0}
AllCalls Q (waiter ∷ waiters) = Q waiter.call × AllCalls Q waiters

-- the fills stay fresh in the step
abbrev pub FreshKeeps : List Note → Cache → Moved → Type 0
FreshKeeps older cache moved = AllFresh older (fills_of cache.nvm) → AllFresh (past older moved.part) (fills_of moved.cache.nvm)
