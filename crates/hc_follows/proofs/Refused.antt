-- Runs that don't follow their steps: one that does nothing, one that answers each call wrongly, one whose find moves the clock.
use Rattle.std.proofs.Common.{◌≡◌, ◌<◌, ℕ, suc, List, [], ◌∷◌, Option, Some, None, map, length, arith}
use Rattle.hc_types.specs.Config.{Config}
use Rattle.hc_history.specs.Note.{Note, Op, Begin, Reply, Hit}
use Rattle.hc_history.specs.Books.{now_at}
use Rattle.hc_history.specs.Lawful.{past}
use Rattle.hc_machine.specs.Cache.{Replied}
use Rattle.hc_machine.specs.World.{Says}
use Rattle.hc_machine.specs.Schedule.{Step, Open, Find, Told, Tells}
use Rattle.hc_follows.specs.Telling.{did_in}
use Rattle.hc_follows.specs.Clients.{FindPart}
use Rattle.hc_follows.specs.Follows.{Follows}

none_is_some : (n : ℕ) → 0 ≡ suc n → ⊥
none_is_some n h = absurd cc

-- a run that makes no step follows no step
pub nothing_is_refused : (config : Config) (s : Step) (steps : List Step) → Follows config (s ∷ steps) [] [] [] None → ⊥
nothing_is_refused config s steps h = none_is_some (length steps) h.stops

-- a run that answers each step with a hit of a value that nobody stored
abbrev lie : Step → Told
lie step = Tells (Says (Replied (Hit (1 ∷ 2 ∷ 3 ∷ []))))

abbrev opens : (client slot pool : ℕ) (key value : List ℕ) (ttl : ℕ) → Step
opens client slot pool key value ttl = record { client = client; deed = Open slot pool key value ttl }

pub lying_is_refused : (config : Config) (client slot pool : ℕ) (key value : List ℕ) (ttl : ℕ) (steps : List Step) (part : List Note) (parts : List (List Note)) (last : List Note)
    → Follows config (opens client slot pool key value ttl ∷ steps) (map lie (opens client slot pool key value ttl ∷ steps)) (part ∷ parts) last None → ⊥
lying_is_refused config client slot pool key value ttl steps part parts last h = h.follows.0.part_of

-- one part of a find has one answer: to log a hit and to hand out a miss isn't to follow
pub one_answer : (config : Config) (older : List Note) (client : ℕ) (key : List ℕ) (a b : Reply) (call who : ℕ) (op : Op) (rest : List Note)
    → FindPart config older client key (Tells (Says (Replied a))) (Begin call who op ∷ rest) → FindPart config older client key (Tells (Says (Replied b))) (Begin call who op ∷ rest) → a ≡ b
one_answer config older client key a b call who op rest g h = same (did_in call rest) g.3 h.3
  where
    same : (did : Option Reply) → did ≡ Some a → did ≡ Some b → a ≡ b
    same did g h = cc

-- a run whose first step is a find that moves the clock doesn't follow
abbrev finds : (client : ℕ) (key : List ℕ) → Step
finds client key = record { client = client; deed = Find key }

pub moved_clock_is_refused : (config : Config) (client : ℕ) (key : List ℕ) (steps : List Step) (told : Told) (answers : List Told) (part : List Note) (parts : List (List Note)) (last : List Note)
    → 0 < now_at (past [] part) → Follows config (finds client key ∷ steps) (told ∷ answers) (part ∷ parts) last None → ⊥
moved_clock_is_refused config client key steps told answers part parts last later h = absurd (let stands : now_at (past [] part) ≡ 0 = h.follows.0.clocked in omega (arith, later, stands))
