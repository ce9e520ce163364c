-- Worked runs of what is refused: configurations, keys, handles and calls, and items that flash doesn't take.
use Rattle.std.proofs.Common.{◌≡◌, ℕ, true, List, [], ◌∷◌, length, Some, None, refl, replicate, arith}
use Rattle.std.specs.Prelude.{nat_lt}
use Rattle.hc_types.specs.Config.{Config}
use Rattle.hc_types.specs.Limits.{first_wrong, key_refusal}
use Rattle.hc_types.specs.declared.loss.Why.TheVariants.{NotAdmitted, TooLarge, QueueFull}
use Rattle.hc_types.specs.declared.refusal.Refusal.{Refusal}
use Rattle.hc_types.specs.declared.refusal.Refusal.TheVariants.{BadSmallMax, KeyTooLong, NoPool, ValueTooLong, NoRoom, Exists, UnknownCall, UnknownJob}
use Rattle.hc_history.specs.Note.{Charged, Freed}
use Rattle.hc_history.specs.Stats.{counts_of}
use Rattle.hc_legal.specs.Judge.{is_legal}
use Rattle.hc_legal.proofs.Logs.{a, b, c, d, e, queues}
use Rattle.hc_machine.specs.Cache.{Refused}
use Rattle.hc_machine.specs.World as w
use Rattle.hc_machine.specs.World.{Line, step, new_world}
use Rattle.hc_machine.proofs.Tables.{Turn, log_of, Runs, stats, flash, on_flash, no_flash, forgets, set, get_hits, get_misses, answered}

abbrev refused : Line → Refusal → Turn
refused line refusal = answered line (Refused refusal) []

-- ---- the refusals of calls

abbrev pub tight : Config
tight = no_flash 97 2

-- any value of more than 1,048,576 bytes is refused, and leaves the world as it was
pub refused_calls-too_long : (value : List ℕ) → nat_lt 1048576 (length value) ≡ true → step (w.Set 0 a value 0) (new_world tight []) ≡ w.refused (new_world tight []) ValueTooLong
refused_calls-too_long value h = grind arith

-- the other refusals of calls
abbrev pub refused_calls : List Turn
refused_calls =
    refused (w.Set 1 a [] 0) NoPool ∷ refused (w.Set 0 a (replicate 65 120) 0) NoRoom ∷ set 1 1 a (replicate 31 120) []
    ∷ answered (w.Add 0 a [] 0) (Refused Exists) (Charged 2 a 0 33 ∷ Freed 2 ∷ []) ∷ get_hits 2 a (replicate 31 120)
    ∷ refused (w.Reply 1) UnknownCall ∷ refused (w.Done 1) UnknownJob ∷ []

pub refused_calls-runs : Runs tight refused_calls
refused_calls-runs = refl

pub refused_calls-legal : is_legal tight (log_of refused_calls) ≡ true
refused_calls-legal = refl

pub refused_calls-counts : counts_of (log_of refused_calls) ≡ stats 1 1 0 0 0 0 0
refused_calls-counts = refl

-- ---- small items may not take a whole page

pub whole_page_is_not_small : first_wrong (on_flash 1000 10 (flash 1 1 497 8 0 2000)) ≡ Some BadSmallMax
whole_page_is_not_small = refl

-- ---- items that flash doesn't take

-- one put may wait, of a key and a value of 2 to 600 bytes
abbrev pub narrow : Config
narrow = on_flash 1000 1 (flash 1 1 100 1 2 600)

abbrev pub not_taken : List Turn
not_taken =
    set 1 1 a [] [] ∷ set 2 2 b (replicate 500 120) (forgets 1 a 533 NotAdmitted) ∷ set 3 3 c c (forgets 2 b 34 TooLarge)
    ∷ set 4 4 d d (queues 3 c) ∷ set 5 5 e e (forgets 4 d 34 QueueFull) ∷ get_hits 6 e e ∷ []

pub not_taken-runs : Runs narrow not_taken
not_taken-runs = refl

pub not_taken-legal : is_legal narrow (log_of not_taken) ≡ true
not_taken-legal = refl

pub not_taken-counts : counts_of (log_of not_taken) ≡ stats 5 1 0 0 3 0 0
not_taken-counts = refl

-- ---- a key of 255 bytes is one, and one of 256 isn't; what is no line of a trace is no matter of the machine

pub longest_key-longest : key_refusal (replicate 255 107) ≡ None
longest_key-longest = refl

pub longest_key-too_long : key_refusal (replicate 256 107) ≡ Some KeyTooLong
longest_key-too_long = refl

abbrev pub longest_key : List Turn
longest_key = get_misses 1 (replicate 255 107) ∷ refused (w.Reply 1) UnknownCall ∷ []

pub longest_key-runs : Runs (no_flash 1000 10) longest_key
longest_key-runs = refl

pub longest_key-legal : is_legal (no_flash 1000 10) (log_of longest_key) ≡ true
longest_key-legal = refl
