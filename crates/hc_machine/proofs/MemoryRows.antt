-- Worked runs without flash: finds and removes, evictions, and values that expire.
use Rattle.std.proofs.Common.{◌≡◌, ℕ, true, List, [], ◌∷◌, ◌++◌, refl, replicate, codes}
use Rattle.hc_types.specs.Loss as loss
use Rattle.hc_types.specs.Loss.{Expired}
use Rattle.hc_types.specs.declared.loss.Why.TheVariants.{NoFlash}
use Rattle.hc_history.specs.Note.{Lose, Freed, Now}
use Rattle.hc_history.specs.Stats.{counts_of}
use Rattle.hc_legal.specs.Judge.{is_legal}
use Rattle.hc_legal.proofs.Logs.{a, b, one, two}
use Rattle.hc_machine.specs.Cache.{Moment}
use Rattle.hc_machine.specs.World as w
use Rattle.hc_machine.proofs.Tables.{Turn, log_of, Runs, stats, no_flash, forgets, set, set_anew, set_for, add, get_hits, get_misses, del_found, answered}

abbrev xs : ℕ → List ℕ
xs n = replicate n 120

abbrev ys : ℕ → List ℕ
ys n = replicate n 121

-- ---- a value is found until it is removed

abbrev k : List ℕ
k = codes "k"

abbrev pub found_until_removed : List Turn
found_until_removed = set 1 1 k (codes "v") [] ∷ get_hits 2 k (codes "v") ∷ del_found 3 k (Freed 1 ∷ []) ∷ get_misses 4 k ∷ []

pub found_until_removed-runs : Runs (no_flash 1000 10) found_until_removed
found_until_removed-runs = refl

pub found_until_removed-legal : is_legal (no_flash 1000 10) (log_of found_until_removed) ≡ true
found_until_removed-legal = refl

pub found_until_removed-counts : counts_of (log_of found_until_removed) ≡ stats 1 1 1 1 0 0 0
found_until_removed-counts = refl

-- ---- there is no room for two items

abbrev pub no_room_for_two : List Turn
no_room_for_two = set 1 1 a (xs 20) [] ∷ set 2 2 b (ys 20) (forgets 1 a 53 NoFlash) ∷ get_misses 3 a ∷ get_hits 4 b (ys 20) ∷ []

pub no_room_for_two-runs : Runs (no_flash 100 10) no_room_for_two
no_room_for_two-runs = refl

pub no_room_for_two-legal : is_legal (no_flash 100 10) (log_of no_room_for_two) ≡ true
no_room_for_two-legal = refl

pub no_room_for_two-counts : counts_of (log_of no_room_for_two) ≡ stats 2 1 1 0 1 0 0
no_room_for_two-counts = refl

-- ---- the items that were used longest ago are evicted, the key's own among them

abbrev pub longest_unused_goes : List Turn
longest_unused_goes =
    set 1 1 a (xs 20) [] ∷ set 2 2 b (ys 20) [] ∷ get_hits 3 a (xs 20)
    ∷ set 3 4 b (ys 21) (forgets 2 b 54 NoFlash ++ forgets 1 a 54 NoFlash)
    ∷ get_misses 5 a ∷ get_hits 6 b (ys 21) ∷ []

pub longest_unused_goes-runs : Runs (no_flash 106 10) longest_unused_goes
longest_unused_goes-runs = refl

pub longest_unused_goes-legal : is_legal (no_flash 106 10) (log_of longest_unused_goes) ≡ true
longest_unused_goes-legal = refl

pub longest_unused_goes-counts : counts_of (log_of longest_unused_goes) ≡ stats 3 2 1 0 2 0 0
longest_unused_goes-counts = refl

-- ---- an item replaces the one that its key has

abbrev pub replaced : List Turn
replaced = set 1 1 k (codes "v") [] ∷ set_anew 2 2 k (codes "w") [] (Freed 1 ∷ []) [] ∷ get_hits 3 k (codes "w") ∷ []

pub replaced-runs : Runs (no_flash 1000 10) replaced
replaced-runs = refl

pub replaced-legal : is_legal (no_flash 1000 10) (log_of replaced) ≡ true
replaced-legal = refl

-- ---- a value expires, the clock doesn't go back, and an add replaces what is expired

abbrev pub expires_in_memory : List Turn
expires_in_memory =
    answered (w.At 5) (Moment 5) (Now 5 ∷ []) ∷ set_for 10 15 1 1 a one [] ∷ answered (w.At 14) (Moment 14) (Now 14 ∷ []) ∷ get_hits 2 a one
    ∷ answered (w.At 15) (Moment 15) (Now 15 ∷ []) ∷ get_misses 3 a ∷ answered (w.At 3) (Moment 15) []
    ∷ add 2 4 a two (Freed 1 ∷ Lose (loss.Key a) Expired ∷ []) [] ∷ get_hits 5 a two ∷ []

pub expires_in_memory-runs : Runs (no_flash 1000 1) expires_in_memory
expires_in_memory-runs = refl

pub expires_in_memory-legal : is_legal (no_flash 1000 1) (log_of expires_in_memory) ≡ true
expires_in_memory-legal = refl

pub expires_in_memory-counts : counts_of (log_of expires_in_memory) ≡ stats 2 2 1 0 1 0 0
expires_in_memory-counts = refl
