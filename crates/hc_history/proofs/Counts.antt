-- Counts over a list.
use Rattle.std.proofs.Common.{◌≡◌, ℕ, ◌+◌, ◌≤◌, Bool, List, length, drop, ap, arith}
use Rattle.std.proofs.lemmas.List.{drop_all}
use Rattle.hc_types.specs.Tally.{count}
use Rattle.hc_history.specs.Note.{Note}
use Rattle.hc_history.specs.Stats.{counts_of, is_stored, is_hit, is_miss, is_removed, is_loss, is_read, is_write}
use Rattle.hc_history.specs.declared.stats.Stats.{Stats}

-- nothing is left to count past the end
count-past : {X : Type 0} (test : X → Bool) (xs : List X) (i n : ℕ) → length xs ≤ i → n + count test (drop i xs) ≡ count test xs → n ≡ count test xs
count-past test xs i n past sum = omega (arith, sum, ap (count test) (drop_all i xs past))

-- counts whose rest past the end is counted are those of the log
pub counts-past : (s : Stats) (log : List Note) (i : ℕ) → length log ≤ i
    → s.stored + count is_stored (drop i log) ≡ count is_stored log → s.hits + count is_hit (drop i log) ≡ count is_hit log → s.misses + count is_miss (drop i log) ≡ count is_miss log
    → s.removes + count is_removed (drop i log) ≡ count is_removed log → s.losses + count is_loss (drop i log) ≡ count is_loss log → s.reads + count is_read (drop i log) ≡ count is_read log → s.writes + count is_write (drop i log) ≡ count is_write log → s ≡ counts_of log
counts-past s log i past stored hits misses removes losses reads writes = λ at. record {
  stored = count-past is_stored log i s.stored past stored at;
  hits = count-past is_hit log i s.hits past hits at;
  misses = count-past is_miss log i s.misses past misses at;
  removes = count-past is_removed log i s.removes past removes at;
  losses = count-past is_loss log i s.losses past losses at;
  reads = count-past is_read log i s.reads past reads at;
  writes = count-past is_write log i s.writes past writes at;
}
