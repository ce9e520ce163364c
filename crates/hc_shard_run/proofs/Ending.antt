-- What each shard leaves.
use Rattle.std.proofs.Common.{◌≡◌, ℕ, zero, suc, ◌+◌, List, [], ◌∷◌, ◌++◌, length, take, Option, Some, None, refl, ap, sym, subst, ◌∙◌, arith, append-nil}
use Rattle.std.specs.Prelude.{IfSome}
use Rattle.std.specs.List.{slice_get}
use Rattle.std.proofs.lemmas.Option.{same_Some}
use Rattle.hc_types.specs.Config.{Config}
use Rattle.hc_types.specs.Limits.{first_wrong}
use Rattle.hc_types.specs.Tally.{tally}
use Rattle.hc_engines.specs.Engine.{Pages}
use Rattle.hc_history.specs.Note.{Note}
use Rattle.hc_machine.specs.Schedule.{Step, Ran, run}
use Rattle.hc_run.specs.Laws.{Promised}
use Rattle.hc_run.specs.Runs.{failures_told}
use Rattle.hc_run.specs.Shows.{seen}
use Rattle.hc_run.proofs.Going.{promised, run_ends, ran-to, failures-told}
use Rattle.hc_shards.specs.Shards.{Sharded, sharded_wrong, share_of}
use Rattle.hc_shards.proofs.Sharing.{sharded-right}
use Rattle.hc_shard_laws.specs.OwnKeys.{ShardStep, OwnKeys, steps_of}
use Rattle.hc_shard_laws.proofs.Keys.{shards-keep-keys}
use Rattle.hc_shard_run.specs.Ran.{RanShard, RunsAlone, told_failures, window_of}
use Rattle.hc_shard_run.specs.Lanes.{Lane, IsLane, AreLanes, IsEnd, AreEnds, failures_of}

-- ---- lists of both

pub ends-many : (lanes : List Lane) (rans : List RanShard) → AreEnds lanes rans → length rans ≡ length lanes
ends-many [] [] ends = refl
ends-many (lane ∷ lanes) (ran ∷ rans) ends = ap suc (ends-many lanes rans ends.1)
ends-many [] (ran ∷ rans) ends = absurd ends
ends-many (lane ∷ lanes) [] ends = absurd ends

-- the lane that ended so
record Ended (lanes : List Lane) (k : ℕ) (ran : RanShard) : Type 0 where
  lane : Lane
  at : slice_get lanes k ≡ Some lane
  end : IsEnd lane ran

ends-at : (lanes : List Lane) (rans : List RanShard) (k : ℕ) (ran : RanShard) → AreEnds lanes rans → slice_get rans k ≡ Some ran → Ended lanes k ran
ends-at [] [] k ran ends at = absurd cc
ends-at (lane ∷ lanes) (first ∷ rans) zero ran ends at = record { lane = lane; at = refl; end = subst (λ (r : RanShard). IsEnd lane r) (same_Some first ran at) ends.0 }
ends-at (lane ∷ lanes) (first ∷ rans) (suc k) ran ends at = let e = ends-at lanes rans k ran ends.1 at in record { lane = e.lane; at = e.at; end = e.end }
ends-at [] (first ∷ rans) k ran ends at = absurd ends
ends-at (lane ∷ lanes) [] k ran ends at = absurd ends

-- ---- one shard

module _ (config : Config) (right : first_wrong config ≡ None) (steps : List Step) (held : Pages) (lane : Lane) (ran : RanShard) (l : IsLane held config steps lane) (end : IsEnd lane ran) where
  abbrev left : RanShard
  left = record { log = ran.log; ends = lane.ends; answers = lane.answers; stopped = lane.stopped }

  left_is : left ≡ ran
  left_is = λ i. record { log = ran.log; ends = sym end.ends i; answers = sym end.answers i; stopped = sym end.stopped i }

  end-promised : Promised config steps ran.answers ran.ends ran.log ran.stopped
  end-promised = subst (λ (r : RanShard). Promised config steps r.answers r.ends r.log r.stopped) left_is (promised config steps lane.answers lane.ends held lane.stage ran.log lane.stopped right l.ongoing l.stops end.log)

  end-alone : RunsAlone config steps ran held
  end-alone =
      let made = take (length lane.answers) steps in
      let o = l.ongoing in
      let r = run_ends config made lane.answers lane.ends held lane.stage ran.log o end.log in
      let came = ran-to config made lane.answers lane.ends held lane.stage o in
      subst (λ (r : RanShard). RunsAlone config steps r held) left_is (record {
        breaks = o.run.broke;
        answered = r.answered;
        ended = r.ended;
        told = r.told;
        within = λ page bytes is. o.shows.pages page bytes (ap (λ (r : Ran). r.scene.world.pages page) (sym came) ∙ is);
      })

  end-failures : told_failures ran ≡ lane.stage.failures
  end-failures = ap (failures_told 0) end.answers ∙ sym (failures-told config (take (length lane.answers) steps) lane.answers lane.ends held lane.stage l.ongoing)

-- ---- each shard

some-each : {X : Type 0} (P : X → Type 0) (o : Option X) → ((x : X) → o ≡ Some x → P x) → IfSome o P
some-each P None each = tt
some-each P (Some x) each = each x refl

module _ (s : Sharded) (right : sharded_wrong s ≡ None) (held : Pages) (steps : List ShardStep) (lanes : List Lane) (rans : List RanShard) (all : AreLanes s held steps lanes) (ends : AreEnds lanes rans) where
  pub all-promised : (k : ℕ) → IfSome (slice_get rans k) (λ (ran : RanShard). Promised (share_of s) (steps_of s.shards k steps) ran.answers ran.ends ran.log ran.stopped)
  all-promised k = some-each (λ (ran : RanShard). Promised (share_of s) (steps_of s.shards k steps) ran.answers ran.ends ran.log ran.stopped) (slice_get rans k) (λ ran at.
      let e = ends-at lanes rans k ran ends at in
      end-promised (share_of s) (sharded-right s right).share (steps_of s.shards k steps) (seen (window_of s k) held) e.lane ran (all k e.lane e.at).run e.end)

  pub all-alone : (k : ℕ) → IfSome (slice_get rans k) (λ (ran : RanShard). RunsAlone (share_of s) (steps_of s.shards k steps) ran (seen (window_of s k) held))
  all-alone k = some-each (λ (ran : RanShard). RunsAlone (share_of s) (steps_of s.shards k steps) ran (seen (window_of s k) held)) (slice_get rans k) (λ ran at.
      let e = ends-at lanes rans k ran ends at in
      end-alone (share_of s) (sharded-right s right).share (steps_of s.shards k steps) (seen (window_of s k) held) e.lane ran (all k e.lane e.at).run e.end)

  pub all-own : (k : ℕ) → IfSome (slice_get rans k) (λ (ran : RanShard). OwnKeys s.shards k ran.log)
  all-own k = some-each (λ (ran : RanShard). OwnKeys s.shards k ran.log) (slice_get rans k) (λ ran at.
      let e = ends-at lanes rans k ran ends at in
      let f = (end-promised (share_of s) (sharded-right s right).share (steps_of s.shards k steps) (seen (window_of s k) held) e.lane ran (all k e.lane e.at).run e.end).follows in
      subst (λ (log : List Note). OwnKeys s.shards k log) (sym f.told) (shards-keep-keys s.shards k (share_of s) steps ran.answers f.parts f.last f.follows.follows))

failures-each : (lanes : List Lane) (rans : List RanShard) → AreEnds lanes rans → ((k : ℕ) (lane : Lane) → slice_get lanes k ≡ Some lane → lane.stage.failures ≡ failures_told 0 lane.answers) → tally told_failures rans ≡ failures_of lanes
failures-each [] [] ends each = refl
failures-each (lane ∷ lanes) (ran ∷ rans) ends each = λ i. (ap (failures_told 0) ends.0.answers ∙ sym (each 0 lane refl)) i + failures-each lanes rans ends.1 (λ k other at. each (suc k) other at) i
failures-each [] (ran ∷ rans) ends each = absurd ends
failures-each (lane ∷ lanes) [] ends each = absurd ends

-- the shards' answers tell their failures
pub all-failures : (s : Sharded) (held : Pages) (steps : List ShardStep) (lanes : List Lane) (rans : List RanShard) → AreLanes s held steps lanes → AreEnds lanes rans → tally told_failures rans ≡ failures_of lanes
all-failures s held steps lanes rans all ends = failures-each lanes rans ends (λ k lane at.
    let l = (all k lane at).run in
    failures-told (share_of s) (take (length lane.answers) (steps_of s.shards k steps)) lane.answers lane.ends (seen (window_of s k) held) lane.stage l.ongoing)

-- ---- the loop over the shards that end

pub ends-more : (lanes : List Lane) (lane : Lane) (rest : List Lane) (rans : List RanShard) (ran : RanShard) → IsEnd lane ran → ((more : List RanShard) → AreEnds (lane ∷ rest) more → AreEnds lanes (rans ++ more)) → (more : List RanShard) → AreEnds rest more → AreEnds lanes (rans ++ ran ∷ more)
ends-more lanes lane rest rans ran end so_far more ends = so_far (ran ∷ more) (end, ends)

pub ends-all : (lanes rest : List Lane) (rans : List RanShard) → ((more : List RanShard) → AreEnds rest more → AreEnds lanes (rans ++ more)) → length rest ≡ 0 → AreEnds lanes rans
ends-all lanes [] rans so_far none = subst (λ (all : List RanShard). AreEnds lanes all) (append-nil rans) (so_far [] tt)
ends-all lanes (lane ∷ rest) rans so_far none = absurd (omega (arith, none))
