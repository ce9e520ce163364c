-- A fill is taken: what the take comes to, by what the engines answer.
use Rattle.std.proofs.Common.{◌≡◌, ℕ, ◌+◌, Bool, true, false, List, [], ◌∷◌, ◌++◌, Option, Some, None, ap, ◌∙◌, arith, cond}
use Rattle.std.specs.Prelude.{if◌then◌else◌}
use Rattle.hc_types.specs.Places.{bucket_at}
use Rattle.hc_types.specs.Tally.{count}
use Rattle.hc_engines.specs.Engine as engine
use Rattle.hc_engines.specs.Engine.{Get, Absent, Read, Outcome, outcome_of, nothing}
use Rattle.hc_engines.specs.small.BigHash as bighash
use Rattle.hc_engines.specs.small.BigHash.{Reading}
use Rattle.hc_engines.specs.large.Block as block
use Rattle.hc_engines.specs.large.Block.{finished}
use Rattle.hc_engines.specs.large.Steps as steps
use Rattle.hc_engines.specs.pair.Pair as pairs
use Rattle.hc_engines.specs.pair.Pair.{by_small, by_large}
use Rattle.hc_machine.specs.Nvm.{Nvm, Fill, Filling, fill_at, is_fill_of, is_number_in, fill_by, without_fill, taken_fill}
use Rattle.hc_machine.specs.Leaving.{Changed, changed, and_then}
use Rattle.hc_machine.specs.Takes.{Work as TheWork, Finished, launch_by, settled, found_in, fill_out, take_fill}
use Rattle.hc_proof.proofs.frames.ByNumber.{same_number}
use Rattle.hc_theorem.proofs.writer.SmallStarts.{waits_so, ends_so}
use Rattle.hc_theorem.proofs.writer.OneJobMore.{with_job}
use Rattle.hc_proof.proofs.jobs.LargeJobs.{with_large}
use Rattle.hc_theorem.proofs.fills.Refill.{rejob, rejob_without}
use Rattle.hc_theorem.proofs.fills.ReadParts.{raise_is_get}

-- an outcome that loses nothing
abbrev pub plainly : engine.Answer → Outcome
plainly answer = outcome_of answer []

settled_is : (answer : engine.Answer) (nvm : Nvm) → settled Filling (plainly answer) nvm ≡ changed [] nvm
settled_is answer nvm = ap (λ (first : Changed). and_then (changed [] nvm) (λ nvm. and_then first (changed []))) (raise_is_get nvm)

-- ---- the fill that was taken

pub brought_now : (m : ℕ) (key : List ℕ) (fills : List Fill) (fill : Fill) → fill_at key fills ≡ Some fill → count (λ (f : Fill). is_number_in m f.job) fills ≡ 0 → fill_by m (rejob key (Some m) fills) ≡ Some (record fill { job = Some m })
brought_now m key [] fill e none = absurd cc
brought_now m key (x ∷ fills) fill e none = step (is_fill_of key x) e (brought_now m key fills fill)
  where
    later : (b : Bool) (o p : Option Fill) → cond b 1 0 + count (λ (f : Fill). is_number_in m f.job) fills ≡ 0 → o ≡ p → (if b then Some x else o) ≡ p
    later true o p z h = absurd (omega arith)
    later false o p z h = h

    step : (t : Bool) → cond t (Some x) (fill_at key fills) ≡ Some fill → (fill_at key fills ≡ Some fill → count (λ (f : Fill). is_number_in m f.job) fills ≡ 0 → fill_by m (rejob key (Some m) fills) ≡ Some (record fill { job = Some m }))
        → fill_by m (cond t (record x { job = Some m }) x ∷ rejob key (Some m) fills) ≡ Some (record fill { job = Some m })
    step true e ih = let same : x ≡ fill = cc in ap (λ (b : Bool). if b then Some (record x { job = Some m }) else fill_by m (rejob key (Some m) fills)) (same_number m) ∙ ap (λ (f : Fill). Some (record f { job = Some m })) same
    step false e ih = later (is_number_in m x.job) (fill_by m (rejob key (Some m) fills)) (Some (record fill { job = Some m })) none (ih e (omega (arith, none)))

-- ---- what the take comes to

module _ (nvm : Nvm) (fill : Fill) where
  -- the small engine's page is to be read
  pub waits_small : bighash.start nvm.pair.small (nvm.made + 1) (Get fill.key) ≡ waits_so nvm.pair.small (nvm.made + 1) (Get fill.key) Reading
      → take_fill (Some fill) nvm ≡ record {
        nvm = record (with_job nvm nvm.queue nvm.tombstones nvm.fills Filling (Get fill.key) Reading) { fills = taken_fill fill.key (nvm.made + 1) nvm.fills };
        take = TheWork (nvm.made + 1) (Read (bucket_at nvm.pair.small.flash fill.key));
        part = [];
        filled = None;
      }
  waits_small e = ap (λ m. launch_by Filling (pairs.after_small (nvm.made + 1) (Get fill.key) (by_small nvm.pair m)) (record nvm { fills = taken_fill fill.key (nvm.made + 1) nvm.fills })) e

  -- the small engine has nothing: the large one is asked
  asks_large : bighash.start nvm.pair.small (nvm.made + 1) (Get fill.key) ≡ ends_so nvm.pair.small Absent
      → take_fill (Some fill) nvm ≡ launch_by Filling (by_large nvm.pair [] (steps.get nvm.pair.small.flash (nvm.made + 1) fill.key nvm.pair.large)) (record nvm { fills = taken_fill fill.key (nvm.made + 1) nvm.fills })
  asks_large e = ap (λ m. launch_by Filling (pairs.after_small (nvm.made + 1) (Get fill.key) (by_small nvm.pair m)) (record nvm { fills = taken_fill fill.key (nvm.made + 1) nvm.fills })) e

  -- its page is to be read
  pub waits_large : (moved : block.Moved) (page : ℕ) → bighash.start nvm.pair.small (nvm.made + 1) (Get fill.key) ≡ ends_so nvm.pair.small Absent → steps.get nvm.pair.small.flash (nvm.made + 1) fill.key nvm.pair.large ≡ moved
      → moved.order ≡ Some (Read page) → moved.outcome ≡ nothing
      → take_fill (Some fill) nvm ≡ record {
        nvm = record (with_large moved.state (nvm.jobs ++ record { number = nvm.made + 1; task = Filling; order = Read page } ∷ []) (nvm.made + 1) nvm) { fills = taken_fill fill.key (nvm.made + 1) nvm.fills };
        take = TheWork (nvm.made + 1) (Read page);
        part = [];
        filled = None;
      }
  waits_large moved page e is order outcome =
      let nvm1 : Nvm = record nvm { fills = taken_fill fill.key (nvm.made + 1) nvm.fills } in
      asks_large e ∙ ap (λ m. launch_by Filling (by_large nvm.pair [] m) nvm1) is
      ∙ (λ i. launch_by Filling (record { pair = record nvm.pair { large = moved.state }; next = pairs.next_of (outcome i) (order i) }) nvm1)

  -- or it answers at once
  pub over_large : (answer : engine.Answer) → bighash.start nvm.pair.small (nvm.made + 1) (Get fill.key) ≡ ends_so nvm.pair.small Absent
      → steps.get nvm.pair.small.flash (nvm.made + 1) fill.key nvm.pair.large ≡ finished nvm.pair.large (record nothing { answer = answer })
      → fill_at fill.key nvm.fills ≡ Some fill → count (λ (f : Fill). is_number_in (nvm.made + 1) f.job) nvm.fills ≡ 0
      → take_fill (Some fill) nvm ≡ record {
        nvm = record nvm { fills = without_fill fill.key nvm.fills };
        take = Finished;
        part = [];
        filled = Some (record { entry = found_in answer; waiters = fill.waiters });
      }
  over_large answer e is at none =
      let nvm1 : Nvm = record nvm { fills = taken_fill fill.key (nvm.made + 1) nvm.fills } in
      asks_large e ∙ ap (λ m. launch_by Filling (by_large nvm.pair [] m) nvm1) is
      ∙ ap (λ (change : Changed). fill_out (fill_by (nvm.made + 1) change.nvm.fills) answer change) (settled_is answer nvm1)
      ∙ ap (λ o. fill_out o answer (changed [] nvm1)) (brought_now (nvm.made + 1) fill.key nvm.fills fill at none)
      ∙ ap (λ (fills : List Fill). record { nvm = record nvm { fills = fills }; take = Finished; part = []; filled = Some (record { entry = found_in answer; waiters = fill.waiters }) }) (rejob_without fill.key (Some (nvm.made + 1)) nvm.fills)
