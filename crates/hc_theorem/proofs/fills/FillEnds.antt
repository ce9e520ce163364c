-- A fill ends: what came is linked where it can be, and the calls that waited for it are served.
use Rattle.std.proofs.Common.{◌≡◌, ℕ, ◌≤◌, false, List, [], ◌∷◌, ◌++◌, Option, Some, None, refl, ap, sym, ◌∙◌, subst}
use Rattle.std.proofs.lemmas.List.{append-nil}
use Rattle.hc_types.specs.Config.{Config}
use Rattle.hc_types.specs.Tally.{count}
use Rattle.hc_types.specs.declared.config.FlashConfig.{FlashConfig}
use Rattle.hc_machine.specs.items.Items.{items_of}
use Rattle.hc_history.specs.Note.{Note}
use Rattle.hc_history.specs.Regions.{is_put_of, put_under_way}
use Rattle.hc_history.specs.Lawful.{Allowed, Lawful, past}
use Rattle.hc_history.proofs.Appended.{past-append, Lawful-append}
use Rattle.hc_machine.specs.Nvm.{Fill, fill_at, adds}
use Rattle.hc_machine.specs.Cache.{Owed}
use Rattle.hc_machine.specs.Waiting.{serve_all}
use Rattle.hc_machine.specs.Workers.{bring}
use Rattle.hc_invariant.specs.Tells.{CallsTell, waiters_of}
use Rattle.hc_invariant.specs.Good.{AllSized, Agrees, fills_of}
use Rattle.hc_invariant.specs.Laws.{LawfulIn}
use Rattle.hc_proof.specs.frames.Midst.{none_moves}
use Rattle.hc_proof.specs.calls.Planting.{RestsFrom}
use Rattle.hc_proof.specs.calls.Serving.{ghost, Serving, ServeAllKeeps, ThereByMap}
use Rattle.hc_theorem.specs.fills.Filling.{FillEnds}
use Rattle.hc_proof.proofs.evicting.CallsStand.{calls_same}
use Rattle.hc_proof.proofs.frames.BetweenSteps.{rest_is_good}
use Rattle.hc_proof.proofs.evicting.LinkedClean.{bring_keeps}
use Rattle.hc_proof.proofs.evicting.FlashMemory.{all_wish}

lawful_of : (config : Config) (older piece : List Note) → LawfulIn config older piece [] → Lawful config older piece
lawful_of config older [] h = tt
lawful_of config older (note ∷ piece) h = let one = h.0 in (subst (λ (rest : List Note). Allowed config older note rest) (append-nil piece) one, lawful_of config (note ∷ older) piece h.1)

rested_on : (config : Config) (o : Option FlashConfig) (older newer : List Note) (key : List ℕ) → ((flash : FlashConfig) → is_put_of key (put_under_way flash older) ≡ false → is_put_of key (put_under_way flash newer) ≡ false) → RestsFrom o older key → RestsFrom o newer key
rested_on config None older newer key h r = tt
rested_on config (Some flash) older newer key h r = h flash r

pub fill_ends : ServeAllKeeps → ThereByMap → FillEnds
fill_ends serve there config older cache key found waiters e =
    let b = bring_keeps config older cache key found e.brought in
    let one = bring found cache in
    let mid = past older one.part in
    let calls : CallsTell mid one.cache.calls one.cache.owed (ghost key waiters ∷ fills_of one.cache.nvm) = subst (λ (fs : List Fill). CallsTell mid one.cache.calls one.cache.owed (ghost key waiters ∷ fs)) (sym b.fills) (calls_same older mid cache one.cache (ghost key waiters ∷ fills_of cache.nvm) b.calls e.calls) in
    let serving : Serving config mid one.cache key waiters [] = record {
      rest = b.rest;
      calls = subst (λ (all : List Owed). CallsTell mid one.cache.calls all (ghost key waiters ∷ fills_of one.cache.nvm)) (sym (append-nil one.cache.owed)) calls;
      answered = refl;
      wishes = all_wish cache.memory one.cache.memory key waiters b.open_ones e.wishes;
      sized = subst (λ pools. AllSized pools waiters) (sym b.pools) e.sized;
      one_add = λ n. subst (λ (fs : List Fill). count (adds n) (waiters ++ waiters_of fs) ≤ 1) (sym b.fills) (e.one_add n);
      alone = ap (fill_at key) b.fills ∙ e.brought.alone;
      unqueued = b.queued ∙ e.unqueued;
      rested = rested_on config config.flash older mid key b.rested e.rested;
    } in
    let s = serve config mid one.cache key waiters found [] serving (there config mid one.cache key found (items_of one.cache.memory.pools) none_moves b.rest b.has) in
    let two = serve_all waiters found one.cache in
    let whole : past older (one.part ++ two.part) ≡ past mid two.part = past-append older one.part two.part in
    let calls_after : CallsTell (past mid two.part) two.cache.calls two.cache.owed (fills_of two.cache.nvm) = subst (λ (all : List Owed). CallsTell (past mid two.part) two.cache.calls all (fills_of two.cache.nvm)) (append-nil two.cache.owed) s.calls in
    record {
      lawful = Lawful-append config older one.part two.part b.lawful (lawful_of config mid two.part (s.lawful []));
      good = subst (λ (h : List Note). Agrees config h two.cache) (sym whole) (rest_is_good config (past mid two.part) two.cache s.rest calls_after);
    }
