-- Ticks and replies follow.
use Rattle.std.proofs.Common.{◌≡◌, ℕ, max, true, false, List, [], ◌∷◌, Option, Some, None, refl, ap, sym, ◌∙◌}
use Rattle.std.specs.Prelude.{if◌then◌else◌, nat_lt, option_map, is_some, IsSome}
use Rattle.std.proofs.lemmas.Bool.{eqb-true}
use Rattle.hc_types.specs.Config.{Config}
use Rattle.hc_types.specs.declared.refusal.Refusal.TheVariants.{UnknownCall, NotReady}
use Rattle.hc_history.specs.Note.{Note, Reply, Now, End}
use Rattle.hc_history.specs.Books.{Call, open_call, open_calls, owed}
use Rattle.hc_machine.specs.Cache.{Owed, Refused, stays, owed_at, is_owed}
use Rattle.hc_machine.specs.World.{by_call}
use Rattle.hc_machine.specs.Calls.{tick, take_of}
use Rattle.hc_machine.specs.Schedule.{Scene, Tick, Reply as TakeReply, in_world}
use Rattle.hc_invariant.specs.Tells.{asked_in, is_unanswered, reply_of}
use Rattle.hc_invariant.specs.Good.{Agrees, fills_of}
use Rattle.hc_proof.proofs.frames.ByNumber.{found-passes}
use Rattle.hc_proof.proofs.calls.CallBooks.{reply-found}
use Rattle.hc_follows.specs.Desk.{Desk}
use Rattle.hc_follows.specs.Clients.{reply_owed}
use Rattle.hc_theorem.specs.clients.Matches.{Matches}
use Rattle.hc_theorem.specs.clients.Deeds.{Followed, DeedFollows}
use Rattle.hc_theorem.proofs.clients.Stepping.{good_at, called_matches}

pub tick_follows : (moment : ℕ) → DeedFollows (Tick moment)
tick_follows moment config log scene desk client before after m =
    let g = good_at config log desk scene before m in
    let clock = sym g.agrees.clock in
    record {
      part = (ap (λ (n : ℕ). max n moment) clock, ap (λ (n : ℕ). if nat_lt n moment then Now moment ∷ [] else []) clock);
      matches = called_matches log desk scene scene.slots (tick moment scene.world.cache) desk.slots desk.adds m refl m.slots m.adds;
    }

-- ---- replies

none_asked : {A B : Type 0} (o : Option A) (f : A → B) (p : Option B) → option_map f o ≡ p → false ≡ is_some p → o ≡ None
none_asked None f p e h = refl
none_asked (Some x) f None e h = absurd cc
none_asked (Some x) f (Some y) e h = absurd cc

some_asked : {A B : Type 0} (o : Option A) (f : A → B) (p : Option B) → option_map f o ≡ p → true ≡ is_some p → IsSome o
some_asked None f None e h = absurd cc
some_asked None f (Some y) e h = absurd cc
some_asked (Some x) f p e h = refl

module _ (config : Config) (log : List Note) (scene : Scene) (desk : Desk) (m : Matches log desk scene) (call : ℕ) (g : Agrees config desk.older scene.world.cache) where
  owed_is : (o : Option Owed) → owed_at call scene.world.cache.owed ≡ o → reply_owed call (owed desk.older) ≡ reply_of o
  owed_is o e = sym (reply-found call (owed desk.older)) ∙ g.calls.replies call ∙ ap reply_of e

  waits_is : (o : Option Owed) → owed_at call scene.world.cache.owed ≡ o → is_unanswered o ≡ is_some (asked_in call (fills_of scene.world.cache.nvm))
  waits_is o e = ap is_unanswered (sym e) ∙ g.calls.owes call

  reply_by : (client : ℕ) (n : ℕ) (reply : Option Reply) → owed_at call scene.world.cache.owed ≡ Some (record { call = n; reply = reply }) → n ≡ call
      → Followed config log desk client (TakeReply call) (in_world scene.slots (by_call scene.world (take_of (Some (record { call = n; reply = reply })) scene.world.cache)))
  reply_by client n None e its = record {
    part = (some_asked (open_call call (open_calls desk.older)) (λ (c : Call). c.op) (asked_in call (fills_of scene.world.cache.nvm)) (g.calls.open_ones call) (waits_is (Some (record { call = n; reply = None })) e), refl);
    matches = called_matches log desk scene scene.slots (stays (Refused NotReady) scene.world.cache) desk.slots desk.adds m refl m.slots m.adds;
  }
  reply_by client n (Some reply) e its = record {
    part = (owed_is (Some (record { call = n; reply = Some reply })) e, ap (λ (k : ℕ). End k ∷ []) its);
    matches = called_matches log desk scene scene.slots (take_of (Some (record { call = n; reply = Some reply })) scene.world.cache) desk.slots desk.adds m refl m.slots m.adds;
  }

  reply_at : (client : ℕ) (o : Option Owed) → owed_at call scene.world.cache.owed ≡ o → Followed config log desk client (TakeReply call) (in_world scene.slots (by_call scene.world (take_of o scene.world.cache)))
  reply_at client None e = record {
    part = (none_asked (open_call call (open_calls desk.older)) (λ (c : Call). c.op) (asked_in call (fills_of scene.world.cache.nvm)) (g.calls.open_ones call) (waits_is None e), owed_is None e, refl);
    matches = called_matches log desk scene scene.slots (stays (Refused UnknownCall) scene.world.cache) desk.slots desk.adds m refl m.slots m.adds;
  }
  reply_at client (Some owed) e = reply_by client owed.call owed.reply e (eqb-true owed.call call (found-passes (is_owed call) scene.world.cache.owed owed e))

pub reply_follows : (call : ℕ) → DeedFollows (TakeReply call)
reply_follows call config log scene desk client before after m = reply_at config log scene desk m call (good_at config log desk scene before m).agrees client (owed_at call scene.world.cache.owed) refl
