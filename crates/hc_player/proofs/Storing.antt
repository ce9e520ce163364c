-- Items are set and added.
use Rattle.std.proofs.Common.{◌≡◌, ◌≢◌, ◌⊎◌, inl, inr, List, Option, Some, None, refl, sym, ap, subst, ◌∙◌}
use Rattle.hc_types.specs.Limits.{key_refusal}
use Rattle.hc_types.specs.declared.refusal.Refusal.{Refusal}
use Rattle.hc_types.specs.declared.refusal.Refusal.TheVariants.{NoMemory, Exists}
use Rattle.hc_flash.specs.Devices.{Memory}
use Rattle.hc_history.specs.Note as note
use Rattle.hc_trace_text.specs.Steps as steps
use Rattle.hc_trace_text.specs.Steps.{NewItem, Set, Add, Answer}
use Rattle.hc_machine.specs.Cache as machine
use Rattle.hc_machine.specs.Cache.{Cache, Moved, Replied, Refused, Discarded}
use Rattle.hc_machine.specs.Evicting.{allocate}
use Rattle.hc_machine.specs.Calls.{insert_or_replace, discard}
use Rattle.hc_machine.specs.World as world
use Rattle.hc_machine.specs.World.{Line, Result, inserted, put_new}
use Rattle.hc_trace_meaning.specs.Actions.{Do, answer_of}
use Rattle.hc_core.specs.Logged.{Logged, IsCall}
use Rattle.hc_core.specs.Answers.{refusal_in}
use Rattle.hc_player.specs.Playing.{world_of, Acts}
use Rattle.hc_player.proofs.Refusing.{never-exists}
use Rattle.hc_player.proofs.Acting.{playing, IsTold, acts-step, keyed, barred, unopened}

-- the lines
abbrev set_line : NewItem → Line
set_line item = world.Set item.pool item.key item.value item.ttl

abbrev add_line : NewItem → Line
add_line item = world.Add item.pool item.key item.value item.ttl

abbrev allocated : NewItem → Cache → Moved
allocated item cache = allocate item.pool item.key item.value item.ttl cache

module _ (item : NewItem) (old new : Logged) (flash : Memory) (results : List Result) where
  pub set-done : key_refusal item.key ≡ None → IsCall (inserted (insert_or_replace 0) (allocated item old.cache)) (Replied note.Stored) old new → Acts (Do (Set item)) steps.Stored (playing old flash results) (playing new flash results)
  set-done fits call = acts-step _ (Replied note.Stored) (keyed (Do (Set item)) item.key (set_line item) (world_of (playing old flash results)) refl fits) call refl

  pub set-refused : (refusal : Refusal) (answer : Answer) → (new ≡ old) ⊎ (IsCall (inserted discard (allocated item old.cache)) Discarded old new × (refusal ≡ NoMemory))
      → (key_refusal item.key ≡ Some refusal) ⊎ ((key_refusal item.key ≡ None) × ((refusal_in (allocated item old.cache).answer ≡ Some refusal) ⊎ (refusal ≡ NoMemory))) → IsTold refusal answer → Acts (Do (Set item)) answer (playing old flash results) (playing new flash results)
  set-refused refusal answer (inl same) why told = unopened (insert_or_replace 0) item.pool item.key item.value item.ttl (set_line item) refusal old new flash results refl refl why same told
  set-refused refusal answer (inr gone) why told = absurd (told.0 gone.1)

  pub add-done : (answer : Answer) (said : machine.Answer) → key_refusal item.key ≡ None → IsCall (inserted put_new (allocated item old.cache)) said old new → answer_of said ≡ Some answer → Acts (Do (Add item)) answer (playing old flash results) (playing new flash results)
  add-done answer said fits call seen = acts-step _ said (keyed (Do (Add item)) item.key (add_line item) (world_of (playing old flash results)) refl fits) call seen

  pub add-refused : (refusal : Refusal) (answer : Answer)
      → ((new ≡ old) × (refusal ≢ Exists)) ⊎ ((IsCall (inserted put_new (allocated item old.cache)) (Refused Exists) old new × (refusal ≡ Exists)) ⊎ (IsCall (inserted discard (allocated item old.cache)) Discarded old new × (refusal ≡ NoMemory)))
      → (key_refusal item.key ≡ Some refusal) ⊎ ((key_refusal item.key ≡ None) × ((refusal_in (allocated item old.cache).answer ≡ Some refusal) ⊎ ((refusal ≡ Exists) ⊎ (refusal ≡ NoMemory)))) → IsTold refusal answer → Acts (Do (Add item)) answer (playing old flash results) (playing new flash results)
  add-refused refusal answer (inr (inr gone)) why told = absurd (told.0 gone.1)
  add-refused refusal answer (inl same) (inl why) told = barred item.key (add_line item) refusal old new flash results refl why same.0 told
  add-refused refusal answer (inl same) (inr (fits, inl why)) told = unopened put_new item.pool item.key item.value item.ttl (add_line item) refusal old new flash results refl refl (inr (fits, inl why)) same.0 told
  add-refused refusal answer (inl same) (inr (fits, inr (inl why))) told = absurd (same.1 why)
  add-refused refusal answer (inl same) (inr (fits, inr (inr why))) told = absurd (told.0 why)
  add-refused refusal answer (inr (inl there)) (inl why) told = absurd (never-exists item.key (why ∙ ap (λ (r : Refusal). Some r) there.1))
  add-refused refusal answer (inr (inl there)) (inr why) told = add-done answer (Refused Exists) why.0 there.0 (ap (λ (r : Refusal). answer_of (Refused r)) (sym there.1) ∙ told.1)
