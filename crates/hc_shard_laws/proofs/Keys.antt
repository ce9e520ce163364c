-- A run that follows its steps begins calls of the keys that its steps name, and of no others.
use Rattle.std.proofs.Common.{◌≡◌, ℕ, ◌==◌, ◌&&◌, nat_lt, Bool, true, false, not, List, [], ◌∷◌, ◌++◌, Option, Some, None, refl, sym, subst, arith, append-nil}
use Rattle.std.specs.Prelude.{if◌then◌else◌, IfSome}
use Rattle.std.proofs.lemmas.Bool.{eqb-true}
use Rattle.hc_types.specs.Config.{Config}
use Rattle.hc_types.specs.declared.refusal.Refusal.TheVariants as why
use Rattle.hc_engines.specs.Engine as engine
use Rattle.hc_engines.specs.Engine.{Order, IoResult}
use Rattle.hc_history.specs.Note as note
use Rattle.hc_history.specs.Note.{Note, Op, Reply}
use Rattle.hc_history.specs.Books.{begun, now_at}
use Rattle.hc_history.specs.Regions.{key_of}
use Rattle.hc_history.specs.Lawful.{past}
use Rattle.hc_machine.specs.Takes as take
use Rattle.hc_machine.specs.Cache.{Refused, Discarded, Replied, Waits, Moment, Took, Reclaimed}
use Rattle.hc_machine.specs.World.{Says, Made}
use Rattle.hc_machine.specs.Schedule.{Deed, Open, Put, PutNew, Discard, Find, Remove, Reply as TakeReply, Tick, WriterTake, FillerTake, Reclaim, Io, Finish, Step, Told, Tells, NoSlot, Filled, all_of}
use Rattle.hc_follows.specs.Desk.{Kept, Out, Sheet, Desk, new_desk, kept_at, without_kept, with_kept, job_out}
use Rattle.hc_follows.specs.Telling.{NoCall, Answers, Waiting}
use Rattle.hc_follows.specs.Clients.{OpenPart, PutPart, PutNewPart, DiscardPart, FindPart, RemovePart, ReplyPart, TickPart, slots_after}
use Rattle.hc_follows.specs.Workers.{TakePart, ReclaimPart, IoPart, IsNoted, IsToldFirst, FinishPart}
use Rattle.hc_follows.specs.Idle.{is_written_out, is_looked_up}
use Rattle.hc_follows.specs.Follows.{PartOf, FollowsFrom, slots_freed, StoppedOpen, desk_after}
use Rattle.hc_shard_laws.specs.OwnKeys.{IsOf, BeginsOf, ShardStep, IsKeyOf, is_own, steps_of, ShardsKeepKeys}

-- a step that names a key names one that has the property
abbrev DeedOf : (List ℕ → Type 0) → Deed → Type 0
DeedOf P (Open slot pool key value ttl) = P key
DeedOf P (Find key) = P key
DeedOf P (Remove key) = P key
DeedOf P deed = Unit {0}

abbrev StepsOf : (List ℕ → Type 0) → List Step → Type 0
StepsOf P [] = Unit {0}
StepsOf P (s ∷ steps) = DeedOf P s.deed × StepsOf P steps

module _ (P : List ℕ → Type 0) where
  -- ---- parts

  joined : (a b : List Note) → BeginsOf P a → BeginsOf P b → BeginsOf P (a ++ b)
  joined [] b p q = q
  joined (n ∷ a) b p q = (p.0, joined a b p.1 q)

  none : (part : List Note) → begun part ≡ 0 → BeginsOf P part
  none [] h = tt
  none (note.Begin a b c ∷ rest) h = absurd (let no : (0 == 1) ≡ true = grind (arith, h) in cc)
  none (n ∷ rest) h = (tt, none rest h)

  nothing : (part : List Note) → part ≡ [] → BeginsOf P part
  nothing part h = subst (λ (p : List Note). BeginsOf P p) (sym h) tt

  no-call : (part : List Note) → NoCall part → BeginsOf P part
  no-call part h = none part h.0

  answers-of : (older : List Note) (client : ℕ) (op : Op) (reply : Reply) (part : List Note) → P (key_of op) → Answers older client op reply part → BeginsOf P part
  answers-of older client op reply (note.Begin a b c ∷ rest) p h = (subst (λ (o : Op). P (key_of o)) (sym h.2) p, none rest h.5)
  answers-of older client op reply part p h = absurd h

  waiting-of : (config : Config) (older : List Note) (client : ℕ) (op : Op) (call : ℕ) (part : List Note) → P (key_of op) → Waiting config older client op call part → BeginsOf P part
  waiting-of config older client op call part p h = subst (λ (notes : List Note). BeginsOf P notes) (sym h.0) (p, tt)

  -- ---- slots

  abbrev SlotsOf : List Kept → Type 0
  SlotsOf [] = Unit {0}
  SlotsOf (kept ∷ slots) = P kept.key × SlotsOf slots

  kept-of : (slot : ℕ) (slots : List Kept) → SlotsOf slots → IfSome (kept_at slot slots) (λ (kept : Kept). P kept.key)
  kept-of slot [] all = tt
  kept-of slot (kept ∷ slots) all = go (kept.slot == slot) (kept-of slot slots all.1)
    where
      go : (t : Bool) → IfSome (kept_at slot slots) (λ (k : Kept). P k.key) → IfSome (if t then Some kept else kept_at slot slots) (λ (k : Kept). P k.key)
      go true rest = all.0
      go false rest = rest

  without-of : (slot : ℕ) (slots : List Kept) → SlotsOf slots → SlotsOf (without_kept slot slots)
  without-of slot [] all = tt
  without-of slot (kept ∷ slots) all = go (not (kept.slot == slot)) (without-of slot slots all.1)
    where
      go : (t : Bool) → SlotsOf (without_kept slot slots) → SlotsOf (if t then kept ∷ without_kept slot slots else without_kept slot slots)
      go true rest = (all.0, rest)
      go false rest = rest

  with-of : (kept : Kept) (slots : List Kept) → P kept.key → SlotsOf slots → SlotsOf (with_kept kept slots)
  with-of kept [] p all = (p, tt)
  with-of kept (other ∷ slots) p all = go (nat_lt kept.slot other.slot) (with-of kept slots p all.1)
    where
      go : (t : Bool) → SlotsOf (with_kept kept slots) → SlotsOf (if t then kept ∷ other ∷ slots else other ∷ with_kept kept slots)
      go true rest = (p, all)
      go false rest = (all.0, rest)

  slots-of : (deed : Deed) (told : Told) (older : List Note) (now : ℕ) (slots : List Kept) → DeedOf P deed → SlotsOf slots → SlotsOf (slots_after deed told older now slots)
  slots-of (Open slot pool key value ttl) Filled older now slots p all = with-of _ slots p all
  slots-of (Put slot) told older now slots p all = without-of slot slots all
  slots-of (Discard slot) told older now slots p all = without-of slot slots all
  slots-of (PutNew slot) (Tells (Says (Refused refusal))) older now slots p all = all
  slots-of (PutNew slot) told older now slots p all = without-of slot slots all
  slots-of deed told older now slots p all = all

  -- ---- one step

  open-part : (config : Config) (older : List Note) (kept : Option Kept) (told : Told) (pool : ℕ) (key value : List ℕ) (part : List Note) → OpenPart config older kept pool key value told part → BeginsOf P part
  open-part config older None Filled pool key value part h = no-call part h.2
  open-part config older None (Tells (Says (Refused refusal))) pool key value part h = nothing part h.1
  open-part config older (Some kept) NoSlot pool key value part h = nothing part h
  open-part config older kept told pool key value part h = absurd h

  put-part : (older : List Note) (client : ℕ) (kept : Option Kept) (told : Told) (part : List Note) → IfSome kept (λ (k : Kept). P k.key) → PutPart older client kept told part → BeginsOf P part
  put-part older client None NoSlot part p h = nothing part h
  put-part older client (Some kept) (Tells (Says (Replied note.Stored))) part p h = answers-of older client (note.Insert kept.key kept.value kept.expiry) note.Stored part p h
  put-part older client kept told part p h = absurd h

  put-new-part : (config : Config) (older : List Note) (client : ℕ) (kept : Option Kept) (told : Told) (part : List Note) → IfSome kept (λ (k : Kept). P k.key) → PutNewPart config older client kept told part → BeginsOf P part
  put-new-part config older client None NoSlot part p h = nothing part h
  put-new-part config older client (Some kept) (Tells (Says (Refused why.Exists))) part p h = nothing part h.1
  put-new-part config older client (Some kept) (Tells (Says (Replied note.Stored))) part p h = answers-of older client (note.Add kept.key kept.value kept.expiry) note.Stored part p h
  put-new-part config older client (Some kept) (Tells (Says (Waits call))) part p h = waiting-of config older client (note.Add kept.key kept.value kept.expiry) call part p h
  put-new-part config older client kept told part p h = absurd h

  discard-part : (kept : Option Kept) (told : Told) (part : List Note) → DiscardPart kept told part → BeginsOf P part
  discard-part None NoSlot part h = nothing part h
  discard-part (Some kept) (Tells (Says Discarded)) part h = subst (λ (q : List Note). BeginsOf P q) (sym h) (tt, tt)
  discard-part kept told part h = absurd h

  find-part : (config : Config) (older : List Note) (client : ℕ) (key : List ℕ) (told : Told) (part : List Note) → P key → FindPart config older client key told part → BeginsOf P part
  find-part config older client key (Tells (Says (Replied reply))) part p h = answers-of older client (note.Find key) reply part p h
  find-part config older client key (Tells (Says (Waits call))) part p h = waiting-of config older client (note.Find key) call part p h
  find-part config older client key told part p h = absurd h

  remove-part : (older : List Note) (client : ℕ) (key : List ℕ) (told : Told) (part : List Note) → P key → RemovePart older client key told part → BeginsOf P part
  remove-part older client key (Tells (Says (Replied reply))) part p h = answers-of older client (note.Remove key) reply part p h
  remove-part older client key told part p h = absurd h

  reply-part : (older : List Note) (call : ℕ) (told : Told) (part : List Note) → ReplyPart older call told part → BeginsOf P part
  reply-part older call (Tells (Says (Refused why.UnknownCall))) part h = nothing part h.2
  reply-part older call (Tells (Says (Refused why.NotReady))) part h = nothing part h.1
  reply-part older call (Tells (Says (Replied reply))) part h = subst (λ (q : List Note). BeginsOf P q) (sym h.1) (tt, tt)
  reply-part older call told part h = absurd h

  ticked : (t : Bool) (moment : ℕ) → BeginsOf P (if t then note.Now moment ∷ [] else [])
  ticked true moment = (tt, tt)
  ticked false moment = tt

  tick-part : (older : List Note) (moment : ℕ) (told : Told) (part : List Note) → TickPart older moment told part → BeginsOf P part
  tick-part older moment (Tells (Says (Moment now))) part h = subst (λ (q : List Note). BeginsOf P q) (sym h.1) (ticked (nat_lt (now_at older) moment) moment)
  tick-part older moment told part h = absurd h

  take-part : (idle : Bool) (jobs : List Out) (told : Told) (part : List Note) → TakePart idle jobs told part → BeginsOf P part
  take-part idle jobs (Tells (Says (Took take.Idle))) part h = nothing part h.1
  take-part idle jobs (Tells (Says (Took take.Finished))) part h = no-call part h
  take-part idle jobs (Tells (Says (Took (take.Work j o)))) part h = no-call part h.1
  take-part idle jobs told part h = absurd h

  reclaim-part : (config : Config) (desk : Desk) (told : Told) (part : List Note) → ReclaimPart config.flash desk told part → BeginsOf P part
  reclaim-part config desk (Tells (Says (Reclaimed None))) part h = nothing part h.1
  reclaim-part config desk (Tells (Says (Reclaimed (Some region)))) part h = no-call part h.2
  reclaim-part config desk told part h = absurd h

  io-part : (fails : Bool) (pages : List Sheet) (before : ℕ) (o : Option Out) (told : Told) (part : List Note) → IoPart o fails pages before told part → BeginsOf P part
  io-part fails pages before None (Tells (Says (Refused why.UnknownJob))) part h = nothing part h
  io-part fails pages before (Some out) (Tells (Made result failures)) part h = nothing part h.2
  io-part fails pages before (Some out) (Tells (Says (Refused why.UnknownJob))) part h = nothing part h.1
  io-part fails pages before o told part h = absurd h

  noted : (order : Order) (result : IoResult) (n : Note) → IsNoted order result n → IsOf P n
  noted (engine.Read p) (engine.Page b) (note.Begin a c d) h = absurd h
  noted (engine.Read p) engine.Written (note.Begin a c d) h = absurd h
  noted (engine.Read p) engine.Failed (note.Begin a c d) h = absurd h
  noted (engine.Write p q) (engine.Page b) (note.Begin a c d) h = absurd h
  noted (engine.Write p q) engine.Written (note.Begin a c d) h = absurd h
  noted (engine.Write p q) engine.Failed (note.Begin a c d) h = absurd h
  noted order result n h = tt

  noted-first : (out : Out) (o : Option IoResult) (part : List Note) → IsToldFirst out.order o part → BeginsOf P part
  noted-first out (Some result) (n ∷ part) h = (noted out.order result n h.0, no-call part h.1)
  noted-first out o part h = absurd h

  finish-part : (job : ℕ) (o : Option Out) (told : Told) (part : List Note) → FinishPart job o told part → BeginsOf P part
  finish-part job None (Tells (Says (Refused why.UnknownJob))) part h = nothing part h.1
  finish-part job (Some out) (Tells (Says (Refused why.UnknownJob))) part h = nothing part h.1
  finish-part job (Some out) (Tells (Says (Took take.Finished))) part h = noted-first out out.result part h
  finish-part job (Some out) (Tells (Says (Took (take.Work j o)))) part h = noted-first out out.result part h.1
  finish-part job o told part h = absurd h

  part-of : (config : Config) (desk : Desk) (client : ℕ) (deed : Deed) (told : Told) (part : List Note) → DeedOf P deed → SlotsOf desk.slots → PartOf config desk client deed told part → BeginsOf P part
  part-of config desk client (Open slot pool key value ttl) told part p all h = open-part config desk.older (kept_at slot desk.slots) told pool key value part h
  part-of config desk client (Put slot) told part p all h = put-part desk.older client (kept_at slot desk.slots) told part (kept-of slot desk.slots all) h
  part-of config desk client (PutNew slot) told part p all h = put-new-part config desk.older client (kept_at slot desk.slots) told part (kept-of slot desk.slots all) h
  part-of config desk client (Discard slot) told part p all h = discard-part (kept_at slot desk.slots) told part h
  part-of config desk client (Find key) told part p all h = find-part config desk.older client key told part p h
  part-of config desk client (Remove key) told part p all h = remove-part desk.older client key told part p h
  part-of config desk client (TakeReply call) told part p all h = reply-part desk.older call told part h
  part-of config desk client (Tick moment) told part p all h = tick-part desk.older moment told part h
  part-of config desk client WriterTake told part p all h = take-part (is_written_out config.flash desk) desk.jobs told part h
  part-of config desk client FillerTake told part p all h = take-part (is_looked_up config.flash desk) desk.jobs told part h
  part-of config desk client Reclaim told part p all h = reclaim-part config desk told part h
  part-of config desk client (Io job fails) told part p all h = io-part fails desk.pages desk.failures (job_out job desk.jobs) told part h
  part-of config desk client (Finish job) told part p all h = finish-part job (job_out job desk.jobs) told part h

  -- ---- a run

  freed-of : (slots : List Kept) → BeginsOf P (slots_freed slots)
  freed-of [] = tt
  freed-of (kept ∷ slots) = (tt, freed-of slots)

  stopped-of : (config : Config) (desk : Desk) (deed : Deed) (part last : List Note) → DeedOf P deed → SlotsOf desk.slots → StoppedOpen config desk deed part last → BeginsOf P (part ++ last)
  stopped-of config desk (Open slot pool key value ttl) part last p all h =
      joined part last (part-of config desk 0 (Open slot pool key value ttl) Filled part p all h.0.part_of) (subst (λ (q : List Note). BeginsOf P q) (sym h.1) (freed-of (desk_after (Open slot pool key value ttl) Filled part desk).slots))
  stopped-of config desk deed part last p all h = absurd h

  -- a part is behind another
  behind : (part rest last : List Note) → BeginsOf P part → BeginsOf P (rest ++ last) → BeginsOf P ((part ++ rest) ++ last)
  behind [] rest last p q = q
  behind (n ∷ part) rest last p q = (p.0, behind part rest last p.1 q)

  follows-of : (config : Config) (desk : Desk) (steps : List Step) (answers : List Told) (parts : List (List Note)) (last : List Note) → StepsOf P steps → SlotsOf desk.slots → FollowsFrom config desk steps answers parts last → BeginsOf P (all_of parts ++ last)
  follows-of config desk (s ∷ steps) (told ∷ answers) (part ∷ parts) last own all h =
      behind part (all_of parts) last (part-of config desk s.client s.deed told part own.0 all h.0.part_of)
      (follows-of config (desk_after s.deed told part desk) steps answers parts last own.1 (slots-of s.deed told (past desk.older part) (now_at desk.older) desk.slots own.0 all) h.1)
  follows-of config desk [] [] [] last own all h = subst (λ (q : List Note). BeginsOf P q) (sym h) (freed-of desk.slots)
  follows-of config desk (s ∷ steps) [] [] last own all h = subst (λ (q : List Note). BeginsOf P q) (sym h) (freed-of desk.slots)
  follows-of config desk (s ∷ steps) [] (part ∷ []) last own all h = subst (λ (q : List Note). BeginsOf P (q ++ last)) (sym (append-nil part)) (stopped-of config desk s.deed part last own.0 all h)
  follows-of config desk steps answers parts last own all h = absurd h

-- ---- shards

own-so : (shards shard : ℕ) (deed : Deed) → is_own shards shard deed ≡ true → DeedOf (IsKeyOf shards shard) deed
own-so shards shard (Open slot pool key value ttl) h = eqb-true _ _ h
own-so shards shard (Find key) h = eqb-true _ _ h
own-so shards shard (Remove key) h = eqb-true _ _ h
own-so shards shard deed h = tt

steps-own : (shards shard : ℕ) (all : List ShardStep) → StepsOf (IsKeyOf shards shard) (steps_of shards shard all)
steps-own shards shard [] = tt
steps-own shards shard (s ∷ all) = go (s.shard == shard) (is_own shards shard s.step.deed) refl (steps-own shards shard all)
  where
    go : (here own : Bool) → is_own shards shard s.step.deed ≡ own → StepsOf (IsKeyOf shards shard) (steps_of shards shard all)
        → StepsOf (IsKeyOf shards shard) (if here && own then s.step ∷ steps_of shards shard all else steps_of shards shard all)
    go true true h rest = (own-so shards shard s.step.deed h, rest)
    go true false h rest = rest
    go false own h rest = rest

pub shards-keep-keys : ShardsKeepKeys
shards-keep-keys shards shard config all answers parts last h = follows-of (IsKeyOf shards shard) config new_desk (steps_of shards shard all) answers parts last (steps-own shards shard all) tt h
