-- At an idle take, and where nothing is reclaimed, there is nothing to do by the notes and the orders that are out.
use Rattle.std.proofs.Common.{◌≡◌, ℕ, ◌+◌, ◌*◌, ◌≤◌, ◌==◌, find, Bool, true, false, not, ◌&&◌, ◌||◌, List, [], ◌∷◌, length, map, Option, Some, None, refl, ap, sym, ◌∙◌, subst, arith}
use Rattle.std.specs.Prelude.{if◌then◌else◌, is_some, option_map, nat_le}
use Rattle.std.specs.List.{list_any, list_all}
use Rattle.std.specs.Str.{bytes_eq}
use Rattle.std.proofs.lemmas.Bool.{eq-eqb, or_left, or_right}
use Rattle.std.proofs.lemmas.Grind.{common_steps}
use Rattle.hc_types.specs.Config.{Config}
use Rattle.hc_types.specs.Tally.{count}
use Rattle.hc_types.specs.Places.{bucket_at, is_small_by}
use Rattle.hc_types.specs.declared.config.FlashConfig.{FlashConfig}
use Rattle.hc_types.specs.FlashEntry.{FlashEntry}
use Rattle.hc_engines.specs.Engine.{Order, Read, Pages}
use Rattle.hc_engines.specs.small.BigHash as bighash
use Rattle.hc_engines.proofs.small.Resumed.{job_out as small_job_out}
use Rattle.hc_engines.specs.large.Block as block
use Rattle.hc_engines.specs.large.Block.{Writing, Getting}
use Rattle.hc_engines.specs.large.Region.{page_no}
use Rattle.hc_machine.proofs.items.Items.{bytes_eq-refl}
use Rattle.hc_memory.specs.Memory.{linked_at}
use Rattle.hc_memory.proofs.Keyed.{same_bytes}
use Rattle.hc_history.specs.Note.{Op}
use Rattle.hc_history.specs.Books.{Call, waiting, buried, is_among, open_calls, open_call, entry_at}
use Rattle.hc_history.specs.Pages.{bytes_at}
use Rattle.hc_history.specs.Regions.{is_one_of, key_of}
use Rattle.hc_engines.specs.pair.Pair.{is_busy_for}
use Rattle.hc_machine.specs.Nvm.{Nvm, Tombstone, Fill, Waiter, Wish, ToFind, ToAdd, Task, Putting, Deleting, Filling, Flushing, Job, is_job, is_stone_of, is_put_of, put_at, is_fill_of, fill_at}
use Rattle.hc_machine.specs.Cache.{Cache}
use Rattle.hc_machine.specs.World.{Result}
use Rattle.hc_machine.specs.Calls.{waiting_at, buried_at}
use Rattle.hc_invariant.specs.Standing.{map_of, Placed, written_at, small_at, large_at, first_of}
use Rattle.hc_invariant.specs.Tells.{CallsTell, op_of, asked_by, asked_in}
use Rattle.hc_invariant.specs.Jobs.{RunsAs, small_job, large_work, Brings, BringsIf, WishHolds, AllWish, AllFill, FillHolds}
use Rattle.hc_invariant.specs.Good.{Agrees, FlashGood}
use Rattle.hc_invariant.proofs.Frames.{waits-is}
use Rattle.hc_invariant.proofs.Placing.{map_queued}
use Rattle.hc_proof.proofs.frames.ByNumber.{found-passes}
use Rattle.hc_proof.proofs.frames.Lists.{found-counts, found-only}
use Rattle.hc_proof.proofs.frames.JobLists.{run_at}
use Rattle.hc_laws.specs.Serving.{can_put, can_delete, can_fill}
use Rattle.hc_theorem.specs.idle.Idling.{NothingToWrite}
use Rattle.hc_theorem.specs.idle.Stones.{deletes, is_deleting, StonesRun}
use Rattle.hc_follows.specs.Desk.{Out, Desk}
use Rattle.hc_follows.specs.Idle.{page_of, is_read, is_busy, is_small_entry, waits_for_bucket, keys_free, reads_behind}
use Rattle.hc_theorem.specs.clients.Matches.{JobsMatch}
use Rattle.hc_theorem.proofs.workers.Busy.{any_order, out_with, small_out, large_out, busy_out}
use Rattle.hc_theorem.proofs.runs.WritesAlone.{small_page}
use Rattle.hc_theorem.proofs.workers.Searching.{ReadsFor, few_free}

-- ---- lists

pub and_both : (a b : Bool) → a ≡ true → b ≡ true → (a && b) ≡ true
and_both true b e h = h
and_both false b e h = absurd cc

all_among : (p : List ℕ → Bool) (keys : List (List ℕ)) → ((key : List ℕ) → is_among key keys ≡ true → p key ≡ true) → list_all p keys ≡ true
all_among p [] each = refl
all_among p (key ∷ keys) each = and_both (p key) (list_all p keys) (each key (or_left (bytes_eq key key) (is_among key keys) (bytes_eq-refl key))) (all_among p keys (λ k h. each k (or_right (bytes_eq key k) (is_among k keys) h)))

pub all_ones : (p : ℕ → Bool) (rs : List ℕ) → ((r : ℕ) → is_one_of r rs ≡ true → p r ≡ true) → list_all p rs ≡ true
all_ones p [] each = refl
all_ones p (r ∷ rs) each = and_both (p r) (list_all p rs) (each r (or_left (r == r) (is_one_of r rs) (eq-eqb r r refl))) (all_ones p rs (λ q h. each q (or_right (r == q) (is_one_of q rs) h)))

fails_all : {X : Type 0} (p q : X → Bool) (xs : List X) (x : X) (t : Bool) → find p xs ≡ Some x → q x ≡ t → count q xs ≡ 0 → t ≡ false
fails_all p q xs x true at e none = absurd (omega (arith, found-counts p q xs x at e, none))
fails_all p q xs x false at e none = refl

any_found : {X : Type 0} (p : X → Bool) (xs : List X) → list_any p xs ≡ true → (x : X) × (find p xs ≡ Some x)
any_found {X} p [] h = absurd cc
any_found {X} p (x ∷ xs) h = go (p x) h (any_found p xs)
  where
    go : (t : Bool) → (t || list_any p xs) ≡ true → (list_any p xs ≡ true → (y : X) × (find p xs ≡ Some y)) → (y : X) × ((if t then Some x else find p xs) ≡ Some y)
    go true h more = (x, refl)
    go false h more = more h

found_any : {X : Type 0} (p q : X → Bool) (xs : List X) (x : X) → find p xs ≡ Some x → q x ≡ true → list_any q xs ≡ true
found_any p q [] x at e = absurd cc
found_any p q (y ∷ ys) x at e = go (p y) at (found_any p q ys x)
  where
    go : (t : Bool) → (if t then Some y else find p ys) ≡ Some x → (find p ys ≡ Some x → q x ≡ true → list_any q ys ≡ true) → (q y || list_any q ys) ≡ true
    go true at more = let same : y ≡ x = cc in or_left (q y) (list_any q ys) (ap q same ∙ e)
    go false at more = or_right (q y) (list_any q ys) (more at e)

-- ---- the writer: what waits

waits_small : (flash : FlashConfig) (nvm : Nvm) (put : FlashEntry) → nvm.pair.small.flash ≡ flash → can_put nvm put ≡ false → (is_small_by flash put.key (length put.value) ≡ true) × (is_busy_for nvm.pair put.key ≡ true)
waits_small flash nvm put same h = let both = split (is_small_by nvm.pair.small.flash put.key (length put.value)) (is_busy_for nvm.pair put.key) h in (subst (λ (f : FlashConfig). is_small_by f put.key (length put.value) ≡ true) same both.0, both.1)
  where
    split : (a b : Bool) → (not a || not b) ≡ false → (a ≡ true) × (b ≡ true)
    split true true h = (refl, refl)
    split true false h = absurd cc
    split false b h = absurd cc

module _ (flash : FlashConfig) (config : Config) (is : config.flash ≡ Some flash) (desk : Desk) (cache : Cache) (nvm : Nvm) (e : cache.nvm ≡ Some nvm) (g : Agrees config desk.older cache) (f : FlashGood flash desk.older cache.memory nvm)
    (rs : List Result) (pages : Pages) (m : JobsMatch desk.jobs desk.pages nvm.jobs rs pages) where
  queued_entry : (key : List ℕ) (put : FlashEntry) → put_at key nvm.queue ≡ Some put → entry_at (Some flash) desk.older key ≡ Some (map_of put)
  queued_entry key put at =
      let there : waiting_at cache.nvm key ≡ Some put = ap (λ (o : Option Nvm). waiting_at o key) e ∙ at in
      let own : entry_at config.flash desk.older key ≡ Some (map_of put) =
      map_queued (linked_at key cache.memory.pools) put (written_at cache.nvm key) (small_at (bytes_at desk.older) cache.nvm key) (large_at (bytes_at desk.older) cache.nvm key) (entry_at config.flash desk.older key) (buried_at cache.nvm key)
      (subst (λ (q : Option FlashEntry). Placed (linked_at key cache.memory.pools) q (written_at cache.nvm key) (buried_at cache.nvm key) (small_at (bytes_at desk.older) cache.nvm key) (large_at (bytes_at desk.older) cache.nvm key) (entry_at config.flash desk.older key)) there (g.placed key)) in
      ap (λ (c : Option FlashConfig). entry_at c desk.older key) (sym is) ∙ own

  waits_one : NothingToWrite nvm → (key : List ℕ) → is_among key (waiting desk.older) ≡ true → waits_for_bucket flash desk key ≡ true
  waits_one idle key h = go (put_at key nvm.queue) refl (sym (waits-is desk.older nvm key f.waits) ∙ h)
    where
      go : (o : Option FlashEntry) → put_at key nvm.queue ≡ o → is_some o ≡ true → waits_for_bucket flash desk key ≡ true
      go None at s = absurd cc
      go (Some put) at s =
          let own : put.key ≡ key = same_bytes put.key key (found-passes (is_put_of key) nvm.queue put at) in
          let both = waits_small flash nvm put f.engines.same (fails_all (is_put_of key) (can_put nvm) nvm.queue put (can_put nvm put) at refl idle.puts) in
          let small : is_small_entry flash key (entry_at (Some flash) desk.older key) ≡ true = ap (is_small_entry flash key) (queued_entry key put at) ∙ subst (λ (k : List ℕ). is_small_by flash k (length put.value) ≡ true) own both.0 in
          let busy : is_busy_for nvm.pair key ≡ true = subst (λ (k : List ℕ). is_busy_for nvm.pair k ≡ true) own both.1 in
          and_both (is_small_entry flash key (entry_at (Some flash) desk.older key)) (is_busy flash desk.jobs key) small (busy_out flash desk.older nvm desk.jobs desk.pages rs pages key f.engines f.jobs m busy)

  pub waiting_line : NothingToWrite nvm → list_all (waits_for_bucket flash desk) (waiting desk.older) ≡ true
  waiting_line idle = all_among (waits_for_bucket flash desk) (waiting desk.older) (waits_one idle)

  -- ---- the writer: what is buried

  -- an operation of the small engine on a key keeps its bucket busy
  on_bucket : (key : List ℕ) (n : ℕ) (x : bighash.Job) → small_job nvm n ≡ Some x → bighash.key_of x.op ≡ key → is_busy flash desk.jobs key ≡ true
  on_bucket key n x at own =
      let out = small_out nvm n x f.jobs at in
      let fit = small_job_out nvm.pair.small.flash (bighash.word_at nvm.pair.small) (bytes_at desk.older) n nvm.pair.small.jobs x at f.engines.small_fits.jobs_fit in
      let bucket : x.bucket ≡ bucket_at flash key = fit.fit.2 ∙ ap (λ (k : List ℕ). bucket_at nvm.pair.small.flash k) own ∙ ap (λ (c : FlashConfig). bucket_at c key) f.engines.same in
      let page : page_of out.job.order ≡ bucket_at flash key = ap page_of out.order_is ∙ small_page nvm.pair x ∙ bucket in
      any_order desk.jobs desk.pages nvm.jobs rs pages n out.job (λ (order : Order). page_of order == bucket_at flash key) m out.at (eq-eqb (page_of out.job.order) (bucket_at flash key) page)

  deleting_busy : (key : List ℕ) (n : ℕ) (task : Task) (order : Order) (job : Option bighash.Job) (work : Option block.Work) → deletes key task ≡ true → small_job nvm n ≡ job → RunsAs nvm task order job work → is_busy flash desk.jobs key ≡ true
  deleting_busy key n (Deleting k) order (Some x) None own e h = on_bucket key n x e (ap bighash.key_of h.0 ∙ same_bytes k key own)
  deleting_busy key n (Deleting k) order (Some x) (Some work) own e h = absurd h
  deleting_busy key n (Deleting k) order None work own e h = absurd h
  deleting_busy key n (Putting k) order job work own e h = absurd cc
  deleting_busy key n Filling order job work own e h = absurd cc
  deleting_busy key n Flushing order job work own e h = absurd cc

  deletes_out : (key : List ℕ) → is_deleting key nvm.jobs ≡ true → is_busy flash desk.jobs key ≡ true
  deletes_out key h =
      let one = any_found (λ (job : Job). deletes key job.task) nvm.jobs h in
      let there = found-only (λ (job : Job). deletes key job.task) (is_job one.0.number) nvm.jobs one.0 one.1 (eq-eqb one.0.number one.0.number refl) (f.jobs.one one.0.number) in
      deleting_busy key one.0.number one.0.task one.0.order (small_job nvm one.0.number) (large_work nvm one.0.number) (found-passes (λ (job : Job). deletes key job.task) nvm.jobs one.0 one.1) refl (run_at nvm one.0.number nvm.jobs one.0 f.jobs.run there)

  buried_one : StonesRun nvm → NothingToWrite nvm → (key : List ℕ) → is_among key (buried desk.older) ≡ true → is_busy flash desk.jobs key ≡ true
  buried_one run idle key h =
      let one = any_found (is_stone_of key) nvm.tombstones (sym (f.waits.buried key) ∙ h) in
      let own : one.0.key ≡ key = same_bytes one.0.key key (found-passes (is_stone_of key) nvm.tombstones one.0 one.1) in
      by one.0.taken refl own one.1 (is_busy_for nvm.pair one.0.key) refl (fails_all (is_stone_of key) (can_delete nvm) nvm.tombstones one.0 (can_delete nvm one.0) one.1 refl idle.deletes)
    where
      by : {stone : Tombstone} (t : Bool) → stone.taken ≡ t → stone.key ≡ key → find (is_stone_of key) nvm.tombstones ≡ Some stone → (b : Bool) → is_busy_for nvm.pair stone.key ≡ b → (not stone.taken && not (is_busy_for nvm.pair stone.key)) ≡ false → is_busy flash desk.jobs key ≡ true
      by {stone} true t own at b e unready =
          let mine : (is_stone_of key stone && stone.taken) ≡ true = and_both (is_stone_of key stone) stone.taken (found-passes (is_stone_of key) nvm.tombstones stone at) t in
          deletes_out key (run key (found_any (is_stone_of key) (λ (x : Tombstone). is_stone_of key x && x.taken) nvm.tombstones stone at mine))
      by {stone} false t own at true e unready = busy_out flash desk.older nvm desk.jobs desk.pages rs pages key f.engines f.jobs m (subst (λ (k : List ℕ). is_busy_for nvm.pair k ≡ true) own e)
      by {stone} false t own at false e unready = absurd (let both : (not stone.taken && not (is_busy_for nvm.pair stone.key)) ≡ true = (λ i. not (t i) && not (e i)) in cc (both, unready))

  pub buried_line : StonesRun nvm → NothingToWrite nvm → list_all (is_busy flash desk.jobs) (buried desk.older) ≡ true
  buried_line run idle = all_among (is_busy flash desk.jobs) (buried desk.older) (buried_one run idle)

  -- ---- the filler

  asked_key : (n : ℕ) (key : List ℕ) (waiters : List Waiter) (op : Op) → AllWish cache.memory key waiters → asked_by n key waiters ≡ Some op → key_of op ≡ key
  asked_key n key [] op all h = absurd cc
  asked_key n key (waiter ∷ waiters) op all h = go (waiter.call == n) h (asked_key n key waiters op all.1)
    where
      own : (wish : Wish) → WishHolds cache.memory key wish → key_of (op_of key wish) ≡ key
      own ToFind w = refl
      own (ToAdd handle) w = w.0

      go : (t : Bool) → (if t then Some (op_of key waiter.wish) else asked_by n key waiters) ≡ Some op → (asked_by n key waiters ≡ Some op → key_of op ≡ key) → key_of op ≡ key
      go true h more = let same : op_of key waiter.wish ≡ op = cc in ap key_of (sym same) ∙ own waiter.wish all.0
      go false h more = more h

  asked_fill : (n : ℕ) (fills : List Fill) (op : Op) → AllFill (bytes_at desk.older) cache.memory nvm fills → asked_in n fills ≡ Some op → (fill : Fill) × (fill_at (key_of op) fills ≡ Some fill)
  asked_fill n [] op all h = absurd cc
  asked_fill n (x ∷ fills) op all h = go (asked_by n x.key x.waiters) refl h (asked_fill n fills op all.1)
    where
      head : (t : Bool) → is_fill_of (key_of op) x ≡ t → (t ≡ false → (fill : Fill) × (fill_at (key_of op) fills ≡ Some fill)) → (fill : Fill) × ((if t then Some x else fill_at (key_of op) fills) ≡ Some fill)
      head true e more = (x, refl)
      head false e more = more refl

      go : (o : Option Op) → asked_by n x.key x.waiters ≡ o → first_of o (asked_in n fills) ≡ Some op → (asked_in n fills ≡ Some op → (fill : Fill) × (fill_at (key_of op) fills ≡ Some fill)) → (fill : Fill) × (fill_at (key_of op) (x ∷ fills) ≡ Some fill)
      go (Some asked) e h more =
          let same : asked ≡ op = cc in
          let key : key_of op ≡ x.key = asked_key n x.key x.waiters op all.0.wishes (e ∙ ap Some same) in
          let own : is_fill_of (key_of op) x ≡ true = ap (bytes_eq x.key) key ∙ bytes_eq-refl x.key in
          head (is_fill_of (key_of op) x) refl (λ n. absurd (cc (own, n)))
      go None e h more = let rest = more h in head (is_fill_of (key_of op) x) refl (λ n. rest)

  fill_holds : (key : List ℕ) (fills : List Fill) (fill : Fill) → fill_at key fills ≡ Some fill → AllFill (bytes_at desk.older) cache.memory nvm fills → FillHolds (bytes_at desk.older) cache.memory nvm fill
  fill_holds key [] fill at all = absurd cc
  fill_holds key (x ∷ fills) fill at all = go (is_fill_of key x) at (λ a. fill_holds key fills fill a all.1)
    where
      go : (t : Bool) → (if t then Some x else fill_at key fills) ≡ Some fill → (fill_at key fills ≡ Some fill → FillHolds (bytes_at desk.older) cache.memory nvm fill) → FillHolds (bytes_at desk.older) cache.memory nvm fill
      go true at more = let same : x ≡ fill = cc in subst (FillHolds (bytes_at desk.older) cache.memory nvm) same all.0
      go false at more = more at

  -- the operation that brings a key whose bucket is free reads behind the buckets
  brings_out : (key : List ℕ) (n : ℕ) (fill : Fill) → fill_at key nvm.fills ≡ Some fill → fill.job ≡ Some n → is_busy flash desk.jobs key ≡ false → (job : Option bighash.Job) → small_job nvm n ≡ job → (work : Option block.Work) → large_work nvm n ≡ work → Brings (bytes_at desk.older) nvm key job work
      → ReadsFor (λ (out : Out). is_read out.order && nat_le flash.buckets (page_of out.order)) nvm.fills desk.jobs key
  brings_out key n fill at job free (Some x) e None w b = absurd (let busy : is_busy flash desk.jobs key ≡ true = on_bucket key n x e (ap bighash.key_of b) in cc (busy, free))
  brings_out key n fill at job free None e (Some (Getting reading)) w b =
      let out = large_out nvm n (Getting reading) f.jobs w in
      let there = out_with desk.jobs desk.pages nvm.jobs rs pages n out.job m out.at in
      let order : there.0.order ≡ Read (page_no nvm.pair.small.flash reading.place.region reading.next) = there.2 ∙ out.order_is in
      let high : nat_le flash.buckets (page_no nvm.pair.small.flash reading.place.region reading.next) ≡ true = ap (λ (c : FlashConfig). nat_le flash.buckets (page_no c reading.place.region reading.next)) f.engines.same ∙ behind flash.buckets (reading.place.region * flash.region_pages + reading.next) in
      record { fill = fill; number = n; at = at; job = job; out = there.0; there = there.1; passes = ap (λ (o : Order). is_read o && nat_le flash.buckets (page_of o)) order ∙ high }
    where
      behind : (b n : ℕ) → nat_le b (b + n) ≡ true
      behind b n = grind (arith, common_steps)
  brings_out key n fill at job free (Some x) e (Some work) w b = absurd b
  brings_out key n fill at job free None e None w b = absurd b
  brings_out key n fill at job free None e (Some (Writing r bytes)) w b = absurd b

  reads_one : count (can_fill nvm) nvm.fills ≡ 0 → (key : List ℕ) (fill : Fill) → fill_at key nvm.fills ≡ Some fill → is_busy flash desk.jobs key ≡ false → ReadsFor (λ (out : Out). is_read out.order && nat_le flash.buckets (page_of out.order)) nvm.fills desk.jobs key
  reads_one idle key fill at free =
      let own : fill.key ≡ key = same_bytes fill.key key (found-passes (is_fill_of key) nvm.fills fill at) in
      let not_now = fails_all (is_fill_of key) (can_fill nvm) nvm.fills fill (can_fill nvm fill) at refl idle in
      let holds = fill_holds key nvm.fills fill at f.fills.each in
      by fill.job refl own (taken (is_some fill.job) (is_busy_for nvm.pair fill.key) not_now (unbusy (is_busy_for nvm.pair fill.key) refl own)) holds.brought
    where
      unbusy : (b : Bool) → is_busy_for nvm.pair fill.key ≡ b → fill.key ≡ key → b ≡ false
      unbusy true e own = absurd (let busy = busy_out flash desk.older nvm desk.jobs desk.pages rs pages key f.engines f.jobs m (subst (λ (k : List ℕ). is_busy_for nvm.pair k ≡ true) own e) in cc (busy, free))
      unbusy false e own = refl

      taken : (a b : Bool) → (not a && not b) ≡ false → b ≡ false → a ≡ true
      taken true b h n = refl
      taken false true h n = absurd cc
      taken false false h n = absurd cc

      by : (o : Option ℕ) → fill.job ≡ o → fill.key ≡ key → is_some fill.job ≡ true → BringsIf (bytes_at desk.older) nvm fill.key fill.job → ReadsFor (λ (out : Out). is_read out.order && nat_le flash.buckets (page_of out.order)) nvm.fills desk.jobs key
      by None e own s b = absurd (let none : is_some fill.job ≡ false = ap is_some e in cc (none, s))
      by (Some n) e own s b =
          let mine : BringsIf (bytes_at desk.older) nvm key (Some n) = subst (λ (k : List ℕ). BringsIf (bytes_at desk.older) nvm k (Some n)) own (subst (λ (o : Option ℕ). BringsIf (bytes_at desk.older) nvm fill.key o) e b) in
          brings_out key n fill at e free (small_job nvm n) refl (large_work nvm n) refl mine

  among_calls : (calls : List Call) (key : List ℕ) → ((n : ℕ) → count (λ (call : Call). call.number == n) calls ≤ 1) → is_among key (map (λ (call : Call). key_of call.op) calls) ≡ true → (call : Call) × (open_call call.number calls ≡ Some call) × (key_of call.op ≡ key)
  among_calls [] key one h = absurd cc
  among_calls (x ∷ calls) key one h = go (bytes_eq (key_of x.op) key) refl h (among_calls calls key (λ n. omega (arith, one n)))
    where
      tail : (call : Call) × (open_call call.number calls ≡ Some call) × (key_of call.op ≡ key) → (call : Call) × (open_call call.number (x ∷ calls) ≡ Some call) × (key_of call.op ≡ key)
      tail c = by (x.number == c.0.number) refl
        where
          by : (t : Bool) → (x.number == c.0.number) ≡ t → (call : Call) × (open_call call.number (x ∷ calls) ≡ Some call) × (key_of call.op ≡ key)
          by true e = absurd (let here : ◌≡◌ {A = ℕ} (if x.number == c.0.number then 1 else 0) 1 = ap {B = ℕ} (λ b. if b then 1 else 0) e in omega (arith, one c.0.number, here, found-counts (λ (y : Call). y.number == c.0.number) (λ (y : Call). y.number == c.0.number) calls c.0 c.1 (eq-eqb c.0.number c.0.number refl)))
          by false e = (c.0, (rw e c.1), c.2)

      go : (t : Bool) → bytes_eq (key_of x.op) key ≡ t → (t || is_among key (map (λ (call : Call). key_of call.op) calls)) ≡ true → (is_among key (map (λ (call : Call). key_of call.op) calls) ≡ true → (call : Call) × (open_call call.number calls ≡ Some call) × (key_of call.op ≡ key))
          → (call : Call) × (open_call call.number (x ∷ calls) ≡ Some call) × (key_of call.op ≡ key)
      go true e h more = let own : (x.number == x.number) ≡ true = eq-eqb x.number x.number refl in (x, (rw own refl), same_bytes (key_of x.op) key e)
      go false e h more = tail (more h)

  pub filler_line : CallsTell desk.older cache.calls cache.owed nvm.fills → count (can_fill nvm) nvm.fills ≡ 0 → nat_le (length (keys_free flash desk)) (reads_behind flash desk.jobs) ≡ true
  filler_line t idle = le_true (length (keys_free flash desk)) (reads_behind flash desk.jobs) (few_free flash desk nvm.fills f.fills.one_each each)
    where
      le_true : (a b : ℕ) → a ≤ b → nat_le a b ≡ true
      le_true a b h = grind (arith, h)

      each : (key : List ℕ) → is_among key (map (λ (call : Call). key_of call.op) (open_calls desk.older)) ≡ true → is_busy flash desk.jobs key ≡ false → ReadsFor (λ (out : Out). is_read out.order && nat_le flash.buckets (page_of out.order)) nvm.fills desk.jobs key
      each key h free =
          let call = among_calls (open_calls desk.older) key t.one_open h in
          let asked : asked_in call.0.number nvm.fills ≡ Some call.0.op = sym (t.open_ones call.0.number) ∙ ap (option_map (λ (c : Call). c.op)) call.1 in
          let fill = asked_fill call.0.number nvm.fills call.0.op f.fills.each asked in
          reads_one idle key fill.0 (subst (λ (k : List ℕ). fill_at k nvm.fills ≡ Some fill.0) call.2 fill.1) free
