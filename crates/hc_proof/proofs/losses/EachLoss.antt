-- Where each key stands after each kind of loss.
use Rattle.std.proofs.Common.{◌≡◌, ℕ, Bool, true, false, not, ◌&&◌, ◌||◌, ◌==◌, List, [], ◌∷◌, length, Option, Some, None, refl, ap, sym, ◌∙◌}
use Rattle.std.specs.Prelude.{if◌then◌else◌, is_some}
use Rattle.hc_types.specs.Loss as loss
use Rattle.hc_types.specs.Loss.{Scope, Cause}
use Rattle.hc_types.specs.Places.{bucket_at, is_small_by}
use Rattle.hc_types.specs.declared.config.FlashConfig.{FlashConfig}
use Rattle.hc_types.specs.FlashEntry.{FlashEntry}
use Rattle.hc_engines.specs.Engine.{Loss, takes_out, left_of}
use Rattle.hc_engines.proofs.small.Losses.{left-kept}
use Rattle.hc_memory.specs.Item.{Item}
use Rattle.hc_memory.specs.Memory.{linked_at}
use Rattle.hc_history.specs.Books.{Entry, is_held, entry_at}
use Rattle.hc_invariant.specs.Standing.{Placed}
use Rattle.hc_proof.specs.losses.Losses.{covered, covered_item, AllTakeOut, IsHash, AllHash, IsFull, AllFull, is_named, names, entry_lost, unmarked_if, covered_some, IsOwn, IsOwnItem, IsSmall, IsLarge, HashLossesPlace, bucket_loss, FullLossesPlace, UncoveredStays}
use Rattle.hc_proof.proofs.losses.LossAtKey.{map_written, written_alone, large_alone}
use Rattle.hc_proof.proofs.losses.BooksPass.{map_lost_by}
use Rattle.hc_proof.proofs.losses.CleanMarks.{items_lost, own-linked}
use Rattle.hc_proof.proofs.losses.LossPlaces.{covers_any, lost-is, losses_place}

pub and_not_false : (b : Bool) → b ≡ (b && not false)
and_not_false true = refl
and_not_false false = refl

-- what no loss covers stays
kept_by : (flash : FlashConfig) (losses : List Loss) (e : FlashEntry) → AllTakeOut losses → covers_any (Some flash) losses e.key (length e.value) ≡ false → Some e ≡ left_of flash losses (Some e)
kept_by flash losses e out h = sym (left-kept flash losses e (lost-is flash losses e out ∙ h))

-- ---- kept hashes

hash_step : (flash : FlashConfig) (scope : Scope) (key : List ℕ) (len : ℕ) → IsHash scope → is_small_by flash key len ≡ true → loss.covers (Some flash) scope key len ≡ false
hash_step flash (loss.Hash kept but) key len h small = rw small refl
hash_step flash (loss.Key named) key len h small = absurd h
hash_step flash (loss.Bucket bucket) key len h small = absurd h

pub hash-small : (flash : FlashConfig) (losses : List Loss) (key : List ℕ) (len : ℕ) → AllHash losses → is_small_by flash key len ≡ true → covers_any (Some flash) losses key len ≡ false
hash-small flash [] key len h small = refl
hash-small flash (one ∷ losses) key len h small = rw (hash_step flash one.scope key len h.0 small) (hash-small flash losses key len h.1 small)

small_kept : (flash : FlashConfig) (losses : List Loss) (s : Option FlashEntry) → AllTakeOut losses → AllHash losses → IsSmall flash s → s ≡ left_of flash losses s
small_kept flash losses None out h small = refl
small_kept flash losses (Some e) out h small = kept_by flash losses e out (hash-small flash losses e.key (length e.value) h small)

hash_goes : (flash : FlashConfig) (losses : List Loss) (key : List ℕ) (i : Option Item) (q w s l : Option FlashEntry) (m : Option Entry) (b : Bool) → AllHash losses → IsOwn key w → IsSmall flash w → Placed i q w b s l m
    → b ≡ false → is_some w ≡ true → false ≡ covered (Some flash) losses key m
hash_goes flash losses key i q None s l m b h own small p e some = absurd cc
hash_goes flash losses key i q (Some x) s l m true h own small p e some = absurd cc
hash_goes flash losses key i q (Some x) s l m false h own small p e some =
    let at : covers_any (Some flash) losses key (length x.value) ≡ false = ap (λ (k : List ℕ). covers_any (Some flash) losses k (length x.value)) (sym own) ∙ hash-small flash losses x.key (length x.value) h small in
    sym (ap (covered (Some flash) losses key) (map_written i q s l m x p) ∙ at)

pub hash_losses_place : HashLossesPlace
hash_losses_place flash losses older memory key q w s l l2 b mf out h held sides large p =
    losses_place flash losses older memory key q w s l b w s l2 b mf out held sides.small_key sides.large_key (record {
      ends = false;
      raised = false;
      written = refl;
      small = small_kept flash losses s out h sides.small_small;
      large = large;
      stone = and_not_false b;
      goes = hash_goes flash losses key (linked_at key memory.pools) q w s l (entry_at (Some flash) older key) b h sides.written_key sides.written_small p;
      bare = λ r t. absurd cc;
    }) p

-- ---- a bucket

pub bucket_small : (flash : FlashConfig) (bucket : ℕ) (key : List ℕ) (here : Bool) (s : Option FlashEntry) → IsOwn key s → IsSmall flash s → (bucket_at flash key == bucket) ≡ here → (if here then None else s) ≡ left_of flash (bucket_loss bucket) s
bucket_small flash bucket key here None own small e = both here
  where
    both : (t : Bool) → ◌≡◌ {A = Option FlashEntry} (if t then None else None) None
    both true = refl
    both false = refl
bucket_small flash bucket key here (Some x) own small e = let at : (bucket_at flash x.key == bucket) ≡ here = ap (λ (k : List ℕ). bucket_at flash k == bucket) own ∙ e in rw (small, at) (both here)
  where
    both : (t : Bool) → ◌≡◌ {A = Option FlashEntry} (if t then None else Some x) (if (t || false) then None else Some x)
    both true = refl
    both false = refl

pub bucket_large : (flash : FlashConfig) (bucket : ℕ) (l : Option FlashEntry) → IsLarge flash l → l ≡ left_of flash (bucket_loss bucket) l
bucket_large flash bucket None large = refl
bucket_large flash bucket (Some x) large = rw large refl

pub bucket_goes : (flash : FlashConfig) (bucket : ℕ) (key : List ℕ) (here : Bool) (i : Option Item) (q w s l : Option FlashEntry) (m : Option Entry) (b : Bool) → IsOwn key w → IsSmall flash w → (bucket_at flash key == bucket) ≡ here → Placed i q w b s l m
    → b ≡ false → is_some w ≡ true → here ≡ covered (Some flash) (bucket_loss bucket) key m
bucket_goes flash bucket key here i q None s l m b own small e p f some = absurd cc
bucket_goes flash bucket key here i q (Some x) s l m true own small e p f some = absurd cc
bucket_goes flash bucket key here i q (Some x) s l m false own small e p f some =
    let fits : is_small_by flash key (length x.value) ≡ true = ap (λ (k : List ℕ). is_small_by flash k (length x.value)) (sym own) ∙ small in
    let at : covers_any (Some flash) (bucket_loss bucket) key (length x.value) ≡ here = rw (fits, e) (both here) in
    sym (ap (covered (Some flash) (bucket_loss bucket) key) (map_written i q s l m x p) ∙ at)
  where
    both : (t : Bool) → (t || false) ≡ t
    both true = refl
    both false = refl

-- ---- entries that are pushed out

full_step : (flash : FlashConfig) (scope : Scope) (cause : Cause) (key : List ℕ) (len : ℕ) → IsFull scope cause → loss.covers (Some flash) scope key len ≡ is_named key scope
full_step flash (loss.Key named) cause key len h = refl
full_step flash (loss.Bucket bucket) cause key len h = absurd h
full_step flash (loss.Hash kept but) cause key len h = absurd h

pub full-names : (flash : FlashConfig) (losses : List Loss) (key : List ℕ) (len : ℕ) → AllFull losses → covers_any (Some flash) losses key len ≡ names key losses
full-names flash [] key len h = refl
full-names flash (one ∷ losses) key len h = λ i. full_step flash one.scope one.cause key len h.0 i || full-names flash losses key len h.1 i

full_cause : (scope : Scope) (cause : Cause) → IsFull scope cause → takes_out cause ≡ true
full_cause (loss.Key key) loss.BucketFull h = refl
full_cause scope cause h = absurd h

pub full_out : (losses : List Loss) → AllFull losses → AllTakeOut losses
full_out [] h = tt
full_out (one ∷ losses) h = (full_cause one.scope one.cause h.0, full_out losses h.1)

-- where the small engine has nothing, nothing was pushed out
unnamed : (key : List ℕ) (losses : List Loss) (s : Option FlashEntry) (t : Bool) → names key losses ≡ t → (names key losses ≡ true → is_some s ≡ true) → s ≡ None → t ≡ false
unnamed key losses s true e h n = absurd (let x : is_some s ≡ true = h e in let y : is_some s ≡ false = ap (λ (o : Option FlashEntry). is_some o) n in cc (x, y))
unnamed key losses s false e h n = refl

full_large : (flash : FlashConfig) (losses : List Loss) (key : List ℕ) (i : Option Item) (q w s l : Option FlashEntry) (m : Option Entry) (b : Bool) → AllFull losses → (names key losses ≡ true → is_some s ≡ true) → IsOwn key l → Placed i q w b s l m
    → l ≡ left_of flash losses l
full_large flash losses key i q w s None m b h n own p = refl
full_large flash losses key i q w s (Some x) m b h n own p =
    kept_by flash losses x (full_out losses h) (full-names flash losses x.key (length x.value) h ∙ ap (λ (k : List ℕ). names k losses) own ∙ unnamed key losses s (names key losses) refl n (large_alone i q w s m b x p))

full_goes : (flash : FlashConfig) (losses : List Loss) (key : List ℕ) (i : Option Item) (q w s l : Option FlashEntry) (m : Option Entry) (b : Bool) → AllFull losses → (names key losses ≡ true → is_some s ≡ true) → Placed i q w b s l m
    → b ≡ false → is_some w ≡ true → false ≡ covered (Some flash) losses key m
full_goes flash losses key i q None s l m b h n p e some = absurd cc
full_goes flash losses key i q (Some x) s l m true h n p e some = absurd cc
full_goes flash losses key i q (Some x) s l m false h n p e some =
    sym (ap (covered (Some flash) losses key) (map_written i q s l m x p) ∙ full-names flash losses key (length x.value) h ∙ unnamed key losses s (names key losses) refl n (written_alone i q s l m x p))

pub full_losses_place : FullLossesPlace
full_losses_place flash losses older memory key q w s l s2 b mf h n held sides es p =
    losses_place flash losses older memory key q w s l b w s2 l b mf (full_out losses h) held sides.small_key sides.large_key (record {
      ends = false;
      raised = false;
      written = refl;
      small = es;
      large = full_large flash losses key (linked_at key memory.pools) q w s l (entry_at (Some flash) older key) b h n sides.large_key p;
      stone = and_not_false b;
      goes = full_goes flash losses key (linked_at key memory.pools) q w s l (entry_at (Some flash) older key) b h n p;
      bare = λ r t. absurd cc;
    }) p

-- ---- keys that no loss covers

uncovered_item : (flash : Option FlashConfig) (losses : List Loss) (key : List ℕ) (i : Option Item) → IsOwnItem key i → ((len : ℕ) → covers_any flash losses key len ≡ false) → unmarked_if (covered_some flash losses i) i ≡ i
uncovered_item flash losses key None own h = refl
uncovered_item flash losses key (Some x) own h =
    let at : covered_item flash losses x ≡ false = ap (λ (k : List ℕ). covers_any flash losses k (length x.value)) own ∙ h (length x.value) in
    ap (λ c. unmarked_if c (Some x)) at

uncovered_map : (flash : Option FlashConfig) (losses : List Loss) (key : List ℕ) (m : Option Entry) (held : Bool) → ((len : ℕ) → covers_any flash losses key len ≡ false) → entry_lost (covered flash losses key m) held m ≡ m
uncovered_map flash losses key None held h = both (covered flash losses key None) held
  where
    both : (c t : Bool) → entry_lost c t None ≡ None
    both true true = refl
    both true false = refl
    both false t = refl
uncovered_map flash losses key (Some x) held h = ap (λ c. entry_lost c held (Some x)) (h (length x.value))

pub uncovered_stays : UncoveredStays
uncovered_stays flash losses older memory key mf h = (
  items_lost losses memory key ∙ ap (λ (f : Option FlashConfig). unmarked_if (covered_some f losses (linked_at key memory.pools)) (linked_at key memory.pools)) mf ∙ uncovered_item flash losses key (linked_at key memory.pools) (own-linked key memory.pools) h,
  map_lost_by flash losses older key ∙ uncovered_map flash losses key (entry_at flash older key) (is_held older key) h,
)
