-- The definitions against logs of a cache with flash: those of worked runs are legal, and those of wrong bodies are refused.
use Rattle.std.proofs.Common.{◌≡◌, ℕ, ◌++◌, true, false, List, [], ◌∷◌, Some, None, refl}
use Rattle.hc_types.specs.Config.{Config}
use Rattle.hc_types.specs.Loss as loss
use Rattle.hc_types.specs.Loss.{Evicted, Collision, Expired, Fault}
use Rattle.hc_types.specs.declared.loss.Why.{Why}
use Rattle.hc_types.specs.declared.loss.Why.TheVariants.{NoFlash, Tombstone, NotAdmitted, TooLarge, QueueFull}
use Rattle.hc_bucket.specs.Reading.{page_at, entries_at, entry_at, body_at, content_at, whole_at}
use Rattle.hc_history.specs.Note.{Insert, Add, Find, Remove, Stored, Exists, Hit, Miss, NotInMemory, Note, Begin, Did, End, Lose, Charged, Linked, Freed, Unqueued, Written, Buried, Raised, Read, Opened}
use Rattle.hc_history.specs.Lawful.{past, Legal}
use Rattle.hc_legal.proofs.Computed.{legal, refused_at, refused_end, Refused}
use Rattle.hc_legal.proofs.Logs.{one_pool, two_pools, a, b, c, one, two, three, anew, item, page, sets, hits, misses, queues, takes_put, writes_first, large, a_one, b_two, back_from_flash, stored_on_flash, waiting_is_found, set_anew, one_hash, lost_bucket, add_waits}

-- ---- worked runs

-- a waiting put is found
pub waiting_is_found-legal : Legal (one_pool 1000 1) waiting_is_found
waiting_is_found-legal = legal (one_pool 1000 1) waiting_is_found refl

-- an item comes back from flash
pub back_from_flash-legal : Legal (one_pool 1000 1) back_from_flash
unfolding page_at entries_at entry_at body_at content_at whole_at
back_from_flash-legal = legal (one_pool 1000 1) back_from_flash refl

-- two large keys of one kept hash
pub one_hash-legal : Legal (one_pool 2000 1) one_hash
one_hash-legal = legal (one_pool 2000 1) one_hash refl

-- a large key is set anew while its fill is out
pub set_anew-legal : Legal (one_pool 2000 1) set_anew
set_anew-legal = legal (one_pool 2000 1) set_anew refl

-- a bucket is given up
pub lost_bucket-legal : Legal two_pools lost_bucket
unfolding page_at entries_at entry_at body_at content_at whole_at
lost_bucket-legal = legal two_pools lost_bucket refl

-- an add waits for flash
pub add_waits-legal : Legal (one_pool 1000 2) add_waits
unfolding page_at entries_at entry_at body_at content_at whole_at
add_waits-legal = legal (one_pool 1000 2) add_waits refl

-- an insert that does nothing but begin: no log tells
pub begun_alone : Legal (one_pool 1000 1) (Begin 1 0 (Insert a one 0) ∷ [])
begun_alone = legal (one_pool 1000 1) (Begin 1 0 (Insert a one 0) ∷ []) refl

-- ---- wrong bodies

-- a is on flash alone, and a fill of it is out
abbrev fill_out : List Note
fill_out = sets 1 1 a one ++ queues 1 a ++ sets 2 2 b two ++ writes_first a (a_one ∷ []) ++ Begin 3 0 (Find a) ∷ []

-- a is set anew: b makes room, and a is buried
abbrev sets_anew : List Note
sets_anew = queues 2 b ++ Charged 3 a 0 36 ∷ Begin 4 0 (Insert a anew 0) ∷ Buried a ∷ Linked 3 ∷ Did 4 Stored ∷ Did 3 (Hit anew) ∷ End 4 ∷ []

abbrev orphan : List Note
orphan = fill_out ++ sets_anew ++ Read 0 (Some (page (a_one ∷ []))) ∷ []

pub orphan-legal : Legal (one_pool 1000 1) orphan
unfolding page_at entries_at entry_at body_at content_at whole_at
orphan-legal = legal (one_pool 1000 1) orphan refl

-- a fill links its bytes, though it is an orphan: over the new item, and then the old value is found
abbrev linked_orphan : List Note
linked_orphan = orphan ++ Freed 3 ∷ Lose (loss.Key a) (Evicted 0 36 Tombstone) ∷ Charged 4 a 0 36 ∷ Linked 4 ∷ []

pub orphan_linked : Refused (one_pool 1000 1) linked_orphan
unfolding page_at entries_at entry_at body_at content_at whole_at
orphan_linked = refused_end (one_pool 1000 1) linked_orphan refl refl

pub orphan_found : Refused (one_pool 1000 1) (linked_orphan ++ hits 5 a one)
unfolding page_at entries_at entry_at body_at content_at whole_at
orphan_found = refused_at (one_pool 1000 1) (linked_orphan ++ hits 5 a one) 32 refl

-- or beside it
abbrev both_linked : List Note
both_linked = sets 1 1 a one ++ sets 2 2 b two ++ queues 1 a ++ sets 3 3 c three ++ writes_first a (a_one ∷ []) ++ Begin 4 0 (Find a) ∷ queues 2 b ++ Charged 4 a 0 36 ∷ Begin 5 0 (Insert a anew 0) ∷ Buried a ∷ Linked 4 ∷ Did 5 Stored ∷ Did 4 (Hit anew) ∷ End 5 ∷ Read 0 (Some (page (a_one ∷ []))) ∷ queues 3 c ++ Charged 5 a 0 36 ∷ Linked 5 ∷ []

pub two_linked : Refused (one_pool 1000 2) both_linked
unfolding page_at entries_at entry_at body_at content_at whole_at
two_linked = refused_end (one_pool 1000 2) both_linked refl refl

-- the tombstone ends when the delete is taken
pub tombstone_dropped : Refused (one_pool 1000 1) (fill_out ++ sets_anew ++ Raised a ∷ [])
unfolding page_at entries_at entry_at body_at content_at whole_at
tombstone_dropped = refused_at (one_pool 1000 1) (fill_out ++ sets_anew ++ Raised a ∷ []) 26 refl

-- a remove leaves the waiting put in the queue
abbrev a_waits : List Note
a_waits = sets 1 1 a one ++ queues 1 a ++ sets 2 2 b two

pub put_left : Refused (one_pool 1000 1) (a_waits ++ Begin 3 0 (Remove a) ∷ Did 3 NotInMemory ∷ End 3 ∷ [])
put_left = refused_end (one_pool 1000 1) (a_waits ++ Begin 3 0 (Remove a) ∷ Did 3 NotInMemory ∷ End 3 ∷ []) refl refl

-- flash is never used, whatever is said
abbrev forgets : Why → List Note
forgets why = sets 1 1 a one ++ Freed 1 ∷ Lose (loss.Key a) (Evicted 0 36 why) ∷ sets 2 2 b two

pub flash_unused : (why : Why) → Refused (one_pool 1000 1) (forgets why)
flash_unused NoFlash = refused_at (one_pool 1000 1) (forgets NoFlash) 6 refl
flash_unused Tombstone = refused_at (one_pool 1000 1) (forgets Tombstone) 6 refl
flash_unused NotAdmitted = refused_at (one_pool 1000 1) (forgets NotAdmitted) 6 refl
flash_unused TooLarge = refused_at (one_pool 1000 1) (forgets TooLarge) 6 refl
flash_unused QueueFull = refused_at (one_pool 1000 1) (forgets QueueFull) 6 refl

-- the old charge isn't freed on a replace
pub charge_left : Refused (one_pool 1000 2) (sets 1 1 a one ++ sets 2 2 a two)
charge_left = refused_end (one_pool 1000 2) (sets 1 1 a one ++ sets 2 2 a two) refl refl

-- room is made for more bytes than are charged: with a put, and with a loss
pub inflated : Refused (one_pool 100 9) (sets 1 1 a one ++ queues 1 a ++ sets 2 2 b two)
inflated = refused_at (one_pool 100 9) (sets 1 1 a one ++ queues 1 a ++ sets 2 2 b two) 5 refl

pub inflated_loss : Refused (one_pool 100 9) (sets 1 1 a one ++ Freed 1 ∷ Lose (loss.Key a) (Evicted 0 80 QueueFull) ∷ sets 2 2 b two)
inflated_loss = refused_at (one_pool 100 9) (sets 1 1 a one ++ Freed 1 ∷ Lose (loss.Key a) (Evicted 0 80 QueueFull) ∷ sets 2 2 b two) 5 refl

-- an insert sets a tombstone that isn't due
abbrev buries : List Note
buries = Charged 1 a 0 35 ∷ Begin 1 0 (Insert a (49 ∷ 50 ∷ []) 0) ∷ Buried a ∷ Linked 1 ∷ Did 1 Stored ∷ End 1 ∷ []

pub buried_for_nothing : Refused (one_pool 1000 1) buries
buried_for_nothing = refused_at (one_pool 1000 1) buries 2 refl

-- an insert notes a collision, though its hash isn't filed
abbrev invents : List Note
invents = Charged 1 a 0 36 ∷ Begin 1 0 (Insert a one 0) ∷ Lose (loss.Hash 140 (Some a)) (Collision a) ∷ Linked 1 ∷ Did 1 Stored ∷ End 1 ∷ []

pub collision_for_nothing : Refused (one_pool 1000 1) invents
collision_for_nothing = refused_at (one_pool 1000 1) invents 2 refl

-- a remove denies the item that it took
pub denied : Refused (one_pool 1000 1) (sets 1 1 a one ++ Begin 2 0 (Remove a) ∷ Freed 1 ∷ Did 2 NotInMemory ∷ End 2 ∷ [])
denied = refused_at (one_pool 1000 1) (sets 1 1 a one ++ Begin 2 0 (Remove a) ∷ Freed 1 ∷ Did 2 NotInMemory ∷ End 2 ∷ []) 7 refl

-- a remove, or an insert, that answers and does nothing else
pub nothing_removed : Refused (one_pool 1000 1) (sets 1 1 a one ++ Begin 2 0 (Remove a) ∷ Did 2 NotInMemory ∷ End 2 ∷ [])
nothing_removed = refused_end (one_pool 1000 1) (sets 1 1 a one ++ Begin 2 0 (Remove a) ∷ Did 2 NotInMemory ∷ End 2 ∷ []) refl refl

pub nothing_inserted : Refused (one_pool 1000 1) (Begin 1 0 (Insert a one 0) ∷ Did 1 Stored ∷ End 1 ∷ misses 2 a)
nothing_inserted = refused_at (one_pool 1000 1) (Begin 1 0 (Insert a one 0) ∷ Did 1 Stored ∷ End 1 ∷ misses 2 a) 4 refl

-- a region is opened for each large put
abbrev opens_each : List Note
opens_each = sets 1 1 a (large 200 120) ++ queues 1 a ++ sets 2 2 b (large 200 121) ++ Unqueued a ∷ Opened 0 ∷ queues 2 b ++ sets 3 3 c (large 200 122) ++ Unqueued b ∷ Opened 1 ∷ []

pub opened_early : Refused (one_pool 2000 1) opens_each
opened_early = refused_at (one_pool 2000 1) opens_each 22 refl

-- ---- more that a log shows

-- a find takes the waiting put and loses the key
abbrev takes_token : List Note
takes_token = a_waits ++ Begin 3 0 (Find a) ∷ Unqueued a ∷ Lose (loss.Key a) Fault ∷ Did 3 Miss ∷ End 3 ∷ []

pub token_taken : Refused (one_pool 1000 1) takes_token
token_taken = refused_at (one_pool 1000 1) takes_token 14 refl

-- a waiting put is missed
pub waiting_missed : Refused (one_pool 1000 1) (a_waits ++ misses 3 a)
waiting_missed = refused_at (one_pool 1000 1) (a_waits ++ misses 3 a) 13 refl

-- a filled item is queued again, though its bucket has it
abbrev comes_back : List Note
comes_back = fill_out ++ Read 0 (Some (page (a_one ∷ []))) ∷ queues 2 b ++ Charged 3 a 0 36 ∷ Linked 3 ∷ Did 3 (Hit one) ∷ End 3 ∷ []

pub written_again : Refused (one_pool 1000 1) (comes_back ++ queues 3 a ++ sets 4 4 c three)
unfolding page_at entries_at entry_at body_at content_at whole_at
written_again = refused_at (one_pool 1000 1) (comes_back ++ queues 3 a ++ sets 4 4 c three) 25 refl

-- while it leaves silently, its copy stands
pub left_silently : Legal (one_pool 1000 1) (comes_back ++ Freed 3 ∷ sets 4 4 c three)
unfolding page_at entries_at entry_at body_at content_at whole_at
left_silently = legal (one_pool 1000 1) (comes_back ++ Freed 3 ∷ sets 4 4 c three) refl

-- the bucket is given up, the mark stays, and the item leaves silently
abbrev given_up : List Note
given_up = comes_back ++ takes_put b ++ Read 0 None ∷ Lose (loss.Bucket 0) Fault ∷ Written b ∷ []

pub mark_left : Refused (one_pool 1000 1) (given_up ++ Freed 3 ∷ sets 4 4 c three ++ misses 5 a)
unfolding page_at entries_at entry_at body_at content_at whole_at
mark_left = refused_at (one_pool 1000 1) (given_up ++ Freed 3 ∷ sets 4 4 c three ++ misses 5 a) 36 refl

pub mark_taken : Legal (one_pool 1000 1) (given_up ++ queues 3 a ++ sets 4 4 c three ++ hits 5 a one)
unfolding page_at entries_at entry_at body_at content_at whole_at
mark_taken = legal (one_pool 1000 1) (given_up ++ queues 3 a ++ sets 4 4 c three ++ hits 5 a one) refl

-- an add stores over an unexpired value, and one denies that there is none
abbrev adds_over : List Note
adds_over = sets 1 1 a one ++ Charged 2 a 0 36 ∷ Begin 2 0 (Add a two 0) ∷ Freed 1 ∷ Linked 2 ∷ Did 2 Stored ∷ End 2 ∷ []

pub added_over : Refused (one_pool 1000 2) adds_over
added_over = refused_at (one_pool 1000 2) adds_over 9 refl

pub add_denied : Refused (one_pool 1000 2) (Charged 1 a 0 36 ∷ Begin 1 0 (Add a two 0) ∷ Freed 1 ∷ Did 1 Exists ∷ End 1 ∷ [])
add_denied = refused_at (one_pool 1000 2) (Charged 1 a 0 36 ∷ Begin 1 0 (Add a two 0) ∷ Freed 1 ∷ Did 1 Exists ∷ End 1 ∷ []) 3 refl
