-- An operation of the small engine begins: what its start answers, and what one job more means for the jobs, for what is
-- being written and for what waits.
use Rattle.std.proofs.Common.{◌≡◌, ◌⊎◌, inl, inr, length, ℕ, Bool, true, false, List, [], ◌∷◌, ◌++◌, Option, Some, None, refl, ◌∙◌, subst}
use Rattle.std.specs.Prelude.{if◌then◌else◌}
use Rattle.hc_types.specs.Places.{bucket_at, is_small_by}
use Rattle.hc_types.specs.FlashEntry.{FlashEntry}
use Rattle.hc_engines.specs.Engine.{Op, Put, Get, Delete, Busy, Io, Done, Answer, Over, Absent, Pages, nothing, outcome_of}
use Rattle.hc_engines.specs.small.Bloom.{could_have}
use Rattle.hc_engines.specs.small.BigHash as bighash
use Rattle.hc_engines.specs.small.BigHash.{BigHash, Phase, Reading, Writing, Moved, ToRead, ToEnd, word_at, could_hold, is_busy, key_of, make_job, moved, begun, start}
use Rattle.hc_engines.specs.small.Held.{StateFits, order_of}
use Rattle.hc_engines.specs.small.Sound.{CanStart}
use Rattle.hc_engines.proofs.small.UnderWay.{none_is_there}
use Rattle.hc_engines.proofs.small.Started.{start_keeps}

-- ---- what a start answers

abbrev pub bucket_for : BigHash → Op → ℕ
bucket_for s op = bucket_at s.flash (key_of op)

-- the job that it makes, and the state with one job more
abbrev pub job_for : BigHash → ℕ → Op → Phase → bighash.Job
job_for s number op phase = make_job number (bucket_for s op) op phase

abbrev pub with_one : BigHash → ℕ → Op → Phase → BigHash
with_one s number op phase = record { flash = s.flash; words = s.words; jobs = s.jobs ++ job_for s number op phase ∷ [] }

-- it waits for its order
abbrev pub waits_so : BigHash → ℕ → Op → Phase → Moved
waits_so s number op phase = record { state = with_one s number op phase; next = Io (order_of s.flash.page (bucket_for s op) phase) nothing }

-- or it is over at once, and nothing changed
abbrev pub ends_so : BigHash → Answer → Moved
ends_so s answer = record { state = s; next = Done (outcome_of answer []) }

reads_so : (s : BigHash) (number : ℕ) (op : Op) (jobs : List bighash.Job) → jobs ≡ s.jobs
    → record { state = record { flash = s.flash; words = s.words; jobs = jobs ++ job_for s number op Reading ∷ [] }; next = Io (order_of s.flash.page (bucket_for s op) Reading) nothing } ≡ waits_so s number op Reading
reads_so s number op jobs e = rw e refl

writes_so : (s : BigHash) (number : ℕ) (op : Op) (es : List FlashEntry) (jobs : List bighash.Job) → jobs ≡ s.jobs
    → record { state = record { flash = s.flash; words = s.words; jobs = jobs ++ job_for s number op (Writing es []) ∷ [] }; next = Io (order_of s.flash.page (bucket_for s op) (Writing es [])) nothing } ≡ waits_so s number op (Writing es [])
writes_so s number op es jobs e = rw e refl

over_so : (s : BigHash) (answer : Answer) (jobs : List bighash.Job) → jobs ≡ s.jobs → record { state = record { flash = s.flash; words = s.words; jobs = jobs }; next = Done (outcome_of answer []) } ≡ ends_so s answer
over_so s answer jobs e = rw e refl

-- the bucket isn't busy: the operation begins by the bucket's word
moves_so : (s : BigHash) (number : ℕ) (op : Op) (b : Bool) → b ≡ false → (if b then record { state = s; next = Busy } else moved s number (bucket_for s op) op (begun (word_at s (bucket_for s op)) op)) ≡ moved s number (bucket_for s op) op (begun (word_at s (bucket_for s op)) op)
moves_so s number op b e = rw e refl

put_by_word : (s : BigHash) (number : ℕ) (e : FlashEntry) (word : Option ℕ) → bighash.job_at number s.jobs ≡ None → (phase : Phase) × (moved s number (bucket_for s (Put e)) (Put e) (begun word (Put e)) ≡ waits_so s number (Put e) phase)
put_by_word s number e None new = (Writing (e ∷ []) [], writes_so s number (Put e) (e ∷ []) (bighash.without_job number s.jobs) (none_is_there number s.jobs new))
put_by_word s number e (Some word) new = (Reading, reads_so s number (Put e) (bighash.without_job number s.jobs) (none_is_there number s.jobs new))

ours_so : (s : BigHash) (number : ℕ) (e : FlashEntry) (b : Bool) → b ≡ true → bighash.start_at s number (Put e) (if b then Some (bucket_for s (Put e)) else None) ≡ bighash.start_at s number (Put e) (Some (bucket_for s (Put e)))
ours_so s number e b h = rw h refl

-- a small put waits for its page: to be read, or to be written where the bucket is fresh
pub put_starts : (s : BigHash) (number : ℕ) (e : FlashEntry) → is_small_by s.flash e.key (length e.value) ≡ true → is_busy (bucket_at s.flash e.key) s.jobs ≡ false → bighash.job_at number s.jobs ≡ None
    → (phase : Phase) × (start s number (Put e) ≡ waits_so s number (Put e) phase)
put_starts s number e ours free new =
    let by = put_by_word s number e (word_at s (bucket_for s (Put e))) new in
    (by.0, ours_so s number e (is_small_by s.flash e.key (length e.value)) ours ∙ moves_so s number (Put e) (is_busy (bucket_at s.flash e.key) s.jobs) free ∙ by.1)

delete_by_word : (s : BigHash) (number : ℕ) (key : List ℕ) (word : Option ℕ) → bighash.job_at number s.jobs ≡ None
    → (moved s number (bucket_for s (Delete key)) (Delete key) (begun word (Delete key)) ≡ waits_so s number (Delete key) Reading) ⊎ ((moved s number (bucket_for s (Delete key)) (Delete key) (begun word (Delete key)) ≡ ends_so s Over) × (word ≡ None))
delete_by_word s number key None new = inr (over_so s Over (bighash.without_job number s.jobs) (none_is_there number s.jobs new), refl)
delete_by_word s number key (Some word) new = inl (reads_so s number (Delete key) (bighash.without_job number s.jobs) (none_is_there number s.jobs new))

-- a delete reads its page; where the bucket is fresh it is over
pub delete_starts : (s : BigHash) (number : ℕ) (key : List ℕ) → is_busy (bucket_at s.flash key) s.jobs ≡ false → bighash.job_at number s.jobs ≡ None
    → (start s number (Delete key) ≡ waits_so s number (Delete key) Reading) ⊎ ((start s number (Delete key) ≡ ends_so s Over) × (word_at s (bucket_at s.flash key) ≡ None))
delete_starts s number key free new = by (delete_by_word s number key (word_at s (bucket_at s.flash key)) new)
  where
    begins : start s number (Delete key) ≡ moved s number (bucket_for s (Delete key)) (Delete key) (begun (word_at s (bucket_at s.flash key)) (Delete key))
    begins = moves_so s number (Delete key) (is_busy (bucket_at s.flash key) s.jobs) free

    by : (moved s number (bucket_for s (Delete key)) (Delete key) (begun (word_at s (bucket_at s.flash key)) (Delete key)) ≡ waits_so s number (Delete key) Reading)
        ⊎ ((moved s number (bucket_for s (Delete key)) (Delete key) (begun (word_at s (bucket_at s.flash key)) (Delete key)) ≡ ends_so s Over) × (word_at s (bucket_at s.flash key) ≡ None))
        → (start s number (Delete key) ≡ waits_so s number (Delete key) Reading) ⊎ ((start s number (Delete key) ≡ ends_so s Over) × (word_at s (bucket_at s.flash key) ≡ None))
    by (inl e) = inl (begins ∙ e)
    by (inr e) = inr (begins ∙ e.0, e.1)

get_by_word : (s : BigHash) (number : ℕ) (key : List ℕ) (word : Option ℕ) → bighash.job_at number s.jobs ≡ None
    → (moved s number (bucket_for s (Get key)) (Get key) (begun word (Get key)) ≡ waits_so s number (Get key) Reading) ⊎ ((moved s number (bucket_for s (Get key)) (Get key) (begun word (Get key)) ≡ ends_so s Absent) × (bighash.tells word key ≡ false))
get_by_word s number key None new = inr (over_so s Absent (bighash.without_job number s.jobs) (none_is_there number s.jobs new), refl)
get_by_word s number key (Some word) new = by (could_have word key) refl
  where
    by : (b : Bool) → could_have word key ≡ b
        → (moved s number (bucket_for s (Get key)) (Get key) (if b then ToRead else ToEnd Absent) ≡ waits_so s number (Get key) Reading) ⊎ ((moved s number (bucket_for s (Get key)) (Get key) (if b then ToRead else ToEnd Absent) ≡ ends_so s Absent) × (b ≡ false))
    by true e = inl (reads_so s number (Get key) (bighash.without_job number s.jobs) (none_is_there number s.jobs new))
    by false e = inr (over_so s Absent (bighash.without_job number s.jobs) (none_is_there number s.jobs new), refl)

-- a get reads its page; where the word rules it out it is over
pub get_starts : (s : BigHash) (number : ℕ) (key : List ℕ) → is_busy (bucket_at s.flash key) s.jobs ≡ false → bighash.job_at number s.jobs ≡ None
    → (start s number (Get key) ≡ waits_so s number (Get key) Reading) ⊎ ((start s number (Get key) ≡ ends_so s Absent) × (could_hold s key ≡ false))
get_starts s number key free new = by (get_by_word s number key (word_at s (bucket_at s.flash key)) new)
  where
    begins : start s number (Get key) ≡ moved s number (bucket_for s (Get key)) (Get key) (begun (word_at s (bucket_at s.flash key)) (Get key))
    begins = moves_so s number (Get key) (is_busy (bucket_at s.flash key) s.jobs) free

    by : (moved s number (bucket_for s (Get key)) (Get key) (begun (word_at s (bucket_at s.flash key)) (Get key)) ≡ waits_so s number (Get key) Reading)
        ⊎ ((moved s number (bucket_for s (Get key)) (Get key) (begun (word_at s (bucket_at s.flash key)) (Get key)) ≡ ends_so s Absent) × (could_hold s key ≡ false))
        → (start s number (Get key) ≡ waits_so s number (Get key) Reading) ⊎ ((start s number (Get key) ≡ ends_so s Absent) × (could_hold s key ≡ false))
    by (inl e) = inl (begins ∙ e)
    by (inr e) = inr (begins ∙ e.0, e.1)

-- the state with one job more fits the pages; what it holds is what the state held, by computation
pub waits_fit : (s : BigHash) (pages : Pages) (number : ℕ) (op : Op) (phase : Phase) → StateFits s pages → bighash.job_at number s.jobs ≡ None → CanStart op → start s number op ≡ waits_so s number op phase → StateFits (with_one s number op phase) pages
waits_fit s pages number op phase fits new can e = subst (λ (m : Moved). StateFits m.state pages) e (start_keeps s pages number op fits new can).fits
