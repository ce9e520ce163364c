-- What the pair has from its engines: a new one, results that are awaited, which engine changes, and what the index and the words tell.
use Rattle.std.proofs.Common.{◌≡◌, ◌≢◌, ℕ, ◌||◌, Bool, true, false, Option, Some, None, refl, sym, inl, subst, arith, ◌∙◌}
use Rattle.std.specs.Prelude.{option_map}
use Rattle.hc_types.specs.Places.{kept_of, bucket_at}
use Rattle.hc_types.specs.FlashEntry.{FlashEntry}
use Rattle.hc_engines.specs.Engine.{Put, Get, Delete, Flush, Reclaim, IoResult, Page, Written, Failed, Awaits}
use Rattle.hc_engines.specs.small.BigHash as bighash
use Rattle.hc_engines.specs.small.BigHash.{Job, job_at, could_hold, is_ours}
use Rattle.hc_engines.specs.small.Held.{job_under_way}
use Rattle.hc_engines.proofs.small.Serving.{held_is_told, resume_is, resume_not}
use Rattle.hc_engines.specs.large.Block.{Work, Writing, Getting, work_of}
use Rattle.hc_engines.proofs.small.New.{no_word, new_small_fits}
use Rattle.hc_engines.proofs.large.New.{new_good}
use Rattle.hc_engines.specs.pair.Pair.{Pair, Moved, by_small, after_small, resume_in, resume_work, is_indexed, could_have}
use Rattle.hc_engines.specs.pair.Held.{or_else, held_small, held_large, work_under_way, first_of, NewFits, ResumeAwaits, OtherStays, TakeTakes, HeldIsTold}
use Rattle.hc_engines.proofs.pair.LargeGets.{large_tells, large_takes}
use Rattle.hc_engines.proofs.pair.Numbers.{mapped_some, mapped_none}

-- ---- a new pair

pub new_fits : NewFits
new_fits flash pages limits some = (
  record {
    small = new_small_fits flash pages limits;
    large = record { good = new_good flash pages; large = λ key e h. absurd cc; some_bytes = omega (arith, limits.least_page); some_pages = omega (arith, some) };
    apart = λ n. inl refl;
  },
  λ key. rw (no_word flash.buckets (bucket_at flash key)) refl,
)

-- ---- results

work-not : (pair : Pair) (number : ℕ) (work : Work) (result : IoResult) → resume_work number result pair work ≡ None → Awaits (Some (work_under_way pair.small.flash pair.large work)) result → ⊥
work-not pair number (Writing r bytes) (Page page) h a = a
work-not pair number (Writing r bytes) Written h a = cc
work-not pair number (Writing r bytes) Failed h a = cc
work-not pair number (Getting reading) (Page page) h a = cc
work-not pair number (Getting reading) Written h a = a
work-not pair number (Getting reading) Failed h a = cc

work-is : (pair : Pair) (number : ℕ) (work : Work) (result : IoResult) (moved : Moved) → resume_work number result pair work ≡ Some moved → Awaits (Some (work_under_way pair.small.flash pair.large work)) result
work-is pair number (Writing r bytes) (Page page) moved h = absurd cc
work-is pair number (Writing r bytes) Written moved h = tt
work-is pair number (Writing r bytes) Failed moved h = tt
work-is pair number (Getting reading) (Page page) moved h = tt
work-is pair number (Getting reading) Written moved h = absurd cc
work-is pair number (Getting reading) Failed moved h = tt

pub resume_awaits : ResumeAwaits
resume_awaits pair number result = (not_awaited (job_at number pair.small.jobs) refl (work_of number pair.large.jobs) refl, λ moved. awaited moved (job_at number pair.small.jobs) refl (work_of number pair.large.jobs) refl)
  where
    not_awaited : (job : Option Job) → job_at number pair.small.jobs ≡ job → (work : Option Work) → work_of number pair.large.jobs ≡ work → resume_in number result pair job ≡ None → Awaits (first_of (option_map (job_under_way pair.small.flash) job) (option_map (work_under_way pair.small.flash pair.large) work)) result → ⊥
    not_awaited (Some job) at work there h a =
        let refused = mapped_none (λ m. after_small number job.op (by_small pair m)) (bighash.resume pair.small number result) h in
        resume_not pair.small number result refused (subst (λ (o : Option Job). Awaits (option_map (job_under_way pair.small.flash) o) result) (sym at) a)
    not_awaited None at None there h a = a
    not_awaited None at (Some work) there h a = work-not pair number work result (rw there at h) a

    awaited : (moved : Moved) (job : Option Job) → job_at number pair.small.jobs ≡ job → (work : Option Work) → work_of number pair.large.jobs ≡ work → resume_in number result pair job ≡ Some moved → Awaits (first_of (option_map (job_under_way pair.small.flash) job) (option_map (work_under_way pair.small.flash pair.large) work)) result
    awaited moved (Some job) at work there h =
        let m = mapped_some (λ m. after_small number job.op (by_small pair m)) (bighash.resume pair.small number result) moved h in
        subst (λ (o : Option Job). Awaits (option_map (job_under_way pair.small.flash) o) result) at (resume_is pair.small number result m.0 m.1)
    awaited moved None at None there h = let wrong : None ≡ Some moved = (rw there at h) in absurd cc
    awaited moved None at (Some work) there h = work-is pair number work result moved (rw there at h)

-- ---- which engine changes

pub other_stays : OtherStays
other_stays pair number (Put e) no_get = (λ ours. rw ours refl, λ theirs. rw theirs refl)
other_stays pair number (Get key) no_get = absurd (no_get key refl)
other_stays pair number (Delete key) no_get = (λ ours. refl, λ theirs. absurd cc)
other_stays pair number Flush no_get = (λ ours. absurd cc, λ theirs. refl)
other_stays pair number Reclaim no_get = (λ ours. absurd cc, λ theirs. refl)

-- ---- the index and the words

pub take_takes : TakeTakes
take_takes pair pages key fits =
    let taken = large_takes pair.small.flash pages (kept_of pair.small.flash.bits key) pair.large fits.large in
    (record { small = fits.small; large = taken.0; apart = fits.apart }, λ other. refl, taken.1)

or-right : (a b : Bool) → b ≡ true → (a || b) ≡ true
or-right true b h = refl
or-right false b h = h

pub pair_is_told : HeldIsTold
pair_is_told pair pages key fits some = by (held_small pair pages key) refl some
  where
    by : (o : Option FlashEntry) → held_small pair pages key ≡ o → or_else o (held_large pair pages key) ≢ None → could_have pair key ≡ true
    by (Some e) h some = let told : could_hold pair.small key ≡ true = held_is_told pair.small pages key fits.small (λ none. let wrong : None ≡ Some e = sym none ∙ h in cc) in rw told refl
    by None h some = or-right (could_hold pair.small key) (is_indexed pair key) (large_tells pair.small.flash pages pair.large key some)
