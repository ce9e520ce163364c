-- One region changes: what the books say of it, and whose operations stay as they were.
use Rattle.std.proofs.Common.{◌≡◌, ℕ, ◌<◌, ◌==◌, Bool, true, false, not, List, length, set, Some, refl, sym, ap, arith, ◌∙◌}
use Rattle.std.proofs.lemmas.Bool.{eqb-true}
use Rattle.std.proofs.lemmas.List.{length-set}
use Rattle.std.specs.Prelude.{if◌then◌else◌}
use Rattle.hc_types.specs.declared.config.FlashConfig.{FlashConfig}
use Rattle.hc_engines.specs.large.Region.{is_clean, Region, filled_to, region_at}
use Rattle.hc_engines.specs.large.Block.{Block, Job, Work, Writing, work_of, without_job, job_added}
use Rattle.hc_engines.specs.large.Sound.{writers}
use Rattle.hc_engines.proofs.large.Jobs.{added_other, without_other, writer_counted}
use Rattle.hc_engines.proofs.large.Lists.{region_at-set}
use Rattle.hc_history.specs.Note.{Note}
use Rattle.hc_invariant.specs.Tells.{RegionsTell}
use Rattle.hc_proof.specs.books.RegionBooks.{OthersStay, but}
use Rattle.hc_proof.proofs.books.Placed.{used-still, clean-still}

-- ---- the books

-- a region that changed but is as clean and as full as before
pub changed_regions : (flash : FlashConfig) (older : List Note) (r : ℕ) (x : Region) (s new : Block) → RegionsTell flash older s → r < length s.regions → new.regions ≡ set s.regions r x → new.index ≡ s.index → new.current ≡ s.current → new.flushed ≡ s.flushed
    → is_clean x.status ≡ is_clean (region_at r s.regions).status → (s.current ≡ Some r → filled_to flash x ≡ filled_to flash (region_at r s.regions)) → RegionsTell flash older new
changed_regions flash older r x s new t lt er ei ec ef clean full = record {
  number = rw er (length-set s.regions r x ∙ t.number);
  used = λ q. rw er (t.used q ∙ ap not (sym (clean-still s.regions r q x lt clean)));
  used_number = rw er (t.used_number ∙ sym (used-still s.regions r x lt clean));
  in_order = ef ∙ t.in_order;
  filings = λ h q. rw ei (t.filings h q);
  current = t.current ∙ sym ec;
  filled = λ q c. let was : s.current ≡ Some q = sym ec ∙ c in rw (er, region_at-set s.regions r q x lt) (t.filled q was ∙ filled q was (q == r) refl);
}
  where
    filled : (q : ℕ) → s.current ≡ Some q → (t : Bool) → (q == r) ≡ t → filled_to flash (region_at q s.regions) ≡ filled_to flash (if t then x else region_at q s.regions)
    filled q c true t = let e : q ≡ r = eqb-true q r t in let cur : s.current ≡ Some r = c ∙ ap Some e in rw e (sym (full cur))
    filled q c false t = refl

-- ---- operations under other numbers

but-true : (number n : ℕ) → but number n ≡ true → (n == number) ≡ false
but-true number n h = go (n == number) refl h
  where
    go : (t : Bool) → (n == number) ≡ t → (if t then false else true) ≡ true → (n == number) ≡ false
    go true t h = absurd (cc)
    go false t h = t

pub other-way : (n m : ℕ) → (n == m) ≡ false → (m == n) ≡ false
other-way n m h = grind (arith, h)

pub work-without : (number n : ℕ) (jobs : List Job) → but number n ≡ true → work_of n (without_job number jobs) ≡ work_of n jobs
work-without number n jobs o = without_other number n jobs (but-true number n o)

pub work-added : (number n : ℕ) (work : Work) (jobs : List Job) → but number n ≡ true → work_of n (job_added number work jobs) ≡ work_of n jobs
work-added number n work jobs o = added_other number n work jobs (but-true number n o)

-- the region that changed has as many pages written as before
pub others_same : (others : ℕ → Bool) (r : ℕ) (x : Region) (s new : Block) → r < length s.regions → new.regions ≡ set s.regions r x → x.written ≡ (region_at r s.regions).written → ((n : ℕ) → others n ≡ true → work_of n new.jobs ≡ work_of n s.jobs) → OthersStay others s new
others_same others r x s new lt er e works = record { works = works; written = λ n q bytes o w. rw (er, region_at-set s.regions r q x lt) (go q (q == r) refl) }
  where
    go : (q : ℕ) (t : Bool) → (q == r) ≡ t → (if t then x else region_at q s.regions).written ≡ (region_at q s.regions).written
    go q true t = let same : q ≡ r = eqb-true q r t in rw same e
    go q false t = refl

-- or no other operation writes a page of it
pub others_alone : (others : ℕ → Bool) (r : ℕ) (x : Region) (s new : Block) (jobs : List Job) → r < length s.regions → new.regions ≡ set s.regions r x → writers r jobs ≡ 0 → ((n : ℕ) → others n ≡ true → work_of n jobs ≡ work_of n s.jobs)
    → ((n : ℕ) → others n ≡ true → work_of n new.jobs ≡ work_of n s.jobs) → OthersStay others s new
others_alone others r x s new jobs lt er none left works = record { works = works; written = λ n q bytes o w. rw (er, region_at-set s.regions r q x lt) (go n q bytes o w (q == r) refl) }
  where
    go : (n q : ℕ) (bytes : List ℕ) → others n ≡ true → work_of n s.jobs ≡ Some (Writing q bytes) → (t : Bool) → (q == r) ≡ t → (if t then x else region_at q s.regions).written ≡ (region_at q s.regions).written
    go n q bytes o w true t =
        let same : q ≡ r = eqb-true q r t in
        let own : work_of n jobs ≡ Some (Writing r bytes) = left n o ∙ w ∙ ap (λ i. Some (Writing i bytes)) same in
        let some : 0 < writers r jobs = writer_counted n r bytes jobs own in
        absurd (omega (arith, some, none))
    go n q bytes o w false t = refl
