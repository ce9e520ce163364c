-- A page that is to be read is known: no read is ordered of a page that was never written, or whose last write failed.
use Rattle.std.proofs.Common.{◌≡◌, ◌≢◌, ℕ, ◌≤◌, ◌==◌, Bool, true, false, List, length, Option, Some, None, refl, ap, sym, ◌∙◌, subst, arith}
use Rattle.std.specs.Prelude.{is_some}
use Rattle.std.proofs.lemmas.Bool.{eqb-true}
use Rattle.hc_types.specs.declared.config.FlashConfig.{FlashConfig}
use Rattle.hc_engines.specs.Engine.{Op, Order, Read, Write, Pages}
use Rattle.hc_engines.specs.small.BigHash as bighash
use Rattle.hc_engines.specs.small.BigHash.{word_at}
use Rattle.hc_engines.specs.small.Held.{StateFits, PageFits, WorkFits, entries_at, order_of}
use Rattle.hc_engines.proofs.small.Resumed.{job_out}
use Rattle.hc_engines.specs.large.Held.{bytes_or_none}
use Rattle.hc_engines.specs.large.Block as block
use Rattle.hc_engines.specs.large.Block.{Reading, Writing, Getting}
use Rattle.hc_engines.specs.large.Region.{page_no}
use Rattle.hc_engines.proofs.large.Jobs.{work_holds}
use Rattle.hc_engines.proofs.large.GetStays.{read_unclean}
use Rattle.hc_memory.specs.Memory.{Memory}
use Rattle.hc_history.specs.Note.{Note}
use Rattle.hc_history.specs.Pages.{bytes_at}
use Rattle.hc_machine.specs.Nvm.{Nvm}
use Rattle.hc_machine.specs.World.{order_in}
use Rattle.hc_invariant.specs.Jobs.{small_job, large_work, small_order, large_order}
use Rattle.hc_invariant.specs.Good.{EnginesFit, FlashPart}
use Rattle.hc_theorem.specs.runs.Alone.{Alone}
use Rattle.hc_theorem.specs.runs.Between.{IsKnown}
use Rattle.hc_theorem.proofs.runs.WritesAlone.{Runs, OfSmall, OfLarge, runs_of}

-- ---- by the books

word_known : (flash : FlashConfig) (bucket : ℕ) (word : Option ℕ) (page : Option (List ℕ)) → PageFits flash bucket word page → is_some word ≡ true → IsKnown page
word_known flash bucket None page h e = absurd cc
word_known flash bucket (Some word) page h e = (_, h.1)

long_known : (page : Option (List ℕ)) (n : ℕ) → length (bytes_or_none page) ≡ n → 1 ≤ n → IsKnown page
long_known None n e h = absurd (omega (arith, e, h))
long_known (Some bytes) n e h = (bytes, refl)

phase_known : (flash : FlashConfig) (bucket : ℕ) (op : Op) (phase : bighash.Phase) (word : Option ℕ) (pages : Pages) (page : ℕ) → Read page ≡ order_of flash.page bucket phase
    → WorkFits flash.page op phase word (entries_at flash.page word (pages bucket)) → PageFits flash bucket word (pages bucket) → IsKnown (pages page)
phase_known flash bucket op bighash.Reading word pages page e w h =
    let same : page ≡ bucket = cc in
    subst (λ (p : ℕ). IsKnown (pages p)) (sym same) (word_known flash bucket word (pages bucket) h w)
phase_known flash bucket op (bighash.Writing es losses) word pages page e w h = absurd cc

small_known : (nvm : Nvm) (pages : Pages) (n page : ℕ) (job : bighash.Job) → StateFits nvm.pair.small pages → small_job nvm n ≡ Some job → Read page ≡ small_order nvm.pair job → IsKnown (pages page)
small_known nvm pages n page job fits at is =
    let s = nvm.pair.small in
    let out = job_out s.flash (word_at s) pages n s.jobs job at fits.jobs_fit in
    phase_known s.flash job.bucket job.op job.phase (word_at s job.bucket) pages page is out.fit.3 (fits.pages_fit job.bucket)

large_known : (flash : FlashConfig) (older : List Note) (nvm : Nvm) (n page : ℕ) (work : block.Work) → EnginesFit flash older nvm → large_work nvm n ≡ Some work → Read page ≡ large_order nvm.pair work → IsKnown (bytes_at older page)
large_known flash older nvm n page (Writing r bytes) g at is = absurd cc
large_known flash older nvm n page (Getting reading) g at is =
    let s = nvm.pair.large in
    let r = reading.place.region in
    let works = work_holds flash s.regions n (Getting reading) s.jobs g.large_sound.works at in
    let known = g.large_fits.known r reading.next (read_unclean flash n reading s g.large_sound at) (omega (arith, works.0, works.1)) in
    let least : 512 ≤ flash.page = subst (λ (f : FlashConfig). 512 ≤ f.page) g.same g.small_fits.limits.least_page in
    let there : page ≡ page_no nvm.pair.small.flash r reading.next = cc in
    let same : page ≡ page_no flash r reading.next = there ∙ ap (λ (f : FlashConfig). page_no f r reading.next) g.same in
    subst (λ (p : ℕ). IsKnown (bytes_at older p)) (sym same) (long_known (bytes_at older (page_no flash r reading.next)) flash.page known (omega (arith, least)))

read_known : (flash : FlashConfig) (older : List Note) (nvm : Nvm) (n page : ℕ) (order : Order) → EnginesFit flash older nvm → Runs nvm n order → Read page ≡ order → IsKnown (bytes_at older page)
read_known flash older nvm n page order g (OfSmall job at none is) e = small_known nvm (bytes_at older) n page job g.small_fits at (e ∙ is)
read_known flash older nvm n page order g (OfLarge work none at is) e = large_known flash older nvm n page work g at (e ∙ is)

pub books_known : (flash : Option FlashConfig) (older : List Note) (memory : Memory) (nvm : Option Nvm) (n page : ℕ) → FlashPart flash older memory nvm → order_in nvm n ≡ Some (Read page) → IsKnown (bytes_at older page)
books_known flash older memory None n page g h = absurd cc
books_known None older memory (Some nvm) n page g h = absurd g
books_known (Some flash) older memory (Some nvm) n page g h = read_known flash older nvm n page (Read page) g.engines (runs_of nvm n (Read page) g.jobs h) refl

-- ---- on the device

-- no write is out of a page that a job reads
pub unwritten : (nvm : Option Nvm) (n page : ℕ) → Alone nvm → order_in nvm n ≡ Some (Read page) → (m : ℕ) (bytes : List ℕ) → order_in nvm m ≢ Some (Write page bytes)
unwritten nvm n page alone h m bytes w = go (m == n) refl
  where
    go : (t : Bool) → (m == n) ≡ t → ⊥
    go true e = absurd (let same : m ≡ n = eqb-true m n e in let both : order_in nvm n ≡ Some (Write page bytes) = subst (λ (k : ℕ). order_in nvm k ≡ Some (Write page bytes)) same w in let none : Some (Read page) ≡ Some (Write page bytes) = sym h ∙ both in cc)
    go false e = alone m n (Write page bytes) (Read page) e w h tt refl
