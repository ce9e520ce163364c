-- The fill that a job brought, among the others.
use Rattle.std.proofs.Common.{◌≡◌, ℕ, ◌+◌, ◌≤◌, Bool, true, false, List, [], ◌∷◌, Option, Some, None, refl, arith, sym, ◌∙◌, subst}
use Rattle.std.specs.Prelude.{if◌then◌else◌}
use Rattle.std.specs.Str.{bytes_eq}
use Rattle.std.proofs.lemmas.Bool.{eqb-true}
use Rattle.hc_types.specs.Tally.{count}
use Rattle.hc_machine.proofs.items.Items.{bytes_eq-refl}
use Rattle.hc_engines.specs.Engine.{Pages, Get}
use Rattle.hc_engines.specs.small.BigHash as bighash
use Rattle.hc_engines.specs.large.Block as block
use Rattle.hc_memory.specs.Memory.{Memory}
use Rattle.hc_machine.specs.Nvm.{Nvm, Fill, is_fill_of, fill_at, without_fill, is_number_in, fill_by}
use Rattle.hc_invariant.specs.Jobs.{small_job, large_work, Brings, BringsIf, AllFill}
use Rattle.hc_theorem.specs.buckets.Small.{FillStands, AllStand, AllBrought}
use Rattle.hc_theorem.proofs.buckets.Closing.{NoneBrought}

-- ---- what a job brings is its key

abbrev pub AllKey : ℕ → List ℕ → List Fill → Type 0
AllKey number k [] = Unit {0}
AllKey number k (fill ∷ fills) = (is_number_in number fill.job ≡ true → fill.key ≡ k) × AllKey number k fills

key-step : (pages : Pages) (nvm : Nvm) (number : ℕ) (k : List ℕ) (sj : bighash.Job) (key : List ℕ) (o : Option ℕ) → small_job nvm number ≡ Some sj → sj.op ≡ Get k → BringsIf pages nvm key o → is_number_in number o ≡ true → key ≡ k
key-step pages nvm number k sj key None at op h t = absurd (cc t)
key-step pages nvm number k sj key (Some n) at op h t = go (large_work nvm number) (rw at at (subst (λ (m : ℕ). Brings pages nvm key (small_job nvm m) (large_work nvm m)) (eqb-true n number t) h))
  where
    go : (w : Option block.Work) → Brings pages nvm key (Some sj) w → key ≡ k
    go None b = let same : Get key ≡ Get k = sym b ∙ op in cc same
    go (Some w) b = absurd b

pub all-key : (pages : Pages) (memory : Memory) (nvm : Nvm) (number : ℕ) (k : List ℕ) (sj : bighash.Job) (fills : List Fill) → small_job nvm number ≡ Some sj → sj.op ≡ Get k → AllFill pages memory nvm fills → AllKey number k fills
all-key pages memory nvm number k sj [] at op h = tt
all-key pages memory nvm number k sj (fill ∷ fills) at op h = (key-step pages nvm number k sj fill.key fill.job at op h.0.brought, all-key pages memory nvm number k sj fills at op h.1)

-- ---- the one that it brings

pub none-by : (number : ℕ) (fills : List Fill) → fill_by number fills ≡ None → NoneBrought number fills
none-by number [] h = tt
none-by number (fill ∷ fills) h = go (is_number_in number fill.job) refl (none-by number fills)
  where
    go : (t : Bool) → is_number_in number fill.job ≡ t → (fill_by number fills ≡ None → NoneBrought number fills) → NoneBrought number (fill ∷ fills)
    go true p more = absurd (let h2 = rw p at h in cc h2)
    go false p more = (p, more (rw p at h))

pub record By (memory : Memory) (nvm : Nvm) (number : ℕ) (k : List ℕ) (fills : List Fill) (fill : Fill) : Type 0 where
  pub brought : is_number_in number fill.job ≡ true
  pub stands : FillStands memory nvm fill
  pub key : fill.key ≡ k
  pub some : 1 ≤ count (is_fill_of fill.key) fills
  pub at : count (is_fill_of fill.key) fills ≤ 1 → fill_at fill.key fills ≡ Some fill

some-is : (a b : Fill) → Some a ≡ Some b → a ≡ b
some-is a b e = cc e

pub by-job : (memory : Memory) (nvm : Nvm) (number : ℕ) (k : List ℕ) (fills : List Fill) (fill : Fill) → fill_by number fills ≡ Some fill → AllStand memory nvm fills → AllKey number k fills → By memory nvm number k fills fill
by-job memory nvm number k [] fill h s a = absurd (cc h)
by-job memory nvm number k (x ∷ fills) fill h s a = go (is_number_in number x.job) refl (λ e. by-job memory nvm number k fills fill e s.1 a.1)
  where
    own : (f : Fill) → is_fill_of f.key f ≡ true
    own f = bytes_eq-refl f.key

    first : x ≡ fill → is_number_in number x.job ≡ true → By memory nvm number k (x ∷ fills) fill
    first e p = subst (λ (f : Fill). By memory nvm number k (x ∷ fills) f) e (record {
      brought = p;
      stands = s.0;
      key = a.0 p;
      some = (rw (own x) (omega arith));
      at = λ one. rw (own x) refl;
    })

    later : By memory nvm number k fills fill → By memory nvm number k (x ∷ fills) fill
    later b = record { brought = b.brought; stands = b.stands; key = b.key; some = more (is_fill_of fill.key x) b.some; at = λ one. there (is_fill_of fill.key x) refl one }
      where
        more : (t : Bool) → 1 ≤ count (is_fill_of fill.key) fills → 1 ≤ (if t then 1 else 0) + count (is_fill_of fill.key) fills
        more true l = omega (arith, l)
        more false l = omega (arith, l)

        there : (t : Bool) → is_fill_of fill.key x ≡ t → (if is_fill_of fill.key x then 1 else 0) + count (is_fill_of fill.key) fills ≤ 1 → fill_at fill.key (x ∷ fills) ≡ Some fill
        there true e one = absurd (let two : 1 + count (is_fill_of fill.key) fills ≤ 1 = rw e at one in omega (arith, two, b.some))
        there false e one = let rest : 0 + count (is_fill_of fill.key) fills ≤ 1 = rw e at one in rw e (b.at (omega (arith, rest)))

    go : (t : Bool) → is_number_in number x.job ≡ t → (fill_by number fills ≡ Some fill → By memory nvm number k fills fill) → By memory nvm number k (x ∷ fills) fill
    go true p more = first (some-is x fill (rw p at h)) p
    go false p more = later (more (rw p at h))

-- ---- the others, once it left

pub others-hold : (pages : Pages) (memory : Memory) (nvm : Nvm) (number : ℕ) (k : List ℕ) (fills : List Fill) → AllStand memory nvm fills → AllBrought pages nvm number fills → AllKey number k fills → AllFill pages memory nvm (without_fill k fills)
others-hold pages memory nvm number k [] s b a = tt
others-hold pages memory nvm number k (x ∷ fills) s b a = go (is_fill_of k x) refl (others-hold pages memory nvm number k fills s.1 b.1 a.1)
  where
    not_brought : is_fill_of k x ≡ false → (t : Bool) → is_number_in number x.job ≡ t → is_number_in number x.job ≡ false
    not_brought o true p = let same : bytes_eq x.key k ≡ true = rw (a.0 p) (bytes_eq-refl k) in absurd (cc (same, o))
    not_brought o false p = p

    go : (t : Bool) → is_fill_of k x ≡ t → AllFill pages memory nvm (without_fill k fills) → AllFill pages memory nvm (without_fill k (x ∷ fills))
    go true p more = rw p more
    go false p more = rw p (record { unlinked = s.0.unlinked; unqueued = s.0.unqueued; unburied = s.0.unburied; wishes = s.0.wishes; brought = b.0 (not_brought p (is_number_in number x.job) refl) }, more)
