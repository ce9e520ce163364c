-- A device operation, and what the device holds behind it.
use Rattle.std.proofs.Common.{◌≡◌, ℕ, ◌+◌, ◌==◌, Bool, true, false, List, Option, Some, None, refl, subst, ◌∙◌, arith, sym, ap, cond}
use Rattle.std.specs.Prelude.{if◌then◌else◌, IfSome}
use Rattle.hc_flash.specs.Operations.{Pages, Order, Read, Write, IoResult, Page, Written, Failed, with_page, pages_after, CameOf, failures_of}
use Rattle.hc_machine.specs.World.{result_of, read_of}
use Rattle.hc_run.specs.Steps.{failed_more}
use Rattle.hc_run.specs.Shows.{Window, IsWithin}
use Rattle.hc_run.specs.Devices.{CanRead, Comes, Counts, broke, is_failed, one_if}

with_within : (page : ℕ) (value : Option (List ℕ)) (pages held : Pages) → IsWithin pages held → IsWithin (with_page pages page value) (with_page held page value)
with_within page value pages held within at bytes is = go (page == at) is
  where
    go : (t : Bool) → (if t then value else pages at) ≡ Some bytes → (if t then value else held at) ≡ Some bytes
    go true is = is
    go false is = within at bytes is

-- what is known of the pages after an operation is held after it, where it was before
after_within : (order : Order) (result : IoResult) (pages held : Pages) → IsWithin pages held → IsWithin (pages_after order result pages) (pages_after order result held)
after_within (Write page bytes) Written pages held within = with_within page (Some bytes) pages held within
after_within (Write page bytes) Failed pages held within = with_within page None pages held within
after_within (Write page bytes) (Page read) pages held within = within
after_within (Read page) result pages held within = within

came_is : (order : Order) (result : IoResult) (pages held : Pages) → CameOf held order result → IsWithin pages held → CanRead order pages → result ≡ result_of order (is_failed result) pages
came_is (Read page) (Page bytes) pages held came within (known, is) = ap (λ it. Page it) (subst (λ it. IfSome it (λ written. bytes ≡ written)) (within page known is) came) ∙ sym (ap read_of is)
came_is (Read page) Failed pages held came within can = refl
came_is (Read page) Written pages held came within can = absurd came
came_is (Write page bytes) Written pages held came within can = refl
came_is (Write page bytes) Failed pages held came within can = refl
came_is (Write page bytes) (Page read) pages held came within can = absurd came

module _ (before after : Pages) where
  -- what a device made of an operation comes of it
  pub made : (order : Order) (result : IoResult) → CameOf before order result → ((page : ℕ) → after page ≡ pages_after order result before page) → Comes order false (is_failed result) before result after
  made order result came pages = record {
    comes = λ known within can. came_is order result known before came within can;
    within = λ known within can at bytes is. pages at ∙ after_within order result known before within at bytes is;
  }

-- the step fails it, and the device isn't reached
module _ (held : Pages) where
  failed_within : (order : Order) (pages : Pages) → IsWithin pages held → IsWithin (pages_after order Failed pages) held
  failed_within (Read page) pages within = within
  failed_within (Write page bytes) pages within = forgotten
    where
      forgotten : IsWithin (with_page pages page None) held
      forgotten at bytes is = go (page == at) is
        where
          go : (t : Bool) → (if t then None else pages at) ≡ Some bytes → held at ≡ Some bytes
          go true is = absurd cc
          go false is = within at bytes is

  pub unreached : (order : Order) → Comes order true false held Failed held
  unreached order = record { comes = λ pages within can. refl; within = λ pages within can. failed_within order pages within }

-- ---- failures

counts-one : (window : Window) (before after failures : ℕ) → Counts window before after 0 1 → Counts window before after failures (failures + 1)
counts-one window before after failures c = record { most = omega (arith, c.most); each = λ all. omega (arith, c.each all) }

counts-same : (window : Window) (before after failures : ℕ) → Counts window before after 0 0 → Counts window before after failures failures
counts-same window before after failures c = record { most = omega (arith, c.most); each = λ all. omega (arith, c.each all) }

counts-by : (window : Window) (before after failures : ℕ) (fails : Bool) (result : IoResult) → Counts window before after 0 (one_if (broke fails result)) → Counts window before after failures (failed_more fails (broke fails result) failures)
counts-by window before after failures true result c = counts-same window before after failures c
counts-by window before after failures false Failed c = counts-one window before after failures c
counts-by window before after failures false (Page bytes) c = counts-same window before after failures c
counts-by window before after failures false Written c = counts-same window before after failures c

-- the stage counts what the device counted
pub counts-after : (window : Window) (before after failures failures' : ℕ) (fails : Bool) (result : IoResult) → failures' ≡ failed_more fails (broke fails result) failures → Counts window before after 0 (one_if (broke fails result)) → Counts window before after failures failures'
counts-after window before after failures failures' fails result is c = subst (λ (n : ℕ). Counts window before after failures n) (sym is) (counts-by window before after failures fails result c)

pub counts-none : (window : Window) (before after failures : ℕ) → Counts window before after 0 0 → Counts window before after failures failures
counts-none = counts-same
