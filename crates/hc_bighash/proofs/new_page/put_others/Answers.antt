use Rattle.std.proofs.Common.{◌++◌, List, ℕ, ap, ◌∙◌, arith}
use Rattle.std.specs.Str.{bytes_eq}
use Rattle.hc_bucket.specs.Placed.{entry_placed}
use Rattle.hc_bighash.proofs.Looping.{differs, none_kept, few, stays_on}
use Rattle.hc_bighash.proofs.new_page.put_others.Goals as goal

pub loop-first-init : goal.loop-first-init
loop-first-init g c = none_kept c.args.key.now c.args.page.now.items c.args.entries

pub overflow_add-count : goal.overflow_add-count
overflow_add-count g c =
    omega (
      arith,
      few c.args.key.now c.args.page.now.items c.loop-first.page.items c.args.entries c.loop-first.entries c.take_first.new.self (entry_placed c.in-Some.first) c.loop-first.count c.loop-first.word c.in-Some.ensures.first
          (differs (bytes_eq c.in-Some.first.key.now c.args.key.now) c.if-ne.ensures) c.requires c.loop-first.invariant,
    )

pub loop-first-preserved-then-ne : goal.loop-first-preserved-then-ne
loop-first-preserved-then-ne g c =
    stays_on c.args.key.now c.args.page.now.items c.loop-first.page.items c.extend_from_slice.new.self.items c.args.entries c.loop-first.entries c.take_first.new.self (entry_placed c.in-Some.first) c.loop-first.count c.loop-first.word c.bits_of-word.result c.in-Some.ensures.first
    (differs (bytes_eq c.in-Some.first.key.now c.args.key.now) c.if-ne.ensures)
    (c.in_ok-extend_from_slice.ensures.items ∙ ap (λ (z : List ℕ). c.loop-first.page.items ++ z) c.in-Some.ensures.spelled) c.bits_of-word.ensures c.loop-first.invariant
