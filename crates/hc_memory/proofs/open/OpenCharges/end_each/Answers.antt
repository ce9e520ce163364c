use Rattle.std.proofs.Common.{◌≡◌, ◌+◌, ℕ, List, [], drop, refl, sym, ap, ◌∙◌}
use Rattle.std.proofs.lemmas.List.{drop_all, drop_more}
use Rattle.hc_memory.specs.Charges.{Book, all_closed}
use Rattle.hc_memory.proofs.open.OpenCharges.end_each.Goals as goal

pub loop-number-init : goal.loop-number-init
loop-number-init g c = record { pools = refl; rest = refl }

pub loop-number-preserved : goal.loop-number-preserved
loop-number-preserved g c =
    let numbers = c.args.numbers.now in
    let i = c.loop-number.number-index in
    let was : Book = c.loop-number.self in
    record {
      pools = ap (λ (book : Book). book.pools) c.end.ensures ∙ c.loop-number.invariant.pools;
      rest =
          ap (λ (book : Book). all_closed (drop (i + 1) numbers) book.charges) c.end.ensures
          ∙ ap (λ (ns : List ℕ). all_closed ns was.charges) (sym (drop_more numbers i 0 c.loop-number-test.true))
          ∙ c.loop-number.invariant.rest;
    }

pub returns : goal.returns
returns g c =
    let numbers = c.args.numbers.now in
    let now : Book = c.loop-number.self in
    let none : drop c.loop-number.number-index numbers ≡ [] = drop_all c.loop-number.number-index numbers c.loop-number-test.false in
    let charges = ap (λ (ns : List ℕ). all_closed ns now.charges) (sym none) ∙ c.loop-number.invariant.rest in
    λ j. record { charges = charges j; pools = c.loop-number.invariant.pools j }
