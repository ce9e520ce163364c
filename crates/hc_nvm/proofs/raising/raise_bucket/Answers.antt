use Rattle.std.proofs.Common.{◌≡◌, List, [], ◌∷◌, Some, length, map, sym, ap, ◌∙◌, arith}
use Rattle.std.specs.List.{filter, find}
use Rattle.std.specs.Prelude.{option_map}
use Rattle.hc_types.specs.declared.config.FlashConfig.{FlashConfig}
use Rattle.hc_history.specs.Note.{Raised}
use Rattle.hc_history.specs.Told.{told_more}
use Rattle.hc_history.proofs.Telling.{told-twice, told-nothing}
use Rattle.hc_machine.specs.Nvm.{Tombstone}
use Rattle.hc_nvm.specs.After.{raised, standing}
use Rattle.hc_waiting.specs.Line.{without_first}
use Rattle.hc_waiting.specs.Tombstones.{is_of_bucket}
use Rattle.hc_nvm.proofs.Raises.{key_in, raised-first, standing-first, fewer-first, none-passes, all-stand, stays-whole}
use Rattle.hc_nvm.proofs.raising.raise_bucket.Goals as goal

pub loop-key-smaller : goal.loop-key-smaller
loop-key-smaller g c =
    let test = is_of_bucket c.loop-key.stones.flash c.args.bucket in
    omega (arith, ap (λ (xs : List Tombstone). length xs) {y = without_first test c.loop-key.stones.stones} c.in-Some.ensures.stones, fewer-first test c.in-Some.key c.loop-key.stones.stones c.in-Some.ensures.key)

pub loop-key-preserved : goal.loop-key-preserved
loop-key-preserved g c =
    let kept = c.loop-key.invariant in
    let log = g.N.Listener.told c.loop-key.notes in
    let stones = c.loop-key.stones.stones in
    let test = is_of_bucket c.args.stones.now.flash c.args.bucket in
    let at : Some c.in-Some.key ≡ option_map key_in (find test stones) =
    c.in-Some.ensures.key ∙ ap (λ (f : FlashConfig). option_map key_in (find (is_of_bucket f c.args.bucket) stones)) kept.flash in
    let rest : c.remove_first.new.self.stones ≡ without_first test stones =
    c.in-Some.ensures.stones ∙ ap (λ (f : FlashConfig). without_first (is_of_bucket f c.args.bucket) stones) kept.flash in
    record {
      flash = c.in-Some.ensures.flash ∙ kept.flash;
      left = ap (standing test) rest ∙ standing-first test stones ∙ kept.left;
      told = (λ i. told_more (c.raised.ensures.told i) (raised test (rest i))) ∙ told-twice log (Raised c.in-Some.key ∷ []) (raised test (without_first test stones)) ∙ ap (told_more log) (sym (raised-first test c.in-Some.key stones at)) ∙ kept.told;
      line = omega (arith, kept.line, c.in-Some.ensures.room);
      room = omega (arith, kept.room, c.raised.ensures.room, ap (λ (xs : List Tombstone). length xs) rest, fewer-first test c.in-Some.key stones at);
    }

pub returns-clause-left : goal.returns-clause-left
returns-clause-left g c =
    let kept = c.loop-key.invariant in
    let stones = c.loop-key.stones.stones in
    let test = is_of_bucket c.args.stones.now.flash c.args.bucket in
    let none : filter test stones ≡ [] =
    none-passes test stones (c.in_default.ensures.key ∙ ap (λ (f : FlashConfig). option_map key_in (find (is_of_bucket f c.args.bucket) stones)) kept.flash) in
    c.in_default.ensures.stones ∙ ap (λ (f : FlashConfig). without_first (is_of_bucket f c.args.bucket) stones) kept.flash
    ∙ stays-whole test stones none ∙ sym (all-stand test stones none) ∙ kept.left

pub returns-clause-told : goal.returns-clause-told
returns-clause-told g c =
    let kept = c.loop-key.invariant in
    let log = g.N.Listener.told c.loop-key.notes in
    let stones = c.loop-key.stones.stones in
    let test = is_of_bucket c.args.stones.now.flash c.args.bucket in
    let none : filter test stones ≡ [] =
    none-passes test stones (c.in_default.ensures.key ∙ ap (λ (f : FlashConfig). option_map key_in (find (is_of_bucket f c.args.bucket) stones)) kept.flash) in
    sym (told-nothing log) ∙ ap (λ (xs : List Tombstone). told_more log (map (λ (stone : Tombstone). Raised stone.key) xs)) (sym none) ∙ kept.told
