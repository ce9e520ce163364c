use Rattle.std.proofs.Common.{◌≡◌, ◌+◌, ◌++◌, List, [], ◌∷◌, Some, None, drop, length-drop, sym, ap, ◌∙◌, arith}
use Rattle.std.specs.Prelude.{option_to_list}
use Rattle.std.specs.Option.{option_copied}
use Rattle.hc_memory.specs.Item.{Handle}
use Rattle.hc_state.specs.store.Chosen.{all_stored_as, last_of, before_last}
use Rattle.hc_state.proofs.store.Links.{stored-next}
use Rattle.hc_state.proofs.store.link.last_stored.Goals as goal
use Rattle.hc_state.proofs.store.link.last_stored.Goals.{in-Some, in-Some-last, in_default-last, in_default}

pub loop-i-preserved : goal.loop-i-preserved
loop-i-preserved g c =
    let waiters = c.args.waiters.now in
    let courses = c.args.courses.now in
    let i = c.loop-i.i in
    let kept = c.loop-i.invariant in
    let now : List Handle = all_stored_as (drop i waiters) (drop i courses) in
    let rest : List Handle = all_stored_as (drop (i + 1) waiters) (drop (i + 1) courses) in
    let next : now ≡ option_to_list (option_copied c.stored_in.result) ++ rest =
    stored-next waiters courses i c.index-waiters-i.result c.index-courses-i.result c.requires.courses c.loop-i-test.true c.index-waiters-i.is c.index-courses-i.is
    ∙ ap (λ stored. option_to_list stored ++ rest) (sym c.stored_in.ensures) in
    elim c.match-stored_in.branch [
      | in-Some w ↦
          let some : now ≡ w.in-Some.parked.now ∷ rest = next ∙ ap (λ stored. option_to_list (option_copied stored) ++ rest) w.in-Some.is in
          elim w.match-last.branch [
            | in-Some-last v ↦
                let before = v.in-Some-last.before in
                let earlier = ap (λ list. list.items) (w.earlier-is ∙ v.earlier-is) ∙ v.push_reserved.ensures.items ∙ ap (λ n. c.loop-i.earlier.items ++ n ∷ []) v.number.ensures in
                record {
                  last = ap (λ last. last_of (option_copied last) rest) w.last-is ∙ ap (λ hs. last_of (option_copied c.loop-i.last) hs) (sym some) ∙ kept.last;
                  earlier =
                      (λ j. before_last (earlier j) (option_copied (w.last-is j)) rest)
                      ∙ ap (λ hs. before_last c.loop-i.earlier.items (Some before.now) hs) (sym some)
                      ∙ ap (λ last. before_last c.loop-i.earlier.items (option_copied last) now) (sym v.in-Some-last.is)
                      ∙ kept.earlier;
                  room = rw (w.earlier-is ∙ v.earlier-is) (omega (arith, kept.room, v.push_reserved.ensures.len, v.push_reserved.ensures.capacity, length-drop i waiters, length-drop (i + 1) waiters, c.loop-i-test.true));
                }
            | in_default-last v ↦
                record {
                  last =
                      ap (λ last. last_of (option_copied last) rest) w.last-is
                      ∙ ap (λ hs. last_of None hs) (sym some)
                      ∙ ap (λ last. last_of (option_copied last) now) (sym v.in_default-last.is)
                      ∙ kept.last;
                  earlier =
                      (λ j. before_last ((w.earlier-is ∙ v.earlier-is) j).items (option_copied (w.last-is j)) rest)
                      ∙ ap (λ hs. before_last c.loop-i.earlier.items None hs) (sym some)
                      ∙ ap (λ last. before_last c.loop-i.earlier.items (option_copied last) now) (sym v.in_default-last.is)
                      ∙ kept.earlier;
                  room = rw (w.earlier-is ∙ v.earlier-is) (omega (arith, kept.room, length-drop i waiters, length-drop (i + 1) waiters));
                }
          ]
      | in_default w ↦
          let none : now ≡ rest = next ∙ ap (λ stored. option_to_list (option_copied stored) ++ rest) w.in_default.is in
          record {
            last = ap (λ last. last_of (option_copied last) rest) w.last-is ∙ ap (λ hs. last_of (option_copied c.loop-i.last) hs) (sym none) ∙ kept.last;
            earlier = (λ j. before_last (w.earlier-is j).items (option_copied (w.last-is j)) rest) ∙ ap (λ hs. before_last c.loop-i.earlier.items (option_copied c.loop-i.last) hs) (sym none) ∙ kept.earlier;
            room = rw w.earlier-is (omega (arith, kept.room, length-drop i waiters, length-drop (i + 1) waiters));
          }
    ]
