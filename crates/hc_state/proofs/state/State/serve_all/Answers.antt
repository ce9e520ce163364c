use Rattle.std.proofs.Common.{List, ◌∷◌, ◌*◌, length, sym, ap, ◌∙◌, arith, subst}
use Rattle.std.specs.Vec.Iter.{into_iter_items}
use Rattle.hc_history.specs.Told.{is_log}
use Rattle.hc_machine.specs.Nvm.{Waiter}
use Rattle.hc_state.specs.wait.Courses.{AllFit, all_served_as}
use Rattle.hc_state.specs.Whole.{costs}
use Rattle.hc_state.proofs.wait.Courses.{does-there}
use Rattle.hc_state.proofs.wait.Serves.{Left, left-start, left-as, left-next, left-none, has-course}
use Rattle.hc_state.proofs.state.State.serve_all.Goals as goal

pub serve-standing-requires : goal.serve-standing-requires
serve-standing-requires g c =
    let key = c.args.key.now in
    let old = c.args.self.now in
    let told = all_served_as c.args.waiters.items c.args.courses.items c.args.standing old.cache in
    let waiters = c.in-Some.waiter ∷ into_iter_items c.next.new.self in
    let courses = c.in-Some-planned.course ∷ into_iter_items c.next-planned.new.self in
    let left = left-as key told old (length c.args.waiters.items) (into_iter_items c.loop-waiter.waiter-iterator) waiters (into_iter_items c.loop-waiter.courses) courses c.loop-waiter.standing c.loop-waiter.self c.in-Some.ensures.steps.0 c.in-Some-planned.ensures.cases.0 c.loop-waiter.invariant.left in
    record {
      fits = left.fit.0;
      may_free = left.may_free.0;
      stones = omega (arith, left.stones_left);
      room = omega (arith, left.notes_left);
    }

pub unreachable-requires : goal.unreachable-requires
unreachable-requires g c =
    let kept = c.loop-waiter.invariant in
    let courses = into_iter_items c.loop-waiter.courses in
    let keeps = is_log c.loop-waiter.self.log in
    let rest = into_iter_items c.next.new.self in
    has-course keeps c.args.key.now c.in-Some.waiter rest courses (subst (λ (ws : List Waiter). AllFit keeps c.args.key.now ws courses) c.in-Some.ensures.steps.0 kept.left.fit) (kept.planned ∙ c.in-None-planned.ensures.cases.0)

pub loop-waiter-preserved : goal.loop-waiter-preserved
loop-waiter-preserved g c =
    let kept = c.loop-waiter.invariant in
    let key = c.args.key.now in
    let old = c.args.self.now in
    let told = all_served_as c.args.waiters.items c.args.courses.items c.args.standing old.cache in
    let all = length c.args.waiters.items in
    let w = c.in-Some.waiter in
    let course = c.in-Some-planned.course in
    let waiters = into_iter_items c.next.new.self in
    let courses = into_iter_items c.next-planned.new.self in
    let standing = c.loop-waiter.standing in
    let mid = c.loop-waiter.self in
    let new = c.serve-standing.new.self in
    let left = left-as key told old all (into_iter_items c.loop-waiter.waiter-iterator) (w ∷ waiters) (into_iter_items c.loop-waiter.courses) (course ∷ courses) standing mid c.in-Some.ensures.steps.0 c.in-Some-planned.ensures.cases.0 kept.left in
    record {
      left = subst (λ s. Left key told old all waiters courses s new) (sym c.serve-standing.ensures.standing) (left-next key told old all w waiters course courses standing mid new left c.serve-standing.ensures.does);
      counted = omega (arith, ap length c.in-Some.ensures.steps.0, kept.counted, c.in-Some.ensures.steps.1);
      planned = omega (arith, ap length c.in-Some-planned.ensures.cases.0, kept.planned, c.in-Some-planned.ensures.cases.1);
    }

pub returns-clause-does : goal.returns-clause-does
returns-clause-does g c =
    let kept = c.loop-waiter.invariant in
    let old = c.args.self.now in
    let told = all_served_as c.args.waiters.items c.args.courses.items c.args.standing old.cache in
    left-none c.args.key.now told old (length c.args.waiters.items) (into_iter_items c.loop-waiter.waiter-iterator) (into_iter_items c.loop-waiter.courses) c.loop-waiter.standing c.loop-waiter.self (kept.counted ∙ c.in-None.ensures.steps.0) kept.left

pub returns-clause-machine : goal.returns-clause-machine
returns-clause-machine g c there plan =
    let kept = c.loop-waiter.invariant in
    let old = c.args.self.now in
    let waiters = c.args.waiters.items in
    let courses = c.args.courses.items in
    let all = length waiters in
    let told = all_served_as waiters courses c.args.standing old.cache in
    does-there (is_log old.log) c.args.key.now waiters there courses c.args.standing (costs (6 * all) 0 all 0) old c.loop-waiter.self plan
    (left-none c.args.key.now told old all (into_iter_items c.loop-waiter.waiter-iterator) (into_iter_items c.loop-waiter.courses) c.loop-waiter.standing c.loop-waiter.self (kept.counted ∙ c.in-None.ensures.steps.0) kept.left)

pub loop-waiter-init : goal.loop-waiter-init
loop-waiter-init g c =
    let key = c.args.key.now in
    let old = c.args.self.now in
    let waiters = c.args.waiters.items in
    let courses = c.args.courses.items in
    let given = c.into_iter-waiter-iterator.ensures.into_iter_gives in
    let plan = c.into_iter-courses.ensures in
    let start = left-start key old waiters courses c.args.standing c.requires.fit c.requires.may_free c.requires.stones c.requires.room in
    record {
      left = left-as key (all_served_as waiters courses c.args.standing old.cache) old (length waiters) waiters (into_iter_items c.into_iter-waiter-iterator.result) courses (into_iter_items c.into_iter-courses.result) c.args.standing old (sym given.0) (sym plan.rest) start;
      counted = omega (arith, given.1, ap length given.0, c.args.waiters.ok.0);
      planned = omega (arith, plan.len, ap length plan.rest, c.args.courses.ok.0);
    }
