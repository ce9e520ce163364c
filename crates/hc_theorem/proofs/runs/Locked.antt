-- Each call of the cache keeps what a lock round it says.
use Rattle.std.proofs.Common.{◌≡◌, List, [], ◌++◌, sym, subst}
use Rattle.hc_history.specs.Note.{Note}
use Rattle.hc_history.specs.Lawful.{past}
use Rattle.hc_history.proofs.Appended.{Lawful-append, past-append}
use Rattle.hc_machine.specs.Cache.{new_cache}
use Rattle.hc_invariant.specs.Good.{Good}
use Rattle.hc_invariant.proofs.Beginning.{new_good}
use Rattle.hc_invariant.proofs.Ends.{good_ends}
use Rattle.hc_invariant.specs.Laws.{Laws}
use Rattle.hc_machine.specs.Call.{act}
use Rattle.hc_theorem.proofs.runs.Honesty.{honest-split, act_kept}
use Rattle.hc_theorem.specs.runs.Lock.{NewIsGuarded, CallsStayGuarded}

pub new_is_guarded : NewIsGuarded
new_is_guarded config can honest =
    let good = new_good config can in
    record { legal = record { lawful = tt; at_end = good_ends config [] (new_cache config) good.agrees }; good = good }

pub calls_stay_guarded : Laws → CallsStayGuarded
calls_stay_guarded laws config log cache event sized guarded honest =
    let moved = act event cache in
    let two = honest-split [] log moved.part honest in
    let was = guarded two.0 in
    let kept = act_kept laws config (past [] log) cache event sized was.good two.1 in
    let ends : past [] (log ++ moved.part) ≡ past (past [] log) moved.part = past-append [] log moved.part in
    let good : Good config (past [] (log ++ moved.part)) moved.cache = subst (λ (older : List Note). Good config older moved.cache) (sym ends) kept.good in
    record {
      legal = record { lawful = Lawful-append config [] log moved.part was.legal.lawful kept.lawful; at_end = good_ends config (past [] (log ++ moved.part)) moved.cache good.agrees };
      good = good;
    }
