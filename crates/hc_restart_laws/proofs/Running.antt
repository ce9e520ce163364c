-- Runs that go on are one run.
use Rattle.std.proofs.Common.{◌≡◌, List, [], ◌∷◌, ◌++◌, refl, sym, ap, ◌∙◌, subst}
use Rattle.std.proofs.lemmas.List.{append_assoc}
use Rattle.hc_history.specs.Note.{Note}
use Rattle.hc_history.specs.Lawful.{Legal}
use Rattle.hc_history.specs.Honest.{Honest}
use Rattle.hc_machine.specs.Cache.{Cache, new_cache}
use Rattle.hc_machine.specs.Call.{CacheCall, act, acts}
use Rattle.hc_theorem.proofs.headlines.WholeRuns as theorem
use Rattle.hc_restart_laws.specs.Runs.{made, told, calls_of, RunsAreOne, RunsAreLegal}

-- one log over both
one-log : (first second : List CacheCall) (cache : Cache) → (acts (first ++ second) cache).log ≡ (acts first cache).log ++ (acts second (acts first cache).cache).log
one-log [] second cache = refl
one-log (call ∷ later) second cache =
    let part = (act call cache).part in
    let next = (act call cache).cache in
    ap (λ rest. part ++ rest) (one-log later second next) ∙ sym (append_assoc part (acts later next).log (acts second (acts later next).cache).log)

pub runs-are-one : RunsAreOne
runs-are-one cache [] on = refl
runs-are-one cache (run ∷ runs) on =
    let rest : told runs ≡ (acts (calls_of runs) (acts run.calls cache).cache).log = subst (λ (c : Cache). told runs ≡ (acts (calls_of runs) (acts run.calls c).cache).log) on.0 (runs-are-one (made run).cache runs on.1) in
    ap (λ (c : Cache). (acts run.calls c).log ++ told runs) on.0
    ∙ (ap (λ (log : List Note). (acts run.calls cache).log ++ log) rest
    ∙ sym (one-log run.calls (calls_of runs) cache))

pub runs-are-legal : RunsAreLegal
runs-are-legal config runs right on sized honest =
    let one = runs-are-one (new_cache config) runs on in
    subst (λ (log : List Note). Legal config log) (sym one) (theorem.headline_of_logs config (calls_of runs) right sized (subst Honest one honest))
