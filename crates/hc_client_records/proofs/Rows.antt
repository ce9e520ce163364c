-- Worked rows: what records must tell of a log, by computing.
use Rattle.std.proofs.Common.{◌≡◌, ℕ, Bool, true, false, List, [], ◌∷◌, refl, sym, ◌∙◌}
use Rattle.std.proofs.lemmas.Bool.{false≢true}
use Rattle.hc_history.specs.Note.{Insert, Find, Stored, Hit, Note, Begin, Did, End, Charged, Linked, Freed, Now}
use Rattle.hc_client_records.specs.Records.{Entry, OpenCall, Record, Reconciled}
use Rattle.hc_client_records.specs.Judge.{reconciles}
use Rattle.hc_client_records.proofs.Deciding.{reconciles_decides}

abbrev a : List ℕ
a = 97 ∷ []

abbrev one : List ℕ
one = 111 ∷ 110 ∷ 101 ∷ []

abbrev evil : List ℕ
evil = 101 ∷ 118 ∷ 105 ∷ 108 ∷ []

-- logs/a-call-that-nobody-takes-back: the second call stores, and its reply is never handed out
abbrev log : List Note
log =
    Charged 1 a 0 36 ∷ Begin 1 0 (Insert a one 0) ∷ Linked 1 ∷ Did 1 Stored ∷ End 1 ∷
    Charged 2 a 0 37 ∷ Begin 2 0 (Insert a evil 0) ∷ Freed 1 ∷ Linked 2 ∷ Did 2 Stored ∷
    Begin 3 0 (Find a) ∷ Did 3 (Hit evil) ∷ End 3 ∷ []

abbrev entries : List Entry
entries = record { call = 1; op = Insert a one 0; reply = Stored } ∷ record { call = 3; op = Find a; reply = Hit evil } ∷ []

-- a client that didn't make it agrees with no such log
abbrev without_it : List Record
without_it = record { client = 0; entries = entries; open_calls = []; ticks = [] } ∷ []

call_of_nobody : Reconciled log without_it → ⊥
call_of_nobody h = false≢true ((reconciles_decides log without_it).1 h)

-- one that says that it left it open does
with_it : Reconciled log (record { client = 0; entries = entries; open_calls = record { call = 2; op = Insert a evil 0 } ∷ []; ticks = [] } ∷ [])
with_it = (reconciles_decides log (record { client = 0; entries = entries; open_calls = record { call = 2; op = Insert a evil 0 } ∷ []; ticks = [] } ∷ [])).0 refl

-- and one that says that it asked something else doesn't
with_another : Reconciled log (record { client = 0; entries = entries; open_calls = record { call = 2; op = Insert a one 0 } ∷ []; ticks = [] } ∷ []) → ⊥
with_another h = false≢true ((reconciles_decides log (record { client = 0; entries = entries; open_calls = record { call = 2; op = Insert a one 0 } ∷ []; ticks = [] } ∷ [])).1 h)

-- ---- the clock

abbrev ticking : List ℕ → List Record
ticking ticks = record { client = 0; entries = []; open_calls = []; ticks = ticks } ∷ []

-- it moves as a client moves it, and a moment that is past moves nothing
ticked : Reconciled (Now 5 ∷ Now 7 ∷ []) (ticking (5 ∷ 7 ∷ 6 ∷ []))
ticked = (reconciles_decides (Now 5 ∷ Now 7 ∷ []) (ticking (5 ∷ 7 ∷ 6 ∷ []))).0 refl

-- it doesn't move by itself
tick_of_nobody : Reconciled (Now 5 ∷ Now 9 ∷ []) (ticking (5 ∷ [])) → ⊥
tick_of_nobody h = false≢true ((reconciles_decides (Now 5 ∷ Now 9 ∷ []) (ticking (5 ∷ []))).1 h)

-- and it comes to each moment to which a client moved it
never_ticked : Reconciled (Now 5 ∷ []) (ticking (5 ∷ 7 ∷ [])) → ⊥
never_ticked h = false≢true ((reconciles_decides (Now 5 ∷ []) (ticking (5 ∷ 7 ∷ []))).1 h)
