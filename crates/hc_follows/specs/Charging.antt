-- What a part may do to charges, by the kind of its step: which it makes, and which open ones it frees.
use Rattle.std.specs.Prelude.{◌≡◌, ℕ, ◌+◌, ◌==◌, Bool, true, false, not, ◌&&◌, ◌||◌, List, [], ◌∷◌}
use Rattle.std.specs.List.{list_any}
use Rattle.std.specs.Str.{bytes_eq}
use Rattle.hc_history.specs.Note.{Note, Exists, Did, Charged, Linked, Freed}
use Rattle.hc_history.specs.Books.{Call, open_calls}
use Rattle.hc_history.specs.Regions.{key_of}
use Rattle.hc_machine.specs.Takes.{Finished}
use Rattle.hc_machine.specs.Cache.{Took}
use Rattle.hc_machine.specs.World.{Says}
use Rattle.hc_machine.specs.Schedule.{Deed, Open, Discard, FillerTake, Finish, Told, Tells, Filled}
use Rattle.hc_follows.specs.Desk.{Adding, Desk}
use Rattle.hc_follows.specs.Claims.{is_open}

-- ---- charges that are made

-- how many charges a part makes
abbrev pub charged_in : List Note → ℕ
charged_in [] = 0
charged_in (Charged number key pool bytes ∷ rest) = charged_in rest + 1
charged_in (note ∷ rest) = charged_in rest

-- the next note links this charge
abbrev pub is_linked_next : ℕ → List Note → Bool
is_linked_next number (Linked other ∷ rest) = other == number
is_linked_next number rest = false

-- a call that isn't answered yet asks for the key
abbrev pub is_waited_for : List Note → List ℕ → Bool
is_waited_for older key = list_any (λ (call : Call). bytes_eq (key_of call.op) key) (open_calls older)

-- a part makes one charge at most, of a key that a call waits for, and the note right behind it links it
abbrev pub links_what_it_charges : List Note → List Note → Bool
links_what_it_charges older [] = true
links_what_it_charges older (Charged number key pool bytes ∷ rest) = is_waited_for older key && is_linked_next number rest && (charged_in rest == 0)
links_what_it_charges older (note ∷ rest) = links_what_it_charges older rest

-- An Open that fills its slot makes one charge. A filler's take, or a result, that ends a fill may make one, for the fill's item,
-- which it links. No other step makes any.
abbrev pub Charges : List Note → Deed → Told → List Note → Type 0
Charges older (Open slot pool key value ttl) Filled part = charged_in part ≡ 1
Charges older FillerTake (Tells (Says (Took Finished))) part = links_what_it_charges older part ≡ true
Charges older (Finish job) (Tells (Says (Took Finished))) part = links_what_it_charges older part ≡ true
Charges older deed told part = charged_in part ≡ 0

-- ---- open charges that are freed

-- the next note answers the add that keeps this charge that its key exists
abbrev pub is_refused_next : List Adding → ℕ → List Note → Bool
is_refused_next adds number (Did call Exists ∷ rest) = list_any (λ (adding : Adding). (adding.call == call) && (adding.charge == number)) adds
is_refused_next adds number rest = false

-- each charge that is freed is linked there, or it is that of an add that is refused so
abbrev pub frees_no_open : List Adding → List Note → List Note → Bool
frees_no_open adds older [] = true
frees_no_open adds older (Freed number ∷ rest) = (not (is_open number older) || is_refused_next adds number rest) && frees_no_open adds (Freed number ∷ older) rest
frees_no_open adds older (note ∷ rest) = frees_no_open adds (note ∷ older) rest

-- a Discard gives its slot's open charge up, and no other step frees one but for an add that is answered that its key exists
abbrev pub Frees : Deed → Desk → List Note → Type 0
Frees (Discard slot) desk part = Unit {0}
Frees deed desk part = frees_no_open desk.adds desk.older part ≡ true
