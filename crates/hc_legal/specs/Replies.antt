-- What is known of an answer by tests that compute.
use Rattle.std.specs.Prelude.{ℕ, Bool, true, false, List, Option, Some, None}
use Rattle.std.specs.Str.{bytes_eq}
use Rattle.hc_history.specs.Note.{Reply, Stored, Exists, Hit, Miss, FoundInMemory, NotInMemory}
use Rattle.hc_history.specs.Books.{Call}
use Rattle.hc_history.specs.Lawful.{changes}

-- they are the same
abbrev pub reply_eq : Reply → Reply → Bool
reply_eq Stored Stored = true
reply_eq Exists Exists = true
reply_eq (Hit v) (Hit w) = bytes_eq v w
reply_eq Miss Miss = true
reply_eq FoundInMemory FoundInMemory = true
reply_eq NotInMemory NotInMemory = true
reply_eq a b = false

-- the answer of the call changes the key
abbrev pub is_change_of : Option Call → Reply → List ℕ → Bool
is_change_of None reply key = false
is_change_of (Some call) reply key = changes call.op reply key
