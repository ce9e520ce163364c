-- What contracts see of a cache, and what a call of it does.
use Rattle.std.specs.Prelude.{◌≡◌}
use Rattle.hc_history.specs.Told.{Heard, told_more}
use Rattle.hc_machine.specs.Cache.{Cache, Moved, Answer}
use Rattle.hc_state.specs.Whole.{Whole}

-- the machine's cache, and what is heard of its log
pub record Logged : Type 0 where
  pub cache : Cache
  pub log : Heard

-- as it is seen, of what holds it
abbrev pub logged_of : Whole → Logged
logged_of whole = record { cache = whole.cache; log = whole.log }

-- a call is the machine's step: the cache that it leaves, what it is answered, and what it tells
pub record IsCall (moved : Moved) (answer : Answer) (old new : Logged) : Type 0 where
  pub cache : new.cache ≡ moved.cache
  pub answer_is : answer ≡ moved.answer
  pub log : new.log ≡ told_more old.log moved.part
