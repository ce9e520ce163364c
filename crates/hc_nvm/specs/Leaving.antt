-- What is told of a put that goes.
use Rattle.std.specs.Prelude.{List, [], ◌∷◌, Option, Some, None}
use Rattle.hc_types.specs.FlashEntry.{FlashEntry}
use Rattle.hc_history.specs.Note.{Note, Unqueued}

-- it waits no longer, where there was one
abbrev pub unqueued : Option FlashEntry → List Note
unqueued None = []
unqueued (Some put) = Unqueued put.key ∷ []
