-- What removes come to.
use Rattle.std.specs.Prelude.{ℕ, Option, Some, None}
use Rattle.hc_history.specs.Note as note
use Rattle.hc_history.specs.Note.{Reply}
use Rattle.hc_machine.specs.Cache.{Answer, Replied}
use Rattle.hc_calls.specs.declared.answers.Removed.{Removed}
use Rattle.hc_calls.specs.declared.answers.Removed.TheVariants.{FoundInMemory, NotInMemory}

abbrev pub removed_reply : Removed → Reply
removed_reply FoundInMemory = note.FoundInMemory
removed_reply NotInMemory = note.NotInMemory

abbrev pub removed_answer : Removed → Answer
removed_answer removed = Replied (removed_reply removed)

-- what a remove answers where the key's item had this charge
abbrev pub removed_of : Option ℕ → Removed
removed_of None = NotInMemory
removed_of (Some number) = FoundInMemory
