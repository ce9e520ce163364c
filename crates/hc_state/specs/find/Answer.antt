-- What a find answers.
use Rattle.std.specs.Prelude.{ℕ, List, [], ◌∷◌, Option, Some, None}
use Rattle.std.specs.Option.{option_map_or}
use Rattle.hc_types.specs.FlashEntry.{FlashEntry}
use Rattle.hc_memory.specs.Pool.{Pool}
use Rattle.hc_memory.specs.Memory.{linked_at}
use Rattle.hc_history.specs.Note as note
use Rattle.hc_history.specs.Note.{Note, Reply}
use Rattle.hc_history.specs.Told.{Heard, told_more, told_count}
use Rattle.hc_history.specs.declared.stats.Kind.{Kind}
use Rattle.hc_machine.specs.Nvm.{Nvm}
use Rattle.hc_machine.specs.Cache.{Answer, Replied, Waits}
use Rattle.hc_machine.specs.Evicting.{entry_of_item}
use Rattle.hc_machine.specs.Calls.{waiting_at}
use Rattle.hc_state.specs.declared.answers.Found.{Found}
use Rattle.hc_state.specs.declared.answers.Found.TheVariants.{Hit, Miss, Waiting}

abbrev pub found_answer : {A : Type 0} → Found A → Answer
found_answer (Hit value) = Replied (note.Hit value)
found_answer Miss = Replied note.Miss
found_answer (Waiting call) = Waits call

-- the reply of a find that came to this value
abbrev pub reply_by : Option (List ℕ) → Reply
reply_by None = note.Miss
reply_by (Some value) = note.Hit value

-- what stands under the key: its item, or else its put that waits
abbrev pub stands_in : List Pool → Option Nvm → List ℕ → Option FlashEntry
stands_in pools nvm key = option_map_or (λ item. Some (entry_of_item item)) (linked_at key pools) (waiting_at nvm key)

-- a find is answered: by its note, where that is kept, and else by its kind alone
abbrev pub told_did : Heard → Option Note → Kind → Heard
told_did heard (Some did) kind = told_more heard (did ∷ [])
told_did heard None kind = told_count heard kind
