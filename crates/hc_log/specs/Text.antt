-- A log as text: the lines of its configuration, and one for each note.
use Rattle.std.specs.Prelude.{ℕ, List, [], ◌∷◌, ◌++◌, Option, Some, None, codes, map}
use Rattle.std.specs.Fmt.{decimal}
use Rattle.std.specs.List.{concat}
use Rattle.hc_types.specs.Config.{Config}
use Rattle.hc_types.specs.declared.config.PoolSize.{PoolSize}
use Rattle.hc_types.specs.declared.config.FlashConfig.{FlashConfig}
use Rattle.hc_history.specs.Note.{Note}
use Rattle.hc_trace_text.specs.Texts.{line_text}
use Rattle.hc_log_text.specs.Text.{joined, flash_text, note_text}

abbrev pub pool_line : PoolSize → List ℕ
pool_line size = line_text (joined (codes "pool" ∷ decimal size.bytes ∷ decimal size.items ∷ []))

abbrev pub flash_line : Option FlashConfig → List ℕ
flash_line None = line_text (codes "noflash")
flash_line (Some flash) = line_text (flash_text flash)

abbrev pub note_line : Note → List ℕ
note_line note = line_text (note_text note)

abbrev pub log_text : Config → List Note → List ℕ
log_text config notes = concat (map pool_line config.pools) ++ flash_line config.flash ++ concat (map note_line notes)
