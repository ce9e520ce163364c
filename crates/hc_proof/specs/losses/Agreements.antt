-- What the engines tell, and what the definitions of a legal log ask: the same.
use Rattle.std.specs.Prelude.{◌≡◌, ℕ, ◌<◌, ◌||◌, true, List, ◌∷◌, Some}
use Rattle.hc_types.specs.Config.{Config}
use Rattle.hc_types.specs.declared.config.FlashConfig.{FlashConfig}
use Rattle.hc_types.specs.FlashEntry.{FlashEntry}
use Rattle.hc_bucket.specs.Page.{Fits, page_bytes}
use Rattle.hc_engines.specs.small.Bloom.{word_of, could_have}
use Rattle.hc_engines.specs.small.BigHash.{could_hold}
use Rattle.hc_engines.specs.small.Entries.{page_put, put_losses}
use Rattle.hc_history.specs.Note.{Note, Wrote}
use Rattle.hc_history.specs.Pages.{bytes_at, bucket_entries}
use Rattle.hc_bucket.specs.Bloom.{word_has}
use Rattle.hc_history.specs.Lawful.{is_due}
use Rattle.hc_machine.specs.Nvm.{Nvm, is_written_now}
use Rattle.hc_machine.specs.Takes.{loss_notes}
use Rattle.hc_invariant.specs.Tells.{WaitsTell}
use Rattle.hc_invariant.specs.Good.{EnginesFit}
use Rattle.hc_invariant.specs.Laws.{LawfulIn}
use Rattle.hc_invariant.specs.Standing.{written_at, small_at, large_at}
use Rattle.hc_proof.specs.losses.Losses.{Sides}

-- the word of a page has the bits of a key exactly where the page's keys set them
abbrev pub WordIs : Type 0
WordIs = (es : List FlashEntry) (key : List ℕ) → word_has es key ≡ could_have (word_of es) key

-- a tombstone is due where the engines' word says so
abbrev pub DueIs : Type 0
DueIs = (flash : FlashConfig) (older : List Note) (nvm : Nvm) (key : List ℕ) → EnginesFit flash older nvm → WaitsTell older nvm → is_due flash older key ≡ (could_hold nvm.pair.small key || is_written_now nvm key)

-- the losses of a put that was written are lawful behind the note of its page
abbrev pub FullIsLawful : Type 0
FullIsLawful = (config : Config) (flash : FlashConfig) (older tail : List Note) (page : ℕ) (x : FlashEntry) (es : List FlashEntry) → config.flash ≡ Some flash → page < flash.buckets
    → bucket_entries flash older page ≡ es → Fits flash.page (page_put flash.page x es)
    → LawfulIn config (Wrote page (page_bytes flash.page (page_put flash.page x es)) true ∷ older) (loss_notes (put_losses flash.page x es)) tail

-- what the engines have at a key: each has the key, and is of the engine that has it
abbrev pub SidesOf : Type 0
SidesOf = (flash : FlashConfig) (older : List Note) (nvm : Nvm) (key : List ℕ) → EnginesFit flash older nvm → Sides flash key (written_at (Some nvm) key) (small_at (bytes_at older) (Some nvm) key) (large_at (bytes_at older) (Some nvm) key)
