-- What a result that is handed in means.
use Rattle.std.specs.Prelude.{◌≡◌, ℕ, false, ⊤, List, Some, None}
use Rattle.hc_types.specs.declared.config.FlashConfig.{FlashConfig}
use Rattle.hc_types.specs.Loss.{Fault}
use Rattle.hc_engines.specs.Engine.{IoResult, Page, Written, Failed}
use Rattle.hc_engines.specs.large.Region.{region_at}
use Rattle.hc_engines.specs.large.Block.{Block, Work, Writing, Getting, end_job}
use Rattle.hc_engines.specs.large.Steps.{wrote_page, end_region, got_page, let_go, failed_read}
use Rattle.hc_engines.specs.pair.Pair.{waits_for}
use Rattle.hc_block.specs.Works.{reading_at, IsReading}
use Rattle.hc_block.specs.Settling.{IsWriting}
use Rattle.hc_block.specs.Moves.{resume_by}
use Rattle.hc_block.specs.declared.turns.Turn.{Turn}
use Rattle.hc_block.specs.declared.turns.Turn.TheVariants as turns

abbrev pub IsTurn : Turn → Work → IoResult → Type 0
IsTurn turns.Unknown work result = waits_for work result ≡ false
IsTurn (turns.Written r) (Writing q bytes) Written = r ≡ q
IsTurn (turns.WriteFailed r) (Writing q bytes) Failed = r ≡ q
IsTurn turns.PageRead (Getting reading) (Page page) = ⊤
IsTurn turns.ReadFailed (Getting reading) Failed = ⊤
IsTurn turn work result = ⊥

abbrev pub IsPage : IoResult → Type 0
IsPage (Page page) = ⊤
IsPage Written = ⊥
IsPage Failed = ⊥

-- what each turn is of the machine's step
abbrev pub IsTurnOf : FlashConfig → ℕ → Block → IoResult → Turn → Type 0
IsTurnOf flash number s result turns.Unknown = resume_by flash number result s ≡ None
IsTurnOf flash number s result (turns.Written r) = IsWriting number r s × (resume_by flash number result s ≡ Some (wrote_page flash number r (region_at r s.regions).status (end_job number s)))
IsTurnOf flash number s result (turns.WriteFailed r) = IsWriting number r s × (resume_by flash number result s ≡ Some (end_region Fault r (end_job number s)))
IsTurnOf flash number s result turns.PageRead = IsReading number s.jobs × IsPage result × ((page : List ℕ) → result ≡ Page page → resume_by flash number result s ≡ Some (got_page flash number (reading_at number s.jobs) page (end_job number s)))
IsTurnOf flash number s result turns.ReadFailed = IsReading number s.jobs × (resume_by flash number result s ≡ Some (let_go (reading_at number s.jobs).place.region (failed_read flash (reading_at number s.jobs) (end_job number s))))
