-- A region is reclaimed where too few are clean.
use Rattle.std.proofs.Common.{◌≡◌, ℕ, ◌<◌, true, List, nat_lt, refl, arith}
use Rattle.std.proofs.lemmas.Bool.{lt-ltb}
use Rattle.hc_types.specs.declared.config.FlashConfig.{FlashConfig}
use Rattle.hc_history.specs.Note.{Note}
use Rattle.hc_history.specs.Regions.{clean_count, filed}
use Rattle.hc_legal.specs.Judge.{is_reclaimed}
use Rattle.hc_judge_flash.specs.Filed.{is_first_filed}

pub few_clean : (flash : FlashConfig) (older : List Note) (kept region clean : ℕ) → clean ≡ clean_count flash older → clean < flash.clean → is_first_filed older (filed flash older) kept region ≡ is_reclaimed flash older kept region
few_clean flash older kept region clean e h = let less : nat_lt (clean_count flash older) flash.clean ≡ true = lt-ltb (clean_count flash older) flash.clean (omega (arith, e, h)) in rw less refl
