-- What a result that is handed in means.
use Rattle.std.proofs.Common.{◌≡◌, ◌∙◌, ℕ, List, Some, None, refl, sym, ap}
use Rattle.hc_types.specs.declared.config.FlashConfig.{FlashConfig}
use Rattle.hc_engines.specs.large.Block.{Block, Work, Writing, Getting, work_of}
use Rattle.hc_engines.specs.Engine.{IoResult, Page, Written, Failed}
use Rattle.hc_block.specs.Works.{reading_in, reading_at}
use Rattle.hc_block.specs.Moves.{resume_by}
use Rattle.hc_block.specs.Turns.{IsTurn, IsTurnOf}
use Rattle.hc_block.specs.declared.turns.Turn.{Turn}
use Rattle.hc_block.specs.declared.turns.Turn.TheVariants as turns

page_same : (a b : List ℕ) → Page a ≡ Page b → a ≡ b
page_same a b e = cc

pub turned : (flash : FlashConfig) (number : ℕ) (s : Block) (result : IoResult) (turn : Turn) (w : Work) → work_of number s.jobs ≡ Some w → IsTurn turn w result → IsTurnOf flash number s result turn
turned flash number s (Page page) turns.Unknown (Writing r bytes) e h = rw e refl
turned flash number s Written turns.Unknown (Writing r bytes) e h = absurd (cc)
turned flash number s Failed turns.Unknown (Writing r bytes) e h = absurd (cc)
turned flash number s (Page page) turns.Unknown (Getting reading) e h = absurd (cc)
turned flash number s Written turns.Unknown (Getting reading) e h = rw e refl
turned flash number s Failed turns.Unknown (Getting reading) e h = absurd (cc)
turned flash number s Written (turns.Written r) (Writing q bytes) e h = rw h ((bytes, e), rw e refl)
turned flash number s Failed (turns.WriteFailed r) (Writing q bytes) e h = rw h ((bytes, e), rw e refl)
turned flash number s (Page page) turns.PageRead (Getting reading) e h =
    let now : reading_at number s.jobs ≡ reading = ap reading_in e in
    (e ∙ ap (λ rd. Some (Getting rd)) (sym now), tt, λ other same. let p2 : page ≡ other = page_same page other same in rw (now, ← p2, e) refl)
turned flash number s Failed turns.ReadFailed (Getting reading) e h =
    let now : reading_at number s.jobs ≡ reading = ap reading_in e in
    (e ∙ ap (λ rd. Some (Getting rd)) (sym now), (rw (now, e) refl))
turned flash number s (Page page) (turns.Written r) (Writing q bytes) e h = absurd h
turned flash number s Failed (turns.Written r) (Writing q bytes) e h = absurd h
turned flash number s (Page page) (turns.Written r) (Getting reading) e h = absurd h
turned flash number s Written (turns.Written r) (Getting reading) e h = absurd h
turned flash number s Failed (turns.Written r) (Getting reading) e h = absurd h
turned flash number s (Page page) (turns.WriteFailed r) (Writing q bytes) e h = absurd h
turned flash number s Written (turns.WriteFailed r) (Writing q bytes) e h = absurd h
turned flash number s (Page page) (turns.WriteFailed r) (Getting reading) e h = absurd h
turned flash number s Written (turns.WriteFailed r) (Getting reading) e h = absurd h
turned flash number s Failed (turns.WriteFailed r) (Getting reading) e h = absurd h
turned flash number s (Page page) turns.PageRead (Writing q bytes) e h = absurd h
turned flash number s Written turns.PageRead (Writing q bytes) e h = absurd h
turned flash number s Failed turns.PageRead (Writing q bytes) e h = absurd h
turned flash number s Written turns.PageRead (Getting reading) e h = absurd h
turned flash number s Failed turns.PageRead (Getting reading) e h = absurd h
turned flash number s (Page page) turns.ReadFailed (Writing q bytes) e h = absurd h
turned flash number s Written turns.ReadFailed (Writing q bytes) e h = absurd h
turned flash number s Failed turns.ReadFailed (Writing q bytes) e h = absurd h
turned flash number s (Page page) turns.ReadFailed (Getting reading) e h = absurd h
turned flash number s Written turns.ReadFailed (Getting reading) e h = absurd h

pub unknown_is : (flash : FlashConfig) (number : ℕ) (s : Block) (result : IoResult) → work_of number s.jobs ≡ None → resume_by flash number result s ≡ None
unknown_is flash number s result e = rw e refl
