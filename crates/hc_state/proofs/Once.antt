-- What comes back behind others, none of them of its key, is there once.
use Rattle.std.proofs.Common.{◌≡◌, ℕ, ◌+◌, ◌≤◌, Bool, true, false, cond, List, [], ◌∷◌, ◌++◌, refl, arith, subst}
use Rattle.hc_types.specs.Tally.{count}
use Rattle.hc_types.specs.FlashEntry.{FlashEntry}
use Rattle.hc_types.specs.declared.config.FlashConfig.{FlashConfig}
use Rattle.hc_types.proofs.Tallies.{tally-push}
use Rattle.hc_memory.proofs.Keyed.{same_bytes}
use Rattle.hc_machine.specs.Nvm.{Tombstone, is_put_of, is_stone_of}
use Rattle.hc_proof.proofs.frames.ByNumber.{none-counted}
use Rattle.hc_proof.proofs.frames.Lists.{any-counts}
use Rattle.hc_nvm.specs.Resting.{AllPutsFit, AllStonesFit}

-- one more counts nothing, or is the only one
pub one-more : (b : Bool) (before : ℕ) → (b ≡ true → before ≡ 0) → before ≤ 1 → before + cond b 1 0 ≤ 1
one-more true before none one = omega (arith, none refl)
one-more false before none one = omega (arith, one)

pub puts-once : (flash : FlashConfig) (key : List ℕ) (before puts : List FlashEntry) → AllPutsFit flash before puts → count (is_put_of key) before ≤ 1 → count (is_put_of key) before + count (is_put_of key) puts ≤ 1
puts-once flash key before [] fit one = omega (arith, one)
puts-once flash key before (put ∷ puts) fit one =
    let none : is_put_of key put ≡ true → count (is_put_of key) before ≡ 0 = λ e. subst (λ (k : List ℕ). count (is_put_of k) before ≡ 0) (same_bytes put.key key e) (none-counted (is_put_of put.key) before fit.0.alone) in
    let pushed : count (is_put_of key) (before ++ put ∷ []) ≡ count (is_put_of key) before + cond (is_put_of key put) 1 0 = tally-push (λ (p : FlashEntry). cond (is_put_of key p) 1 0) before put in
    let more = one-more (is_put_of key put) (count (is_put_of key) before) none one in
    omega (arith, pushed, puts-once flash key (before ++ put ∷ []) puts fit.1 (omega (arith, pushed, more)))

pub stones-once : (key : List ℕ) (before stones : List Tombstone) → AllStonesFit before stones → count (is_stone_of key) before ≤ 1 → count (is_stone_of key) before + count (is_stone_of key) stones ≤ 1
stones-once key before [] fit one = omega (arith, one)
stones-once key before (stone ∷ stones) fit one =
    let none : is_stone_of key stone ≡ true → count (is_stone_of key) before ≡ 0 = λ e. subst (λ (k : List ℕ). count (is_stone_of k) before ≡ 0) (same_bytes stone.key key e) (any-counts (is_stone_of stone.key) before fit.0) in
    let pushed : count (is_stone_of key) (before ++ stone ∷ []) ≡ count (is_stone_of key) before + cond (is_stone_of key stone) 1 0 = tally-push (λ (s : Tombstone). cond (is_stone_of key s) 1 0) before stone in
    let more = one-more (is_stone_of key stone) (count (is_stone_of key) before) none one in
    omega (arith, pushed, stones-once key (before ++ stone ∷ []) stones fit.1 (omega (arith, pushed, more)))
