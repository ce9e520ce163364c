-- What an operation finds isn't among what it loses.
use Rattle.std.specs.Prelude.{◌≡◌, false, List, [], ◌∷◌, length, Some}
use Rattle.hc_types.specs.declared.config.FlashConfig.{FlashConfig}
use Rattle.hc_types.specs.Loss.{Scope, Key, Bucket, Hash, covers}
use Rattle.hc_types.specs.FlashEntry.{FlashEntry}
use Rattle.hc_engines.specs.Engine.{Answer, Absent, Found, Loss, Next, Busy, Io, Done}
use Rattle.hc_engines.specs.pair.Pair.{Pair, Moved}
use Rattle.hc_invariant.specs.LargeAlone.{LargeAlone}

-- none of the losses covers the entry
abbrev pub AllMiss : FlashConfig → FlashEntry → List Loss → Type 0
AllMiss flash entry [] = Unit {0}
AllMiss flash entry (loss ∷ losses) = (covers (Some flash) loss.scope entry.key (length entry.value) ≡ false) × AllMiss flash entry losses

abbrev pub AnswerIsLeft : FlashConfig → Answer → List Loss → Type 0
AnswerIsLeft flash (Found entry) losses = AllMiss flash entry losses
AnswerIsLeft flash answer losses = Unit {0}

abbrev pub NextIsLeft : FlashConfig → Next → Type 0
NextIsLeft flash Busy = Unit {0}
NextIsLeft flash (Io order outcome) = Unit {0}
NextIsLeft flash (Done outcome) = AnswerIsLeft flash outcome.answer outcome.losses

-- a bucket's loss covers small entries alone
abbrev pub IsBucket : Scope → Type 0
IsBucket (Bucket bucket) = Unit {0}
IsBucket (Key key) = ⊥
IsBucket (Hash kept but) = ⊥

abbrev pub AllBuckets : List Loss → Type 0
AllBuckets [] = Unit {0}
AllBuckets (loss ∷ losses) = IsBucket loss.scope × AllBuckets losses

-- what the small engine loses where it finds nothing
abbrev pub AbsentLoses : Answer → List Loss → Type 0
AbsentLoses Absent losses = AllBuckets losses
AbsentLoses answer losses = Unit {0}

abbrev pub SmallLoses : Next → Type 0
SmallLoses Busy = Unit {0}
SmallLoses (Io order outcome) = Unit {0}
SmallLoses (Done outcome) = AbsentLoses outcome.answer outcome.losses

-- what a call of both engines keeps, whatever comes of it
pub record Keeps (pair : Pair) (moved : Moved) : Type 0 where
  pub flash : moved.pair.small.flash ≡ pair.small.flash
  pub large : LargeAlone pair.small.flash pair.large → LargeAlone moved.pair.small.flash moved.pair.large
  pub left : LargeAlone pair.small.flash pair.large → NextIsLeft pair.small.flash moved.next
