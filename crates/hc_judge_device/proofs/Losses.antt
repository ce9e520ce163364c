-- What stands before the last losses.
use Rattle.std.proofs.Common.{◌≡◌, ℕ, ◌+◌, ◌<◌, Bool, true, false, if◌then◌else◌, take, get_or, List, [], ◌∷◌, length, refl, ap, ◌∙◌, sym}
use Rattle.hc_history.specs.Note.{Note, Lose}
use Rattle.hc_history.specs.Stats.{is_loss}
use Rattle.hc_history.specs.Lawful.{past, failed_page}
use Rattle.hc_types.specs.declared.config.FlashConfig.{FlashConfig}
use Rattle.hc_legal.specs.Judge.{pushes_out}
use Rattle.hc_judge_device.specs.Reading.{before_losses}
use Rattle.hc_legal.proofs.Past.{past-more}

skipped : (older : List Note) (note : Note) → is_loss note ≡ true → before_losses (note ∷ older) ≡ before_losses older
skipped older (Lose scope cause) e = refl
skipped older note e = absurd cc

kept : (older : List Note) (note : Note) → is_loss note ≡ false → before_losses (note ∷ older) ≡ note ∷ older
kept older (Lose scope cause) e = absurd cc
kept older note e = refl

pub more : (log : List Note) (i end : ℕ) (note : Note) (t : Bool) → is_loss note ≡ t → i < length log → note ≡ get_or log i note → past [] (take end log) ≡ before_losses (past [] (take i log)) → past [] (take (if t then end else i + 1) log) ≡ before_losses (past [] (take (i + 1) log))
more log i end note true e h is was = was ∙ sym (skipped (past [] (take i log)) note e) ∙ ap before_losses (sym (past-more log i note h is))
more log i end note false e h is was = past-more log i note h is ∙ sym (kept (past [] (take i log)) note e) ∙ ap before_losses (sym (past-more log i note h is))

-- what stands there is no loss
pub no_loss : (older : List Note) (note : Note) (rest : List Note) → before_losses older ≡ note ∷ rest → is_loss note ≡ false
no_loss [] note rest e = absurd cc
no_loss (Lose scope cause ∷ older) note rest e = no_loss older note rest e
no_loss (n ∷ older) note rest e = let same : n ≡ note = cc in ap is_loss (sym same)

pub same_failure : (older : List Note) → failed_page older ≡ failed_page (before_losses older)
same_failure [] = refl
same_failure (Lose scope cause ∷ older) = same_failure older
same_failure (note ∷ older) = refl

pub same_pushes : (flash : FlashConfig) (key : List ℕ) (older : List Note) → pushes_out flash older key ≡ pushes_out flash (before_losses older) key
same_pushes flash key [] = refl
same_pushes flash key (Lose scope cause ∷ older) = same_pushes flash key older
same_pushes flash key (note ∷ older) = refl

-- what doesn't look at the last losses, of a log whose last note but losses is known
pub found : {B : Type 0} (f : List Note → B) → ((older : List Note) → f older ≡ f (before_losses older)) → (log kept : List Note) (note : Note) (rest : List Note) (x : B) → kept ≡ before_losses log → kept ≡ note ∷ rest → (is_loss note ≡ false → x ≡ f (note ∷ rest)) → x ≡ f log
found f same log kept note rest x e at told = told (no_loss log note rest (sym e ∙ at)) ∙ ap f (sym at ∙ e) ∙ sym (same log)

-- and of one that has none
pub none-found : {B : Type 0} (f : List Note → B) → ((older : List Note) → f older ≡ f (before_losses older)) → (log kept : List Note) → kept ≡ before_losses log → kept ≡ [] → f [] ≡ f log
none-found f same log kept e none = ap f (sym none ∙ e) ∙ sym (same log)
