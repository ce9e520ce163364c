-- A line's losses are printed, and taken.
use Rattle.std.proofs.Common.{◌≡◌, ℕ, List, [], ◌∷◌, ◌++◌, Option, Some, Result, Ok, Err, OnOk, refl, sym, ap, subst, ◌∙◌}
use Rattle.hc_history.specs.Note.{Note, Begin, Did, End, Lose, Charged, Linked, Freed, Queued, Unqueued, Writing, Written, Buried, Raised, Read, Wrote, Opened, Flushed, Cleared, Now}
use Rattle.hc_history.specs.Told.{Heard, Counts, told_more, counts_more, losses_of, losses_taken}
use Rattle.hc_trace_text.specs.Steps.{Answer}
use Rattle.hc_trace_text.specs.Texts.{line_text, answer_text, losses_text, loss_text}
use Rattle.hc_player.specs.Alike.{Alike}
use Rattle.hc_player.specs.Playing.{Playing, world_of, Acts}
use Rattle.hc_trace_meaning.specs.Actions.{Action, act}
use Rattle.hc_trace_meaning.specs.Trace.{answered_text}
use Rattle.hc_trace.specs.Places.{counts_in, losses_in, IsCounted}
use Rattle.hc_trace.specs.Telling.{IsTold}

-- the texts of the losses are those of all the notes
losses-same : (notes : List Note) → losses_text (losses_of notes) ≡ losses_text notes
losses-same [] = refl
losses-same (Lose scope cause ∷ notes) = ap (λ text. loss_text (Lose scope cause) ++ text) (losses-same notes)
losses-same (Begin call client op ∷ notes) = losses-same notes
losses-same (Did call reply ∷ notes) = losses-same notes
losses-same (End call ∷ notes) = losses-same notes
losses-same (Charged charge key pool bytes ∷ notes) = losses-same notes
losses-same (Linked charge ∷ notes) = losses-same notes
losses-same (Freed charge ∷ notes) = losses-same notes
losses-same (Queued key ∷ notes) = losses-same notes
losses-same (Unqueued key ∷ notes) = losses-same notes
losses-same (Writing key ∷ notes) = losses-same notes
losses-same (Written key ∷ notes) = losses-same notes
losses-same (Buried key ∷ notes) = losses-same notes
losses-same (Raised key ∷ notes) = losses-same notes
losses-same (Read page result ∷ notes) = losses-same notes
losses-same (Wrote page bytes is_written ∷ notes) = losses-same notes
losses-same (Opened region ∷ notes) = losses-same notes
losses-same (Flushed region ∷ notes) = losses-same notes
losses-same (Cleared region ∷ notes) = losses-same notes
losses-same (Now moment ∷ notes) = losses-same notes

pub on-both : {T E A B C : Type 0} (r : Result T E) → OnOk r A → OnOk r B → (A → B → C) → OnOk r C
on-both (Ok x) a b f = f a b
on-both (Err e) a b f = tt

-- where all losses were taken, those of the line are all that there are
pub is-told : {action : Action} {answer : Answer} {old mid new : Playing} (before after : List ℕ) → IsCounted old.log → Acts action answer old mid → new ≡ record mid { log = losses_taken mid.log }
    → after ≡ before ++ (line_text (answer_text answer) ++ losses_text (losses_in mid.log)) → IsTold (act action (world_of old)) old new before after
is-told {action} {answer} {old} {mid} {new} before after counted did taken text =
    let moved = act action (world_of old) in
    let heard : mid.log ≡ Counts (counts_more (counts_in old.log) moved.notes) (losses_of moved.notes) = did.log ∙ ap (λ (h : Heard). told_more h moved.notes) counted in
    let answered : Some answer ≡ moved.answer = sym did.answered in
    record {
      world = subst (λ (p : Playing). Alike (world_of p) moved.world) (sym taken) did.world;
      log = ap (λ (p : Playing). p.log) taken ∙ ap losses_taken heard;
      text = text ∙ (λ i. before ++ (answered_text (answered i) ++ losses_text (losses_in (heard i)))) ∙ ap (λ t. before ++ (answered_text moved.answer ++ t)) (losses-same moved.notes);
    }
