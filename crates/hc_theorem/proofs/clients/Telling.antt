-- What pieces tell, joined: calls that begin, are answered and end, reads and writes.
use Rattle.std.proofs.Common.{◌≡◌, ℕ, List, [], ◌∷◌, ◌++◌, refl}
use Rattle.hc_history.specs.Note.{Note, Begin, Did, End, Read, Wrote, Flushed}
use Rattle.hc_history.specs.Books.{begun}
use Rattle.hc_follows.specs.Telling.{did_in, ended_in, io_in, NoCall}
use Rattle.hc_proof.specs.shapes.Asides.{Aside, Answering}
use Rattle.hc_theorem.specs.idle.Takings.{AllMute}

-- what is answered beside leaves no call begun or ended
pub quiet_before : (one two : List Note) → Answering one → (begun (one ++ two) ≡ begun two) × (ended_in (one ++ two) ≡ ended_in two) × (io_in (one ++ two) ≡ io_in two)
quiet_before [] two h = (refl, refl, refl)
quiet_before (Begin call client op ∷ one) two h = absurd h
quiet_before (End call ∷ one) two h = absurd h
quiet_before (Read page result ∷ one) two h = absurd h
quiet_before (Wrote page bytes is_written ∷ one) two h = absurd h
quiet_before (note ∷ one) two h = quiet_before one two h

pub mute_calls : (part : List Note) → AllMute part → NoCall part
mute_calls [] h = (refl, refl, refl)
mute_calls (Begin call client op ∷ part) h = absurd cc
mute_calls (End call ∷ part) h = absurd cc
mute_calls (Read page result ∷ part) h = absurd cc
mute_calls (Wrote page bytes is_written ∷ part) h = absurd cc
mute_calls (note ∷ part) h = mute_calls part h

-- what is told aside answers nothing
pub did_behind : (call : ℕ) (one two : List Note) → Aside one → did_in call (one ++ two) ≡ did_in call two
did_behind call [] two h = refl
did_behind call (Begin number client op ∷ one) two h = absurd h
did_behind call (Did number reply ∷ one) two h = absurd h
did_behind call (End number ∷ one) two h = absurd h
did_behind call (Read page result ∷ one) two h = absurd h
did_behind call (Wrote page bytes is_written ∷ one) two h = absurd h
did_behind call (Flushed region ∷ one) two h = absurd h
did_behind call (note ∷ one) two h = did_behind call one two h
