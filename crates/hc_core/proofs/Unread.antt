-- A log that tells of no read is honest.
use Rattle.std.proofs.Common.{◌≡◌, ℕ, ◌+◌, List, [], ◌∷◌, arith}
use Rattle.hc_types.specs.Tally.{count}
use Rattle.hc_history.specs.Note.{Note, Read}
use Rattle.hc_history.specs.Stats.{is_read}
use Rattle.hc_history.specs.Honest.{HonestAfter, Honest}

unread_after : (older log : List Note) → count is_read log ≡ 0 → HonestAfter older log
unread_after older [] none = tt
unread_after older (Read page result ∷ rest) none = absurd (omega (arith, none))
unread_after older (note ∷ rest) none = (tt, unread_after (note ∷ older) rest (omega (arith, none)))

pub unread_is_honest : (log : List Note) → count is_read log ≡ 0 → Honest log
unread_is_honest log none = unread_after [] log none
