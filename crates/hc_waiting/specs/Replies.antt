-- The replies that are owed, as contracts see them.
use Rattle.std.specs.Prelude.{◌≡◌, ℕ, ◌<◌, ◌≤◌, ◌+◌, Bool, true, false, List, [], ◌∷◌, map, Option, Some, None, option_map, is_some, nat_eq, if◌then◌else◌, ⊤}
use Rattle.indexmap.specs.IndexSet.{IndexSet, contains, spare}
use Rattle.hc_types.specs.declared.refusal.Refusal.{Refusal}
use Rattle.hc_types.specs.declared.refusal.Refusal.TheVariants as refusals
use Rattle.hc_history.specs.Seen.{reply_of}
use Rattle.hc_history.specs.declared.note.Reply.{Reply}
use Rattle.hc_machine.specs.Cache.{Owed, owed_at}
use Rattle.hc_waiting.specs.declared.replies.Untaken.{Untaken}
use Rattle.hc_waiting.specs.declared.replies.Untaken.TheVariants as untaken

abbrev pub owed_by : {A : Type 0} → ℕ × Option (Reply A) → Owed
owed_by e = record { call = e.0; reply = option_map reply_of e.1 }

abbrev pub owed_of : {A : Type 0} → List (ℕ × Option (Reply A)) → List Owed
owed_of entries = map owed_by entries

-- the call has its reply
abbrev pub is_answered : Owed → Bool
is_answered owed = is_some owed.reply

-- the call waited, and has its reply
abbrev pub has_reply : Option Owed → Bool
has_reply None = false
has_reply (Some owed) = is_answered owed

abbrev pub is_ready_in : ℕ → List Owed → Bool
is_ready_in call all = has_reply (owed_at call all)

-- a call that has its reply; none, where no call has
abbrev pub IsNextReply : List Owed → Option ℕ → Type 0
IsNextReply all None = (call : ℕ) → is_ready_in call all ≡ false
IsNextReply all (Some call) = is_ready_in call all ≡ true

-- how many wait
abbrev pub waiting_in : List Owed → ℕ
waiting_in [] = 0
waiting_in (owed ∷ all) = (if is_answered owed then 0 else 1) + waiting_in all

-- these calls have their reply, and there is room for each that waits
pub record AreReady {S : Type 0} (all : List Owed) (ready : IndexSet ℕ S) : Type 0 where
  pub calls : (call : ℕ) → contains nat_eq ready call ≡ is_ready_in call all
  pub room : waiting_in all ≤ spare ready

-- they are owed to calls before this one
abbrev pub AreBefore : ℕ → List Owed → Type 0
AreBefore call [] = ⊤
AreBefore call (owed ∷ all) = (owed.call < call) × AreBefore call all

abbrev pub refusal_of : Untaken → Refusal
refusal_of untaken.Unknown = refusals.UnknownCall
refusal_of untaken.NotReady = refusals.NotReady
