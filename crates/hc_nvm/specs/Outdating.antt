-- What flash needs of a key that is inserted or removed, before anything changes.
use Rattle.std.specs.Prelude.{Box, ◌≡◌, ℕ, Bool, false, List, Option, Some, None, is_some, IfSome, if◌then◌else◌}
use Rattle.hc_engines.specs.pair.Pair.{is_indexed}
use Rattle.hc_history.specs.Note.{Note, Buried}
use Rattle.hc_machine.specs.Nvm.{Nvm, is_due}
use Rattle.hc_nvm.specs.declared.outdating.Burial.{Burial}
use Rattle.hc_nvm.specs.declared.outdating.Twice.{Twice}
use Rattle.hc_nvm.specs.declared.outdating.Outdating.{Outdating}

-- the note of a tombstone, where notes are kept
abbrev pub buried_note : Bool → List ℕ → Option Note
buried_note keeps key = if keeps then Some (Buried key) else None

-- what its tombstone needs
abbrev pub burial_of : {A : Type 0} → Bool → List ℕ → Burial A
burial_of keeps key = record { copy = key; key = key; note = buried_note keeps key }

-- what the loss of an index entry needs
abbrev pub twice_of : {A : Type 0} → List ℕ → Twice A
twice_of key = record { copy = key; key = key }

-- it is there where a tombstone is due
pub record Buries {A : Type 0} (keeps : Bool) (key : List ℕ) (nvm : Nvm) (burial : Option (Box (Burial A) A)) : Type 0 where
  pub burial_is : IfSome burial (λ b. b.value ≡ burial_of keeps key)
  pub is_there : is_some burial ≡ false → is_due nvm key ≡ false

-- it is there where the index leads somewhere from the key's kept hash
pub record Unindexes {A : Type 0} (key : List ℕ) (nvm : Nvm) (twice : Option (Box (Twice A) A)) : Type 0 where
  pub twice_is : IfSome twice (λ t. t.value ≡ twice_of key)
  pub is_there : is_some twice ≡ false → is_indexed nvm.pair key ≡ false

-- the plan has what the key needs in this state, and may have more
pub record Serves {A : Type 0} (keeps : Bool) (key : List ℕ) (nvm : Nvm) (plan : Outdating A) : Type 0 where
  pub buries : Buries keeps key nvm plan.burial
  pub unindexes : Unindexes key nvm plan.collision
