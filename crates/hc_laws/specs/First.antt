-- The first of a list that passes a test.
use Rattle.std.specs.Prelude.{◌≡◌, Bool, true, false, List, ◌∷◌, ◌++◌}
use Rattle.std.specs.List.{list_any}

-- none of these passes
abbrev pub NonePasses : {X : Type 0} → (X → Bool) → List X → Type 0
NonePasses test xs = list_any test xs ≡ false

-- this one stands among them and passes, and none before it does
pub record IsFirst {X : Type 0} (test : X → Bool) (xs : List X) (x : X) : Type 0 where
  pub before : List X
  pub behind : List X
  pub stands : xs ≡ before ++ x ∷ behind
  pub passes : test x ≡ true
  pub none_before : NonePasses test before
