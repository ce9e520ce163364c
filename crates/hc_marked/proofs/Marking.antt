-- Logs of devices with digests are marked, and honest where no digest collides.
use Rattle.std.proofs.Common.{◌≡◌, ℕ, ◌==◌, Bool, true, false, List, [], ◌∷◌, Option, Some, None, refl, ap, sym, subst, ◌∙◌, arith}
use Rattle.std.specs.Prelude.{if◌then◌else◌}
use Rattle.std.proofs.lemmas.Bool.{eqb-true}
use Rattle.hc_history.specs.Note.{Note, Read, Wrote}
use Rattle.hc_history.specs.Pages.{bytes_at}
use Rattle.hc_history.specs.Honest.{HonestAfter, IsTrueRead}
use Rattle.hc_marked.specs.Marked.{IsMarkedRead, MarkedAfter, IsApart, ApartAfter, Marks, Keeps, KeepsAll, CheckedLogsAreMarked, MarkedLogsAreHonest}

-- the digests that are kept are those of the pages that are known
abbrev pub Agrees : (List ℕ → ℕ) → Marks → List Note → Type 0
Agrees digest marks older = (page : ℕ) (known : List ℕ) → bytes_at older page ≡ Some known → marks page ≡ Some (digest known)

module _ (digest : List ℕ → ℕ) (old new : Marks) (older : List Note) (agrees : Agrees digest old older) where
  same : ((every : ℕ) → new every ≡ old every) → Agrees digest new older
  same e page known is = e page ∙ agrees page known is

  -- a page is written, or lost
  wrote : (page : ℕ) (value : Option (List ℕ)) → ((known : List ℕ) → value ≡ Some known → new page ≡ Some (digest known)) → ((other : ℕ) → ¬ (other ≡ page) → new other ≡ old other)
      → (at : ℕ) (known : List ℕ) → (if page == at then value else bytes_at older at) ≡ Some known → new at ≡ Some (digest known)
  wrote page value here others at known is = go (page == at) refl is
    where
      go : (t : Bool) → (page == at) ≡ t → (if t then value else bytes_at older at) ≡ Some known → new at ≡ Some (digest known)
      go true e is = subst (λ (k : ℕ). new k ≡ Some (digest known)) (eqb-true page at e) (here known is)
      go false e is = others at (λ (same : at ≡ page). let yes : (page == at) ≡ true = grind (arith, same) in cc) ∙ agrees at known is

  pub after : (note : Note) → Keeps digest old note new → Agrees digest new (note ∷ older)
  after (Read page (Some bytes)) k = same k.1
  after (Read page None) k = same k
  after (Wrote page bytes true) k = wrote page (Some bytes) (λ (known : List ℕ) e. let alike : bytes ≡ known = cc in k.0 ∙ ap (λ (b : List ℕ). Some (digest b)) alike) k.1
  after (Wrote page bytes false) k = wrote page None (λ (known : List ℕ) e. absurd cc) k.1
  after note k = same k

  pub marked : (note : Note) → Keeps digest old note new → IsMarkedRead digest older note
  marked (Read page (Some bytes)) k = λ known is. let e : Some (digest bytes) ≡ Some (digest known) = sym k.0 ∙ agrees page known is in cc
  marked note k = tt

all-marked : (digest : List ℕ → ℕ) (marks : Marks) (older log : List Note) → Agrees digest marks older → KeepsAll digest marks log → MarkedAfter digest older log
all-marked digest marks older [] agrees k = tt
all-marked digest marks older (note ∷ rest) agrees k = (marked digest marks k.0 older agrees note k.1, all-marked digest k.0 (note ∷ older) rest (after digest marks k.0 older agrees note k.1) k.2)

pub checked-marked : CheckedLogsAreMarked
checked-marked digest log k = all-marked digest (λ page. None) [] log (λ page known is. absurd cc) k

true-read : (digest : List ℕ → ℕ) (older : List Note) (note : Note) → IsMarkedRead digest older note → IsApart digest older note → IsTrueRead older note
true-read digest older (Read page (Some bytes)) m a = λ known is. a known is (m known is)
true-read digest older note m a = tt

all-honest : (digest : List ℕ → ℕ) (older log : List Note) → MarkedAfter digest older log → ApartAfter digest older log → HonestAfter older log
all-honest digest older [] m a = tt
all-honest digest older (note ∷ rest) m a = (true-read digest older note m.0 a.0, all-honest digest (note ∷ older) rest m.1 a.1)

pub marked-honest : MarkedLogsAreHonest
marked-honest digest log m a = all-honest digest [] log m a
