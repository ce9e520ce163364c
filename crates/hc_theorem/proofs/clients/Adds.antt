-- The adds that wait, by the desk and by the fills: as fills go, and as a call more waits.
use Rattle.std.proofs.Common.{◌≡◌, Bool, true, false, List, [], ◌∷◌, ◌++◌, filter}
use Rattle.std.specs.Prelude.{if◌then◌else◌, ℕ}
use Rattle.hc_machine.specs.Nvm.{Waiter, Fill, is_fill_of, joined_by}
use Rattle.hc_invariant.specs.Tells.{waiters_of}
use Rattle.hc_follows.specs.Desk.{Adding}
use Rattle.hc_theorem.specs.clients.Matches.{charge_kept, charge_of_wish, AllTold}

pub told-append : (all : List Adding) (one two : List Waiter) → AllTold all one → AllTold all two → AllTold all (one ++ two)
told-append all [] two p q = q
told-append all (w ∷ one) two p q = (p.0, told-append all one two p.1 q)

pub told-parts : (all : List Adding) (one two : List Waiter) → AllTold all (one ++ two) → AllTold all one × AllTold all two
told-parts all [] two h = (tt, h)
told-parts all (w ∷ one) two h = let rest = told-parts all one two h.1 in ((h.0, rest.0), rest.1)

pub fewer_told : (all : List Adding) (p : Fill → Bool) (fills : List Fill) → AllTold all (waiters_of fills) → AllTold all (waiters_of (filter p fills))
fewer_told all p [] h = tt
fewer_told all p (fill ∷ fills) h = let both = told-parts all fill.waiters (waiters_of fills) h in go (p fill) both.0 (fewer_told all p fills both.1)
  where
    go : (t : Bool) → AllTold all fill.waiters → AllTold all (waiters_of (filter p fills)) → AllTold all (waiters_of (if t then fill ∷ filter p fills else filter p fills))
    go true own rest = told-append all fill.waiters (waiters_of (filter p fills)) own rest
    go false own rest = rest

-- one call more waits
pub joined_told : (all : List Adding) (key : List ℕ) (w : Waiter) (fills : List Fill) → charge_kept w.call all ≡ charge_of_wish w.wish → AllTold all (waiters_of fills) → AllTold all (waiters_of (joined_by key w fills))
joined_told all key w [] own h = (own, tt)
joined_told all key w (fill ∷ fills) own h = let both = told-parts all fill.waiters (waiters_of fills) h in go (is_fill_of key fill) both.0 both.1 (joined_told all key w fills own both.1)
  where
    go : (t : Bool) → AllTold all fill.waiters → AllTold all (waiters_of fills) → AllTold all (waiters_of (joined_by key w fills)) → AllTold all (waiters_of (if t then record fill { waiters = fill.waiters ++ w ∷ [] } ∷ fills else fill ∷ joined_by key w fills))
    go true one rest more = told-append all (fill.waiters ++ w ∷ []) (waiters_of fills) (told-append all fill.waiters (w ∷ []) one (own, tt)) rest
    go false one rest more = told-append all fill.waiters (waiters_of (joined_by key w fills)) one more
