-- What no loss touches, and what losses leave in the map.
use Rattle.std.proofs.Common.{◌≡◌, Bool, true, false, not, ◌&&◌, ◌||◌, List, [], ◌∷◌, Option, None, refl, arith, ◌∙◌}
use Rattle.std.specs.Prelude.{if◌then◌else◌}
use Rattle.hc_history.specs.Note.{Note, Lose}
use Rattle.hc_history.specs.Books.{Entry, covers, is_held, entry_at}
use Rattle.hc_history.specs.Pages.{bytes_at}
use Rattle.hc_proof.specs.losses.Losses.{covered, BooksPass, BooksPassLosses, entry_lost, MapAfterLosses}

pub books_pass : BooksPassLosses
books_pass [] older = record { charges = refl; waiting = refl; writing = refl; buried = refl; begun = refl; open_ones = refl; owed = refl; clock = refl; pages = λ page. refl; held = λ key. refl; used = refl; flushed = refl; current = λ flash. refl }
books_pass (one ∷ losses) older =
    let r = books_pass losses (Lose one.scope one.cause ∷ older) in
    record { charges = r.charges; waiting = r.waiting; writing = r.writing; buried = r.buried; begun = r.begun; open_ones = r.open_ones; owed = r.owed; clock = r.clock; pages = r.pages; held = r.held; used = r.used; flushed = r.flushed; current = r.current }

-- the pages as one function
pub same_pages : (older newer : List Note) → BooksPass older newer → bytes_at newer ≡ bytes_at older
same_pages older newer p = λ i page. p.pages page i

map_step : (f : Option Entry → Bool) (m : Option Entry) (c h : Bool) → entry_lost (f (if c && not h then None else m)) h (if c && not h then None else m) ≡ entry_lost (c || f m) h m
map_step f m true true = grind arith
map_step f m true false = grind arith
map_step f m false h = refl

pub map_lost_by : MapAfterLosses
map_lost_by flash [] older key = refl
map_lost_by flash (one ∷ losses) older key =
    map_lost_by flash losses (Lose one.scope one.cause ∷ older) key
    ∙ map_step (covered flash losses key) (entry_at flash older key) (covers flash one.scope key (entry_at flash older key)) (is_held older key)
