-- A get whose page couldn't be read, or whose bytes are no entry, tells that its index entry is lost.
use Rattle.std.proofs.Common.{◌≡◌, ℕ, ◌+◌, ◌≤◌, ◌&&◌, Bool, true, false, List, None, refl, sym, subst}
use Rattle.std.proofs.lemmas.Bool.{le-ltb}
use Rattle.std.specs.Prelude.{if◌then◌else◌, ◌==◌}
use Rattle.hc_types.specs.declared.config.FlashConfig.{FlashConfig}
use Rattle.hc_types.specs.Places.{kept_of}
use Rattle.hc_engines.specs.Engine.{Page, Failed}
use Rattle.hc_engines.specs.large.Entries.{entry_in}
use Rattle.hc_engines.specs.large.Region.{is_draining, region_at}
use Rattle.hc_engines.specs.large.Block.{Reading, Getting, Block, Moved, end_job}
use Rattle.hc_engines.specs.large.Steps.{first_page, reading_of, read_bytes, let_go, unreadable, absent, resume}
use Rattle.hc_engines.specs.large.Unread.{still_leads, read_on, Unread, FailedReadIsTold, UnreadableIsTold, UnreadableAtOnceIsTold}
use Rattle.hc_engines.proofs.large.Lists.{place_itself}

pub failed_told : FailedReadIsTold
failed_told flash number reading s = go (still_leads flash reading s) refl (is_draining (region_at reading.place.region s.regions).status && ((region_at reading.place.region s.regions).pins == 1)) refl
  where
    ended : Bool → Moved
    ended t = let_go reading.place.region (if t then unreadable (kept_of flash.bits reading.key) (end_job number s) else absent (end_job number s))

    go : (t : Bool) → still_leads flash reading s ≡ t → (d : Bool) → (is_draining (region_at reading.place.region s.regions).status && ((region_at reading.place.region s.regions).pins == 1)) ≡ d → Unread flash number reading s (ended (still_leads flash reading s))
    go true t true d = record { over = rw (t, d) refl; outcome = rw (t, d) refl; state = rw (t, d) refl }
    go true t false d = record { over = rw (t, d) refl; outcome = rw (t, d) refl; state = rw (t, d) refl }
    go false t true d = record { over = rw (t, d) refl; outcome = rw (t, d) refl; state = rw (t, d) refl }
    go false t false d = record { over = rw (t, d) refl; outcome = rw (t, d) refl; state = rw (t, d) refl }

-- bytes that are no entry end the read as a page that couldn't be read does
as_failed : (flash : FlashConfig) (number : ℕ) (reading : Reading) (bytes : List ℕ) (s : Block) → reading.until ≤ reading.next + 1 → entry_in (read_bytes flash (read_on reading bytes)) ≡ None
    → resume flash number (Getting reading) (Page bytes) s ≡ resume flash number (Getting reading) Failed s
as_failed flash number reading bytes s last none = rw (le-ltb (reading.next + 1) reading.until last, none) refl

pub unreadable_told : UnreadableIsTold
unreadable_told flash number reading bytes s last none = subst (λ (m : Moved). Unread flash number reading s m) (sym (as_failed flash number reading bytes s last none)) (failed_told flash number reading s)

pub at_once_told : UnreadableAtOnceIsTold
at_once_told flash number key place s at few none = rw (at, le-ltb (first_page flash place) (reading_of flash key place s).until few, at, place_itself place, none) refl
