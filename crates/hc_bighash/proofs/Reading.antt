-- What was read gives what fits.
use Rattle.std.proofs.Common.{◌≡◌, ℕ, ◌<◌, ◌^◌, Bool, true, false, List, []}
use Rattle.std.specs.Prelude.{if◌then◌else◌, is_some}
use Rattle.hc_types.specs.declared.config.FlashConfig.{FlashConfig}
use Rattle.hc_types.specs.FlashEntry.{FlashEntry}
use Rattle.hc_bucket.specs.Page.{Fits}
use Rattle.hc_engines.specs.Engine.{Op, Put, Get, Delete, Flush, Reclaim, Over}
use Rattle.hc_engines.specs.small.Entries.{under, without}
use Rattle.hc_engines.specs.small.BigHash.{ToWrite, ToEnd, was_read, is_ours}
use Rattle.hc_engines.specs.small.Sound.{HasRoom, CanPut, CanStart, CanWrite, Limits}
use Rattle.hc_engines.proofs.small.Fitting.{fits-put, fits-without, small_entry}

delete-fits : (t : Bool) (size : ℕ) (key : List ℕ) (es : List FlashEntry) → Fits size es → CanWrite size (if t then ToWrite (without key es) [] else ToEnd Over)
delete-fits true size key es fits = fits-without size key es fits
delete-fits false size key es fits = tt

pub read_fits : (size : ℕ) (op : Op) (es : List FlashEntry) → size < 2 ^ 16 → Fits size es → HasRoom size op → CanPut op → CanWrite size (was_read size op es)
read_fits size (Put e) es small fits room put = fits-put size e es small fits put room
read_fits size (Get key) es small fits room put = tt
read_fits size (Delete key) es small fits room put = delete-fits (is_some (under key es)) size key es fits
read_fits size Flush es small fits room put = tt
read_fits size Reclaim es small fits room put = tt

-- an operation of BigHash has what a put needs
pub has_room : (flash : FlashConfig) (op : Op) → Limits flash → CanStart op → is_ours flash op ≡ true → HasRoom flash.page op
has_room flash (Put e) l can ours = (small_entry flash e l can ours).1
has_room flash (Get key) l can ours = tt
has_room flash (Delete key) l can ours = tt
has_room flash Flush l can ours = tt
has_room flash Reclaim l can ours = tt

pub can_put : (flash : FlashConfig) (op : Op) → Limits flash → CanStart op → is_ours flash op ≡ true → CanPut op
can_put flash (Put e) l can ours = (small_entry flash e l can ours).0
can_put flash (Get key) l can ours = tt
can_put flash (Delete key) l can ours = tt
can_put flash Flush l can ours = tt
can_put flash Reclaim l can ours = tt
