-- A cache is closed and its image given; an image is taken, and its cache goes on.
use Rattle.std.specs.Prelude.{◌≡◌, ◌⊎◌, ℕ, ◌/◌, true, false, List, [], ◌++◌, length, replicate, Option, Some, None, Result, Ok}
use Rattle.std.specs.Int.{w64, to_be_bytes}
use Rattle.std.specs.Hash.DefaultHasher.{initial}
use Rattle.hc_types.specs.Config.{Config}
use Rattle.hc_types.specs.Limits.{first_wrong}
use Rattle.hc_types.specs.declared.refusal.Refusal.{Refusal}
use Rattle.hc_types.specs.declared.refusal.Refusal.TheVariants.{NoMemory, ValueTooLong}
use Rattle.hc_history.specs.Losses.{no_losses}
use Rattle.hc_history.specs.Told.{Sums, no_counts}
use Rattle.hc_machine.specs.Cache as machine
use Rattle.hc_lease.specs.Stamps.{after_restart}
use Rattle.hc_leased.specs.Leased.{Leased}
use Rattle.hc_state.specs.Resting.{is_at_rest}
use Rattle.hc_image_text.specs.declared.head.Head.{Head}
use Rattle.hc_image_text.specs.declared.head.Shard.{Shard}
use Rattle.hc_image_text.specs.Frames.{Frame}
use Rattle.hc_image_text.specs.Images.{next, behind, reading}
use Rattle.hc_image.specs.Saved.{Carried, frames_of}
use Rattle.hc_image.specs.Saving.{saving, given, after, Saving}
use Rattle.hc_image.specs.Loading.{Asked, Loading, filling_of, finished, nothing_yet, taken}
use Rattle.hc_image.specs.Refusing.{IsWhy}
use Rattle.hc_image.specs.declared.refusal.Refusal.{Refusal as Untaken}
use Rattle.hc_image.specs.declared.refusal.Refusal.TheVariants as untaken
use Rattle.hc_c.specs.declared.cache.Cache.{Cache}
use Rattle.hc_c.specs.declared.closing.Mark.{Mark}
use Rattle.hc_c.specs.declared.image.Image.{Image}
use Rattle.hc_c.specs.declared.image.Stream.{Stream}
use Rattle.hc_c.specs.declared.image.Stream.TheVariants.{Saves, Loads}
use Rattle.hc_c.specs.declared.status.Status.{Status}
use Rattle.hc_c.specs.declared.status.Status.TheVariants.{Done, Refused, Empty, Waits, Idle, NotWhole, OtherVersion, OtherConfig, OtherSeal, TooOld, ClockWentBack, Unfit}
use Rattle.hc_c.specs.Making.{MayNotMake}
use Rattle.hc_c.specs.Values.{Pieces}

-- ---- which image

abbrev pub head_of : Mark → Head
head_of mark = record { seal = to_be_bytes w64 mark.seal_first ++ to_be_bytes w64 mark.seal_last; closed = mark.second }

abbrev pub shard_in : Mark → Shard
shard_in mark = record { number = mark.shard; of = mark.shards }

-- of a cache of this configuration, that was closed at most so many seconds before
abbrev pub asked_by : Mark → ℕ → Config → Asked
asked_by mark at_most config = record { shard = shard_in mark; config = config; seal = (head_of mark).seal; second = mark.second; at_most = at_most }

-- ---- a cache is closed

-- the frames of the image of a cache with leases
abbrev pub image_frames : Mark → Leased → List Frame
image_frames mark old = frames_of (shard_in mark) (head_of mark) (record { stamps = old.stamps.count; digests = []; owner = [] }) old.logged.cache

-- an image of these frames is written, of which none was given yet
abbrev pub StreamsOut : List Frame → Saving → Type 0
StreamsOut frames saver = saver ≡ saving frames initial

abbrev pub Writes : List Frame → Stream → Type 0
Writes frames (Saves saver) = StreamsOut frames saver
Writes frames stream = ⊥

abbrev pub IsWritten : List Frame → Option Image → Type 0
IsWritten frames None = ⊥
IsWritten frames (Some image) = Writes frames image.stream

-- memory lacks, or its owner's bytes are too many
abbrev pub IsMarked : Refusal → Type 0
IsMarked refusal = (refusal ≡ NoMemory) ⊎ (refusal ≡ ValueTooLong)

abbrev pub Closes : Mark → Status → Option Cache → Option Cache → Option Image → Option Image → Type 0
Closes mark Done (Some old) new was is = (is_at_rest old.leased.logged.cache ≡ true) × ((new ≡ None) × IsWritten (image_frames mark old.leased) is)
Closes mark Waits (Some old) new was is = (is_at_rest old.leased.logged.cache ≡ false) × ((new ≡ Some old) × (is ≡ was))
Closes mark (Refused refusal) (Some old) new was is = (refusal ≡ NoMemory) × ((is ≡ was) × ((new ≡ Some old) ⊎ (new ≡ None)))
Closes mark Empty None new was is = (new ≡ None) × (is ≡ was)
Closes mark status old new was is = ⊥

-- ---- its image is given

-- the next frame is made, where there is one
abbrev pub GivesOn : Status → Stream → Stream → List ℕ → Type 0
GivesOn Done (Saves old) (Saves new) frame = (old.ended ≡ false) × ((frame ≡ given old) × (new ≡ after old))
GivesOn Idle (Saves old) (Saves new) frame = (old.ended ≡ true) × ((frame ≡ []) × (new ≡ after old))
GivesOn (Refused refusal) (Saves old) (Saves new) frame = IsMarked refusal × (new.broken ≡ true)
GivesOn Empty (Saves old) new frame = ⊥
GivesOn Empty old new frame = new ≡ old
GivesOn status old new frame = ⊥

-- C is told how long the frame is
abbrev pub Tells : ℕ → ℕ → List ℕ → Status → Type 0
Tells before told frame Done = told ≡ length frame
Tells before told frame status = told ≡ before

abbrev pub GivesNext : ℕ → ℕ → Status → Image → Image → Type 0
GivesNext before told status old new = GivesOn status old.stream new.stream new.frame.items × Tells before told new.frame.items status

-- the frame that was made last is copied
abbrev pub CopiesFrame : ℕ → ℕ → List ℕ → List ℕ → Status → Image → Image → Type 0
CopiesFrame from count old new Done was is = (is ≡ was) × Pieces was.frame.items from count old new
CopiesFrame from count old new status was is = ⊥

-- ---- an image is taken

-- nothing of the image that is asked for was taken yet
abbrev pub Begins : Mark → ℕ → Config → Stream → Type 0
Begins mark at_most config (Loads loader) = loader ≡ record { asked = asked_by mark at_most config; reading = reading initial; stage = nothing_yet; broken = false }
Begins mark at_most config stream = ⊥

abbrev pub IsBegun : Mark → ℕ → Config → Option Image → Type 0
IsBegun mark at_most config None = ⊥
IsBegun mark at_most config (Some image) = Begins mark at_most config image.stream

abbrev pub BeginsTo : Mark → ℕ → Config → Status → Option Image → Option Image → Type 0
BeginsTo mark at_most config Done old new = IsBegun mark at_most config new × (first_wrong config ≡ None)
BeginsTo mark at_most config (Refused refusal) old new = (new ≡ old) × MayNotMake config refusal
BeginsTo mark at_most config status old new = ⊥

-- what C is told of an image that isn't taken
abbrev pub why_of : Untaken → Status
why_of untaken.NoMemory = Refused NoMemory
why_of untaken.NotWhole = NotWhole
why_of untaken.OtherVersion = OtherVersion
why_of untaken.OtherConfig = OtherConfig
why_of untaken.OtherSeal = OtherSeal
why_of untaken.TooOld = TooOld
why_of untaken.ClockWentBack = ClockWentBack
why_of untaken.Unfit = Unfit

-- C is told why nothing is made of it, or that memory lacks
pub record IsUntaken {X : Type 0} (made : Result X Untaken) (status : Status) : Type 0 where
  pub why : Untaken
  pub is : IsWhy made why
  pub told : status ≡ why_of why

-- the frame is the next of the image
pub record TakesOn (frame : List ℕ) (old new : Loading) : Type 0 where
  pub asked : new.asked ≡ old.asked
  pub stage : taken old frame ≡ Ok new.stage
  pub reading : new.reading ≡ behind old.reading (next old.reading frame)
  pub whole : new.broken ≡ false

abbrev pub TakesIn : List ℕ → Status → Stream → Stream → Type 0
TakesIn frame Done (Loads old) (Loads new) = TakesOn frame old new
TakesIn frame Empty (Loads old) new = ⊥
TakesIn frame Empty old new = new ≡ old
TakesIn frame status (Loads old) (Loads new) = IsUntaken (taken old frame) status × (new.broken ≡ true)
TakesIn frame status old new = ⊥

abbrev pub TakesFrame : List ℕ → Status → Image → Image → Type 0
TakesFrame frame status old new = TakesIn frame status old.stream new.stream

-- ---- its cache goes on

-- The cache of the image that was taken goes on, with so many slots for leases: no ticket of before is fresh.
pub record GoesOn (slots : ℕ) (old : Loading) (new : Cache) : Type 0 where
  pub carried : Carried
  pub parts : machine.Cache
  pub loaded : finished old ≡ Ok (filling_of carried parts)
  pub logged : new.leased.logged ≡ record { cache = parts; log = Sums no_counts no_losses }
  pub stamps : new.leased.stamps ≡ after_restart slots carried.stamps
  pub turns : new.leased.turns ≡ replicate (slots / 16) None

abbrev pub Resumes : ℕ → Stream → Cache → Type 0
Resumes slots (Loads old) cache = GoesOn slots old cache
Resumes slots old cache = ⊥

-- why no cache goes on: the handle takes no image, or what came isn't one, by this name, or memory lacks
abbrev pub IsAsked : Stream → Status → Type 0
IsAsked (Loads old) status = IsUntaken (finished old) status
IsAsked stream status = status ≡ Empty

-- a cache goes on in place of the one that was there, or that stays
abbrev pub ResumesBy : ℕ → Stream → Status → Option Cache → Option Cache → Type 0
ResumesBy slots was Done old None = ⊥
ResumesBy slots was Done old (Some new) = Resumes slots was new
ResumesBy slots was status old new = (new ≡ old) × IsAsked was status

abbrev pub ResumesIn : ℕ → Option Image → Status → Option Cache → Option Cache → Type 0
ResumesIn slots None status old new = (status ≡ Empty) × (new ≡ old)
ResumesIn slots (Some image) status old new = ResumesBy slots image.stream status old new
