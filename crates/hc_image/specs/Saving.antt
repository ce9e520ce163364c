-- What a saver still has to give, and what it gives next.
use Rattle.std.specs.Prelude.{◌≡◌, ℕ, ◌+◌, ◌^◌, ◌≤◌, Bool, true, false, List, [], ◌∷◌, ◌++◌, length, Option, Some, None, if◌then◌else◌, ⊤}
use Rattle.std.specs.declared.hash.DefaultHasher.{DefaultHasher as State}
use Rattle.std.specs.Hash.DefaultHasher.{initial, write, finish}
use Rattle.hc_image_text.specs.declared.frame.Kind.{Kind}
use Rattle.hc_image_text.specs.Frames.{Frame, frame_bytes}
use Rattle.hc_image_text.specs.Images.{is_end, end_frame, frames_bytes}
use Rattle.hc_engines.specs.large.Index.{Indexed}
use Rattle.hc_image.specs.declared.refusal.NotSaved.{NotSaved}
use Rattle.hc_image.specs.declared.refusal.NotSaved.TheVariants.{NoMemory, TooLong}

-- ---- the records that are left

-- the frame's record stands behind the bytes, and isn't the one that ends the image
pub record IsPut (f : Frame) (kind : Kind) (before after : List ℕ) : Type 0 where
  pub kind_is : kind ≡ f.kind
  pub bytes : after ≡ before ++ f.body
  pub inner : is_end f.kind ≡ false

-- the record that was put is that of the frame
abbrev pub Puts : Frame → Option Kind → List ℕ → List ℕ → Type 0
Puts f None before after = ⊥
Puts f (Some kind) before after = IsPut f kind before after

-- What was put behind the bytes is the record of the first of the frames that were left; or nothing, where none was left.
abbrev pub Makes : Option Kind → List Frame → List Frame → List ℕ → List ℕ → Type 0
Makes None old new before after = (old ≡ []) × (new ≡ []) × (after ≡ before)
Makes (Some kind) old new before after = (f : Frame) × (old ≡ f ∷ new) × IsPut f kind before after

-- where the hashes lead of which none was given yet
abbrev pub leads_of : Option (List Indexed) → List Indexed
leads_of None = []
leads_of (Some index) = index

-- ---- a saver

-- the frames that are left, the digest of those that were given, and whether the image ended
pub record Saving : Type 0 where
  pub left : List Frame
  pub digest : State
  pub ended : Bool
  -- a record wasn't given for want of memory: so nothing more is given
  pub broken : Bool

abbrev pub saving : List Frame → State → Saving
saving left digest = record { left = left; digest = digest; ended = false; broken = false }

-- the bytes of the next frame; the last one has the digest of all before it
abbrev pub given_of : State → List Frame → List ℕ
given_of digest [] = frame_bytes (end_frame (finish digest))
given_of digest (f ∷ fs) = frame_bytes f

abbrev pub given : Saving → List ℕ
given s = if s.ended then [] else given_of s.digest s.left

abbrev pub after_of : State → List Frame → Saving
after_of digest [] = record { left = []; digest = initial; ended = true; broken = false }
after_of digest (f ∷ fs) = saving fs (write digest (frame_bytes f))

-- what is left behind it
abbrev pub after : Saving → Saving
after s = if s.ended then s else after_of s.digest s.left

-- why it isn't given: memory lacks, or its record has more bytes than a frame can have
abbrev pub IsWhyNot : NotSaved → List Frame → Type 0
IsWhyNot NoMemory left = ⊤
IsWhyNot TooLong [] = ⊥
IsWhyNot TooLong (f ∷ fs) = 2 ^ 32 ≤ 5 + length f.body

-- all bytes that are still to come
abbrev pub still : Saving → List ℕ
still s = if s.ended then [] else frames_bytes s.left ++ frame_bytes (end_frame (finish (write s.digest (frames_bytes s.left))))
