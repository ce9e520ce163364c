-- A whole image: frames one behind the other, and in the last one the digest of all bytes before it.
use Rattle.std.specs.Prelude.{◌≡◌, refl, ◌≢◌, ℕ, zero, suc, ◌<◌, ◌^◌, ◌==◌, nat_eq, Bool, true, false, ◌&&◌, List, [], ◌∷◌, ◌++◌, length, get_or, take, flat_map, All, Option, Some, None, option_map, Result, Ok, Err, if◌then◌else◌}
use Rattle.std.specs.Cmp.Lexicographic.{pointwise}
use Rattle.std.specs.declared.hash.DefaultHasher.{DefaultHasher as State}
use Rattle.std.specs.Hash.DefaultHasher.{initial, round, write_word, write, finish}
use Rattle.hc_image_text.specs.declared.frame.Kind.{Kind}
use Rattle.hc_image_text.specs.declared.frame.Kind.TheVariants as kinds
use Rattle.hc_image_text.specs.declared.head.Refused.{Refused}
use Rattle.hc_image_text.specs.declared.head.Refused.TheVariants as refused
use Rattle.hc_image_text.specs.Frames.{Frame, framed, frame_bytes, Cut, cut}
use Rattle.hc_image_text.specs.Numbers.{number_bytes}

abbrev pub is_end : Kind → Bool
is_end kinds.End = true
is_end kind = false

abbrev pub frames_bytes : List Frame → List ℕ
frames_bytes = flat_map frame_bytes

-- SipHash-1-3 of the bytes, with both keys 0
abbrev pub sip_hash : List ℕ → ℕ
sip_hash bytes = finish (write initial bytes)

abbrev pub end_frame : ℕ → Frame
end_frame digest = framed kinds.End (number_bytes digest)

abbrev pub image_bytes : List Frame → List ℕ
image_bytes frames = frames_bytes frames ++ frame_bytes (end_frame (sip_hash (frames_bytes frames)))

-- what stands in an image before its end
pub record IsFrame (f : Frame) : Type 0 where
  pub short : length f.body < 2 ^ 32
  pub inner : is_end f.kind ≡ false

-- ---- reading

-- what a reader knows: the digest of the frames that came, and whether the last one came
pub record Reading : Type 0 where
  pub digest : State
  pub ended : Bool

abbrev pub reading : State → Reading
reading digest = record { digest = digest; ended = false }

abbrev pub ended_with : State → Reading
ended_with digest = record { digest = digest; ended = true }

-- whether this frame ends the image: it has the digest of all before it, and nothing stands behind it
abbrev pub ends : State → Cut → Bool
ends digest c = pointwise nat_eq c.frame.body (number_bytes (finish digest)) && (length c.rest == 0)

-- a frame and what stands behind it, or none where the last one ended the image
abbrev pub next_of : State → Option Cut → Result (Option Cut) Refused
next_of digest None = Err refused.NotWhole
next_of digest (Some c) = if is_end c.frame.kind then (if ends digest c then Ok None else Err refused.NotWhole) else Ok (Some c)

abbrev pub next : Reading → List ℕ → Result (Option Cut) Refused
next r bytes = if r.ended then Err refused.NotWhole else next_of r.digest (cut bytes)

-- what the reader knows then
abbrev pub behind : Reading → Result (Option Cut) Refused → Reading
behind r (Err e) = r
behind r (Ok None) = ended_with r.digest
behind r (Ok (Some c)) = record { digest = write r.digest (frame_bytes c.frame); ended = r.ended }

-- the frames that come, one after another
abbrev pub frames_on : Reading → (Reading → List ℕ → Option (List Frame)) → Result (Option Cut) Refused → Option (List Frame)
frames_on r more (Err e) = None
frames_on r more (Ok None) = Some []
frames_on r more (Ok (Some c)) = option_map (λ frames. c.frame ∷ frames) (more (behind r (Ok (Some c))) c.rest)

-- at most so many
abbrev pub frames_from : ℕ → Reading → List ℕ → Option (List Frame)
frames_from zero r bytes = None
frames_from (suc n) r bytes = frames_on r (frames_from n) (next r bytes)

-- the frames of which the bytes are the image (each takes a byte or more), or none
abbrev pub image_in : List ℕ → Option (List Frame)
image_in bytes = frames_from (length bytes) (reading initial) bytes

-- What was answered is that, by how contracts see what stands in it.
abbrev pub ReadsAs : {X : Type 0} → (X → Cut) → Result (Option X) Refused → Result (Option Cut) Refused → Type 0
ReadsAs seen (Ok found) read = read ≡ Ok (option_map seen found)
ReadsAs seen (Err e) read = read ≡ Err e

-- ---- the laws

abbrev pub ImageReadsBack : Type 0
ImageReadsBack = (frames : List Frame) → All IsFrame frames → image_in (image_bytes frames) ≡ Some frames

-- no other bytes are read
abbrev pub ImageIsSpelled : Type 0
ImageIsSpelled = (bytes : List ℕ) (frames : List Frame) → ((i : ℕ) → get_or bytes i 0 < 256) → image_in bytes ≡ Some frames → bytes ≡ image_bytes frames

-- an image that was cut, wherever that is, is none
abbrev pub CutImageIsRefused : Type 0
CutImageIsRefused = (frames : List Frame) (n : ℕ) → All IsFrame frames → n < length (image_bytes frames) → image_in (take n (image_bytes frames)) ≡ None

-- nor is one with something behind it
abbrev pub LongerImageIsRefused : Type 0
LongerImageIsRefused = (frames : List Frame) (more : List ℕ) → All IsFrame frames → 0 < length more → image_in (image_bytes frames ++ more) ≡ None

-- nor are frames with another digest at their end
abbrev pub OtherDigestIsRefused : Type 0
OtherDigestIsRefused = (frames : List Frame) (digest : List ℕ) → All IsFrame frames → length digest < 2 ^ 32 → digest ≢ number_bytes (sip_hash (frames_bytes frames))
    → image_in (frames_bytes frames ++ frame_bytes (framed kinds.End digest)) ≡ None

-- what a reader knows once these frames came
abbrev pub having : List Frame → Reading
having frames = reading (write initial (frames_bytes frames))

-- As it streams: who has read some frames is answered the next one, and has read that too; at the end he is answered that.
pub record StepsReadBack : Type 0 where
  pub frame : (before : List Frame) (f : Frame) (rest : List ℕ) → IsFrame f → next (having before) (frame_bytes f ++ rest) ≡ Ok (Some (record { frame = f; rest = rest }))
  pub goes_on : (before : List Frame) (f : Frame) (rest : List ℕ) → behind (having before) (Ok (Some (record { frame = f; rest = rest }))) ≡ having (before ++ f ∷ [])
  pub end : (frames : List Frame) → next (having frames) (frame_bytes (end_frame (sip_hash (frames_bytes frames)))) ≡ Ok None

-- the digest of bytes that come in parts is that of the whole
abbrev pub DigestOfParts : Type 0
DigestOfParts = (s : State) (a b : List ℕ) → write (write s a) b ≡ write s (a ++ b)

-- ---- worked rows: the image of no record, whose digest is that of nothing

worked_empty : image_bytes [] ≡ 69 ∷ 0 ∷ 0 ∷ 0 ∷ 8 ∷ 209 ∷ 251 ∷ 167 ∷ 98 ∷ 21 ∷ 12 ∷ 83 ∷ 44 ∷ []
unfolding initial write write_word round finish
worked_empty = refl

worked_read : image_in (69 ∷ 0 ∷ 0 ∷ 0 ∷ 8 ∷ 209 ∷ 251 ∷ 167 ∷ 98 ∷ 21 ∷ 12 ∷ 83 ∷ 44 ∷ []) ≡ Some []
unfolding initial write write_word round finish
worked_read = refl

worked_changed : image_in (69 ∷ 0 ∷ 0 ∷ 0 ∷ 8 ∷ 209 ∷ 251 ∷ 167 ∷ 98 ∷ 21 ∷ 12 ∷ 83 ∷ 45 ∷ []) ≡ None
unfolding initial write write_word round finish
worked_changed = refl
