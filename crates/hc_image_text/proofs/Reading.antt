-- What a reader of an image knows once a frame came, and the loop over all of them.
use Rattle.std.proofs.Common.{◌≡◌, ℕ, ◌+◌, ◌-◌, ◌<◌, ◌≤◌, Bool, false, List, ◌∷◌, length, take, Option, Some, None, refl, sym, ap, arith, length-append, take_at, ◌∙◌}
use Rattle.std.specs.Prelude.{is_some, option_map, Ok, Err, if◌then◌else◌}
use Rattle.std.specs.declared.hash.DefaultHasher.{DefaultHasher as State}
use Rattle.std.specs.Hash.DefaultHasher.{write}
use Rattle.hc_image_text.specs.declared.frame.Kind.{Kind}
use Rattle.hc_image_text.specs.declared.head.Refused.TheVariants as refused
use Rattle.hc_image_text.specs.Frames.{Frame, framed, frame_bytes, Cut, cut_of, cut}
use Rattle.hc_image_text.specs.Images.{is_end, Reading, ends, next_of, next, behind, frames_on, frames_from}
use Rattle.hc_image_text.proofs.Framed.{cut_spelled}
use Rattle.hc_image_text.proofs.Imaged.{Next, Small, inner_of}
use Rattle.hc_image_text.proofs.Rows.{next_count}

-- a frame that was cut off is there
pub is_there : (bytes : List ℕ) (kind : Kind) (body rest : List ℕ) → Small bytes → cut bytes ≡ Some (cut_of kind body rest) → 5 + length body ≤ length bytes
is_there bytes kind body rest small found =
    let spelled = (cut_spelled bytes (cut_of kind body rest) small found).0 in
    let front = frame_bytes (framed kind body) in
    omega (arith, ap length spelled ∙ length-append front rest)

pub went_on : (d new : State) (ended : Bool) (bytes : List ℕ) (kind : Kind) (body rest : List ℕ) → Small bytes → ended ≡ false → cut bytes ≡ Some (cut_of kind body rest) → is_end kind ≡ false
    → new ≡ write d (take (5 + length body) bytes)
    → ◌≡◌ {A = Reading} (record { digest = new; ended = ended }) (behind (record { digest = d; ended = ended }) (next (record { digest = d; ended = ended }) bytes))
went_on d new ended bytes kind body rest small e found inner is =
    let r : Reading = record { digest = d; ended = ended } in
    let c = cut_of kind body rest in
    let front = frame_bytes (framed kind body) in
    let spelled = (cut_spelled bytes c small found).0 in
    let fed : take (5 + length body) bytes ≡ front = ap (take (5 + length body)) spelled ∙ take_at front rest (5 + length body) (omega arith) in
    let last : Next = if ends d c then Ok None else Err refused.NotWhole in
    let answer : next r bytes ≡ Ok (Some c) = ap (λ (t : Bool). if t then Err refused.NotWhole else next_of d (cut bytes)) e ∙ ap (next_of d) found ∙ inner_of (is_end kind) last c inner in
    (λ i. record { digest = (is ∙ ap (write d) fed) i; ended = ended }) ∙ ap (behind r) (sym answer)

-- what was answered, where what stands in it is known
pub answered : {X : Type 0} (seen : X → Cut) (o p : Option X) (read : Next) → o ≡ p → read ≡ Ok (option_map seen o) → read ≡ Ok (option_map seen p)
answered seen o p read e h = h ∙ ap (λ q. Ok (option_map seen q)) e

-- ---- the loop: whether what is left is the rest of an image is whether all is one

same_some : (f : Frame) (o : Option (List Frame)) → is_some (option_map (λ frames. f ∷ frames) o) ≡ is_some o
same_some f None = refl
same_some f (Some frames) = refl

pub loop_frame : (n i : ℕ) (r : Reading) (rest : List ℕ) (c : Cut) (all : Bool) → i < n → next r rest ≡ Ok (Some c)
    → is_some (frames_from (n - i) r rest) ≡ all → is_some (frames_from (n - (i + 1)) (behind r (Ok (Some c))) c.rest) ≡ all
loop_frame n i r rest c all h found before =
    let k = n - (i + 1) in
    sym (same_some c.frame (frames_from k (behind r (Ok (Some c))) c.rest))
    ∙ ap (λ (x : Next). is_some (frames_on r (frames_from k) x)) (sym found)
    ∙ ap (λ k2. is_some (frames_from k2 r rest)) (sym (next_count n i h))
    ∙ before

pub loop_stops : (n i : ℕ) (r : Reading) (rest : List ℕ) (x : Next) (all : Bool) → i < n → next r rest ≡ x
    → is_some (frames_from (n - i) r rest) ≡ all → is_some (frames_on r (frames_from (n - (i + 1))) x) ≡ all
loop_stops n i r rest x all h found before =
    ap (λ (x2 : Next). is_some (frames_on r (frames_from (n - (i + 1))) x2)) (sym found)
    ∙ ap (λ k2. is_some (frames_from k2 r rest)) (sym (next_count n i h))
    ∙ before
