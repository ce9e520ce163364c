-- What a saver gives, a loader takes, frame after frame.
use Rattle.std.proofs.Common.{◌≡◌, Bool, true, false, ℕ, List, [], ◌∷◌, ◌++◌, Some, refl, sym, ap, append_assoc, append-nil, ◌∙◌}
use Rattle.std.specs.Prelude.{Ok}
use Rattle.std.specs.declared.hash.DefaultHasher.{DefaultHasher as State}
use Rattle.std.specs.Hash.DefaultHasher.{write, finish}
use Rattle.hc_image_text.specs.Frames.{Frame, frame_bytes}
use Rattle.hc_image_text.specs.Images.{IsFrame, Reading, end_frame, frames_bytes, next, behind, having}
use Rattle.hc_image_text.proofs.Imaged.{digest_parts, steps_again}
use Rattle.hc_image.specs.Saving.{saving, given, after, still}
use Rattle.hc_image.specs.Loading.{read_as}
use Rattle.hc_image.specs.Again.{GivesImage, TakesImage}

nothing_fed : (s : State) → write s [] ≡ s
unfolding write
nothing_fed s = refl

abbrev last_bytes : State → List ℕ
last_bytes digest = frame_bytes (end_frame (finish digest))

gives_next : (left : List Frame) (digest : State) (ended broken : Bool)
    → still (record { left = left; digest = digest; ended = ended; broken = broken }) ≡ given (record { left = left; digest = digest; ended = ended; broken = broken }) ++ still (after (record { left = left; digest = digest; ended = ended; broken = broken }))
gives_next left digest true broken = refl
gives_next [] digest false broken = ap last_bytes (nothing_fed digest) ∙ sym (append-nil (last_bytes digest))
gives_next (f ∷ fs) digest false broken =
    append_assoc (frame_bytes f) (frames_bytes fs) (last_bytes (write digest (frame_bytes f ++ frames_bytes fs)))
    ∙ ap (λ d. frame_bytes f ++ (frames_bytes fs ++ last_bytes d)) (sym (digest_parts digest (frame_bytes f) (frames_bytes fs)))

pub image_given : GivesImage
image_given = record {
  all = λ frames. refl;
  next_frame = λ s. gives_next s.left s.digest s.ended s.broken;
}

is_read : (before : List Frame) (f : Frame) → IsFrame f → next (having before) (frame_bytes f) ≡ Ok (Some (record { frame = f; rest = [] }))
is_read before f fits = ap (next (having before)) (sym (append-nil (frame_bytes f))) ∙ steps_again.frame before f [] fits

pub image_taken : TakesImage
image_taken = record {
  frame = λ asked stage before f left fits. ap (read_as asked stage) (is_read before f fits);
  loader_goes_on = λ before f left fits. ap (behind (having before)) (is_read before f fits) ∙ steps_again.goes_on before f [];
  saver_goes_on = λ before f left. ap (λ (r : Reading). saving left r.digest) (steps_again.goes_on before f []);
  end = λ asked stage frames. ap (read_as asked stage) (steps_again.end frames);
  ended = λ frames. ap (λ r. (behind (having frames) r).ended) (steps_again.end frames);
}
