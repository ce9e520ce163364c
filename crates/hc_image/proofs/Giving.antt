-- The frame that a saver gives, and what it has left behind it.
use Rattle.std.proofs.Common.{◌≡◌, ℕ, ◌+◌, ◌^◌, ◌≤◌, Bool, false, List, [], ◌∷◌, ◌++◌, length, drop, Option, Some, sym, ap, subst, drop_at, ◌∙◌, arith, length-append}
use Rattle.std.specs.Prelude.{Result, Ok, Err, OnOk}
use Rattle.std.specs.declared.hash.DefaultHasher.{DefaultHasher as State}
use Rattle.std.specs.Hash.DefaultHasher.{write}
use Rattle.hc_image_text.specs.declared.frame.Kind.{Kind}
use Rattle.hc_image_text.specs.Frames.{Frame, framed, frame_bytes}
use Rattle.hc_image.specs.Saving.{IsPut, IsWhyNot, Makes, Saving, given_of, after_of}
use Rattle.hc_image.specs.declared.refusal.NotSaved.{NotSaved}
use Rattle.hc_image.specs.declared.refusal.NotSaved.TheVariants.{NoMemory, TooLong}

-- five bytes
abbrev pub Front : List ℕ → List ℕ → Type 0
Front entry before = (b : List ℕ) × (before ≡ entry ++ b) × (length b ≡ 5)

body_of : (entry before after : List ℕ) (f : Frame) (kind : Kind) → entry ≡ [] → Front entry before → IsPut f kind before after → framed kind (drop 5 after) ≡ f
body_of entry before after f kind none (b, e, five) put =
    let front : before ≡ b = e ∙ ap (λ l. l ++ b) none in
    let body : drop 5 after ≡ f.body = ap (drop 5) (put.bytes ∙ ap (λ l. l ++ f.body) front) ∙ drop_at b f.body 5 five in
    λ i. framed (put.kind_is i) (body i)

pub frame_given : (old new : List Frame) (o : Option Kind) (kind : Kind) (entry before after bytes : List ℕ) (digest : State) → entry ≡ [] → Front entry before → o ≡ Some kind → Makes o old new before after
    → bytes ≡ frame_bytes (framed kind (drop 5 after)) → bytes ≡ given_of digest old
frame_given old new o kind entry before after bytes digest none front is made e =
    let m : Makes (Some kind) old new before after = subst (λ (x : Option Kind). Makes x old new before after) is made in
    e ∙ ap frame_bytes (body_of entry before after m.0 kind none front m.2) ∙ ap (given_of digest) (sym m.1)

pub frame_behind : (s : Saving) (old new : List Frame) (d fed : State) (ended broken : Bool) (o : Option Kind) (kind : Kind) (entry before after bytes : List ℕ)
    → ◌≡◌ {A = Saving} (record { left = old; digest = d; ended = ended; broken = broken }) s → s.broken ≡ false → s.ended ≡ false
    → entry ≡ [] → Front entry before → o ≡ Some kind → Makes o old new before after → bytes ≡ frame_bytes (framed kind (drop 5 after)) → fed ≡ write d bytes
    → ◌≡◌ {A = Saving} (record { left = new; digest = fed; ended = ended; broken = broken }) (after_of s.digest s.left)
frame_behind s old new d fed ended broken o kind entry before after bytes view whole goes none front is made e f =
    let m : Makes (Some kind) old new before after = subst (λ (x : Option Kind). Makes x old new before after) is made in
    let first = m.0 in
    let written : fed ≡ write d (frame_bytes first) = f ∙ ap (write d) (e ∙ ap frame_bytes (body_of entry before after first kind none front m.2)) in
    let left : first ∷ new ≡ s.left = sym m.1 ∙ ap (λ (x : Saving). x.left) view in
    let digest : d ≡ s.digest = ap (λ (x : Saving). x.digest) view in
    let on : ended ≡ false = ap (λ (x : Saving). x.ended) view ∙ goes in
    let intact : broken ≡ false = ap (λ (x : Saving). x.broken) view ∙ whole in
    (λ i. record { left = new; digest = written i; ended = on i; broken = intact i })
    ∙ (λ i. after_of (digest i) (left i))

-- who has too many bytes for a frame has a record that has
pub too_long : (s : Saving) (old new : List Frame) (o : Option Kind) (kind : Kind) (entry before after : List ℕ) (why : NotSaved) → old ≡ s.left
    → entry ≡ [] → Front entry before → o ≡ Some kind → Makes o old new before after → 2 ^ 32 ≤ length after → IsWhyNot why s.left
too_long s old new o kind entry before after NoMemory view none front is made many = tt
too_long s old new o kind entry before after TooLong view none (b, e, five) is made many =
    let m : Makes (Some kind) old new before after = subst (λ (x : Option Kind). Makes x old new before after) is made in
    let first : before ≡ b = e ∙ ap (λ l. l ++ b) none in
    let all : length after ≡ 5 + length m.0.body = ap length (m.2.bytes ∙ ap (λ l. l ++ m.0.body) first) ∙ length-append b m.0.body ∙ ap (λ n. n + length m.0.body) five in
    let is_left : m.0 ∷ new ≡ s.left = sym m.1 ∙ view in
    subst (IsWhyNot TooLong) is_left (omega (arith, many, all))

pub on_ok_both : {T E : Type 0} {P Q R : Type 0} (r : Result T E) → (P → Q → R) → OnOk r P → OnOk r Q → OnOk r R
on_ok_both (Ok x) f p q = f p q
on_ok_both (Err e) f p q = tt
