-- What was written so far, and what is left to write.
use Rattle.std.proofs.Common.{◌≡◌, ℕ, ◌+◌, ◌<◌, List, [], ◌∷◌, ◌++◌, length, Bool, true, false, ◌==◌, nat_lt, if◌then◌else◌, Option, None, Some, Result, Ok, Err, OnOk, refl, sym, ◌∙◌, ap, arith, append_assoc, append-nil, length-append}
use Rattle.std.proofs.lemmas.Bool.{lt-ltb}
use Rattle.std.proofs.lemmas.Grind.{common_steps}
use Rattle.std.proofs.KnownBytes.{Appends-nil, Appends-trans, Consumes-nil, Consumes-trans, Keeps-refl, append_known-grown}
use Rattle.std.specs.Io.KnownBytes.{Appends, Consumes, IsAtEnd, append_known}
use Rattle.hc_trace_text.specs.Lines.{onto_first, lines_of, Lacks}
use Rattle.hc_trace_text.specs.Texts.{fault_text}
use Rattle.hc_trace_meaning.specs.Trace.{onto, output_of}
use Rattle.hc_trace_meaning.specs.Turns.{State, begun, stops, turn_of, ended, after_turn, output_from}
use Rattle.hc_trace.specs.Trace.{Answers}
use Rattle.hc_trace.specs.Places.{output_after, Leads, Ends}
use Rattle.hc_trace_text.proofs.Parts.{lacks-append, lines-ended}
use Rattle.hc_trace_meaning.proofs.Same.{output_is_by_lines}

pub on-ok : {T E P : Type 0} (r : Result T E) → P → OnOk r P
on-ok (Ok x) h = h
on-ok (Err e) h = tt

lines-one : (b : ℕ) (line : List ℕ) → Lacks 10 (b ∷ line) → lines_of (b ∷ line) ≡ (b ∷ line) ∷ []
lines-one b [] h = rw h.0 refl
lines-one b (c ∷ line) h = rw h.0 (ap (onto_first b) (lines-one c line h.1))

some-length : (b : ℕ) (line : List ℕ) → (length (b ∷ line) == 0) ≡ false
some-length b line = grind (arith, common_steps)

pub lines-last : (line : List ℕ) → Lacks 10 line → lines_of line ≡ (if length line == 0 then [] else line ∷ [])
lines-last [] h = refl
lines-last (b ∷ line) h = rw (some-length b line) (lines-one b line h)

-- an open line begins the first of the lines
lines-begun : (b : ℕ) (line rest : List ℕ) → Lacks 10 (b ∷ line) → (more : List ℕ) × (later : List (List ℕ)) × (lines_of (b ∷ line ++ rest) ≡ (b ∷ line ++ more) ∷ later)
lines-begun b [] rest h = rw h.0 (elim (lines_of rest) as (λ ls. (more : List ℕ) × (later : List (List ℕ)) × (onto_first b ls ≡ (b ∷ more) ∷ later)) [
  | [] ↦ ([], [], refl)
  | l ∷ ls ↦ (l, ls, refl)
])
lines-begun b (c ∷ line) rest h = let on = lines-begun c line rest h.1 in (on.0, on.1, rw h.0 (ap (onto_first b) on.2))

-- a line that is already too long, wherever it ends
too-long : (n : ℕ) (state : State) (line more : List ℕ) → 2097152 < length line → turn_of n state (line ++ more) ≡ stops state (fault_text (n + 1))
too-long n state line more h =
    let l : nat_lt 2097152 (length (line ++ more)) ≡ true = lt-ltb _ _ (omega (arith, h, length-append line more)) in
    rw l refl

long : (line rest : List ℕ) (n : ℕ) (state : State) → Lacks 10 line → 2097152 < length line → output_from n state (lines_of (line ++ rest)) ≡ (fault_text (n + 1), 1)
long [] rest n state o h = absurd (omega arith)
long (b ∷ line) rest n state o h =
    let on = lines-begun b line rest o in
    ap (output_from n state) on.2 ∙ ap (λ turn. after_turn turn (output_from (n + 1) turn.state on.1)) (too-long n state (b ∷ line) on.0 h)

pub leads-start : (a : Option (List ℕ)) (n : ℕ) (state : State) (bytes : List ℕ) → Leads a a n state bytes n state bytes
leads-start a n state bytes = record { text = []; wrote = Appends-nil a; follows = λ more. refl }

-- the first line of what is left, however it goes on
head-line : (line part rest later more : List ℕ) → rest ≡ part ++ 10 ∷ later → Lacks 10 line → Lacks 10 part → lines_of ((line ++ rest) ++ more) ≡ (line ++ part) ∷ lines_of (later ++ more)
head-line line part rest later more e o p =
    let whole : (line ++ (part ++ 10 ∷ later)) ++ more ≡ (line ++ part) ++ 10 ∷ (later ++ more) = simp append_assoc in
    ap (λ z. lines_of ((line ++ z) ++ more)) e ∙ ap lines_of whole ∙ lines-ended (line ++ part) (later ++ more) (lacks-append 10 line part o p)

turn-goes : (n : ℕ) (state : State) (line : List ℕ) (later : List ℕ × ℕ) → (turn_of n state line).goes ≡ true → after_turn (turn_of n state line) later ≡ onto (turn_of n state line).text later
turn-goes n state line later e = rw e refl

turn-stops : (n : ℕ) (state : State) (line : List ℕ) (later : List ℕ × ℕ) → (turn_of n state line).goes ≡ false → after_turn (turn_of n state line) later ≡ ((turn_of n state line).text, 1)
turn-stops n state line later e = rw e refl

-- a line after which the trace goes on
pub leads-line : {a b : Option (List ℕ)} {n m : ℕ} {first state : State} {bytes : List ℕ} (c : Option (List ℕ)) (next : State) (line rest part later : List ℕ) (on : Bool) → Leads a b n first bytes m state (line ++ rest)
    → rest ≡ part ++ 10 ∷ later → Lacks 10 line → Lacks 10 part → on ≡ (turn_of m state (line ++ part)).goes → on ≡ true → ((after : ℕ) (more : List (List ℕ)) → output_from after next more ≡ output_from after (turn_of m state (line ++ part)).state more)
    → Appends b c (turn_of m state (line ++ part)).text → Leads a c n first bytes (m + 1) next later
leads-line {a} {b} {n} {m} {first} {state} {bytes} c next line rest part later on l e o p io hit is w =
    let turn = turn_of m state (line ++ part) in
    record {
      text = l.text ++ turn.text;
      wrote = Appends-trans a b c l.text turn.text l.wrote w;
      follows = λ more.
          let out = output_after (m + 1) turn.state (later ++ more) in
          let f : output_after m state ((line ++ rest) ++ more) ≡ onto turn.text out = ap (output_from m state) (head-line line part rest later more e o p) ∙ turn-goes m state (line ++ part) out (sym io ∙ hit) in
          l.follows more ∙ ap (onto l.text) f ∙ ap (λ z. (z, out.1)) (sym (append_assoc l.text turn.text out.0)) ∙ ap (onto (l.text ++ turn.text)) (sym (is (m + 1) (lines_of (later ++ more))));
    }

-- a line after which it doesn't
pub leads-fault : {a b : Option (List ℕ)} {n m : ℕ} {first state : State} {bytes : List ℕ} (c : Option (List ℕ)) (line rest part later : List ℕ) (on : Bool) → Leads a b n first bytes m state (line ++ rest)
    → rest ≡ part ++ 10 ∷ later → Lacks 10 line → Lacks 10 part → on ≡ (turn_of m state (line ++ part)).goes → on ≡ false
    → Appends b c (turn_of m state (line ++ part)).text → Ends a c n first bytes
leads-fault {a} {b} {n} {m} {first} {state} {bytes} c line rest part later on l e o p io miss w =
    let turn = turn_of m state (line ++ part) in
    record {
      text = l.text ++ turn.text;
      wrote = Appends-trans a b c l.text turn.text l.wrote w;
      follows = λ more.
          let out = output_after (m + 1) turn.state (later ++ more) in
          let f : output_after m state ((line ++ rest) ++ more) ≡ (turn.text, 1) = ap (output_from m state) (head-line line part rest later more e o p) ∙ turn-stops m state (line ++ part) out (sym io ∙ miss) in
          l.follows more ∙ ap (onto l.text) f;
    }

-- a line that is too long before it ends
pub leads-long : {a b : Option (List ℕ)} {n m : ℕ} {first state : State} {bytes line : List ℕ} (c : Option (List ℕ)) → Leads a b n first bytes m state line
    → Lacks 10 line → 2097152 < length line → Appends b c (turn_of m state line).text → Ends a c n first bytes
leads-long {a} {b} {n} {m} {first} {state} {bytes} {line} c l o h w =
    let stopped : turn_of m state line ≡ stops state (fault_text (m + 1)) = ap (turn_of m state) (sym (append-nil line)) ∙ too-long m state line [] h in
    let w' : Appends b c (fault_text (m + 1)) = rw (ap (λ turn. turn.text) stopped) at w in
    record {
      text = l.text ++ fault_text (m + 1);
      wrote = Appends-trans a b c l.text (fault_text (m + 1)) l.wrote w';
      follows = λ more. l.follows more ∙ ap (onto l.text) (long line more m state o h);
    }

-- one chunk after another
leads-more : {a b : Option (List ℕ)} {n m : ℕ} {first state : State} {bytes line : List ℕ} (c : Option (List ℕ)) (k : ℕ) (next : State) (chunk rest : List ℕ) → Leads a b n first bytes m state line
    → Leads b c m state (line ++ chunk) k next rest → Leads a c n first (bytes ++ chunk) k next rest
leads-more {a} {b} {n} {m} {first} {state} {bytes} {line} c k next chunk rest l r = record {
  text = l.text ++ r.text;
  wrote = Appends-trans a b c l.text r.text l.wrote r.wrote;
  follows = λ more.
      let out = output_after k next (rest ++ more) in
      ap (output_after n first) (append_assoc bytes chunk more) ∙ l.follows (chunk ++ more) ∙ ap (λ z. onto l.text (output_after m state z)) (sym (append_assoc line chunk more))
      ∙ ap (onto l.text) (r.follows more) ∙ ap (λ z. (z, out.1)) (sym (append_assoc l.text r.text out.0));
}

-- the trace stops in the chunk
answers-stopped : (read now new old mid after : Option (List ℕ)) (bytes line chunk : List ℕ) (m : ℕ) (state : State) → Consumes read now bytes → Consumes now new chunk
    → Leads old mid 0 begun bytes m state line → Ends mid after m state (line ++ chunk) → Answers read old after 1
answers-stopped None now new old mid after bytes line chunk m state c d l r = tt
answers-stopped (Some input) None new old mid after bytes line chunk m state c d l r = absurd c
answers-stopped (Some input) (Some rest) None old mid after bytes line chunk m state c d l r = absurd d
answers-stopped (Some input) (Some rest) (Some next) old mid after bytes line chunk m state c d l r =
    let whole : output_of input ≡ (l.text ++ r.text, 1) =
    output_is_by_lines input ∙ ap (output_after 0 begun) (c ∙ ap (λ z. bytes ++ z) d) ∙ l.follows (chunk ++ next) ∙ ap (λ z. onto l.text (output_after m state z)) (sym (append_assoc line chunk next)) ∙ ap (onto l.text) (r.follows next) in (
      sym (ap (λ z. z.1) whole),
      rw whole (Appends-trans old mid after l.text r.text l.wrote r.wrote),
    )

-- the end
answers-ended : (read now old mid after : Option (List ℕ)) (bytes line : List ℕ) (m status : ℕ) (state : State) → Consumes read now bytes → IsAtEnd now → Leads old mid 0 begun bytes m state line → Lacks 10 line
    → status ≡ (output_from m state (if length line == 0 then [] else line ∷ [])).1 → Appends mid after (output_from m state (if length line == 0 then [] else line ∷ [])).0 → Answers read old after status
answers-ended None now old mid after bytes line m status state c e l o s w = tt
answers-ended (Some input) None old mid after bytes line m status state c e l o s w = absurd c
answers-ended (Some input) (Some rest) old mid after bytes line m status state c e l o s w =
    let out : List ℕ × ℕ = output_from m state (if length line == 0 then [] else line ∷ []) in
    let last : output_after m state (line ++ []) ≡ out = ap (output_after m state) (append-nil line) ∙ ap (output_from m state) (lines-last line o) in
    let whole : output_of input ≡ onto l.text out = output_is_by_lines input ∙ ap (output_after 0 begun) (c ∙ ap (λ z. bytes ++ z) e) ∙ l.follows [] ∙ ap (onto l.text) last in (
      s ∙ sym (ap (λ z. z.1) whole),
      rw whole (Appends-trans old mid after l.text out.0 l.wrote w),
    )

-- what was gathered grows
gathered : (a b : Option (List ℕ)) (old new text more : List ℕ) → Appends a (append_known b old) text → new ≡ old ++ more → Appends a (append_known b new) (text ++ more)
gathered a b old new text more w e = Appends-trans a (append_known b old) (append_known b new) text more w (append_known-grown (append_known b old) b old new more (Keeps-refl (append_known b old)) e)

-- and is written
written : (a b c : Option (List ℕ)) (out text : List ℕ) → Appends a (append_known b out) text → Appends b c out → Appends a (append_known c []) text
written None b c out text h w = tt
written (Some x) None c out text h w = absurd h
written (Some x) (Some y) None out text h w = absurd w
written (Some x) (Some y) (Some z) out text h w = append-nil z ∙ w ∙ h

-- the bytes that were read so far, and what was written of them
pub record Progress (read now old new : Option (List ℕ)) (m : ℕ) (state : State) (line : List ℕ) : Type 0 where
  pub bytes : List ℕ
  pub took : Consumes read now bytes
  pub leads : Leads old new 0 begun bytes m state line

pub progress-start : (read old : Option (List ℕ)) → Progress read read old old 0 begun []
progress-start read old = record { bytes = []; took = Consumes-nil read; leads = leads-start old 0 begun [] }

pub progress-written : {read now old : Option (List ℕ)} {m : ℕ} {state : State} {line : List ℕ} (b c : Option (List ℕ)) (out new : List ℕ) → Progress read now old (append_known b out) m state line → Appends b c out → new ≡ []
    → Progress read now old (append_known c new) m state line
progress-written {read} {now} {old} {m} {state} {line} b c out new p w none = rw none (record {
  bytes = p.bytes;
  took = p.took;
  leads = record { text = p.leads.text; wrote = written old b c out p.leads.text p.leads.wrote w; follows = p.leads.follows };
})

pub progress-more : {read now old mid : Option (List ℕ)} {m : ℕ} {state : State} {line : List ℕ} (new after : Option (List ℕ)) (k : ℕ) (next : State) (chunk rest : List ℕ) → Progress read now old mid m state line → Consumes now new chunk
    → Leads mid after m state (line ++ chunk) k next rest → Progress read new old after k next rest
progress-more {read} {now} {old} {mid} {m} {state} {line} new after k next chunk rest p c l = record {
  bytes = p.bytes ++ chunk;
  took = Consumes-trans read now new p.bytes chunk p.took c;
  leads = leads-more after k next chunk rest p.leads l;
}

pub progress-stopped : {read now old mid : Option (List ℕ)} {m : ℕ} {state : State} {line : List ℕ} (new after : Option (List ℕ)) (chunk : List ℕ) → Progress read now old mid m state line → Consumes now new chunk
    → Ends mid after m state (line ++ chunk) → Answers read old after 1
progress-stopped {read} {now} {old} {mid} {m} {state} {line} new after chunk p c l = answers-stopped read now new old mid after p.bytes line chunk m state p.took c p.leads l

pub progress-end : {read now old mid : Option (List ℕ)} {m : ℕ} {state : State} {line : List ℕ} (after : Option (List ℕ)) (status : ℕ) → Progress read now old mid m state line → IsAtEnd now → Lacks 10 line
    → status ≡ (output_from m state (if length line == 0 then [] else line ∷ [])).1 → Appends mid after (output_from m state (if length line == 0 then [] else line ∷ [])).0 → Answers read old after status
progress-end {read} {now} {old} {mid} {m} {state} {line} after status p e o s w = answers-ended read now old mid after p.bytes line m status state p.took e p.leads o s w

-- the last line, and the end
pub finish-line : (a b : Option (List ℕ)) (out new line : List ℕ) (n m : ℕ) (state next : State) (on : Bool) (status : ℕ) → (length line == 0) ≡ false → on ≡ (turn_of n state line).goes → on ≡ true → ((after : ℕ) (more : List (List ℕ)) → output_from after next more ≡ output_from after (turn_of n state line).state more)
    → Appends a (append_known b out) (turn_of n state line).text → m ≡ n + 1 → status ≡ (ended m next).1 → new ≡ out ++ (ended m next).0
    → (status ≡ (output_from n state (if length line == 0 then [] else line ∷ [])).1) × Appends a (append_known b new) (output_from n state (if length line == 0 then [] else line ∷ [])).0
finish-line a b out new line n m state next on status some io hit is w e s g =
    let turn = turn_of n state line in
    let f : output_from n state (line ∷ []) ≡ onto turn.text (ended m next) = turn-goes n state line (ended (n + 1) turn.state) (sym io ∙ hit) ∙ ap (λ k. onto turn.text (ended k turn.state)) (sym e) ∙ ap (onto turn.text) (sym (is m [])) in
    rw (some, f) (s, gathered a b out new turn.text (ended m next).0 w g)

pub finish-none : (b : Option (List ℕ)) (out new line : List ℕ) (n m : ℕ) (state next : State) (status : ℕ) → (length line == 0) ≡ true → m ≡ n → next ≡ state → status ≡ (ended m next).1 → new ≡ out ++ (ended m next).0
    → (status ≡ (output_from n state (if length line == 0 then [] else line ∷ [])).1) × Appends (append_known b out) (append_known b new) (output_from n state (if length line == 0 then [] else line ∷ [])).0
finish-none b out new line n m state next status none e is s g =
    let f : ended n state ≡ ended m next = ap (λ k. ended k state) (sym e) ∙ ap (ended m) (sym is) in
    rw (none, f) (s, gathered (append_known b out) b out new [] (ended m next).0 (Appends-nil (append_known b out)) g)
