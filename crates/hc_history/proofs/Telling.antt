-- One note after another.
use Rattle.std.proofs.Common.{◌≡◌, ℕ, ◌+◌, Bool, true, false, List, [], ◌∷◌, ◌++◌, Option, Some, None, refl, sym, ap, ◌∙◌, append_assoc, append-nil, arith}
use Rattle.std.specs.Prelude.{option_to_list}
use mathlib.Core.Bool.{cond}
use Rattle.hc_types.specs.Tally.{count}
use Rattle.hc_types.proofs.Tallies.{tally-append}
use Rattle.hc_history.specs.Note.{Op, Note, Begin, Charged, Did, Reply, Stored, Exists, Hit, Miss, FoundInMemory, NotInMemory}
use Rattle.hc_history.specs.Stats.{is_stored, is_hit, is_miss, is_removed, is_loss, is_read, is_write}
use Rattle.hc_history.specs.declared.stats.Stats.{Stats}
use Rattle.hc_history.specs.declared.stats.Kind.{Kind}
use Rattle.hc_history.specs.declared.losses.Losses.{Losses}
use Rattle.hc_history.specs.Losses.{losses_more, losses_if, reason_in}
use Rattle.hc_history.specs.Told.{Heard, Nothing, Log, Counts, Sums, told_more, told_count, counts_more, counts_one, kind_of, is_log, losses_of, losses_count, where_kept}

-- ---- counts

none_more : (n : ℕ) → n + 0 ≡ n
none_more n = omega arith

count_twice : {X : Type 0} (test : X → Bool) (n : ℕ) (a b : List X) → n + count test a + count test b ≡ n + count test (a ++ b)
count_twice test n a b = omega (arith, tally-append (λ x. cond (test x) 1 0) a b)

pub counts-none : (counts : Stats) → counts_more counts [] ≡ counts
counts-none counts = λ i. record {
  stored = none_more counts.stored i;
  hits = none_more counts.hits i;
  misses = none_more counts.misses i;
  removes = none_more counts.removes i;
  losses = none_more counts.losses i;
  reads = none_more counts.reads i;
  writes = none_more counts.writes i;
}

pub counts-twice : (counts : Stats) (a b : List Note) → counts_more (counts_more counts a) b ≡ counts_more counts (a ++ b)
counts-twice counts a b = λ i. record {
  stored = count_twice is_stored counts.stored a b i;
  hits = count_twice is_hit counts.hits a b i;
  misses = count_twice is_miss counts.misses a b i;
  removes = count_twice is_removed counts.removes a b i;
  losses = count_twice is_loss counts.losses a b i;
  reads = count_twice is_read counts.reads a b i;
  writes = count_twice is_write counts.writes a b i;
}

losses_step : (note : Note) (xs ys : List Note) (b : Bool) → losses_of (xs ++ ys) ≡ losses_of xs ++ losses_of ys → cond b (note ∷ losses_of (xs ++ ys)) (losses_of (xs ++ ys)) ≡ cond b (note ∷ losses_of xs) (losses_of xs) ++ losses_of ys
losses_step note xs ys true h = ap (λ zs. note ∷ zs) h
losses_step note xs ys false h = h

pub losses-append : (xs ys : List Note) → losses_of (xs ++ ys) ≡ losses_of xs ++ losses_of ys
losses-append [] ys = refl
losses-append (note ∷ xs) ys = losses_step note xs ys (is_loss note) (losses-append xs ys)

pub losses-twice : (losses : Losses) (a b : List Note) → losses_more (losses_more losses a) b ≡ losses_more losses (a ++ b)
losses-twice losses [] b = refl
losses-twice losses (note ∷ a) b = losses-twice (losses_if losses (reason_in note)) a b

-- ---- what is heard

-- one part after another
pub told-twice : (heard : Heard) (a b : List Note) → told_more (told_more heard a) b ≡ told_more heard (a ++ b)
told-twice Nothing a b = refl
told-twice (Log log) a b = ap (λ ns. Log ns) (append_assoc log a b)
told-twice (Counts counts losses) a b = λ i. Counts (counts-twice counts a b i) ((append_assoc losses (losses_of a) (losses_of b) ∙ ap (λ ns. losses ++ ns) (sym (losses-append a b))) i)
told-twice (Sums counts losses) a b = λ i. Sums (counts-twice counts a b i) (losses-twice losses a b i)

-- nothing is told
pub told-nothing : (heard : Heard) → told_more heard [] ≡ heard
told-nothing Nothing = refl
told-nothing (Log log) = ap (λ ns. Log ns) (append-nil log)
told-nothing (Counts counts losses) = λ i. Counts (counts-none counts i) (append-nil losses i)
told-nothing (Sums counts losses) = ap (λ s. Sums s losses) (counts-none counts)

none_first : (n m : ℕ) → n + m ≡ n + (0 + m)
none_first n m = omega arith

-- where the log isn't kept, nothing is heard of a call's begin
pub counts-begin : (counts : Stats) (call client : ℕ) (op : Op) (rest : List Note) → counts_more counts rest ≡ counts_more counts (Begin call client op ∷ rest)
counts-begin counts call client op rest = λ i. record {
  stored = none_first counts.stored (count is_stored rest) i;
  hits = none_first counts.hits (count is_hit rest) i;
  misses = none_first counts.misses (count is_miss rest) i;
  removes = none_first counts.removes (count is_removed rest) i;
  losses = none_first counts.losses (count is_loss rest) i;
  reads = none_first counts.reads (count is_read rest) i;
  writes = none_first counts.writes (count is_write rest) i;
}

-- nor of a charge
pub counts-charged : (counts : Stats) (number pool bytes : ℕ) (key : List ℕ) → counts_more counts (Charged number key pool bytes ∷ []) ≡ counts
counts-charged counts number pool bytes key = λ i. record {
  stored = none_more counts.stored i;
  hits = none_more counts.hits i;
  misses = none_more counts.misses i;
  removes = none_more counts.removes i;
  losses = none_more counts.losses i;
  reads = none_more counts.reads i;
  writes = none_more counts.writes i;
}

-- the begin of a call, which is told where the log is kept, and what comes after it
pub told-begin : (heard : Heard) (call client : ℕ) (op : Op) (rest : List Note) → told_more (told_more heard (option_to_list (where_kept heard (Begin call client op)))) rest ≡ told_more heard (Begin call client op ∷ rest)
told-begin Nothing call client op rest = refl
told-begin (Log log) call client op rest = ap (λ ns. Log ns) (append_assoc log (Begin call client op ∷ []) rest)
told-begin (Counts counts losses) call client op rest =
    ap (λ h. told_more h rest) (told-nothing (Counts counts losses)) ∙ ap (λ s. Counts s (losses ++ losses_of rest)) (counts-begin counts call client op rest)
told-begin (Sums counts losses) call client op rest =
    ap (λ h. told_more h rest) (told-nothing (Sums counts losses)) ∙ ap (λ s. Sums s (losses_more losses rest)) (counts-begin counts call client op rest)

-- ---- answers

more_none : (n : ℕ) → n ≡ n + 0
more_none n = omega arith

one_more : (n : ℕ) → n + 1 ≡ n + (1 + 0)
one_more n = omega arith

-- what is counted of an answer: nothing, of an add that found the key's value
abbrev counts_if : Stats → Option Kind → Stats
counts_if counts None = counts
counts_if counts (Some kind) = counts_one counts kind

-- an answer is counted as its kind
pub counts-did : (counts : Stats) (call : ℕ) (reply : Reply) → counts_if counts (kind_of reply) ≡ counts_more counts (Did call reply ∷ [])
counts-did counts call Stored = λ i. record {
  stored = one_more counts.stored i;
  hits = more_none counts.hits i;
  misses = more_none counts.misses i;
  removes = more_none counts.removes i;
  losses = more_none counts.losses i;
  reads = more_none counts.reads i;
  writes = more_none counts.writes i;
}
counts-did counts call Exists = λ i. record {
  stored = more_none counts.stored i;
  hits = more_none counts.hits i;
  misses = more_none counts.misses i;
  removes = more_none counts.removes i;
  losses = more_none counts.losses i;
  reads = more_none counts.reads i;
  writes = more_none counts.writes i;
}
counts-did counts call (Hit value) = λ i. record {
  stored = more_none counts.stored i;
  hits = one_more counts.hits i;
  misses = more_none counts.misses i;
  removes = more_none counts.removes i;
  losses = more_none counts.losses i;
  reads = more_none counts.reads i;
  writes = more_none counts.writes i;
}
counts-did counts call Miss = λ i. record {
  stored = more_none counts.stored i;
  hits = more_none counts.hits i;
  misses = one_more counts.misses i;
  removes = more_none counts.removes i;
  losses = more_none counts.losses i;
  reads = more_none counts.reads i;
  writes = more_none counts.writes i;
}
counts-did counts call FoundInMemory = λ i. record {
  stored = more_none counts.stored i;
  hits = more_none counts.hits i;
  misses = more_none counts.misses i;
  removes = one_more counts.removes i;
  losses = more_none counts.losses i;
  reads = more_none counts.reads i;
  writes = more_none counts.writes i;
}
counts-did counts call NotInMemory = λ i. record {
  stored = more_none counts.stored i;
  hits = more_none counts.hits i;
  misses = more_none counts.misses i;
  removes = one_more counts.removes i;
  losses = more_none counts.losses i;
  reads = more_none counts.reads i;
  writes = more_none counts.writes i;
}

-- so where it is counted, and where it isn't
pub counts-kind : (counts : Stats) (call : ℕ) (reply : Reply) (kind : Kind) → kind_of reply ≡ Some kind → counts_one counts kind ≡ counts_more counts (Did call reply ∷ [])
counts-kind counts call reply kind e = ap (counts_if counts) (sym e) ∙ counts-did counts call reply

none_lost : (call : ℕ) (reply : Reply) → [] ≡ losses_of (Did call reply ∷ [])
none_lost call reply = refl

-- what is counted of the losses, of an answer
abbrev losses_count_if : Losses → Option Kind → Losses
losses_count_if losses None = losses
losses_count_if losses (Some kind) = losses_count losses kind

-- nothing, for an answer is no loss
none_counted : (losses : Losses) (reply : Reply) → losses_count_if losses (kind_of reply) ≡ losses
none_counted losses Stored = refl
none_counted losses Exists = refl
none_counted losses (Hit value) = refl
none_counted losses Miss = refl
none_counted losses FoundInMemory = refl
none_counted losses NotInMemory = refl

answer_no_loss : (losses : Losses) (reply : Reply) (kind : Kind) → kind_of reply ≡ Some kind → losses_count losses kind ≡ losses
answer_no_loss losses reply kind e = ap (losses_count_if losses) (sym e) ∙ none_counted losses reply

-- and heard so, where its note isn't kept
pub told-did : (heard : Heard) (call : ℕ) (reply : Reply) (kind : Kind) → is_log heard ≡ false → kind_of reply ≡ Some kind → told_count heard kind ≡ told_more heard (Did call reply ∷ [])
told-did Nothing call reply kind e is = refl
told-did (Log log) call reply kind e is = absurd cc
told-did (Counts counts losses) call reply kind e is = λ i. Counts (counts-kind counts call reply kind is i) ((sym (append-nil losses) ∙ ap (λ ns. losses ++ ns) (none_lost call reply)) i)
told-did (Sums counts losses) call reply kind e is = λ i. Sums (counts-kind counts call reply kind is i) (answer_no_loss losses reply kind is i)
