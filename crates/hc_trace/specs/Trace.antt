-- What a replay answers.
use Rattle.std.specs.Prelude.{◌≡◌, ℕ, List, Option, IfSome}
use Rattle.std.specs.Io.KnownBytes.{Appends}
use Rattle.hc_trace_meaning.specs.Trace.{output_of}

-- where the bytes that are read are known, the status and what is written are theirs
abbrev pub Answers : Option (List ℕ) → Option (List ℕ) → Option (List ℕ) → ℕ → Type 0
Answers read old new status = IfSome read (λ input. (status ≡ (output_of input).1) × Appends old new (output_of input).0)
