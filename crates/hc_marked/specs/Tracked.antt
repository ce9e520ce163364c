-- Digests that are kept beside a log, by whoever hands in the results of a device.
use Rattle.std.specs.Prelude.{◌≡◌, ℕ, List, [], Some}
use Rattle.hc_history.specs.Note.{Note}
use Rattle.hc_history.specs.Pages.{bytes_at}
use Rattle.hc_history.specs.Lawful.{past}
use Rattle.hc_marked.specs.Marked.{Marks, Marked}

-- each page that was read has the digest of the page as last written, and these are the digests of the pages that are known
pub record Tracks (digest : List ℕ → ℕ) (marks : Marks) (log : List Note) : Type 0 where
  pub marked : Marked digest log
  pub known : (page : ℕ) (bytes : List ℕ) → bytes_at (past [] log) page ≡ Some bytes → marks page ≡ Some (digest bytes)
