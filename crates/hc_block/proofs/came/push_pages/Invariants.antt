use Rattle.std.proofs.Common.{◌≡◌, ◌++◌, drop}
use Rattle.std.specs.List.{concat}
use Rattle.hc_block.proofs.came.push_pages.Given as goal

-- with the pages that weren't walked, all is there
abbrev pub invariant-loop-page : goal.invariant-loop-page
invariant-loop-page g l = l.bytes.items ++ concat (drop l.page-index l.pages) ≡ l.initial.bytes.items ++ concat l.pages
