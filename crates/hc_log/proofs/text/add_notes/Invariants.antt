use Rattle.std.proofs.Common.{◌≡◌, ◌++◌, map, drop}
use Rattle.std.specs.List.{concat}
use Rattle.hc_log.specs.Text.{note_line}
use Rattle.hc_log.proofs.text.add_notes.Given as goal

-- what was written, and the lines from here on, are all of them
abbrev pub invariant-notes : goal.invariant-notes
invariant-notes l = l.out.items ++ concat (map note_line (drop l.note-index l.notes)) ≡ l.fn.out.items ++ concat (map note_line l.notes)
