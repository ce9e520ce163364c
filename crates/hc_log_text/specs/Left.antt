-- The fields that are left of a line.
use Rattle.std.specs.Prelude.{ℕ, List, []}
use Rattle.hc_trace_text.specs.Lines.{fields_of}
use Rattle.hc_log_text.specs.declared.fields.Rest.{Rest}
use Rattle.hc_log_text.specs.declared.fields.Rest.TheVariants.{Empty, Text}

abbrev pub left : Rest → List (List ℕ)
left Empty = []
left (Text text) = fields_of text.now
