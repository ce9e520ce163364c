use Rattle.hc_engines.proofs.large.Spelling.{bytes_spell_one}
use Rattle.hc_engines.proofs.large_laws.bytes_hold_one_entry.Goals as goal

pub returns : goal.returns
returns c = bytes_spell_one
