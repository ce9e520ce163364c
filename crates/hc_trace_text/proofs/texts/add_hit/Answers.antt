use Rattle.hc_trace_text.proofs.Values.{reads-back}
use Rattle.hc_trace_text.proofs.texts.add_hit.Goals as goal

pub returns-clause-reads_back : goal.returns-clause-reads_back
returns-clause-reads_back c = reads-back c.args.value.now
