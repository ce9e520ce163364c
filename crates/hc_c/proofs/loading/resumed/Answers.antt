use Rattle.std.proofs.Common.{sym, ap, ◌∙◌}
use Rattle.hc_c.specs.declared.image.Image.{Image}
use Rattle.hc_c.proofs.Untaken.{told_of}
use Rattle.hc_c.proofs.loading.resumed.Goals as goal

pub returns-clause-err : goal.returns-clause-err
returns-clause-err c = told_of c.args.image.value.stream c.in-Loads.loader (ap (λ (i : Image). i.stream) (sym c.into_inner.ensures) ∙ sym c.into_stream.ensures ∙ c.in-Loads.is)
