use Rattle.hc_verdict.proofs.lawful.is_true_cause.Goals as goal

pub returns-in-Key-Expired : goal.returns-in-Key-Expired
returns-in-Key-Expired g c = rw (c.in-Key-Expired.is-0, c.in-Key-Expired.is-1) (c.may_expire.ensures c.args.rest.now)
