use Rattle.std.proofs.Common.{rules, inl, inr}
use Rattle.hc_threads.proofs.client.Client.find_by.Goals as goal

pub returns-in-Err-Open-clause-err : goal.returns-in-Err-Open-clause-err
returns-in-Err-Open-clause-err g c = inr (inl (c.in-Err-Open.call, search rules))

-- the call was answered, and is recorded with the value that was found
pub returns-in-Err-clause-err : goal.returns-in-Err-clause-err
returns-in-Err-clause-err g c = inr (inr (c.in-Ok-default-Hit.value, (c.in-Ok-default-Hit.call, search rules)))
