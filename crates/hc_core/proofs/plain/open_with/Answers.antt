use Rattle.std.proofs.Common.{inl, inr, refl, sym, ◌∙◌, subst}
use Rattle.hc_memory.specs.Item.{Handle}
use Rattle.hc_memory.specs.Seen.{filled}
use Rattle.hc_machine.specs.Cache.{Opened, Discarded}
use Rattle.hc_machine.specs.Evicting.{allocate}
use Rattle.hc_machine.specs.Calls.{is_known, discard}
use Rattle.hc_core.specs.Logged.{IsCall}
use Rattle.hc_core.proofs.Joining.{then-call, discarded-so, opened-why}
use Rattle.hc_core.proofs.plain.open_with.Goals as goal

pub give_up_blank-requires : goal.give_up_blank-requires
give_up_blank-requires g c = record { mine = (λ i. is_known c.allocate_with.new.self.cache (c.in-Err-seal.ensures.err i)) ∙ c.in-Ok.ensures.mine }

pub returns-in-Err-clause-err : goal.returns-in-Err-clause-err
returns-in-Err-clause-err g c = inl c.in-Err.ensures.err

pub returns-in-Err-clause-why : goal.returns-in-Err-clause-why
returns-in-Err-clause-why g c = c.in-Err.ensures.why

pub returns-in-Err-seal-clause-err : goal.returns-in-Err-seal-clause-err
returns-in-Err-seal-clause-err g c =
    let mid = c.allocate_with.new.self in
    let new = c.give_up_blank.new.core in
    let left = discarded-so c.in-Ok.blank c.in-Err-seal.blank mid mid new c.in-Err-seal.ensures.err refl c.give_up_blank.ensures in
    inr (then-call discard (allocate c.args.pool c.args.key (filled c.args.fill) c.args.ttl c.args.core.now.cache) c.in-Ok.blank Discarded c.args.core.now mid new c.in-Ok.ensures.ok left, refl)

pub returns-in-Err-seal-clause-why : goal.returns-in-Err-seal-clause-why
returns-in-Err-seal-clause-why g c =
    opened-why (allocate c.args.pool c.args.key (filled c.args.fill) c.args.ttl c.args.core.now.cache) c.in-Ok.blank _ c.args.core.now c.allocate_with.new.self c.in-Ok.ensures.ok refl

pub returns-in-Ok-seal-clause-ok : goal.returns-in-Ok-seal-clause-ok
returns-in-Ok-seal-clause-ok g c =
    subst (λ (h : Handle). IsCall (allocate c.args.pool c.args.key (filled c.args.fill) c.args.ttl c.args.core.now.cache) (Opened h) c.args.core.now c.allocate_with.new.self) (sym c.in-Ok-seal.ensures.ok) c.in-Ok.ensures.ok

pub returns-in-Ok-seal-clause-mine : goal.returns-in-Ok-seal-clause-mine
returns-in-Ok-seal-clause-mine g c = (λ i. is_known c.allocate_with.new.self.cache (c.in-Ok-seal.ensures.ok i)) ∙ c.in-Ok.ensures.mine
