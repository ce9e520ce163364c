use Rattle.std.proofs.Common.{refl, ◌∙◌, ap, arith}
use Rattle.hc_shards.specs.Shards.{Sharded}
use Rattle.hc_shard_run.proofs.Fitting.{room-for}
use Rattle.hc_shard_run.proofs.Turning.{lanes-own}
use Rattle.hc_shard_run.proofs.Ending.{ends-many, all-promised, all-alone, all-own, all-failures}
use Rattle.hc_shard_run.proofs.runs.run_shards.Goals as goal

pub go_through-requires-clause-lanes : goal.go_through-requires-clause-lanes
go_through-requires-clause-lanes g c = c.in_ok-lanes.ensures.lanes (g.D.Flash.held c.args.device)

pub go_through-requires-clause-right : goal.go_through-requires-clause-right
go_through-requires-clause-right g c = c.in_default.ensures.ok.0 refl

pub end_all-requires-clause-room : goal.end_all-requires-clause-room
end_all-requires-clause-room g c = room-for _ _ _ _ _ c.go_through.ensures.many c.in_ok-lanes.ensures.many (c.from.ensures ∙ ap (λ (s : Sharded). s.shards) c.sharded.view_is) c.in-Ok-with_capacity.ensures.capacity

pub end_all-requires-clause-own : goal.end_all-requires-clause-own
end_all-requires-clause-own g c = lanes-own c.args.sharded.now (g.D.Flash.held c.go_through.new.device) c.args.steps.now c.go_through.new.lanes.items (c.in_default.ensures.ok.0 refl) c.go_through.ensures.lanes

pub returns-clause-count : goal.returns-clause-count
returns-clause-count g c = ends-many c.go_through.new.lanes.items c.end_all.new.ran.items c.end_all.ensures ∙ c.go_through.ensures.many ∙ c.in_ok-lanes.ensures.many

pub returns-clause-promised : goal.returns-clause-promised
returns-clause-promised g c = all-promised c.args.sharded.now (c.in_default.ensures.ok.0 refl) (g.D.Flash.held c.go_through.new.device) c.args.steps.now c.go_through.new.lanes.items c.end_all.new.ran.items c.go_through.ensures.lanes c.end_all.ensures

pub returns-clause-alone : goal.returns-clause-alone
returns-clause-alone g c = all-alone c.args.sharded.now (c.in_default.ensures.ok.0 refl) (g.D.Flash.held c.go_through.new.device) c.args.steps.now c.go_through.new.lanes.items c.end_all.new.ran.items c.go_through.ensures.lanes c.end_all.ensures

pub returns-clause-own : goal.returns-clause-own
returns-clause-own g c = all-own c.args.sharded.now (c.in_default.ensures.ok.0 refl) (g.D.Flash.held c.go_through.new.device) c.args.steps.now c.go_through.new.lanes.items c.end_all.new.ran.items c.go_through.ensures.lanes c.end_all.ensures

pub returns-clause-failures : goal.returns-clause-failures
returns-clause-failures g c =
    omega (arith, c.go_through.ensures.counted, c.in_ok-lanes.ensures.failures, all-failures c.args.sharded.now (g.D.Flash.held c.go_through.new.device) c.args.steps.now c.go_through.new.lanes.items c.end_all.new.ran.items c.go_through.ensures.lanes c.end_all.ensures)
