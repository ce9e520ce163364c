use Rattle.hc_state.specs.declared.fill.commit.Way.TheVariants.{Handed}
use Rattle.hc_state.proofs.fill.Owns.{finds-own}
use Rattle.hc_state.proofs.fill.Ways.{way-bare, ends-reason}
use Rattle.hc_state.proofs.state.State.finish_key.Goals as goal

pub prepare-requires : goal.prepare-requires
prepare-requires g c = record {
  structured = c.requires.structured;
  absent = way-bare (Handed c.args.number c.args.came) c.args.ending c.args.key.now c.args.self.now.cache c.requires.ends c.requires.key c.requires.structured;
  own = finds-own (Handed c.args.number c.args.came) c.args.ending c.args.key.now c.args.self.now.cache c.requires.ends c.requires.key c.requires.structured;
}

pub end_prepared-requires : goal.end_prepared-requires
end_prepared-requires g c =
    record { ready = (c.args.self.now, record { structured = c.requires.structured; sound = c.is_sound.ensures; ends = c.requires.ends; key_is = c.requires.key }, c.in-Ok.ensures.ok) }

pub returns-in-Ok-clause-ok : goal.returns-in-Ok-clause-ok
returns-in-Ok-clause-ok g c =
    c.end_prepared.ensures c.args.self.now (record { structured = c.requires.structured; sound = c.is_sound.ensures; ends = c.requires.ends; key_is = c.requires.key }) c.in-Ok.ensures.ok

pub returns-in-Err-clause-why : goal.returns-in-Err-clause-why
returns-in-Err-clause-why g c = ends-reason (Handed c.args.number c.args.came) c.args.ending c.args.self.now.cache c.requires.ends
