use Rattle.hc_state.specs.declared.fill.commit.Way.TheVariants.{AtOnce}
use Rattle.hc_state.proofs.fill.Owns.{finds-own}
use Rattle.hc_state.proofs.fill.Ways.{way-bare, ends-once-in, next-key}
use Rattle.hc_state.proofs.state.State.take_at_once.Goals as goal

pub prepare-requires : goal.prepare-requires
prepare-requires g c =
    let nvm = c.args.self.now.cache.nvm in
    let ends = ends-once-in nvm c.args.ending c.requires.ends in
    record {
      structured = c.requires.structured;
      absent = way-bare {A = g.row.A.Denot} AtOnce c.args.ending c.args.key.now c.args.self.now.cache ends (next-key c.args.key.now nvm c.args.ending c.requires.next ends) c.requires.structured;
      own = finds-own {A = g.row.A.Denot} AtOnce c.args.ending c.args.key.now c.args.self.now.cache ends (next-key c.args.key.now nvm c.args.ending c.requires.next ends) c.requires.structured;
    }

pub end_prepared-requires : goal.end_prepared-requires
end_prepared-requires g c =
    let nvm = c.args.self.now.cache.nvm in
    let ends = ends-once-in nvm c.args.ending c.requires.ends in
    record { ready = (c.args.self.now, record { structured = c.requires.structured; sound = c.is_sound.ensures; ends = ends; key_is = next-key c.args.key.now nvm c.args.ending c.requires.next ends }, c.in-Ok.ensures.ok) }

pub returns-in-Ok-clause-ok : goal.returns-in-Ok-clause-ok
returns-in-Ok-clause-ok g c =
    let nvm = c.args.self.now.cache.nvm in
    let ends = ends-once-in nvm c.args.ending c.requires.ends in
    c.end_prepared.ensures c.args.self.now (record { structured = c.requires.structured; sound = c.is_sound.ensures; ends = ends; key_is = next-key c.args.key.now nvm c.args.ending c.requires.next ends }) c.in-Ok.ensures.ok
