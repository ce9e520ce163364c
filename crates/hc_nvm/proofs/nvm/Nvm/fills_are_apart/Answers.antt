use Rattle.hc_nvm.proofs.nvm.Nvm.fills_are_apart.Goals as goal

pub returns : goal.returns
returns g c = rw (← c.self.view_is) c.is_sound.ensures
