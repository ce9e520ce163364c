use Rattle.std.proofs.Common.{◌≡◌, None, IfSome, refl, inr, sym, subst}
use Rattle.hc_types.specs.Config.{Config}
use Rattle.hc_types.specs.declared.config.FlashConfig.{FlashConfig}
use Rattle.hc_types.specs.Limits.{flash_wrong}
use Rattle.std.proofs.lemmas.Result.{err_from_is_err_and}
use Rattle.hc_state.proofs.Configured.{configured-flash}
use Rattle.hc_state.proofs.state.State.new.Goals as goal

pub empty_nvm-requires : goal.empty_nvm-requires
empty_nvm-requires g c =
    subst (λ (k : Config). IfSome k.flash (λ (f : FlashConfig). flash_wrong f ≡ None)) (sym c.config.view_is) (configured-flash c.args.config.now (c.in_ok-check.ensures.ok.0 refl))

pub returns-in_err-nvm-clause-err : goal.returns-in_err-nvm-clause-err
returns-in_err-nvm-clause-err g c =
    let p = err_from_is_err_and c.from_residual-in_err-nvm.result c.from_residual-in_err-nvm.ensures.1 in
    rw (p.1, p.2) (inr (c.in_ok-check.ensures.ok.0 refl, refl))

pub returns-in_err-config-clause-err : goal.returns-in_err-config-clause-err
returns-in_err-config-clause-err g c =
    let p = err_from_is_err_and c.from_residual-in_err-config.result c.from_residual-in_err-config.ensures.1 in
    rw (p.1, p.2) (inr (c.in_ok-check.ensures.ok.0 refl, refl))

pub returns-clause-fits : goal.returns-clause-fits
returns-clause-fits g c = c.in_ok-check.ensures.ok.0 refl
