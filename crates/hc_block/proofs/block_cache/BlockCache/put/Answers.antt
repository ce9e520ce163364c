use Rattle.std.proofs.Common.{◌≡◌, ◌≤◌, ◌∙◌, ℕ, List, length, refl, sym, ap, subst, arith}
use Rattle.std.proofs.lemmas.Result.{IfOk-weaker, IfOk-from_err, MatchResult-from_err}
use Rattle.hc_types.specs.FlashEntry.{entry_of}
use Rattle.hc_engines.specs.large.Entries.{entry_bytes}
use Rattle.hc_engines.specs.large.Region.{region_len}
use Rattle.hc_engines.specs.large.Steps.{fitting, put_into}
use Rattle.hc_block.specs.Large.{Large}
use Rattle.hc_block.proofs.block_cache.BlockCache.put.Goals as goal

pub fitting-requires : goal.fitting-requires
fitting-requires g c =
    let fits = subst (λ (x : Large). length (entry_bytes (entry_of c.args.entry.now)) ≤ region_len x.flash) (sym c.self.view_is) c.requires.fits in
    let long : length c.in_ok-bytes.bytes.items ≤ region_len c.self.inside.flash = subst (λ (bs : List ℕ). length bs ≤ region_len c.self.inside.flash) (sym c.in_ok-bytes.ensures) fits in
    omega (arith, c.in_ok-bytes.bytes.ok.0, c.len.ensures, long, c.self.invariant.0.limits.region_len)

pub put_elsewhere-requires-clause-bytes : goal.put_elsewhere-requires-clause-bytes
put_elsewhere-requires-clause-bytes g c = c.deref-in-None.ensures.value ∙ c.in_ok-bytes.ensures

pub put_elsewhere-requires-clause-fits : goal.put_elsewhere-requires-clause-fits
put_elsewhere-requires-clause-fits g c = subst (λ (bs : List ℕ). length bs ≤ region_len c.args.self.now.flash) (sym (c.deref-in-None.ensures.value ∙ c.in_ok-bytes.ensures)) c.requires.fits

pub put_in-requires-clause-bytes : goal.put_in-requires-clause-bytes
put_in-requires-clause-bytes g c = c.deref.ensures.value ∙ c.in_ok-bytes.ensures

pub put_in-requires-clause-fits : goal.put_in-requires-clause-fits
put_in-requires-clause-fits g c = ap (λ (n : ℕ). fitting c.args.self.now.flash c.args.self.now.block n c.args.self.now.block.current) (c.deref.ensures.len ∙ sym c.len.ensures) ∙ sym c.fitting.ensures ∙ c.in-Some.is

pub returns-clause-err : goal.returns-clause-err
returns-clause-err g c = c.put_elsewhere.ensures.err

pub returns-clause-flash : goal.returns-clause-flash
returns-clause-flash g c = c.put_elsewhere.ensures.flash

pub returns-clause-ok : goal.returns-clause-ok
returns-clause-ok g c =
    let long : length (entry_bytes (entry_of c.args.entry.now)) ≡ c.len.result = ap (λ (bs : List ℕ). length bs) (sym c.in_ok-bytes.ensures) ∙ ap (λ (bs : List ℕ). length bs) (sym c.deref-in-None.ensures.value) ∙ c.deref-in-None.ensures.len ∙ sym c.len.ensures in
    let none = ap (λ (n : ℕ). fitting c.args.self.now.flash c.args.self.now.block n c.args.self.now.block.current) long ∙ sym c.fitting.ensures ∙ c.in-None.is in
    IfOk-weaker c.put_elsewhere.result _ _ (λ outcome is. ap (put_into c.args.self.now.flash (entry_of c.args.entry.now) c.args.self.now.block) none ∙ is) c.put_elsewhere.ensures.ok

pub returns-in-Some-clause-err : goal.returns-in-Some-clause-err
returns-in-Some-clause-err g c = c.put_in.ensures.err

pub returns-in-Some-clause-flash : goal.returns-in-Some-clause-flash
returns-in-Some-clause-flash g c = c.put_in.ensures.flash

pub returns-in-Some-clause-ok : goal.returns-in-Some-clause-ok
returns-in-Some-clause-ok g c =
    let long : length (entry_bytes (entry_of c.args.entry.now)) ≡ c.len.result = ap (λ (bs : List ℕ). length bs) (sym c.in_ok-bytes.ensures) ∙ ap (λ (bs : List ℕ). length bs) (sym c.deref.ensures.value) ∙ c.deref.ensures.len ∙ sym c.len.ensures in
    let some = ap (λ (n : ℕ). fitting c.args.self.now.flash c.args.self.now.block n c.args.self.now.block.current) long ∙ sym c.fitting.ensures ∙ c.in-Some.is in
    IfOk-weaker c.put_in.result _ _ (λ outcome is. ap (put_into c.args.self.now.flash (entry_of c.args.entry.now) c.args.self.now.block) some ∙ is) c.put_in.ensures.ok

pub returns-in_err-bytes-clause-err : goal.returns-in_err-bytes-clause-err
returns-in_err-bytes-clause-err g c = MatchResult-from_err c.from_residual.result _ _ c.from_residual.ensures.0 (λ _. refl)

pub returns-in_err-bytes-clause-flash : goal.returns-in_err-bytes-clause-flash
returns-in_err-bytes-clause-flash g c = refl

pub returns-in_err-bytes-clause-ok : goal.returns-in_err-bytes-clause-ok
returns-in_err-bytes-clause-ok g c = IfOk-from_err c.from_residual.result _ c.from_residual.ensures.0
