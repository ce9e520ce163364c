use Rattle.std.proofs.Common.{◌≡◌, Some, None, sym, ap, ◌∙◌}
use Rattle.std.specs.Prelude.{option_map}
use Rattle.hc_engines.specs.Engine.{Get}
use Rattle.hc_engines.specs.small.BigHash.{BigHash, Job, place_of}
use Rattle.hc_bighash.specs.Handed.{IsGet}
use Rattle.hc_bighash.proofs.Places.{place_none}
use Rattle.hc_bighash.proofs.big_hash.BigHash.leave.Goals as goal

pub unreachable-requires : goal.unreachable-requires
unreachable-requires g c =
    let s : BigHash = record { flash = c.self.inside.flash; words = c.self.inside.words.items; jobs = c.self.inside.jobs.items } in
    let none : place_of c.args.number s.jobs ≡ None = sym (rw c.deref.ensures.value at c.in-None.ensures.value) in
    let gets : IsGet s c.args.number = rw (← c.self.view_is) at c.requires in
    let wrong : None ≡ Some (Get gets.0) = sym (ap (option_map (λ (j : Job). j.op)) (place_none c.args.number s.jobs none)) ∙ gets.1 in
    absurd cc
