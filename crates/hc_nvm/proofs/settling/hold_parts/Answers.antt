use Rattle.std.proofs.Common.{ℕ, Option, ap, ◌∙◌}
use Rattle.hc_history.specs.Note.{Opened}
use Rattle.hc_history.specs.Told.{told_more}
use Rattle.hc_machine.specs.Takes.{region_note, loss_notes, bucket_lost}
use Rattle.hc_nvm.specs.After.{by_bucket, raised}
use Rattle.hc_nvm.proofs.Settles.{told-three}
use Rattle.hc_nvm.proofs.settling.hold_parts.Goals as goal

pub returns-clause-told : goal.returns-clause-told
returns-clause-told g c =
    let stones = c.args.stones.now in
    let log = g.N.Listener.told c.losses.new.notes in
    told-three (region_note Opened c.args.opened) (loss_notes c.args.losses.items) (raised (by_bucket stones.flash (bucket_lost c.args.losses.items)) stones.stones)
    (g.N.Listener.told c.args.notes.now) (g.N.Listener.told c.opened.new.notes) log (g.N.Listener.told c.raise_lost.new.notes)
    c.opened.ensures.told c.losses.ensures.told
    (c.raise_lost.ensures.told ∙ ap (λ (bucket : Option ℕ). told_more log (raised (by_bucket stones.flash bucket) stones.stones)) (c.bucket_lost-bucket.ensures ∙ ap bucket_lost c.as_slice.ensures.value))
