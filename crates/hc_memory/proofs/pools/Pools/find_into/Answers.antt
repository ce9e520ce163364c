use Rattle.std.proofs.Common.{sym, ◌∙◌, ap, length}
use Rattle.std.specs.Prelude.{option_map}
use Rattle.hc_memory.specs.Memory.{copied}
use Rattle.hc_memory.specs.Marks.{is_stale, marked}
use Rattle.hc_memory.proofs.Linking.{sound-home, shrinks-used}
use Rattle.hc_memory.proofs.Handing.{length-home}
use Rattle.hc_memory.proofs.Finding.{uses, listed-find}
use Rattle.hc_memory.proofs.Unmarked.{value-off, find-off}
use Rattle.hc_memory.proofs.pools.Pools.find_into.Goals as goal

pub invariant_of-self : goal.invariant_of-self
invariant_of-self g c =
    let i = c.self.invariant in
    let key = c.args.key.now in
    let now = c.args.now in
    let pools = c.self.inside.pools.items in (
      rw c.find_in.ensures.pools (sound-home key (uses key now) pools c.self.inside.charges.charges c.self.inside.made (shrinks-used key now) i.0),
      i.1 ∙ sym (ap length c.find_in.ensures.pools ∙ length-home key (uses key now) pools),
      i.2,
      rw c.find_in.ensures.pools (listed-find c.self.inside.flash c.self.inside.clean key now pools i.3),
      i.4,
    )

pub returns-clause-value : goal.returns-clause-value
returns-clause-value g c =
    let same = value-off (is_stale c.self.inside.flash c.self.inside.marks) c.args.now c.args.key.now c.self.inside.pools.items in
    rw (← c.self.view_is) (c.find_in.ensures.value ∙ sym (ap (option_map length) same))

pub returns-clause-buffer : goal.returns-clause-buffer
returns-clause-buffer g c =
    let same = value-off (is_stale c.self.inside.flash c.self.inside.marks) c.args.now c.args.key.now c.self.inside.pools.items in
    rw (← c.self.view_is) (c.find_in.ensures.buffer ∙ sym (ap (λ v. copied v c.args.buffer.now) same))

pub returns-clause-pools : goal.returns-clause-pools
returns-clause-pools g c =
    let pools = ap (marked c.self.inside.flash c.self.inside.marks) c.find_in.ensures.pools ∙ sym (find-off (is_stale c.self.inside.flash c.self.inside.marks) c.args.now c.args.key.now c.self.inside.pools.items) in
    rw (← c.self.view_is) (λ i. record { flash = c.self.inside.flash; pools = pools i; charges = c.self.inside.charges.charges; made = c.self.inside.made })
