use Rattle.std.proofs.Common.{not, length, refl, ap, ◌∙◌, arith}
use Rattle.std.specs.Str.{bytes_eq}
use Rattle.hc_types.specs.FlashEntry.{FlashEntry, entry_of}
use Rattle.hc_bucket.specs.Placed.{entry_placed}
use Rattle.hc_engines.proofs.small.Fitting.{used-without}
use Rattle.hc_bighash.proofs.Looping.{differs, enough, one_goes, has_room}
use Rattle.hc_bighash.proofs.pages.push_out.Goals as goal

pub overflow_add-used : goal.overflow_add-used
overflow_add-used g c =
    let e : FlashEntry = entry_of c.args.entry.now in
    omega (arith, c.loop-used.invariant.uses, used-without e.key c.loop-used.entries, c.loop-used.invariant.less, c.requires.fits, c.requires.len, c.requires.small, c.entry_len-len.ensures.value)

pub overflow_sub-used : goal.overflow_sub-used
overflow_sub-used g c =
    enough c.args.page_size (entry_of c.args.entry.now) c.args.entries.now c.loop-used.entries c.take_first.new.self (entry_placed c.in-Some.placed) c.loop-used.used (length c.in-Some.placed.bytes.now) c.loop-used.losses.items c.in-Some.ensures.first
    (differs (bytes_eq c.in-Some.placed.key.now c.args.entry.now.key) (c.if-ne.ensures ∙ ap (λ k. not (bytes_eq c.in-Some.placed.key.now k)) c.as_slice-key.ensures)) (ap length c.in-Some.ensures.spelled) c.loop-used.invariant

pub loop-used-preserved-in_ok-push : goal.loop-used-preserved-in_ok-push
loop-used-preserved-in_ok-push g c =
    rw c.in_ok-push.ensures.items (
    one_goes c.args.page_size (entry_of c.args.entry.now) c.args.entries.now c.loop-used.entries c.take_first.new.self (entry_placed c.in-Some.placed) c.loop-used.used c.entry_len-len.result (length c.in-Some.placed.bytes.now) c.loop-used.losses.items _ c.in-Some.ensures.first
    (differs (bytes_eq c.in-Some.placed.key.now c.args.entry.now.key) (c.if-ne.ensures ∙ ap (λ k. not (bytes_eq c.in-Some.placed.key.now k)) c.as_slice-key.ensures)) c.entry_len-len.ensures.value (ap length c.in-Some.ensures.spelled) c.loop-used-test.true
    (c.in_ok-full_loss.ensures (entry_placed c.in-Some.placed) refl) c.loop-used.invariant
    )

pub returns-clause-losses : goal.returns-clause-losses
returns-clause-losses g c = (has_room c.args.page_size (entry_of c.args.entry.now) c.args.entries.now c.loop-used.entries c.loop-used.used c.entry_len-len.result c.loop-used.losses.items c.entry_len-len.ensures.value (omega (arith, c.loop-used-test.false)) c.loop-used.invariant).lost

pub returns-clause-stay : goal.returns-clause-stay
returns-clause-stay g c = (has_room c.args.page_size (entry_of c.args.entry.now) c.args.entries.now c.loop-used.entries c.loop-used.used c.entry_len-len.result c.loop-used.losses.items c.entry_len-len.ensures.value (omega (arith, c.loop-used-test.false)) c.loop-used.invariant).stay
