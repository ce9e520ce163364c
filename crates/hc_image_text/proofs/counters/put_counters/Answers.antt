use Rattle.std.specs.Int.{w64, to_be_bytes}
use Rattle.std.proofs.lemmas.Result.{on_ok_weaker}
use Rattle.hc_image_text.proofs.Behind.{four}
use Rattle.hc_image_text.proofs.counters.put_counters.Goals as goal

pub returns : goal.returns
returns g c =
    let n = c.args.counters in
    on_ok_weaker c.put_number-4.result
    (λ last. four c.args.out.now.items (to_be_bytes w64 n.charges) (to_be_bytes w64 n.jobs) (to_be_bytes w64 n.calls) (to_be_bytes w64 n.clock) c.put_number.new.out.items c.put_number-2.new.out.items c.put_number-3.new.out.items c.put_number-4.new.out.items c.in_ok-put_number.ensures c.in_ok-put_number-2.ensures c.in_ok-put_number-3.ensures last)
    c.put_number-4.ensures
