use Rattle.std.proofs.Common.{◌<◌, ◌++◌, ◌∷◌, length, ap, ◌∙◌, arith, length-append}
use Rattle.hc_trace_text.proofs.Parts.{lacks-append}
use Rattle.hc_trace.specs.Places.{place_of}
use Rattle.hc_trace.proofs.Likening.{at-same, at-between}
use Rattle.hc_trace.proofs.Streams.{leads-line, leads-fault, leads-long}
use Rattle.hc_trace.proofs.chunks.take_chunk.Goals as goal

pub returns-then-not-branch-clause-leads : goal.returns-then-not-branch-clause-leads
returns-then-not-branch-clause-leads g c =
    let i = c.lines.invariant in
    let split = c.in-Some.ensures in
    let done = c.in_ok-end_line.ensures in
    leads-fault _ c.lines.spill.items c.lines.rest.now c.in-Some.part.now c.in-Some.later.now c.in_ok-end_line.field-0 i.leads split.1 i.unbroken split.0 done.goes c.if-not-branch.true done.bytes

pub lines-preserved : goal.lines-preserved
lines-preserved g c =
    let i = c.lines.invariant in
    let split = c.in-Some.ensures in
    let done = c.in_ok-end_line.ensures in
    let long = ap length split.1 ∙ length-append c.in-Some.part.now (10 ∷ c.in-Some.later.now) in
    rw done.empty (record {
      unbroken = tt;
      between = at-between _ _ done.state;
      room = omega (arith, i.room, long);
      leads = leads-line _ (place_of c.end_line.new.state) c.lines.spill.items c.lines.rest.now c.in-Some.part.now c.in-Some.later.now c.in_ok-end_line.field-0 i.leads split.1 i.unbroken split.0 done.goes c.if-not-branch.false (at-same _ _ done.state) done.bytes;
    })

pub returns-then-len-gt-LONGEST-clause-leads : goal.returns-then-len-gt-LONGEST-clause-leads
returns-then-len-gt-LONGEST-clause-leads g c =
    let i = c.lines.invariant in
    let items = c.in_ok-extend_from_slice.ensures.items in
    let line = c.lines.spill.items ++ c.lines.rest.now in
    let done = rw items at (rw c.deref.ensures.value at c.in_ok-put_line.ensures) in
    let much : 2097152 < length line = rw items at (rw c.extend_from_slice.new.self.ok.0 at (rw c.len.ensures at c.if-len-gt-LONGEST.true)) in
    leads-long _ i.leads (lacks-append 10 _ _ i.unbroken c.in_default.ensures) much done.bytes

pub returns-clause-whole : goal.returns-clause-whole
returns-clause-whole g c =
    let i = c.lines.invariant in
    rw c.in_ok-extend_from_slice.ensures.items (lacks-append 10 _ _ i.unbroken c.in_default.ensures)

pub returns-clause-leads : goal.returns-clause-leads
returns-clause-leads g c = rw c.in_ok-extend_from_slice.ensures.items c.lines.invariant.leads
