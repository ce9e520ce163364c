use Rattle.std.proofs.Common.{ℕ, List, [], ◌++◌, get_or, take, ap, refl, ◌∙◌}
use Rattle.std.specs.Ordering.{nat_cmp}
use Rattle.std.specs.BTreeMap.{get, is_at}
use Rattle.std.specs.Map.{lookup}
use Rattle.std.proofs.lemmas.List.{get_or-replicate}
use Rattle.hc_history.specs.Note.{Reply}
use Rattle.hc_history.specs.Books.{Call}
use Rattle.hc_history.specs.Lawful.{past}
use Rattle.hc_client_records.specs.Records.{Entry, asked, answered, finished}
use Rattle.hc_client_records.proofs.Walking.{book-more, finished-more}
use Rattle.hc_client_records.proofs.walk.finished_calls.Goals as goal

pub loop-note-init : goal.loop-note-init
loop-note-init c = record {
  begun = λ call. ap (λ (es : List (ℕ × Call)). lookup (is_at (nat_cmp call)) es) c.new-begun.ensures.empty;
  owed = λ call. ap (λ (es : List (ℕ × Reply)). lookup (is_at (nat_cmp call)) es) c.new-owed.ensures.empty;
  clients = rw c.in_ok-clients.ensures refl;
  finished = λ client lt. ap (λ (calls : List Entry). calls ++ finished client [] c.args.log.now) (ap (λ (clients : List (List Entry)). get_or clients client []) c.in_ok-clients.ensures ∙ get_or-replicate 256 client [] [] lt);
}

pub loop-note-preserved : goal.loop-note-preserved
loop-note-preserved c =
    let was = c.loop-note.invariant in
    record {
      begun = λ call. book-more (asked call) (get nat_cmp c.keep_begun.new.begun call) c.args.log.now c.loop-note.note-index c.note-item.result c.loop-note-test.true c.note-item.is (c.in_ok-keep_begun.ensures (past [] (take c.loop-note.note-index c.args.log.now)) was.begun call);
      owed = λ call. book-more (answered call) (get nat_cmp c.keep_owed.new.owed call) c.args.log.now c.loop-note.note-index c.note-item.result c.loop-note-test.true c.note-item.is (c.in_ok-keep_owed.ensures (past [] (take c.loop-note.note-index c.args.log.now)) was.owed call);
      clients = c.in_ok-add_finished.ensures.length;
      finished = λ client lt. finished-more client c.args.log.now c.loop-note.note-index c.note-item.result (get_or c.loop-note.clients.items client []) (get_or c.add_finished.new.clients.items client []) c.loop-note-test.true c.note-item.is (c.in_ok-add_finished.ensures.added (past [] (take c.loop-note.note-index c.args.log.now)) was.begun was.owed client lt) ∙ was.finished client lt;
    }
