-- Notes of no call leave what the books of calls tell.
use Rattle.std.proofs.Common.{◌≡◌, ℕ, ◌≤◌, ◌==◌, List, ap, sym, ◌∙◌, subst}
use Rattle.std.specs.Prelude.{option_map}
use Rattle.hc_types.specs.Tally.{count}
use Rattle.hc_history.specs.Note.{Note}
use Rattle.hc_history.specs.Books.{Call, Answer, open_calls, open_call, begun, owed}
use Rattle.hc_machine.specs.Nvm.{Fill}
use Rattle.hc_machine.specs.Cache.{Owed}
use Rattle.hc_invariant.specs.Tells.{CallsTell, reply_in}

-- notes of no call leave them
pub calls_over : (older newer : List Note) (calls : ℕ) (all : List Owed) (fills : List Fill) → begun newer ≡ begun older → open_calls newer ≡ open_calls older → owed newer ≡ owed older → CallsTell older calls all fills → CallsTell newer calls all fills
calls_over older newer calls all fills b o w t = record {
  number = b ∙ t.number;
  open_ones = λ n. ap (λ (cs : List Call). option_map (λ (c : Call). c.op) (open_call n cs)) o ∙ t.open_ones n;
  one_open = λ n. subst (λ (cs : List Call). count (λ (c : Call). c.number == n) cs ≤ 1) (sym o) (t.one_open n);
  one_waiter = t.one_waiter;
  owes = t.owes;
  replies = λ n. ap (reply_in n) w ∙ t.replies n;
  one_reply = λ n. subst (λ (xs : List Answer). count (λ (x : Answer). x.number == n) xs ≤ 1) (sym w) (t.one_reply n);
  one_owed = t.one_owed;
  fresh = t.fresh;
}
