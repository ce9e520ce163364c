-- An item that is removed in one step is what the machine's remove comes to.
use Rattle.std.proofs.Common.{◌≡◌, ℕ, ◌+◌, ◌≤◌, true, List, Option, Some, None, length, refl, sym, ap, ◌∙◌, arith, subst}
use Rattle.std.specs.Prelude.{option_map}
use Rattle.hc_memory.specs.Item.{Item}
use Rattle.hc_memory.specs.Memory.{Memory, linked_at, after_unlink}
use Rattle.hc_history.specs.Note.{Note}
use Rattle.hc_history.specs.Told.{Heard, told_more, told_count}
use Rattle.hc_history.specs.declared.stats.Kind.TheVariants as kind
use Rattle.hc_machine.specs.Cache.{Cache, Moved, Answer, Replied}
use Rattle.hc_machine.specs.Calls.{remove, remove_reply}
use Rattle.hc_proof.specs.calls.Short.{short_remove}
use Rattle.hc_proof.proofs.storing.Short.{removes}
use Rattle.hc_proof.proofs.storing.Counted.{removed-counted}
use Rattle.hc_state.specs.remove.Answer.{removed_answer, removed_of}
use Rattle.hc_state.specs.set.Short.{is_plain}
use Rattle.hc_state.specs.Whole.{Whole, IsStep}
use Rattle.hc_state.proofs.set.Sets.{plain-is}

answer-is : (there : Option Item) → removed_answer (removed_of (option_map (λ (item : Item). item.number) there)) ≡ Replied (remove_reply there)
answer-is None = refl
answer-is (Some item) = refl

-- the key's item went, and the call is counted
pub removed-short : (client : ℕ) (key : List ℕ) (standing : Option ℕ) (old new : Whole) → is_plain old.log old.cache ≡ true → standing ≡ option_map (λ (item : Item). item.number) (linked_at key old.cache.memory.pools)
    → new.cache ≡ record old.cache { memory = after_unlink old.cache.memory key; calls = old.cache.calls + 1 } → new.log ≡ told_count old.log kind.Removed → length old.cache.memory.charges ≤ new.notes → IsStep (remove client key old.cache) (removed_answer (removed_of standing)) old new
removed-short client key standing old new plain is cache log notes =
    let bare = plain-is old.log old.cache plain in
    let law : remove client key old.cache ≡ short_remove client key old.cache = removes client key old.cache bare.0 in
    record {
      cache = cache ∙ sym (ap (λ (m : Moved). m.cache) law);
      answer_is = ap (λ (o : Option ℕ). removed_answer (removed_of o)) is ∙ answer-is (linked_at key old.cache.memory.pools) ∙ sym (ap (λ (m : Moved). m.answer) law);
      log = log ∙ sym (removed-counted old.log old.cache.memory client key (old.cache.calls + 1) (linked_at key old.cache.memory.pools) bare.1) ∙ sym (ap (λ (m : Moved). told_more old.log m.part) law);
      ready = subst (λ (c : Cache). length c.memory.charges ≤ new.notes) (sym cache) notes;
    }
