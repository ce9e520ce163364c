-- Parts rest, whatever they hand out.
use Rattle.std.proofs.Common.{◌≡◌, Bool, true, false, not, ◌&&◌, List, [], ◌∷◌, drop, length, Option, Some, None, sym, ap, ◌∙◌}
use Rattle.std.specs.Prelude.{◌==◌, ◌||◌}
use Rattle.std.specs.List.{list_any}
use Rattle.std.proofs.lemmas.Bool.{and_parts}
use Rattle.hc_machine.specs.Nvm.{Nvm, Tombstone}
use Rattle.hc_machine.specs.Cache.{Cache}
use Rattle.hc_waiting.specs.Tombstones.{is_out}
use Rattle.hc_pair.specs.Resting.{is_idle}
use Rattle.hc_state.specs.Resting.{flash_rests, is_at_rest, less_put, less_stone}
use Rattle.hc_state.proofs.Rested.{no-replies}

fewer_out : (b rest : Bool) → not (b || rest) ≡ true → not rest ≡ true
fewer_out true rest h = absurd cc
fewer_out false rest h = h

none_out : (stones : List Tombstone) → not (list_any is_out stones) ≡ true → not (list_any is_out (drop 1 stones)) ≡ true
none_out [] h = h
none_out (stone ∷ stones) h = fewer_out (is_out stone) (list_any is_out stones) h

less_put_rests : (nvm : Option Nvm) → flash_rests nvm ≡ true → flash_rests (less_put nvm) ≡ true
less_put_rests None h = h
less_put_rests (Some nvm) h = h

less_stone_rests : (nvm : Option Nvm) → flash_rests nvm ≡ true → flash_rests (less_stone nvm) ≡ true
less_stone_rests None h = h
less_stone_rests (Some nvm) h =
    let two = and_parts ((is_idle nvm.pair && (length nvm.jobs == 0)) && (length nvm.fills == 0)) (not (list_any is_out nvm.tombstones)) h in
    λ i. two.0 i && none_out nvm.tombstones two.1 i

module _ (cache : Cache) (h : is_at_rest cache ≡ true) where
  parts : (flash_rests cache.nvm ≡ true) × (((length cache.memory.charges == 0) && (length cache.owed == 0)) ≡ true)
  parts = and_parts (flash_rests cache.nvm) ((length cache.memory.charges == 0) && (length cache.owed == 0)) h

  pub put-rests : is_at_rest (record cache { nvm = less_put cache.nvm }) ≡ true
  put-rests = λ i. less_put_rests cache.nvm parts.0 i && parts.1 i

  pub stone-rests : is_at_rest (record cache { nvm = less_stone cache.nvm }) ≡ true
  stone-rests = λ i. less_stone_rests cache.nvm parts.0 i && parts.1 i

  pub bare-rests : is_at_rest (record cache { nvm = None }) ≡ true
  bare-rests = parts.1

  -- the parts owe nobody a reply
  pub parts-same : record cache { owed = [] } ≡ cache
  parts-same =
      let owed : cache.owed ≡ [] = no-replies cache h in
      λ i. record { config = cache.config; memory = cache.memory; now = cache.now; calls = cache.calls; owed = sym owed i; nvm = cache.nvm }

  pub parts-rest : is_at_rest (record cache { owed = [] }) ≡ true
  parts-rest = ap is_at_rest parts-same ∙ h
