-- What a writer and a filler choose.
use Rattle.std.proofs.Common.{◌≡◌, ℕ, Bool, true, false, List, Option, Some, None, refl}
use Rattle.std.specs.Prelude.{option_map, Result, Ok, Err, IfOk}
use Rattle.hc_types.specs.FlashEntry.{FlashEntry}
use Rattle.hc_memory.specs.Memory.{Memory}
use Rattle.hc_engines.specs.Engine.{Put}
use Rattle.hc_machine.specs.Cache.{unmarked_by}
use Rattle.hc_machine.specs.Nvm.{Nvm, Tombstone, next_put}
use Rattle.hc_machine.specs.Takes.{told_before, launch, take_delete, take_put, take_sized}
use Rattle.hc_nvm.specs.Starting.{put_task, writing_of, put_notes}
use Rattle.hc_nvm.proofs.Launching.{BringsNothing}

-- ---- results

pub if_ok : {T E : Type 0} (result : Result T E) (P Q : T → Type 0) → ((x : T) → P x → Q x) → IfOk result P → IfOk result Q
if_ok (Ok x) P Q more h = more x h
if_ok (Err e) P Q more h = tt

-- ---- the writer

some_is : {X : Type 0} (x y : X) → Some x ≡ Some y → x ≡ y
some_is x y h = cc

pub no_delete : (nvm : Nvm) (o : Option Tombstone) → None ≡ option_map (λ (stone : Tombstone). stone.key) o → take_delete o nvm ≡ take_put (next_put nvm) nvm
no_delete nvm None e = refl
no_delete nvm (Some stone) e = absurd cc

-- ---- puts

pub put_brings_nothing : (is_small : Bool) (key : List ℕ) → BringsNothing (put_task is_small key)
put_brings_nothing true key = tt
put_brings_nothing false key = tt

pub put_is : (is_small : Bool) (put : FlashEntry) (nvm : Nvm) → told_before (put_notes put.key (writing_of is_small put.key)) (launch (put_task is_small put.key) (Put put) nvm) ≡ take_sized is_small put nvm
put_is true put nvm = refl
put_is false put nvm = refl

pub put_unmarks : (is_small : Bool) (key : List ℕ) (m : Memory) → unmarked_by (put_notes key (writing_of is_small key)) m ≡ m
put_unmarks true key m = refl
put_unmarks false key m = refl
