-- How contracts see the calls that wait.
use Rattle.hc_machine.specs.Nvm.{Wish, ToFind, ToAdd}
use Rattle.hc_waiting.specs.declared.waiters.Wish.{Wish as Wishes}
use Rattle.hc_waiting.specs.declared.waiters.Wish.TheVariants as wishes

abbrev pub wish_of : {A : Type 0} → Wishes A → Wish
wish_of wishes.Find = ToFind
wish_of (wishes.Add handle) = ToAdd handle
