-- What still fills a slot is given up.
use Rattle.std.specs.Prelude.{List, [], Option, Some, None}
use Rattle.hc_memory.specs.Item.{Handle}
use Rattle.hc_history.specs.Note.{Note}
use Rattle.hc_machine.specs.Cache.{Cache}
use Rattle.hc_machine.specs.Calls.{discard}

abbrev pub after_give_up : Cache → Option Handle → Cache
after_give_up cache None = cache
after_give_up cache (Some handle) = (discard handle cache).cache

abbrev pub part_of_give_up : Cache → Option Handle → List Note
part_of_give_up cache None = []
part_of_give_up cache (Some handle) = (discard handle cache).part
