-- What a seat owns: the box of what lies there, where there is something.
use base.Fml.{Fml, ftrue}
use base.Stored.{Coded}
use denote.RawPtr.{Ptr}
use Rattle.std.specs.Prelude.{Option, None, Some}
use Rattle.std.specs.Coded.{coded_option}
use Rattle.std.specs.Box.Ownership.{box_owns}
use Rattle.std.specs.declared.alloc.Global.{Global}
use Rattle.std.specs.contracts.impls.GlobalAllocator.TheImpl.{ghosts}
use Rattle.hc_c.specs.contracts.cache.Cache as cache
use Rattle.hc_c.specs.contracts.image.Image as image
use Rattle.hc_c.specs.contracts.reading.Reading as reading

abbrev pub cache_seated : Global → Ptr → Option cache.the_row.Denot → Fml
cache_seated alloc at None = ftrue
cache_seated alloc at (Some held) = box_owns (ghosts.dealloc_token alloc) cache.the_row at held

abbrev pub cache_coded : Coded (Option cache.the_row.Denot)
cache_coded = coded_option cache.the_row.coded

abbrev pub value_seated : Global → Ptr → Option reading.the_row.Denot → Fml
value_seated alloc at None = ftrue
value_seated alloc at (Some held) = box_owns (ghosts.dealloc_token alloc) reading.the_row at held

abbrev pub value_coded : Coded (Option reading.the_row.Denot)
value_coded = coded_option reading.the_row.coded

abbrev pub image_seated : Global → Ptr → Option image.the_row.Denot → Fml
image_seated alloc at None = ftrue
image_seated alloc at (Some held) = box_owns (ghosts.dealloc_token alloc) image.the_row at held

abbrev pub image_coded : Coded (Option image.the_row.Denot)
image_coded = coded_option image.the_row.coded
