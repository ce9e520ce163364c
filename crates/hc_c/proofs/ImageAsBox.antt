-- A seat and the parts of a box own what a box at the same types owns.
use mir.Syntax.{impl, tnil, dnil}
use mathlib.Core.List.{[]}
use denote.Signature.{Slot, plain}
use Rattle.std.proofs.BoxSteps.Form.{Bx}
use Rattle.std.specs.contracts.alloc.Global as Heap
use Rattle.std.specs.contracts.impls.GlobalAllocator.TheImpl.{ghosts, dict}
use Rattle.std.proofs.alloc.Global.TheLaws as heap
use Rattle.hc_c.specs.contracts.image.Image as Image
use Rattle.hc_c.proofs.image.Image.TheLaws as image
use Rattle.hc_c.specs.contracts.parts.Parts as Parts
use Rattle.hc_c.specs.contracts.image_seat.ImageSeat as Seat

abbrev pub E : Bx
E = record { row = Image.the_row; laws = image.the_row_laws; al = record { row = Heap.the_row; laws = heap.the_row_laws; g = ghosts; d = dict; drops = impl [] tnil dnil } }

abbrev pub FromParts : Slot 0
FromParts = plain (λ _. Parts.the_row Image.the_row Heap.the_row ghosts)

abbrev pub FromSeat : Slot 0
FromSeat = plain (λ _. Seat.the_row)

abbrev pub FromAlloc : Slot 0
FromAlloc = plain (λ _. Heap.the_row)
