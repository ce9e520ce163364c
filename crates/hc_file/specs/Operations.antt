-- What the device of this crate says of its operations.
use Rattle.std.specs.Prelude.{◌≡◌, ◌<◌, length}
use Rattle.hc_flash.specs.Operations.{Order, Read, Write, IoResult, Page, Written}
use Rattle.hc_file.specs.Devices.{OnFile}

-- a device in a file gives and takes whole pages, inside of it
abbrev pub GivesPages : OnFile → Order → IoResult → Type 0
GivesPages device (Read page) (Page bytes) = (page < device.pages) × (length bytes ≡ device.page_size)
GivesPages device (Write page bytes) Written = (page < device.pages) × (length bytes ≡ device.page_size)
GivesPages device order came = Unit {0}
