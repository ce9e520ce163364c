-- How contracts see where a region stands.
use Rattle.hc_region.specs.declared.status.Status.{Status as Statuses}
use Rattle.hc_region.specs.declared.status.Status.TheVariants as statuses
use Rattle.hc_engines.specs.large.Region.{Status, Clean, Open, Sealed, Flushing, OnFlash, Draining}

abbrev pub status_of : Statuses → Status
status_of statuses.Clean = Clean
status_of statuses.Open = Open
status_of statuses.Sealed = Sealed
status_of statuses.Flushing = Flushing
status_of statuses.OnFlash = OnFlash
status_of statuses.Draining = Draining
