-- How contracts see an operation, and what came of it.
use Rattle.hc_flash.specs.declared.operation.Order.{Order as Orders}
use Rattle.hc_flash.specs.declared.operation.Order.TheVariants as orders
use Rattle.hc_flash.specs.declared.operation.IoResult.{IoResult as Results}
use Rattle.hc_flash.specs.declared.operation.IoResult.TheVariants as results
use Rattle.hc_flash.specs.Operations.{Order, Read, Write, IoResult, Page, Written, Failed}

abbrev pub order_of : {A : Type 0} → Orders A → Order
order_of (orders.Read page) = Read page
order_of (orders.Write page bytes) = Write page bytes

abbrev pub result_of : {A : Type 0} → Results A → IoResult
result_of (results.Page bytes) = Page bytes
result_of results.Written = Written
result_of results.Failed = Failed
