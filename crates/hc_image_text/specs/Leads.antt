-- Where a hash leads.
use Rattle.std.specs.Prelude.{◌≡◌, ℕ, ◌<◌, ◌^◌, ◌==◌, List, ◌++◌, length, take, drop, Option, Some, None, if◌then◌else◌}
use Rattle.std.specs.Int.{w32, w64, to_be_bytes, from_be_bytes}
use Rattle.hc_engines.specs.large.Index.{Place, Indexed}

pub record IsLead (x : Indexed) : Type 0 where
  pub hash : x.hash < 2 ^ 64
  pub region : x.place.region < 2 ^ 32
  pub offset : x.place.offset < 2 ^ 32
  pub length : x.place.length < 2 ^ 32

-- a hash and its place
abbrev pub lead_of : ℕ × Place → Indexed
lead_of p = record { hash = p.0; place = p.1 }

abbrev pub lead_bytes : Indexed → List ℕ
lead_bytes x = to_be_bytes w64 x.hash ++ (to_be_bytes w32 x.place.region ++ (to_be_bytes w32 x.place.offset ++ to_be_bytes w32 x.place.length))

abbrev pub lead_at : List ℕ → Indexed
lead_at bytes = record {
  hash = from_be_bytes w64 (take 8 bytes);
  place = record { region = from_be_bytes w32 (take 4 (drop 8 bytes)); offset = from_be_bytes w32 (take 4 (drop 12 bytes)); length = from_be_bytes w32 (take 4 (drop 16 bytes)) };
}

abbrev pub lead_in : List ℕ → Option Indexed
lead_in bytes = if length bytes == 20 then Some (lead_at bytes) else None

abbrev pub LeadReadsBack : Type 0
LeadReadsBack = (x : Indexed) → IsLead x → lead_in (lead_bytes x) ≡ Some x
