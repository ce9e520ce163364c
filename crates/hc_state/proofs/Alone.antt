-- That hashes lead to large entries alone, as parts of the large engine are tested and as the structure of a cache has it.
use Rattle.std.proofs.Common.{◌≡◌, ℕ, ◌+◌, ◌<◌, ◌≤◌, nat_lt, nat_le, Bool, true, false, ◌&&◌, List, [], ◌∷◌, Some, refl, sym, ap, ◌∙◌}
use Rattle.std.proofs.lemmas.Bool.{and_parts, ltb-true, leb-true, lt-ltb, le-leb}
use Rattle.hc_types.specs.declared.config.FlashConfig.{FlashConfig}
use Rattle.hc_engines.specs.large.Region.{Open, Appended, Region, region_at, filled_to}
use Rattle.hc_engines.specs.large.Index.{Place, place_at}
use Rattle.hc_engines.specs.large.Block.{Block}
use Rattle.hc_engines.specs.large.Sound.{Sound, is_live, is_listed}
use Rattle.hc_block.specs.Resting.{leads_well, LeadsWell}
use Rattle.hc_invariant.specs.LargeAlone.{LargePlace, LargeAlone}

-- where something was appended, entries may lead
live_by : (b : Bool) (hash offset : ℕ) (appended : List Appended) → (b ≡ false → appended ≡ []) → is_listed hash offset appended ≡ true → b ≡ true
live_by true hash offset appended bare listed = refl
live_by false hash offset appended bare listed =
    let none : false ≡ true = sym (ap (is_listed hash offset) (bare refl)) ∙ listed in
    absurd cc

-- parts that passed each test, of an engine, lead to large entries alone
pub large-alone : (flash : FlashConfig) (s : Block) → Sound flash s → LeadsWell flash s → LargeAlone flash s
large-alone flash s sound leads = record {
  current = λ r is. ap is_live (sound.current r is);
  places = λ hash place at.
      let region : Region = region_at place.region s.regions in
      let one = and_parts (is_listed hash place.offset region.appended) (nat_lt (14 + flash.small_max) place.length && nat_le (place.offset + place.length) (filled_to flash region)) (leads.places hash place at) in
      let two = and_parts (nat_lt (14 + flash.small_max) place.length) (nat_le (place.offset + place.length) (filled_to flash region)) one.1 in
      record {
        long = ltb-true (14 + flash.small_max) place.length two.0;
        within = leb-true (place.offset + place.length) (filled_to flash region) two.1;
        live = live_by (is_live region.status) hash place.offset region.appended (sound.regions place.region).bare one.0;
        listed = one.0;
      };
}

-- and a cache that is closed hands out such parts
pub leads-well : (flash : FlashConfig) (s : Block) → LargeAlone flash s → LeadsWell flash s
leads-well flash s alone = record {
  places = λ hash place at.
      let region : Region = region_at place.region s.regions in
      let large = alone.places hash place at in
      let long : nat_lt (14 + flash.small_max) place.length ≡ true = lt-ltb (14 + flash.small_max) place.length large.long in
      let within : nat_le (place.offset + place.length) (filled_to flash region) ≡ true = le-leb (place.offset + place.length) (filled_to flash region) large.within in
      λ i. large.listed i && (long i && within i);
}
