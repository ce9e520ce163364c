-- Parts of a large engine that pass its tests lead to large entries alone.
use Rattle.std.proofs.Common.{◌≡◌, ℕ, ◌+◌, nat_lt, nat_le, Bool, true, false, ◌&&◌, List, [], refl, sym, ap, ◌∙◌}
use Rattle.std.proofs.lemmas.Bool.{and_parts, ltb-true, leb-true}
use Rattle.hc_types.specs.declared.config.FlashConfig.{FlashConfig}
use Rattle.hc_engines.specs.large.Region.{Appended, Region, region_at, filled_to}
use Rattle.hc_engines.specs.large.Block.{Block}
use Rattle.hc_engines.specs.large.Sound.{Sound, is_live, is_listed}
use Rattle.hc_block.specs.Resting.{LeadsWell}
use Rattle.hc_invariant.specs.LargeAlone.{LargeAlone}

-- where something was appended, entries may lead
live_by : (b : Bool) (hash offset : ℕ) (appended : List Appended) → (b ≡ false → appended ≡ []) → is_listed hash offset appended ≡ true → b ≡ true
live_by true hash offset appended bare listed = refl
live_by false hash offset appended bare listed =
    let none : false ≡ true = sym (ap (is_listed hash offset) (bare refl)) ∙ listed in
    absurd cc

-- parts that passed each test, of an engine, lead to large entries alone
pub large_alone : (flash : FlashConfig) (s : Block) → Sound flash s → LeadsWell flash s → LargeAlone flash s
large_alone flash s sound leads = record {
  current = λ r is. ap is_live (sound.current r is);
  places = λ hash place at.
      let region : Region = region_at place.region s.regions in
      let one = and_parts (is_listed hash place.offset region.appended) (nat_lt (14 + flash.small_max) place.length && nat_le (place.offset + place.length) (filled_to flash region)) (leads.places hash place at) in
      let two = and_parts (nat_lt (14 + flash.small_max) place.length) (nat_le (place.offset + place.length) (filled_to flash region)) one.1 in
      record {
        long = ltb-true (14 + flash.small_max) place.length two.0;
        within = leb-true (place.offset + place.length) (filled_to flash region) two.1;
        live = live_by (is_live region.status) hash place.offset region.appended (sound.regions place.region).bare one.0;
        listed = one.0;
      };
}
