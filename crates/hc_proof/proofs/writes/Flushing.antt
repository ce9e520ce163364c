-- A page of a region goes out.
use Rattle.std.proofs.Common.{◌≡◌, ℕ, ◌<◌, ◌==◌, Bool, true, false, List, [], length, Option, Some, None, refl, sym, ap, subst, arith, ◌∙◌, inl, inr}
use Rattle.std.proofs.lemmas.Bool.{eqb-true}
use Rattle.std.specs.Prelude.{if◌then◌else◌, ◌⊎◌}
use Rattle.hc_types.specs.Config.{Config}
use Rattle.hc_types.specs.declared.config.FlashConfig.{FlashConfig}
use Rattle.hc_engines.specs.Engine.{nothing}
use Rattle.hc_engines.specs.large.Region.{Flushing, is_clean, Region, next_page, can_go, region_at}
use Rattle.hc_engines.specs.large.Block.{Writing, Block, Moved, unmoved, finished}
use Rattle.hc_engines.specs.large.Steps.{write_out, first_ready, early_of, flush_of, flush}
use Rattle.hc_engines.specs.large.Numbers.{minus}
use Rattle.hc_engines.specs.large.Held.{held}
use Rattle.hc_engines.specs.large.Sound.{is_live, Sound}
use Rattle.hc_engines.specs.large.Laws.{IsFree}
use Rattle.hc_engines.specs.large.Fits.{Fits, ReadsHold}
use Rattle.hc_engines.specs.large.Index.{place_at}
use Rattle.hc_engines.proofs.large.Lists.{same_num, region_at-set}
use Rattle.hc_engines.proofs.large.Flushes.{Goes, live_unclean, IsReady, ready_is, CanGo, can_go_is}
use Rattle.hc_engines.proofs.large.FlushesSound.{sealed_goes, sealed_sound, open_goes, open_sound}
use Rattle.hc_engines.proofs.large.Fitting.{Grows, same_region}
use Rattle.hc_engines.proofs.large.FitsSteps.{next_page_long}
use Rattle.hc_engines.proofs.large.Stays.{reads_added, out_rest}
use Rattle.hc_engines.proofs.large.Holding.{held_same}
use Rattle.hc_history.specs.Note.{Note}
use Rattle.hc_history.specs.Pages.{bytes_at}
use Rattle.hc_proof.specs.books.RegionBooks.{LargeFits, LargeKeeps, OthersStay, but, WritesPage, FlushTells, FlushGives}
use Rattle.hc_proof.proofs.books.Changing.{changed_regions, others_same, work-added}
use Rattle.hc_engines.proofs.large.Jobs.{work_added}

-- what a step that tells nothing of regions leaves
pub record Leaves (flash : FlashConfig) (older : List Note) (number : ℕ) (s new : Block) : Type 0 where
  pub fit : LargeFits flash older new
  pub held : (key : List ℕ) → held flash (bytes_at older) new key ≡ held flash (bytes_at older) s key
  pub index : new.index ≡ s.index
  pub others : OthersStay (but number) s new

-- the order for a page of an open or a sealed region
out_leaves : (flash : FlashConfig) (older : List Note) (number r : ℕ) (x : Region) (s : Block) (sealed : List ℕ) → LargeFits flash older s → Goes flash number r x s → is_live (region_at r s.regions).status ≡ true
    → Sound flash (write_out flash number r x (record s { sealed = sealed })).state → Leaves flash older number s (write_out flash number r x (record s { sealed = sealed })).state
out_leaves flash older number r x s sealed f g was_live sound = record {
  fit = record {
    sound = sound;
    fits = rest.0;
    reads = reads_added flash (bytes_at older) new number (Writing r (next_page flash x)) s.jobs tt rest.1;
    regions = changed_regions flash older r x s new f.regions g.there refl refl refl refl (live_unclean x.status g.live ∙ sym unclean) (λ c. (rw (g.written, g.buffer) refl));
  };
  held = held_same flash (bytes_at older) (bytes_at older) s new f.fits refl (λ h p e. grows p.region (p.region == r) refl);
  index = refl;
  others = others_same (but number) r x s new g.there refl g.written (λ n o. work-added number n (Writing r (next_page flash x)) s.jobs o);
}
  where
    new : Block
    new = (write_out flash number r x (record s { sealed = sealed })).state

    unclean : is_clean (region_at r s.regions).status ≡ false
    unclean = live_unclean (region_at r s.regions).status was_live

    rest : Fits flash (bytes_at older) (write_out flash number r x (record s { sealed = sealed })).state × ReadsHold flash (bytes_at older) (write_out flash number r x (record s { sealed = sealed })).state s.jobs
    rest = out_rest flash (bytes_at older) r x s (write_out flash number r x (record s { sealed = sealed })).state s.jobs was_live unclean refl refl g.written g.buffer f.sound.works f.fits f.reads

    grows : (q : ℕ) (t : Bool) → (q == r) ≡ t → Grows flash (bytes_at older) (bytes_at older) s (write_out flash number r x (record s { sealed = sealed })).state q
    grows q true t = let e : q ≡ r = eqb-true q r t in subst (λ (z : ℕ). Grows flash (bytes_at older) (bytes_at older) s (write_out flash number r x (record s { sealed = sealed })).state z) (sym e)
        (same_region flash (bytes_at older) s (write_out flash number r x (record s { sealed = sealed })).state r (rw (region_at-set s.regions r r x g.there, same_num r) g.written) (rw (region_at-set s.regions r r x g.there, same_num r) g.buffer))
    grows q false t = same_region flash (bytes_at older) s (write_out flash number r x (record s { sealed = sealed })).state q (rw (region_at-set s.regions r q x g.there, t) refl) (rw (region_at-set s.regions r q x g.there, t) refl)

out_page : (flash : FlashConfig) (number r : ℕ) (x : Region) (s : Block) (sealed : List ℕ) → r < length s.regions → length s.regions ≡ flash.regions → WritesPage flash number (write_out flash number r x (record s { sealed = sealed }))
out_page flash number r x s sealed there n = record {
  region = r;
  bytes = next_page flash x;
  there = omega (arith, there, n);
  work = work_added number (Writing r (next_page flash x)) s.jobs;
  order = rw (region_at-set s.regions r r x there, same_num r) refl;
  outcome = refl;
  whole = next_page_long flash x;
}

-- ---- flush

-- what a flush or an early write comes to
pub record FlushDoes (flash : FlashConfig) (older : List Note) (number : ℕ) (s : Block) (moved : Moved) : Type 0 where
  pub leaves : Leaves flash older number s moved.state
  pub gives : WritesPage flash number moved ⊎ (moved ≡ finished s nothing)

module _ (flash : FlashConfig) (older : List Note) (number : ℕ) (s : Block) (free : IsFree number s) (f : LargeFits flash older s) where
  flush_idle : FlushDoes flash older number s (unmoved s)
  flush_idle = record { leaves = record { fit = f; held = λ key. refl; index = refl; others = record { works = λ n o. refl; written = λ n r bytes o w. refl } }; gives = inr refl }

  flush_sealed : (r : ℕ) → IsReady s.regions s.sealed r → FlushDoes flash older number s (flush_of flash number s (Some r))
  flush_sealed r ready =
      let x = record (region_at r s.regions) { status = Flushing } in
      let goes : Goes flash number r x s = sealed_goes flash number r s f.sound free ready in
      record {
        leaves = out_leaves flash older number r x s (minus r s.sealed) f goes (rw (f.sound.sealed r ready.there) refl) (sealed_sound flash number r s f.sound free ready);
        gives = inl (out_page flash number r x s (minus r s.sealed) goes.there f.regions.number);
      }

  flush_early : (r : ℕ) → s.current ≡ Some r → CanGo flash (region_at r s.regions) → FlushDoes flash older number s (write_out flash number r (record (region_at r s.regions) { early = true }) s)
  flush_early r cur can =
      let x = record (region_at r s.regions) { early = true } in
      let goes : Goes flash number r x s = open_goes flash number r s f.sound free cur can in
      record {
        leaves = out_leaves flash older number r x s s.sealed f goes (rw (f.sound.current r cur) refl) (open_sound flash number r s f.sound free cur can);
        gives = inl (out_page flash number r x s s.sealed goes.there f.regions.number);
      }

  flush_open : (r : ℕ) → s.current ≡ Some r → (t : Bool) → can_go flash (region_at r s.regions) ≡ t → FlushDoes flash older number s (if t then write_out flash number r (record (region_at r s.regions) { early = true }) s else unmoved s)
  flush_open r c true t = flush_early r c (can_go_is flash (region_at r s.regions) t)
  flush_open r c false t = flush_idle

  flush_next : (o : Option ℕ) → s.current ≡ o → FlushDoes flash older number s (early_of flash number s o)
  flush_next None c = flush_idle
  flush_next (Some r) c = flush_open r c (can_go flash (region_at r s.regions)) refl

  flush_by : (o : Option ℕ) → first_ready s.regions s.sealed ≡ o → FlushDoes flash older number s (flush_of flash number s o)
  flush_by None e = flush_next s.current refl
  flush_by (Some r) e = flush_sealed r (ready_is s.regions s.sealed r e)

  pub flush_does : FlushDoes flash older number s (flush flash number s)
  flush_does = flush_by (first_ready s.regions s.sealed) refl

-- a step that tells nothing
pub quiet_keeps : (config : Config) (flash : FlashConfig) (older : List Note) (number : ℕ) (s new : Block) → Leaves flash older number s new → LargeKeeps config flash older [] s new
quiet_keeps config flash older number s new l = record {
  lawful = tt;
  lawful_in = λ tail. tt;
  fit = l.fit;
  held = l.held;
  index = λ hash. ap (place_at hash) l.index;
  pages = λ page lt. refl;
  entries = λ bucket lt. refl;
  once = λ o. o;
}

pub flush_tells : FlushTells
flush_tells config flash older number s here free f = quiet_keeps config flash older number s (flush flash number s).state (flush_does flash older number s free f).leaves

pub flush_gives : FlushGives
flush_gives flash older number s free f = ((flush_does flash older number s free f).leaves.others, (flush_does flash older number s free f).gives)
