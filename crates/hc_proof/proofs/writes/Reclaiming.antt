-- Reclaim: the region that was flushed first ends.
use Rattle.std.proofs.Common.{◌≡◌, ℕ, ◌<◌, Bool, true, false, List, [], Option, Some, None, refl, sym, ap, subst, arith, ◌∙◌}
use Rattle.std.proofs.lemmas.Bool.{ltb-true}
use Rattle.std.specs.Prelude.{if◌then◌else◌, nat_lt}
use Rattle.hc_types.specs.Config.{Config}
use Rattle.hc_types.specs.Loss.{Reclaimed}
use Rattle.hc_types.specs.declared.config.FlashConfig.{FlashConfig}
use Rattle.hc_types.specs.FlashEntry.{FlashEntry}
use Rattle.hc_engines.proofs.large.Stays.{Rest}
use Rattle.hc_engines.specs.large.Region.{is_draining, region_at}
use Rattle.hc_engines.specs.large.Index.{Place, place_at, region_in}
use Rattle.hc_engines.specs.large.Block.{Block, Moved, unmoved}
use Rattle.hc_engines.specs.large.Steps as steps
use Rattle.hc_engines.specs.large.Steps.{emptied, not_current, oldest, reclaim_of, reclaim}
use Rattle.hc_engines.specs.large.Numbers.{is_in, is_before}
use Rattle.hc_engines.specs.large.Sound.{is_listed, Sound}
use Rattle.hc_engines.proofs.large.Lists.{in_range}
use Rattle.hc_engines.proofs.large.Ends.{Ending, not-current-is, closed}
use Rattle.hc_engines.proofs.large.Regions.{IsOldest, oldest_is}
use Rattle.hc_engines.proofs.large.Reclaims.{oldest_ending}
use Rattle.hc_engines.proofs.large.GetsSound.{drained_bare}
use Rattle.hc_history.specs.Note.{Note}
use Rattle.hc_history.specs.Regions.{is_one_of, clean_count, flushed, behind, filed}
use Rattle.hc_history.specs.Pages.{bytes_at}
use Rattle.hc_history.specs.Lawful.{past}
use Rattle.hc_invariant.specs.Tells.{RegionsTell}
use Rattle.hc_proof.specs.books.RegionBooks.{LargeFits, LargeKeeps, OthersStay, each, told, ReclaimTells, ReclaimGives}
use Rattle.hc_invariant.specs.Good.{OneFlush}
use Rattle.hc_proof.proofs.books.Filings.{of_regions, as-none, none-of, none-left}
use Rattle.hc_proof.proofs.books.RegionsInUse.{used-clean, in-reverse, behind-before}
use Rattle.hc_proof.proofs.books.Changing.{others_alone}
use Rattle.hc_proof.proofs.books.Ending.{closes, over_pages, held_over, ended_part, EndDoes, ended_does}
use Rattle.hc_engines.proofs.large.Reclaims.{not_current_one}

-- what makes the losses true
abbrev pub IsReclaiming : FlashConfig → ℕ → List Note → Type 0
IsReclaiming flash r older = (is_one_of r (flushed older) ≡ true) × (clean_count flash older < flash.clean) × (of_regions (λ x. is_one_of x (behind r (flushed older))) (filed flash older) ≡ 0)

-- the index leads into no region that drains
pub none_drained : (flash : FlashConfig) (s : Block) → Sound flash s → (x : ℕ) → is_draining (region_at x s.regions).status ≡ true → (h : ℕ) → region_in (place_at h s.index) ≡ Some x → ⊥
none_drained flash s sound x d h e = go (place_at h s.index) refl e
  where
    go : (o : Option Place) → place_at h s.index ≡ o → region_in o ≡ Some x → ⊥
    go None f e = absurd (cc)
    go (Some p) f e =
        let same : p.region ≡ x = cc in
        let l : is_listed h p.offset (region_at x s.regions).appended ≡ true = subst (λ (j : ℕ). is_listed h p.offset (region_at j s.regions).appended ≡ true) same (sound.listed h p f) in
        let none = (sound.regions x).bare (drained_bare (region_at x s.regions).status d) in
        let l2 : is_listed h p.offset [] ≡ true = (rw none at l) in
        absurd (cc)

module _ (config : Config) (flash : FlashConfig) (older : List Note) (s : Block) (r : ℕ) (here : config.flash ≡ Some flash) (once : OneFlush older) (f : LargeFits flash older s) (few : steps.clean_count s.regions < flash.clean) (old : IsOldest s.regions s.flushed r) where
  ending : Ending flash r s
  ending = (oldest_ending flash s r f.sound old).0

  open_too : RegionsTell flash older (closed r s)
  open_too = record {
    number = f.regions.number;
    used = f.regions.used;
    used_number = f.regions.used_number;
    in_order = f.regions.in_order;
    filings = f.regions.filings;
    current = f.regions.current ∙ sym (not_current_one s.regions r s.current f.sound.current (oldest_ending flash s r f.sound old).1);
    filled = λ q c. f.regions.filled q (not-current-is r q s.current c).0;
  }

  reclaiming : IsReclaiming flash r older
  reclaiming = (
    sym (in-reverse r (flushed older)) ∙ ap (is_in r) (sym f.regions.in_order) ∙ old.there,
    omega (arith, f.regions.number, f.regions.used_number, used-clean s.regions, few),
    none-of (λ x. is_one_of x (behind r (flushed older))) (filed flash older) (λ x b. as-none x (filed flash older) s.index f.regions.filings (none_drained flash s f.sound x (old.older x (ap (λ rs. is_before rs x r) f.regions.in_order ∙ behind-before (flushed older) x r (once r) b)))),
  )

  pub reclaim_ends : EndDoes config flash older (Reclaimed r) r s
  reclaim_ends = ended_does config flash here r (Reclaimed r) (λ later h. refl) (IsReclaiming flash r)
      (λ later h t. (t.0, t.1, none-left (λ x. is_one_of x (behind r (flushed later))) h (filed flash later) t.2))
      (λ later h rest t there. rw here (record { filed_there = there; is_flushed = t.0; few_clean = t.1; oldest = t.2 }))
      older s ending open_too (record { fits = f.fits; reads = f.reads }) reclaiming

-- what a reclaim comes to
record ReclaimDoes (config : Config) (flash : FlashConfig) (older : List Note) (s : Block) (moved : Moved) : Type 0 where
  keeps : LargeKeeps config flash older (told moved.outcome) s moved.state

reclaims_one : (config : Config) (flash : FlashConfig) (older : List Note) (s : Block) (r : ℕ) → config.flash ≡ Some flash → OneFlush older → LargeFits flash older s → steps.clean_count s.regions < flash.clean → IsOldest s.regions s.flushed r → ReclaimDoes config flash older s (reclaim_of s (Some r))
reclaims_one config flash older s r here once f few old = record {
  keeps = record {
    lawful = closes config older (told (reclaim_of s (Some r)).outcome) (d.lawful_in []);
    lawful_in = d.lawful_in;
    fit = record { sound = d.sound; fits = rest.fits; reads = rest.reads; regions = d.regions };
    held = λ key. held_over flash (bytes_at older) (bytes_at (past older (ended_part (Reclaimed r) r s))) (reclaim_of s (Some r)).state key d.pages ∙ d.held key;
    index = d.index;
    pages = λ page lt. ap (λ (pages : ℕ → Option (List ℕ)). pages page) d.pages;
    entries = λ bucket lt. ap (λ (entries : ℕ → List FlashEntry). entries bucket) d.entries;
    once = d.once;
  };
}
  where
    d : EndDoes config flash older (Reclaimed r) r s
    d = reclaim_ends config flash older s r here once f few old

    rest : Rest flash (bytes_at (past older (ended_part (Reclaimed r) r s))) (reclaim_of s (Some r)).state
    rest = over_pages flash (bytes_at older) (bytes_at (past older (ended_part (Reclaimed r) r s))) (reclaim_of s (Some r)).state d.pages d.rest

reclaims_none : (config : Config) (flash : FlashConfig) (older : List Note) (s : Block) → LargeFits flash older s → ReclaimDoes config flash older s (unmoved s)
reclaims_none config flash older s f = record { keeps = record { lawful = tt; lawful_in = λ tail. tt; fit = f; held = λ key. refl; index = λ hash. refl; pages = λ page lt. refl; entries = λ bucket lt. refl; once = λ o. o } }

reclaim_does : (config : Config) (flash : FlashConfig) (older : List Note) (s : Block) → config.flash ≡ Some flash → OneFlush older → LargeFits flash older s → ReclaimDoes config flash older s (reclaim flash s)
reclaim_does config flash older s here once f = go (nat_lt (steps.clean_count s.regions) flash.clean) refl
  where
    of : (o : Option ℕ) → oldest s.regions s.flushed ≡ o → steps.clean_count s.regions < flash.clean → ReclaimDoes config flash older s (reclaim_of s o)
    of None e few = reclaims_none config flash older s f
    of (Some r) e few = reclaims_one config flash older s r here once f few (oldest_is s.regions s.flushed r e)

    go : (t : Bool) → nat_lt (steps.clean_count s.regions) flash.clean ≡ t → ReclaimDoes config flash older s (if t then reclaim_of s (oldest s.regions s.flushed) else unmoved s)
    go true t = of (oldest s.regions s.flushed) refl (ltb-true (steps.clean_count s.regions) flash.clean t)
    go false t = reclaims_none config flash older s f

pub reclaim_tells : ReclaimTells
reclaim_tells config flash older s here once f = (reclaim_does config flash older s here once f).keeps

pub reclaim_gives : ReclaimGives
reclaim_gives flash older s f = go (nat_lt (steps.clean_count s.regions) flash.clean)
  where
    still : OthersStay each s s
    still = record { works = λ n o. refl; written = λ n r bytes o w. refl }

    of : (o : Option ℕ) → oldest s.regions s.flushed ≡ o → OthersStay each s (reclaim_of s o).state
    of None e = still
    of (Some r) e =
        let ends = (oldest_ending flash s r f.sound (oldest_is s.regions s.flushed r e)).0 in
        others_alone each r (emptied (region_at r s.regions)) s (reclaim_of s (Some r)).state s.jobs (in_range s.regions r ends.unclean) refl ends.idle (λ n o. refl) (λ n o. refl)

    go : (t : Bool) → OthersStay each s (if t then reclaim_of s (oldest s.regions s.flushed) else unmoved s).state
    go true = of (oldest s.regions s.flushed) refl
    go false = still
