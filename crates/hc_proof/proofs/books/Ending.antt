-- A region ends: what leads into it is lost, and it is clean or drains; by the engine and by the books.
use Rattle.std.proofs.Common.{◌≡◌, ℕ, ◌+◌, ◌<◌, ◌≤◌, ◌==◌, Bool, true, false, not, List, [], ◌∷◌, ◌++◌, length, map, set, reverse, Option, Some, None, refl, sym, ap, subst, arith, ◌∙◌, append-nil}
use Rattle.std.proofs.lemmas.Bool.{eqb-true}
use Rattle.std.proofs.lemmas.List.{length-set}
use Rattle.std.specs.Prelude.{if◌then◌else◌}
use Rattle.hc_types.specs.Config.{Config}
use Rattle.hc_types.specs.Loss.{Cause, Hash}
use Rattle.hc_types.specs.Places.{kept_of}
use Rattle.hc_types.specs.Tally.{count}
use Rattle.hc_types.specs.declared.config.FlashConfig.{FlashConfig}
use Rattle.hc_engines.specs.Engine.{Loss}
use Rattle.hc_engines.specs.large.Region.{Draining, is_clean, Appended, Region, clean_region, filled_to, region_at}
use Rattle.hc_engines.specs.large.Index.{Place, Indexed, place_at, without, is_at, leading_into, without_all, region_in}
use Rattle.hc_engines.specs.large.Block.{Block}
use Rattle.hc_engines.specs.large.Steps.{lost, emptied, cleared_by, end_region}
use Rattle.hc_engines.specs.large.Numbers.{is_in, minus}
use Rattle.hc_engines.specs.large.Held.{held}
use Rattle.hc_engines.specs.large.Sound.{is_listed, Sound}
use Rattle.hc_engines.proofs.large.Lists.{same_num, in_range, region_at-set, is_at-true}
use Rattle.hc_engines.proofs.large.Ends.{Ending, not-current-is, same_other, still_there, ended_sound, closed}
use Rattle.hc_engines.proofs.large.Holding.{held_ended}
use Rattle.hc_engines.proofs.large.Stays.{Rest}
use Rattle.hc_history.specs.Note.{Note, Lose, Cleared}
use Rattle.hc_history.specs.Pages.{bytes_at, bucket_entries}
use Rattle.hc_history.specs.Regions.{Filing, is_one_of, in_use, open_region, flushed, unfiled, filed, filling}
use Rattle.hc_history.specs.Lawful.{Allowed, Lawful, past}
use Rattle.hc_history.proofs.Appended.{past-append}
use Rattle.hc_machine.specs.Takes.{region_note}
use Rattle.hc_invariant.specs.Tells.{RegionsTell, files}
use Rattle.hc_invariant.specs.Laws.{LawfulIn}
use Rattle.hc_invariant.proofs.Pieces.{pieces-both}
use Rattle.hc_proof.specs.books.RegionBooks.{loses}
use Rattle.hc_invariant.specs.Good.{OneFlush}
use Rattle.hc_proof.proofs.books.Filings.{FiledAs, as-without, as-there, as-none, of_regions, none-of}
use Rattle.hc_proof.proofs.books.RegionsInUse.{less, one-less, less-shorter, used_count, used-set, used-below, minus-reverse, is_used, one_if}
use Rattle.hc_proof.proofs.books.Placed.{used-still, clean-still}
use Rattle.hc_engines.proofs.large.Stays.{ended_rest}
use Rattle.hc_engines.proofs.large.Holding.{gone_or_there}

-- ---- parts that are lawful whatever comes behind

pub closes : (config : Config) (older piece : List Note) → LawfulIn config older piece [] → Lawful config older piece
closes config older [] l = tt
closes config older (note ∷ piece) l = (subst (Allowed config older note) (append-nil piece) l.0, closes config (note ∷ older) piece l.1)

-- the same over pages that are the same
pub over_pages : (flash : FlashConfig) (pages new_pages : ℕ → Option (List ℕ)) (s : Block) → new_pages ≡ pages → Rest flash pages s → Rest flash new_pages s
over_pages flash pages new_pages s e rest = subst (λ (p : ℕ → Option (List ℕ)). Rest flash p s) (sym e) rest

pub held_over : (flash : FlashConfig) (pages new_pages : ℕ → Option (List ℕ)) (s : Block) (key : List ℕ) → new_pages ≡ pages → held flash new_pages s key ≡ held flash pages s key
held_over flash pages new_pages s key e = ap (λ (p : ℕ → Option (List ℕ)). held flash p s key) e

-- ---- losses of hashes

-- as the outcome tells them
abbrev pub lose_all : Cause → List ℕ → List Note
lose_all cause hashes = map (λ (loss : Loss). Lose loss.scope loss.cause) (lost cause hashes)

-- two histories whose books agree, but for what is filed
pub record SameBut (flash : FlashConfig) (older new : List Note) : Type 0 where
  pub used : in_use new ≡ in_use older
  pub flushed : flushed new ≡ flushed older
  pub current : open_region flash new ≡ open_region flash older
  pub filling : filling flash new ≡ filling flash older
  pub pages : bytes_at new ≡ bytes_at older
  pub entries : bucket_entries flash new ≡ bucket_entries flash older

pub losses_but : (flash : FlashConfig) (older : List Note) (cause : Cause) (hashes : List ℕ) → SameBut flash older (past older (lose_all cause hashes))
losses_but flash older cause [] = record { used = refl; flushed = refl; current = refl; filling = refl; pages = refl; entries = refl }
losses_but flash older cause (h ∷ hs) =
    let more = losses_but flash (Lose (Hash h None) cause ∷ older) cause hs in
    record { used = more.used; flushed = more.flushed; current = more.current; filling = more.filling; pages = more.pages; entries = more.entries }

pub loses-all : (h : ℕ) (cause : Cause) (hashes : List ℕ) (o : Option ℕ) → loses h (lose_all cause hashes ++ region_note Cleared o) ≡ is_in h hashes
loses-all h cause [] None = refl
loses-all h cause [] (Some r) = refl
loses-all h cause (x ∷ xs) o = ap (λ b. if x == h then true else b) (loses-all h cause xs o)

-- Each loss is true while T holds, T isn't touched by losses, and in the end what is filed is what the index leads to still.
module _ (config : Config) (flash : FlashConfig) (here : config.flash ≡ Some flash) (r : ℕ) (cause : Cause)
    (unfiles : (older : List Note) (h : ℕ) → filed flash (Lose (Hash h None) cause ∷ older) ≡ unfiled h (filed flash older))
    (T : List Note → Type 0) (stays : (older : List Note) (h : ℕ) → T older → T (Lose (Hash h None) cause ∷ older))
    (true_of : (older : List Note) (h : ℕ) (rest : List Note) → T older → 0 < count (files h r) (filed flash older) → Allowed config older (Lose (Hash h None) cause) rest) where
  losing : (xs : List Appended) (older : List Note) (index : List Indexed) → T older → FiledAs (filed flash older) index
      → ((tail : List Note) → LawfulIn config older (lose_all cause (leading_into r xs index)) tail) × T (past older (lose_all cause (leading_into r xs index))) × FiledAs (filed flash (past older (lose_all cause (leading_into r xs index)))) (without_all (leading_into r xs index) index)
  losing [] older index t filings = (λ tail. tt, t, filings)
  losing (x ∷ xs) older index t filings =
      go (is_at (place_at x.hash index) r x.offset) refl (λ t2 f2. losing xs (Lose (Hash x.hash None) cause ∷ older) (without x.hash index) t2 f2) (losing xs older index t filings)
    where
      go : (b : Bool) → is_at (place_at x.hash index) r x.offset ≡ b
          → (T (Lose (Hash x.hash None) cause ∷ older) → FiledAs (filed flash (Lose (Hash x.hash None) cause ∷ older)) (without x.hash index)
          → ((tail : List Note) → LawfulIn config (Lose (Hash x.hash None) cause ∷ older) (lose_all cause (leading_into r xs (without x.hash index))) tail) × T (past (Lose (Hash x.hash None) cause ∷ older) (lose_all cause (leading_into r xs (without x.hash index))))
          × FiledAs (filed flash (past (Lose (Hash x.hash None) cause ∷ older) (lose_all cause (leading_into r xs (without x.hash index))))) (without_all (leading_into r xs (without x.hash index)) (without x.hash index)))
          → ((tail : List Note) → LawfulIn config older (lose_all cause (leading_into r xs index)) tail) × T (past older (lose_all cause (leading_into r xs index))) × FiledAs (filed flash (past older (lose_all cause (leading_into r xs index)))) (without_all (leading_into r xs index) index)
          → ((tail : List Note) → LawfulIn config older (lose_all cause (if b then x.hash ∷ leading_into r xs (without x.hash index) else leading_into r xs index)) tail)
          × T (past older (lose_all cause (if b then x.hash ∷ leading_into r xs (without x.hash index) else leading_into r xs index)))
          × FiledAs (filed flash (past older (lose_all cause (if b then x.hash ∷ leading_into r xs (without x.hash index) else leading_into r xs index)))) (without_all (if b then x.hash ∷ leading_into r xs (without x.hash index) else leading_into r xs index) index)
      go true e deeper rest =
          let there : 0 < count (files x.hash r) (filed flash older) = as-there x.hash r (filed flash older) index filings (is_at-true (place_at x.hash index) r x.offset e) in
          let left : FiledAs (filed flash (Lose (Hash x.hash None) cause ∷ older)) (without x.hash index) = subst (λ (fs : List Filing). FiledAs fs (without x.hash index)) (sym (unfiles older x.hash)) (as-without x.hash (filed flash older) index filings) in
          let more = deeper (stays older x.hash t) left in
          (λ tail. (true_of older x.hash (lose_all cause (leading_into r xs (without x.hash index)) ++ tail) t there, more.0 tail), more.1, more.2)
      go false e deeper rest = rest

  -- ---- the region is clean again, or it drains

  nothing_there : (xs : List Appended) (index : List Indexed) → ((h : ℕ) (q : Place) → place_at h index ≡ Some q → q.region ≡ r → is_listed h q.offset xs ≡ true) → (h : ℕ) → region_in (place_at h (without_all (leading_into r xs index) index)) ≡ Some r → ⊥
  nothing_there xs index l h = go (place_at h (without_all (leading_into r xs index) index)) refl
    where
      go : (o : Option Place) → place_at h (without_all (leading_into r xs index) index) ≡ o → region_in o ≡ Some r → ⊥
      go None f e = absurd (cc)
      go (Some p) f e =
          let k = still_there r h xs index p (l h) f in
          let same : p.region ≡ r = cc in
          absurd (grind (arith, same_num r, k.1))

pub fewer : (q r : ℕ) (xs : List ℕ) → count (λ (x : ℕ). x == q) (less r xs) ≤ count (λ (x : ℕ). x == q) xs
fewer q r [] = omega arith
fewer q r (y ∷ ys) = go (y == r) (fewer q r ys)
  where
    go : (t : Bool) → count (λ (x : ℕ). x == q) (less r ys) ≤ count (λ (x : ℕ). x == q) ys → count (λ (x : ℕ). x == q) (if not t then y ∷ less r ys else less r ys) ≤ (if y == q then 1 else 0) + count (λ (x : ℕ). x == q) ys
    go true h = omega (arith, h)
    go false h = omega (arith, h)

-- the books after the note that the region is clean, if it is told: the regions then, and those that were flushed
pub record Cleaned (config : Config) (flash : FlashConfig) (mid : List Note) (regions : List Region) (order : List ℕ) (note : List Note) : Type 0 where
  pub lawful : (tail : List Note) → LawfulIn config mid note tail
  pub used : (q : ℕ) → is_one_of q (in_use (past mid note)) ≡ not (is_clean (region_at q regions).status)
  pub used_number : length (in_use (past mid note)) ≡ used_count regions
  pub in_order : order ≡ reverse (flushed (past mid note))
  pub filings : filed flash (past mid note) ≡ filed flash mid
  pub current : open_region flash (past mid note) ≡ open_region flash mid
  pub filled : filling flash (past mid note) ≡ filling flash mid
  pub pages : bytes_at (past mid note) ≡ bytes_at mid
  pub entries : bucket_entries flash (past mid note) ≡ bucket_entries flash mid
  pub once : OneFlush mid → OneFlush (past mid note)

-- what the books say before it
pub record Uncleaned (flash : FlashConfig) (mid : List Note) (r : ℕ) (regions : List Region) (order : List ℕ) : Type 0 where
  pub there : r < length regions
  pub unclean : is_clean (region_at r regions).status ≡ false
  pub used : (q : ℕ) → is_one_of q (in_use mid) ≡ not (is_clean (region_at q regions).status)
  pub used_number : length (in_use mid) ≡ used_count regions
  pub in_order : order ≡ reverse (flushed mid)
  pub none : of_regions (λ x. x == r) (filed flash mid) ≡ 0

pub cleaned : (config : Config) (flash : FlashConfig) (mid : List Note) (r : ℕ) (regions : List Region) (order : List ℕ) → config.flash ≡ Some flash → Uncleaned flash mid r regions order → Cleaned config flash mid (set regions r clean_region) (minus r order) (Cleared r ∷ [])
cleaned config flash mid r regions order here u = record {
  lawful = λ tail. ((rw here (u.used r ∙ (rw u.unclean refl), u.none)), tt);
  used = used;
  used_number = omega (arith, shorter, less_one, below, u.used_number);
  in_order = ap (minus r) u.in_order ∙ minus-reverse r (flushed mid);
  filings = refl;
  current = refl;
  filled = refl;
  pages = refl;
  entries = refl;
  once = λ o q. omega (arith, fewer q r (flushed mid), o q);
}
  where
    used : (q : ℕ) → is_one_of q (less r (in_use mid)) ≡ not (is_clean (region_at q (set regions r clean_region)).status)
    used q = one-less q r (in_use mid) ∙ rw (region_at-set regions r q clean_region u.there) (go (q == r))
      where
        go : (t : Bool) → (if t then false else is_one_of q (in_use mid)) ≡ not (is_clean (if t then clean_region else region_at q regions).status)
        go true = refl
        go false = u.used q

    shorter : length (less r (in_use mid)) + 1 ≤ length (in_use mid)
    shorter = less-shorter r (in_use mid) (u.used r ∙ (rw u.unclean refl))

    less_one : used_count (set regions r clean_region) + 1 ≡ used_count regions
    less_one = let e = used-set regions r clean_region u.there in let one : one_if (is_used (region_at r regions)) ≡ 1 = (rw u.unclean refl) in omega (arith, e, one)

    below : used_count (set regions r clean_region) ≤ length (less r (in_use mid))
    below = used-below (set regions r clean_region) (less r (in_use mid)) used

-- nothing is told: the region isn't clean
pub uncleaned : (config : Config) (flash : FlashConfig) (mid : List Note) (r : ℕ) (x : Region) (regions : List Region) (order : List ℕ) → Uncleaned flash mid r regions order → is_clean x.status ≡ false → Cleaned config flash mid (set regions r x) order []
uncleaned config flash mid r x regions order u c = record {
  lawful = λ tail. tt;
  used = λ q. u.used q ∙ ap not (sym (clean-still regions r q x u.there (c ∙ sym u.unclean)));
  used_number = u.used_number ∙ sym (used-still regions r x u.there (c ∙ sym u.unclean));
  in_order = u.in_order;
  filings = refl;
  current = refl;
  filled = refl;
  pages = refl;
  entries = refl;
  once = λ o. o;
}

-- ---- a region ends

-- what is told then
abbrev pub ended_part : Cause → ℕ → Block → List Note
ended_part cause r s = lose_all cause (leading_into r (region_at r s.regions).appended s.index) ++ region_note Cleared (cleared_by (region_at r s.regions).pins r)

pub record EndDoes (config : Config) (flash : FlashConfig) (older : List Note) (cause : Cause) (r : ℕ) (s : Block) : Type 0 where
  pub lawful_in : (tail : List Note) → LawfulIn config older (ended_part cause r s) tail
  pub sound : Sound flash (end_region cause r s).state
  pub rest : Rest flash (bytes_at older) (end_region cause r s).state
  pub regions : RegionsTell flash (past older (ended_part cause r s)) (end_region cause r s).state
  pub held : (key : List ℕ) → held flash (bytes_at older) (end_region cause r s).state key ≡ (if loses (kept_of flash.bits key) (ended_part cause r s) then None else held flash (bytes_at older) s key)
  pub index : (hash : ℕ) → place_at hash (end_region cause r s).state.index ≡ (if loses hash (ended_part cause r s) then None else place_at hash s.index)
  pub pages : bytes_at (past older (ended_part cause r s)) ≡ bytes_at older
  pub entries : bucket_entries flash (past older (ended_part cause r s)) ≡ bucket_entries flash older
  pub once : OneFlush older → OneFlush (past older (ended_part cause r s))

module _ (config : Config) (flash : FlashConfig) (here : config.flash ≡ Some flash) (r : ℕ) (cause : Cause)
    (unfiles : (older : List Note) (h : ℕ) → filed flash (Lose (Hash h None) cause ∷ older) ≡ unfiled h (filed flash older))
    (T : List Note → Type 0) (stays : (older : List Note) (h : ℕ) → T older → T (Lose (Hash h None) cause ∷ older))
    (true_of : (older : List Note) (h : ℕ) (rest : List Note) → T older → 0 < count (files h r) (filed flash older) → Allowed config older (Lose (Hash h None) cause) rest) where
  pub ended_does : (older : List Note) (s : Block) → Ending flash r s → RegionsTell flash older (closed r s) → Rest flash (bytes_at older) s → T older → EndDoes config flash older cause r s
  ended_does older s e t rest holds = record {
    lawful_in = λ tail. pieces-both config older losses (region_note Cleared (cleared_by (region_at r s.regions).pins r)) tail (lost_all.0 (region_note Cleared (cleared_by (region_at r s.regions).pins r) ++ tail)) (clear.lawful tail);
    sound = ended_sound flash cause r s e;
    rest = ended_rest flash (bytes_at older) cause r s e rest;
    regions = rw (past-append older losses (region_note Cleared (cleared_by (region_at r s.regions).pins r))) (record {
      number = length-set s.regions r (emptied (region_at r s.regions)) ∙ t.number;
      used = clear.used;
      used_number = clear.used_number;
      in_order = clear.in_order;
      filings = λ h q. rw clear.filings (lost_all.2 h q);
      current = clear.current ∙ but.current ∙ t.current;
      filled = λ q c.
          let k = not-current-is r q s.current c in
          clear.filled ∙ but.filling ∙ t.filled q c ∙ same_other (λ x. filled_to flash (region_at q s.regions) ≡ filled_to flash x) s.regions r q (emptied (region_at r s.regions)) lt k.1 refl;
    });
    held = λ key. held_ended flash (bytes_at older) cause r s e key ∙ ap (λ (b : Bool). if b then None else held flash (bytes_at older) s key) (sym (loses-all (kept_of flash.bits key) cause gone (cleared_by (region_at r s.regions).pins r)));
    index = λ hash. gone_or_there hash gone s.index ∙ ap (λ (b : Bool). if b then None else place_at hash s.index) (sym (loses-all hash cause gone (cleared_by (region_at r s.regions).pins r)));
    pages = ap bytes_at (past-append older losses (region_note Cleared (cleared_by (region_at r s.regions).pins r))) ∙ clear.pages ∙ but.pages;
    entries = ap (bucket_entries flash) (past-append older losses (region_note Cleared (cleared_by (region_at r s.regions).pins r))) ∙ clear.entries ∙ but.entries;
    once = λ o. subst OneFlush (sym (past-append older losses (region_note Cleared (cleared_by (region_at r s.regions).pins r)))) (clear.once (subst (λ (xs : List ℕ). (q : ℕ) → count (λ (x : ℕ). x == q) xs ≤ 1) (sym but.flushed) o));
  }
    where
      gone : List ℕ
      gone = leading_into r (region_at r s.regions).appended s.index

      losses : List Note
      losses = lose_all cause (leading_into r (region_at r s.regions).appended s.index)

      mid : List Note
      mid = past older (lose_all cause (leading_into r (region_at r s.regions).appended s.index))

      lt : r < length s.regions
      lt = in_range s.regions r e.unclean

      but : SameBut flash older (past older (lose_all cause (leading_into r (region_at r s.regions).appended s.index)))
      but = losses_but flash older cause (leading_into r (region_at r s.regions).appended s.index)

      listed : (h : ℕ) (q : Place) → place_at h s.index ≡ Some q → q.region ≡ r → is_listed h q.offset (region_at r s.regions).appended ≡ true
      listed h q g here = subst (λ (i : ℕ). is_listed h q.offset (region_at i s.regions).appended ≡ true) here (e.listed h q g)

      lost_all : ((tail : List Note) → LawfulIn config older (lose_all cause (leading_into r (region_at r s.regions).appended s.index)) tail) × T (past older (lose_all cause (leading_into r (region_at r s.regions).appended s.index)))
          × FiledAs (filed flash (past older (lose_all cause (leading_into r (region_at r s.regions).appended s.index)))) (without_all (leading_into r (region_at r s.regions).appended s.index) s.index)
      lost_all = losing config flash here r cause unfiles T stays true_of (region_at r s.regions).appended older s.index holds t.filings

      none : of_regions (λ x. x == r) (filed flash (past older (lose_all cause (leading_into r (region_at r s.regions).appended s.index)))) ≡ 0
      none = none-of (λ x. x == r) (filed flash mid) (λ x eq h. let same : x ≡ r = eqb-true x r eq in subst (λ (z : ℕ). count (files h z) (filed flash mid) ≡ 0) (sym same)
          (as-none r (filed flash mid) (without_all gone s.index) lost_all.2 (nothing_there config flash here r cause unfiles T stays true_of (region_at r s.regions).appended s.index listed) h))

      before : Uncleaned flash (past older (lose_all cause (leading_into r (region_at r s.regions).appended s.index))) r s.regions s.flushed
      before = record { there = lt; unclean = e.unclean; used = λ q. (rw but.used (t.used q)); used_number = ap length but.used ∙ t.used_number; in_order = t.in_order ∙ ap reverse (sym but.flushed); none = none }

      by_pins : (b : Bool) → Cleaned config flash (past older (lose_all cause (leading_into r (region_at r s.regions).appended s.index))) (set s.regions r (if b then clean_region else record (region_at r s.regions) { status = Draining; buffer = []; appended = []; early = false })) (if b then minus r s.flushed else s.flushed) (region_note Cleared (if b then Some r else None))
      by_pins true = cleaned config flash mid r s.regions s.flushed here before
      by_pins false = uncleaned config flash mid r (record (region_at r s.regions) { status = Draining; buffer = []; appended = []; early = false }) s.regions s.flushed before refl

      clear : Cleaned config flash (past older (lose_all cause (leading_into r (region_at r s.regions).appended s.index))) (set s.regions r (emptied (region_at r s.regions))) (if (region_at r s.regions).pins == 0 then minus r s.flushed else s.flushed) (region_note Cleared (cleared_by (region_at r s.regions).pins r))
      clear = by_pins ((region_at r s.regions).pins == 0)
