-- The words of pages against values that were worked out by hand.
use Rattle.std.proofs.Common.{◌≡◌, [], ◌∷◌, refl}
use Rattle.std.specs.Prelude.{codes}
use Rattle.hc_engines.specs.small.Bloom.{word_of, bits_of}

-- the word of a page that holds `a` alone: the bits 12, 6, 44 and 1
pub word_of_a : word_of (record { key = codes "a"; value = []; pool = 0; expiry = 0 } ∷ []) ≡ 17592186048578
unfolding bits_of
word_of_a = refl
