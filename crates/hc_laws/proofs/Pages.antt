-- The bytes of pages, and the bits of keys, against values that were worked out by hand.
use Rattle.std.proofs.Common.{◌≡◌, ℕ, List, [], ◌∷◌, ◌++◌, ◌-◌, length, map, Some, None, refl}
use Rattle.std.specs.Prelude.{codes, replicate}
use Rattle.hc_types.specs.FlashEntry.{FlashEntry}
use Rattle.hc_bucket.specs.Page.{page_bytes}
use Rattle.hc_bucket.specs.Reading.{entry_at, entries_at, body_at, whole_at, content_at, page_at}
use Rattle.hc_bucket.specs.Bloom.{bits_of}

-- the function gives what each row of the table says
abbrev Worked : {X Y : Type 0} → (X → Y) → List (X × Y) → Type 0
Worked f table = map (λ row. f row.0) table ≡ map (λ row. row.1) table

-- these bytes, and zeros up to 512
abbrev page : List ℕ → List ℕ
page front = front ++ replicate (512 - length front) 0

-- ---- pages

-- the key `a` with the value `one`
abbrev one : FlashEntry
one = record { key = codes "a"; value = codes "one"; pool = 0; expiry = 0 }

abbrev of_one : List ℕ
of_one = 0 ∷ 1 ∷ 0 ∷ 20 ∷ 1 ∷ 0 ∷ 0 ∷ 3 ∷ 0 ∷ 0 ∷ 0 ∷ 0 ∷ 0 ∷ 0 ∷ 0 ∷ 0 ∷ codes "aone"

-- the keys `a` and `b` with the values `x` and `y`
abbrev x : FlashEntry
x = record { key = codes "a"; value = codes "x"; pool = 0; expiry = 0 }

abbrev y : FlashEntry
y = record { key = codes "b"; value = codes "y"; pool = 0; expiry = 0 }

-- their page, but for the key of the second
abbrev of_two : ℕ → List ℕ
of_two key =
    0 ∷ 2 ∷ 0 ∷ 32 ∷ 1 ∷ 0 ∷ 0 ∷ 1 ∷ 0 ∷ 0 ∷ 0 ∷ 0 ∷ 0 ∷ 0 ∷ 0 ∷ 0 ∷ 97 ∷ 120
    ∷ 1 ∷ 0 ∷ 0 ∷ 1 ∷ 0 ∷ 0 ∷ 0 ∷ 0 ∷ 0 ∷ 0 ∷ 0 ∷ 0 ∷ key ∷ 121 ∷ []

-- the pages of one entry, of two, and of none
abbrev pages : List (List FlashEntry × List ℕ)
pages = (one ∷ [], page of_one) ∷ (x ∷ y ∷ [], page (of_two 98)) ∷ ([], page (0 ∷ 0 ∷ 0 ∷ 4 ∷ [])) ∷ []

pub pages_are_written : Worked (page_bytes 512) pages
pages_are_written = refl

pub pages_are_read : map (λ row. page_at 512 row.1) pages ≡ map (λ row. Some row.0) pages
unfolding entry_at entries_at body_at whole_at content_at page_at
pages_are_read = refl

-- two entries fill a page of this size to its end: `key` with no value, and `a` with so many bytes
abbrev filling : ℕ → List FlashEntry
filling size =
    record { key = codes "key"; value = []; pool = 7; expiry = 72623859790382856 }
    ∷ record { key = codes "a"; value = replicate (size - 32) 9; pool = 7; expiry = 72623859790382856 }
    ∷ []

-- the page: the high bytes of what is used and of the second value's length are told
abbrev filled : ℕ → ℕ → ℕ → List ℕ
filled size high long =
    0 ∷ 2 ∷ high ∷ 0 ∷ 3 ∷ 7 ∷ 0 ∷ 0 ∷ 1 ∷ 2 ∷ 3 ∷ 4 ∷ 5 ∷ 6 ∷ 7 ∷ 8 ∷ 107 ∷ 101 ∷ 121
    ∷ 1 ∷ 7 ∷ long ∷ 224 ∷ 1 ∷ 2 ∷ 3 ∷ 4 ∷ 5 ∷ 6 ∷ 7 ∷ 8 ∷ 97 ∷ replicate (size - 32) 9

pub each_size_is_filled : Worked (λ size. page_bytes size (filling size))
    ((512, filled 512 2 1) ∷ (1024, filled 1024 4 3) ∷ (2048, filled 2048 8 7) ∷ (4096, filled 4096 16 15) ∷ [])
each_size_is_filled = refl

-- no pages of 512 bytes
abbrev no_pages : List (List ℕ)
no_pages =
    -- one is a byte short
    (of_one ++ replicate 491 0)
    -- less than the two numbers is used, or more than the page
    ∷ page (0 ∷ 0 ∷ 0 ∷ 3 ∷ [])
    ∷ page (0 ∷ 0 ∷ 2 ∷ 1 ∷ [])
    -- there is an entry more than is told, or one less, or a byte more
    ∷ page (0 ∷ 0 ∷ 0 ∷ 20 ∷ 1 ∷ 0 ∷ 0 ∷ 3 ∷ 0 ∷ 0 ∷ 0 ∷ 0 ∷ 0 ∷ 0 ∷ 0 ∷ 0 ∷ codes "aone")
    ∷ page (0 ∷ 2 ∷ 0 ∷ 20 ∷ 1 ∷ 0 ∷ 0 ∷ 3 ∷ 0 ∷ 0 ∷ 0 ∷ 0 ∷ 0 ∷ 0 ∷ 0 ∷ 0 ∷ codes "aone")
    ∷ page (0 ∷ 1 ∷ 0 ∷ 21 ∷ 1 ∷ 0 ∷ 0 ∷ 3 ∷ 0 ∷ 0 ∷ 0 ∷ 0 ∷ 0 ∷ 0 ∷ 0 ∷ 0 ∷ codes "aone")
    -- the value is longer than what is used
    ∷ page (0 ∷ 1 ∷ 0 ∷ 20 ∷ 1 ∷ 0 ∷ 0 ∷ 4 ∷ 0 ∷ 0 ∷ 0 ∷ 0 ∷ 0 ∷ 0 ∷ 0 ∷ 0 ∷ codes "aone")
    -- a key has no byte
    ∷ page (0 ∷ 1 ∷ 0 ∷ 20 ∷ 0 ∷ 0 ∷ 0 ∷ 4 ∷ 0 ∷ 0 ∷ 0 ∷ 0 ∷ 0 ∷ 0 ∷ 0 ∷ 0 ∷ codes "aone")
    -- a key stands twice
    ∷ page (of_two 97)
    -- the last byte isn't 0
    ∷ (of_one ++ replicate 491 0 ++ 1 ∷ [])
    ∷ []

pub what_is_no_page_is_refused : map (page_at 512) no_pages ≡ replicate 10 None
unfolding entry_at entries_at body_at whole_at content_at page_at
what_is_no_page_is_refused = refl

-- ---- bits

-- the four bits of each key of the table of hashes
pub bits : Worked bits_of
    ((codes "a", 12 ∷ 44 ∷ 1 ∷ 6 ∷ [])
    ∷ (codes "b", 37 ∷ 49 ∷ 1 ∷ 6 ∷ [])
    ∷ (codes "c", 50 ∷ 47 ∷ 1 ∷ 6 ∷ [])
    ∷ (codes "d", 51 ∷ 39 ∷ 1 ∷ 6 ∷ [])
    ∷ (codes "e", 0 ∷ 37 ∷ 1 ∷ 6 ∷ [])
    ∷ (codes "f", 25 ∷ 42 ∷ 1 ∷ 6 ∷ [])
    ∷ (codes "foobar", 40 ∷ 39 ∷ 57 ∷ 55 ∷ [])
    ∷ [])
bits = refl
