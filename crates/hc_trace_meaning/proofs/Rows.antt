-- Whole traces, written out, and what they come to: from bytes to bytes.
use Rattle.std.proofs.Common.{◌≡◌, ℕ, List, [], ◌∷◌, ◌++◌, replicate, refl}
use Rattle.std.specs.Prelude.{codes}
use Rattle.std.specs.Fmt.{decimal, digits}
use Rattle.hc_bucket.specs.Reading.{page_at, entries_at, entry_at, body_at, content_at, whole_at}
use Rattle.hc_engines.specs.small.Bloom.{bits_of}
use Rattle.hc_trace_text.specs.Texts.{line_text, stats_text, verdict_text}
use Rattle.hc_trace_meaning.specs.Trace.{output_of}

-- lines, each with what is printed for it
abbrev Turns : Type 0
Turns = List (List ℕ × List ℕ)

abbrev input_of : Turns → List ℕ
input_of [] = []
input_of (turn ∷ turns) = line_text turn.0 ++ input_of turns

abbrev printed : Turns → List ℕ
printed [] = []
printed (turn ∷ turns) = turn.1 ++ printed turns

-- the trace of this configuration and these lines is answered so, with these counts at its end
abbrev Comes : List ℕ → Turns → (stored hits misses removes losses reads writes : ℕ) → Type 0
Comes config turns stored hits misses removes losses reads writes =
    output_of (config ++ input_of turns)
    ≡ (printed turns ++ line_text (stats_text (record { stored = stored; hits = hits; misses = misses; removes = removes; losses = losses; reads = reads; writes = writes })) ++ verdict_text, 0)

-- ---- lines that often stand together

-- a job's operation is made, and its result handed in
abbrev made : ℕ → List ℕ → Turns
made job answer = (codes "io " ++ decimal job, codes "ok\n") ∷ (codes "done " ++ decimal job, answer ++ codes "\n") ∷ []

-- the job wants the page 0 read, or written
abbrev wants : ℕ → List ℕ → List ℕ
wants job what = codes "job " ++ decimal job ++ what

-- a page is written that was never written before, is read and written anew, is read for a find
abbrev written : ℕ → Turns
written job = (codes "writer", line_text (wants job (codes " write 0"))) ∷ made job (codes "finished")

abbrev rewritten : ℕ → Turns
rewritten job = (codes "writer", line_text (wants job (codes " read 0"))) ∷ made job (wants job (codes " write 0")) ++ made job (codes "finished")

abbrev fetched : ℕ → Turns
fetched job = (codes "filler", line_text (wants job (codes " read 0"))) ∷ made job (codes "finished")

-- two large items are on flash, in a region each, and the first page is written
abbrev two_regions : Turns
two_regions =
    (codes "set 0 a *300x 0", codes "stored\n") ∷ (codes "set 0 b *300y 0", codes "stored\n") ∷ (codes "writer", codes "finished\n") ∷
    (codes "set 0 c *300z 0", codes "stored\n") ∷ (codes "writer", codes "finished\n") ∷ (codes "writer", codes "job 1 write 1\n") ∷
    (codes "io 1", codes "ok\n") ∷ (codes "done 1", codes "finished\n") ∷ []

-- ---- traces

-- an item is evicted, written, and found on flash
abbrev back_from_flash : Turns
back_from_flash =
    (codes "set 0 a =one 0", codes "stored\n") ∷ (codes "set 0 b =two 0", codes "stored\n") ∷ [] ++ written 1 ++
    (codes "set 0 c =three 0", codes "stored\n") ∷ [] ++ rewritten 2 ++ (codes "get a", codes "waiting 4\n") ∷ [] ++ fetched 3 ++
    (codes "reply 4", codes "hit =one\n") ∷ []

back_from_flash-runs : Comes (codes "pool 1000 1\nflash 512 1 3 1 1 100 8 8 0 2000\n") back_from_flash 3 1 0 0 0 2 2
unfolding digits page_at entries_at entry_at body_at content_at whole_at bits_of
back_from_flash-runs = refl

-- an item that waits for flash is found, also while it is written
abbrev waiting_put_is_found : Turns
waiting_put_is_found =
    (codes "set 0 a =one 0", codes "stored\n") ∷ (codes "set 0 b =two 0", codes "stored\n") ∷ (codes "get a", codes "hit =one\n") ∷
    (codes "writer", codes "job 1 write 0\n") ∷ (codes "get b", codes "hit =two\n") ∷ []

waiting_put_is_found-runs : Comes (codes "pool 1000 1\nflash 512 1 3 1 1 100 8 8 0 2000\n") waiting_put_is_found 2 2 0 0 0 0 0
unfolding digits page_at entries_at entry_at body_at content_at whole_at bits_of
waiting_put_is_found-runs = refl

-- a key is set while it is fetched
abbrev set_while_fetched : Turns
set_while_fetched =
    (codes "set 0 a =one 0", codes "stored\n") ∷ (codes "set 0 b =two 0", codes "stored\n") ∷ [] ++ written 1 ++ (codes "get a", codes "waiting 3\n") ∷
    (codes "filler", codes "job 2 read 0\n") ∷ (codes "io 2", codes "ok\n") ∷ (codes "set 0 a =new 0", codes "stored\n") ∷
    (codes "reply 3", codes "hit =new\n") ∷ (codes "done 2", codes "finished\n") ∷ (codes "get a", codes "hit =new\n") ∷ [] ++ rewritten 3

set_while_fetched-runs : Comes (codes "pool 1000 1\nflash 512 1 3 1 1 100 8 8 0 2000\n") set_while_fetched 3 2 0 0 0 2 2
unfolding digits page_at entries_at entry_at body_at content_at whole_at bits_of
set_while_fetched-runs = refl

-- the same of a large item
abbrev large_set_while_fetched : Turns
large_set_while_fetched =
    two_regions ++ (codes "get a", codes "waiting 4\n") ∷ (codes "filler", codes "job 2 read 1\n") ∷ (codes "io 2", codes "ok\n") ∷
    (codes "set 0 a *300n 0", codes "stored\nlose hash 140 but a collision\n") ∷ (codes "del c", codes "absent\n") ∷
    (codes "set 0 d *300w 0", codes "stored\n") ∷ (codes "writer", codes "finished\n") ∷ (codes "done 2", codes "finished\n") ∷
    (codes "reply 4", codes "hit *300n\n") ∷ (codes "get a", codes "waiting 8\n") ∷ (codes "filler", codes "finished\n") ∷
    (codes "reply 8", codes "hit *300n\n") ∷ []

large_set_while_fetched-runs : Comes (codes "pool 2000 1\nflash 512 1 3 1 1 100 8 8 0 2000\n") large_set_while_fetched 5 2 0 1 1 1 1
unfolding digits page_at entries_at entry_at body_at content_at whole_at bits_of
large_set_while_fetched-runs = refl

-- a key is removed while it is written
abbrev removed_while_written : Turns
removed_while_written =
    (codes "set 0 a =one 0", codes "stored\n") ∷ (codes "set 0 b =two 0", codes "stored\n") ∷ (codes "writer", codes "job 1 write 0\n") ∷
    (codes "del a", codes "absent\n") ∷ (codes "io 1", codes "ok\n") ∷ (codes "done 1", codes "finished\n") ∷ (codes "get a", codes "miss\n") ∷ [] ++
    rewritten 2 ++ (codes "get a", codes "miss\n") ∷ []

removed_while_written-runs : Comes (codes "pool 1000 1\nflash 512 1 3 1 1 100 8 8 0 2000\n") removed_while_written 2 0 2 1 0 1 2
unfolding digits page_at entries_at entry_at body_at content_at whole_at bits_of
removed_while_written-runs = refl

-- the oldest item of a full bucket goes
abbrev bucket_is_full : Turns
bucket_is_full =
    (codes "set 0 a *114p 0", codes "stored\n") ∷ (codes "set 0 b *114q 0", codes "stored\n") ∷ [] ++ written 1 ++
    (codes "set 0 c *114r 0", codes "stored\n") ∷ (codes "set 0 d *114s 0", codes "stored\n") ∷ (codes "set 0 e *114t 0", codes "stored\n") ∷
    (codes "set 0 f = 0", codes "stored\n") ∷ [] ++ rewritten 2 ++ rewritten 3 ++ rewritten 4 ++ (codes "writer", codes "job 5 read 0\n") ∷
    (codes "io 5", codes "ok\n") ∷ (codes "done 5", codes "job 5 write 0\n") ∷ (codes "io 5", codes "ok\n") ∷
    (codes "done 5", codes "finished\nlose key a bucketfull\n") ∷ (codes "get a", codes "miss\n") ∷ (codes "get b", codes "waiting 8\n") ∷ [] ++
    fetched 6 ++ (codes "reply 8", codes "hit *114q\n") ∷ []

bucket_is_full-runs : Comes (codes "pool 1000 1\nflash 512 1 3 1 1 200 8 8 0 2000\n") bucket_is_full 6 1 1 0 1 5 5
unfolding digits page_at entries_at entry_at body_at content_at whole_at bits_of
bucket_is_full-runs = refl

-- and is queued anew where it is in memory
abbrev copy_pushed_out : Turns
copy_pushed_out =
    (codes "set 1 a *241p 0", codes "stored\n") ∷ (codes "set 1 c = 0", codes "stored\n") ∷ [] ++ written 1 ++
    (codes "get a", codes "waiting 3\n") ∷ [] ++ fetched 2 ++ (codes "reply 3", codes "hit *241p\n") ∷ (codes "set 0 b *241q 0", codes "stored\n") ∷
    (codes "set 0 d *241r 0", codes "stored\n") ∷ [] ++ rewritten 3 ++ (codes "writer", codes "job 4 read 0\n") ∷ (codes "io 4", codes "ok\n") ∷
    (codes "done 4", codes "job 4 write 0\n") ∷ (codes "io 4", codes "ok\n") ∷ (codes "done 4", codes "finished\nlose key a bucketfull\n") ∷
    (codes "set 1 e = 0", codes "stored\n") ∷ (codes "writer", codes "job 5 read 0\n") ∷ (codes "io 5", codes "ok\n") ∷
    (codes "done 5", codes "job 5 write 0\n") ∷ (codes "io 5", codes "ok\n") ∷ (codes "done 5", codes "finished\nlose key c bucketfull\n") ∷
    (codes "get a", codes "waiting 7\n") ∷ [] ++ fetched 6 ++ (codes "reply 7", codes "hit *241p\n") ∷ []

copy_pushed_out-runs : Comes (codes "pool 1000 1\npool 1000 1\nflash 512 1 3 1 1 400 8 8 0 2000\n") copy_pushed_out 5 2 0 0 2 5 4
unfolding digits page_at entries_at entry_at body_at content_at whole_at bits_of
copy_pushed_out-runs = refl

-- a region is reclaimed from which an item is fetched, and no region is clean
abbrev reclaimed_while_fetched : Turns
reclaimed_while_fetched =
    two_regions ++ (codes "get a", codes "waiting 4\n") ∷ (codes "filler", codes "job 2 read 1\n") ∷
    (codes "reclaim", codes "reclaimed 0\nlose hash 140 reclaimed 0\n") ∷ (codes "set 0 d *300w 0", codes "stored\n") ∷
    (codes "writer", codes "finished\n") ∷ (codes "set 0 e *300v 0", codes "stored\n") ∷ (codes "writer", codes "job 3 write 2\n") ∷
    (codes "writer", codes "finished\nlose key d nocleanregion\n") ∷ (codes "io 2", codes "ok\n") ∷ (codes "done 2", codes "finished\n") ∷
    (codes "reply 4", codes "miss\n") ∷ (codes "get c", codes "waiting 7\n") ∷ (codes "filler", codes "finished\n") ∷
    (codes "reply 7", codes "hit *300z\n") ∷ (codes "writer", codes "finished\n") ∷ []

reclaimed_while_fetched-runs : Comes (codes "pool 2000 1\nflash 512 1 3 1 2 100 8 8 0 2000\n") reclaimed_while_fetched 5 1 1 0 2 1 1
unfolding digits page_at entries_at entry_at body_at content_at whole_at bits_of
reclaimed_while_fetched-runs = refl

-- two large items of one kept hash
abbrev one_hash : Turns
one_hash =
    (codes "set 0 aa *200x 0", codes "stored\n") ∷ (codes "set 0 bH *200y 0", codes "stored\n") ∷ (codes "writer", codes "finished\n") ∷
    (codes "set 0 c *200z 0", codes "stored\n") ∷ (codes "writer", codes "finished\nlose hash 183 but bH collision\n") ∷
    (codes "get aa", codes "waiting 4\n") ∷ (codes "filler", codes "finished\n") ∷ (codes "reply 4", codes "miss\n") ∷
    (codes "del aa", codes "absent\nlose hash 183 but aa collision\n") ∷ (codes "get bH", codes "miss\n") ∷ []

one_hash-runs : Comes (codes "pool 2000 1\nflash 512 1 3 1 1 100 8 8 0 2000\n") one_hash 3 0 2 1 2 0 0
unfolding digits page_at entries_at entry_at body_at content_at whole_at bits_of
one_hash-runs = refl

-- a bucket is given up as a write of its page fails
abbrev bucket_given_up : Turns
bucket_given_up =
    (codes "set 1 a =one 0", codes "stored\n") ∷ (codes "set 1 b =two 0", codes "stored\n") ∷ [] ++ written 1 ++
    (codes "set 1 c =three 0", codes "stored\n") ∷ [] ++ rewritten 2 ++ (codes "set 1 d =four 0", codes "stored\n") ∷ [] ++ rewritten 3 ++
    (codes "get a", codes "waiting 5\n") ∷ [] ++ fetched 4 ++ (codes "reply 5", codes "hit =one\n") ∷ (codes "writer", codes "job 5 read 0\n") ∷
    (codes "io 5", codes "ok\n") ∷ (codes "done 5", codes "job 5 write 0\n") ∷ (codes "io 5 fail", codes "failed\n") ∷
    (codes "done 5", codes "finished\nlose bucket 0 fault\n") ∷ (codes "get b", codes "miss\n") ∷ (codes "get d", codes "miss\n") ∷
    (codes "get a", codes "hit =one\n") ∷ (codes "set 1 e = 0", codes "stored\n") ∷ [] ++ written 6

bucket_given_up-runs : Comes (codes "pool 1000 1\npool 1000 1\nflash 512 1 3 1 1 100 8 8 0 2000\n") bucket_given_up 5 2 2 0 1 4 5
unfolding digits page_at entries_at entry_at body_at content_at whole_at bits_of
bucket_given_up-runs = refl

-- or a read
abbrev read_fails : Turns
read_fails =
    (codes "set 0 a =one 0", codes "stored\n") ∷ (codes "set 0 b =two 0", codes "stored\n") ∷ [] ++ written 1 ++
    (codes "set 0 c =three 0", codes "stored\n") ∷ (codes "writer", codes "job 2 read 0\n") ∷ (codes "io 2 fail", codes "failed\n") ∷
    (codes "done 2", codes "finished\nlose bucket 0 fault\n") ∷ (codes "get a", codes "miss\n") ∷ (codes "get b", codes "miss\n") ∷
    (codes "get c", codes "hit =three\n") ∷ []

read_fails-runs : Comes (codes "pool 1000 1\nflash 512 1 3 1 1 100 8 8 0 2000\n") read_fails 3 1 2 0 1 1 1
unfolding digits page_at entries_at entry_at body_at content_at whole_at bits_of
read_fails-runs = refl

-- and the delete that waits is dropped
abbrev removed_before_the_fault : Turns
removed_before_the_fault =
    (codes "set 0 a =one 0", codes "stored\n") ∷ (codes "set 0 b =two 0", codes "stored\n") ∷ [] ++ written 1 ++
    (codes "set 0 c =three 0", codes "stored\n") ∷ (codes "writer", codes "job 2 read 0\n") ∷ (codes "io 2", codes "ok\n") ∷
    (codes "done 2", codes "job 2 write 0\n") ∷ (codes "del a", codes "absent\n") ∷ (codes "io 2 fail", codes "failed\n") ∷
    (codes "done 2", codes "finished\nlose bucket 0 fault\n") ∷ (codes "writer", codes "idle\n") ∷ (codes "get a", codes "miss\n") ∷
    (codes "set 0 a =x 0", codes "stored\n") ∷ (codes "get a", codes "hit =x\n") ∷ []

removed_before_the_fault-runs : Comes (codes "pool 1000 1\nflash 512 1 3 1 1 100 8 8 0 2000\n") removed_before_the_fault 4 1 1 1 1 1 2
unfolding digits page_at entries_at entry_at body_at content_at whole_at bits_of
removed_before_the_fault-runs = refl

-- an item of two pages, of which one is on flash, and a write of a page that fails
abbrev page_by_page : Turns
page_by_page =
    (codes "set 0 a *600x 0", codes "stored\n") ∷ (codes "set 0 b *600y 0", codes "stored\n") ∷ (codes "writer", codes "finished\n") ∷
    (codes "writer", codes "job 1 write 1\n") ∷ (codes "io 1", codes "ok\n") ∷ (codes "done 1", codes "finished\n") ∷
    (codes "get a", codes "waiting 3\n") ∷ (codes "filler", codes "job 2 read 1\n") ∷ (codes "io 2", codes "ok\n") ∷
    (codes "done 2", codes "finished\n") ∷ (codes "reply 3", codes "hit *600x\n") ∷ (codes "writer", codes "finished\n") ∷
    (codes "writer", codes "job 3 write 2\n") ∷ (codes "io 3", codes "ok\n") ∷ (codes "done 3", codes "finished\n") ∷
    (codes "get b", codes "waiting 4\n") ∷ (codes "filler", codes "finished\n") ∷ (codes "reply 4", codes "hit *600y\n") ∷
    (codes "writer", codes "job 4 write 3\n") ∷ (codes "io 4 fail", codes "failed\n") ∷ (codes "done 4", codes "finished\nlose hash 165 fault\n") ∷
    (codes "get b", codes "hit *600y\n") ∷ []

page_by_page-runs : Comes (codes "pool 2000 1\nflash 512 1 3 2 1 100 8 8 0 2000\n") page_by_page 2 3 0 0 1 1 3
unfolding digits page_at entries_at entry_at body_at content_at whole_at bits_of
page_by_page-runs = refl

-- items expire in memory, on flash, and while they wait
abbrev expired : Turns
expired =
    (codes "now 5", codes "now 5\n") ∷ (codes "set 0 a =one 10", codes "stored\n") ∷ (codes "now 14", codes "now 14\n") ∷
    (codes "get a", codes "hit =one\n") ∷ (codes "set 0 b =two 0", codes "stored\n") ∷ [] ++ written 1 ++ (codes "get a", codes "waiting 4\n") ∷
    (codes "filler", codes "job 2 read 0\n") ∷ (codes "io 2", codes "ok\n") ∷ (codes "now 15", codes "now 15\n") ∷ (codes "done 2", codes "finished\n") ∷
    (codes "reply 4", codes "miss\n") ∷ (codes "now 3", codes "now 15\n") ∷ (codes "get b", codes "hit =two\n") ∷
    (codes "set 0 c =x 1", codes "stored\n") ∷ (codes "now 16", codes "now 16\n") ∷ (codes "get c", codes "miss\n") ∷
    (codes "set 0 d = 0", codes "stored\nlose key c expired\n") ∷ []

expired-runs : Comes (codes "pool 1000 1\nflash 512 1 3 1 1 100 8 8 0 2000\n") expired 4 2 2 0 1 1 1
unfolding digits page_at entries_at entry_at body_at content_at whole_at bits_of
expired-runs = refl

-- what flash does not take
abbrev not_queued : Turns
not_queued =
    (codes "set 0 a = 0", codes "stored\n") ∷ (codes "set 0 b *500x 0", codes "stored\nlose key a evicted notadmitted\n") ∷
    (codes "set 0 c =c 0", codes "stored\nlose key b evicted toolarge\n") ∷ (codes "set 0 d =d 0", codes "stored\n") ∷
    (codes "set 0 e =e 0", codes "stored\nlose key d evicted queuefull\n") ∷ (codes "get e", codes "hit =e\n") ∷ []

not_queued-runs : Comes (codes "pool 1000 1\nflash 512 1 3 1 1 100 1 8 2 600\n") not_queued 5 1 0 0 3 0 0
unfolding digits page_at entries_at entry_at body_at content_at whole_at bits_of
not_queued-runs = refl

-- and what a tombstone keeps from it
abbrev buried : Turns
buried =
    (codes "set 0 a =one 0", codes "stored\n") ∷ (codes "set 0 b =two 0", codes "stored\n") ∷ [] ++ written 1 ++
    (codes "set 0 a =new 0", codes "stored\n") ∷ (codes "set 0 c =x 0", codes "stored\nlose key a evicted tombstone\n") ∷
    (codes "get a", codes "miss\n") ∷ []

buried-runs : Comes (codes "pool 1000 1\nflash 512 1 3 1 1 100 8 8 0 2000\n") buried 4 0 1 0 1 0 1
unfolding digits page_at entries_at entry_at body_at content_at whole_at bits_of
buried-runs = refl

-- an add waits for flash, and finds a value there
abbrev add_finds_a_value : Turns
add_finds_a_value =
    (codes "set 0 a =one 0", codes "stored\n") ∷ (codes "set 0 b =two 0", codes "stored\n") ∷ (codes "set 0 c =three 0", codes "stored\n") ∷ [] ++
    written 1 ++ (codes "add 0 a =new 0", codes "waiting 4\n") ∷ (codes "get a", codes "waiting 5\n") ∷ [] ++ fetched 2 ++
    (codes "reply 4", codes "exists\n") ∷ (codes "reply 5", codes "hit =one\n") ∷ (codes "del a", codes "found\n") ∷
    (codes "add 0 a =new 0", codes "stored\n") ∷ (codes "get a", codes "hit =new\n") ∷ []

add_finds_a_value-runs : Comes (codes "pool 1000 2\nflash 512 1 3 1 1 100 8 8 0 2000\n") add_finds_a_value 4 2 0 1 0 1 1
unfolding digits page_at entries_at entry_at body_at content_at whole_at bits_of
add_finds_a_value-runs = refl

-- or its key is removed meanwhile
abbrev removed_while_an_add_waits : Turns
removed_while_an_add_waits =
    (codes "set 0 a =one 0", codes "stored\n") ∷ (codes "set 0 b =two 0", codes "stored\n") ∷ (codes "set 0 c =three 0", codes "stored\n") ∷ [] ++
    written 1 ++ (codes "add 0 a =new 0", codes "waiting 4\n") ∷ (codes "get a", codes "waiting 5\n") ∷ (codes "del a", codes "absent\n") ∷
    (codes "reply 4", codes "stored\n") ∷ (codes "reply 5", codes "hit =new\n") ∷ (codes "filler", codes "idle\n") ∷
    (codes "get a", codes "hit =new\n") ∷ []

removed_while_an_add_waits-runs : Comes (codes "pool 1000 2\nflash 512 1 3 1 1 100 8 8 0 2000\n") removed_while_an_add_waits 4 2 0 1 0 0 1
unfolding digits page_at entries_at entry_at body_at content_at whole_at bits_of
removed_while_an_add_waits-runs = refl

-- without flash no call waits, and no job is out
abbrev without_flash : Turns
without_flash =
    (codes "set 1 a = 0", codes "refused 13 NoPool\n") ∷ (codes "set 0 a *65x 0", codes "refused 15 NoRoom\n") ∷
    (codes "set 0 a *31x 0", codes "stored\n") ∷ (codes "add 0 a = 0", codes "refused 17 Exists\n") ∷ (codes "get a", codes "hit *31x\n") ∷
    (codes "reply 1", codes "refused 19 UnknownCall\n") ∷ (codes "done 1", codes "refused 21 UnknownJob\n") ∷
    (codes "io 1", codes "refused 21 UnknownJob\n") ∷ (codes "writer", codes "idle\n") ∷ (codes "filler", codes "idle\n") ∷
    (codes "reclaim", codes "idle\n") ∷ []

without_flash-runs : Comes (codes "pool 97 2\nnoflash\n") without_flash 1 1 0 0 0 0 0
unfolding digits page_at entries_at entry_at body_at content_at whole_at bits_of
without_flash-runs = refl

-- ---- traces that end early

refused : output_of (codes "pool 1000 10\nflash 512 1 3 1 1 497 8 8 0 2000\nget a\n") ≡ (codes "refused 7 BadSmallMax\n", 1)
unfolding digits
refused = refl

-- a number too few
faulty_flash : output_of (codes "pool 1000 10\nflash 512 1 3 1 1 100 8 8 0\nget a\n") ≡ (codes "fault line 2\n", 1)
unfolding digits
faulty_flash = refl

-- a configuration ends once
flash_again : output_of (codes "pool 1000 10\nnoflash\nwriter\nflash 512 1 3 1 1 100 8 8 0 2000\n") ≡ (codes "idle\nfault line 4\n", 1)
unfolding digits
flash_again = refl

-- another word where `fail` may stand
faulty_io : output_of (codes "pool 1000 10\n# no flash\nnoflash\nget k\nio 1 failed\n") ≡ (codes "miss\nfault line 5\n", 1)
unfolding digits
faulty_io = refl

-- a key that is too long makes no step, and is no fault
long_key : output_of (codes "pool 1000 10\nnoflash\nget " ++ replicate 256 107 ++ codes "\nreply 1\nset 0 k *5x 00\n")
    ≡ (codes "refused 2 KeyTooLong\nrefused 19 UnknownCall\nfault line 5\n", 1)
unfolding digits
long_key = refl
