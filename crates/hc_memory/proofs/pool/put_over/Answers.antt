use Rattle.std.proofs.Common.{◌∙◌, ap}
use Rattle.std.specs.Str.{bytes_eq}
use Rattle.lru.specs.LruCache.{lru_cache, put_entries}
use Rattle.hc_memory.proofs.Putting.{put-over}
use Rattle.hc_memory.proofs.pool.put_over.Goals as goal

pub returns-in-Some-clause-entries : goal.returns-in-Some-clause-entries
returns-in-Some-clause-entries g c =
    let cache = c.args.cache.now in
    let set = put-over c.args.key.now cache.entries cache.cap c.replace.new.dest c.in-Some.place.now c.in-Some.ensures.value in
    ap (λ es. lru_cache es cache.cap) (set ∙ ap (λ v. put_entries bytes_eq cache c.args.key.now v) c.replace.ensures.after)
