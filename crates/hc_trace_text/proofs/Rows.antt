-- Lines of losses that no trace can bring about while there is no flash, written out.
use Rattle.std.proofs.Common.{◌≡◌, Some, None, refl}
use Rattle.std.specs.Prelude.{codes}
use Rattle.std.specs.Fmt.{digits}
use Rattle.hc_types.specs.Loss.{Key, Bucket, Hash, Evicted, Reclaimed, Collision, Fault}
use Rattle.hc_types.specs.declared.loss.Why.TheVariants.{QueueFull}
use Rattle.hc_trace_text.specs.Texts.{lose_text}

key-queuefull : lose_text (Key (codes "aa")) (Evicted 0 34 QueueFull) ≡ codes "lose key aa evicted queuefull"
key-queuefull = refl

bucket-reclaimed : lose_text (Bucket 7) (Reclaimed 30) ≡ codes "lose bucket 7 reclaimed 30"
unfolding digits
bucket-reclaimed = refl

hash-collision : lose_text (Hash 183 (Some (codes "bH"))) (Collision (codes "aa")) ≡ codes "lose hash 183 but bH collision"
unfolding digits
hash-collision = refl

hash-fault : lose_text (Hash 183 None) Fault ≡ codes "lose hash 183 fault"
unfolding digits
hash-fault = refl
