use Rattle.std.proofs.Common.{◌<◌, subst, sym, arith}
use Rattle.std.specs.Prelude.{reverse}
use Rattle.tf_decide.proofs.Sound.{index_sound}
use Rattle.tf_decide.proofs.documents.shard_of.Goals as goal

pub route-requires : goal.route-requires
route-requires c =
    let sound = index_sound (reverse c.args.core.now.history) c.args.index c.args.source.now c.is_taken.ensures c.requires.source in
    subst (λ shards. 0 < shards) (sym c.shards.ensures) (let some = sound.shards.0 in omega (arith, some))
