use Rattle.std.proofs.Common.{refl}
use Rattle.market.specs.Kinds.{orders, blocks}
use Rattle.cuts.specs.Kinds.{order_stands, block_stands}
use Rattle.cuts.specs.Ranks.{order_keys, block_keys}
use Rattle.cuts.proofs.Ranking.{ranks_by, nobody}
use Rattle.cuts.proofs.laws.laws_stand.Goals as goal

pub returns : goal.returns
returns c =
    record { orders_rank = ranks_by order_keys; blocks_rank = ranks_by block_keys; no_order = nobody orders order_stands; no_block = nobody blocks block_stands; worked = (refl, refl) }
