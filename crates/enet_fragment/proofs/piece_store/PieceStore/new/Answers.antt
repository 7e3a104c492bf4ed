use Rattle.std.proofs.Common.{arith}
use Rattle.enet_fragment.proofs.Views.{AreKept-new, making_of-new}
use Rattle.enet_fragment.proofs.Collecting.{contents-none, IsCollected-none, IsThrifty-none}
use Rattle.enet_fragment.proofs.piece_store.PieceStore.new.Goals as goal

pub returns-clause-stored : goal.returns-clause-stored
returns-clause-stored c =
    let zeros = contents-none c.args.total c.new-2.result c.new-2.ensures.front c.new-2.ensures.early in
    record {
      kept = AreKept-new _ _ c.args.count c.args.total c.requires (omega arith) (omega arith) c.in_ok-came.ensures.ok zeros;
      collected = IsCollected-none c.args.total c.new-2.result c.new-2.ensures.front c.new-2.ensures.early c.new-2.ensures.room c.new-2.ensures.bytes;
    }

pub returns-clause-frugal : goal.returns-clause-frugal
returns-clause-frugal c = IsThrifty-none _ _ c.new-2.result c.new-2.ensures.front c.new-2.ensures.early c.new-2.ensures.room c.new-2.ensures.bytes c.new-2.ensures.places

pub returns-clause-ok : goal.returns-clause-ok
returns-clause-ok c =
    making_of-new _ _ c.args.count c.args.total c.in_ok-came.ensures.ok (contents-none c.args.total c.new-2.result c.new-2.ensures.front c.new-2.ensures.early)
