use Rattle.std.proofs.Common.{◌≡◌, if◌then◌else◌, subst, ◌&&◌, not}
use Rattle.enet_chat.specs.Peers.{has, is_same, count, others}
use Rattle.enet_chat.proofs.PeersLemmas.{count_others}
use Rattle.enet_chat.proofs.laws.each_other_peer_once.Goals as goal

pub returns : goal.returns
returns c = subst (λ xs. count (others xs c.args.from) c.args.peer ≡ (if has xs c.args.peer && not (is_same c.args.peer c.args.from) then 1 else 0)) c.table.view_is (count_others _ c.args.from c.args.peer c.table.invariant)
