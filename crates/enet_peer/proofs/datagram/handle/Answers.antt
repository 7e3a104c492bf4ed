use Rattle.std.proofs.Common.{◌≡◌, length, rules}
use Rattle.std.proofs.lemmas.List.{nil_from_length}
use Rattle.enet_peer.proofs.Steps.{ends}
use Rattle.enet_peer.proofs.datagram.handle.Goals as goal

pub returns : goal.returns
returns c =
    let none : length c.loop-rest.rest.now ≡ 0 = search rules in
    c.loop-rest.invariant _ _ (ends _ _ _ _ (nil_from_length _ none))
