use Rattle.std.specs.Option.{option_copied}
use Rattle.enet_slot.specs.Slotted.{peer_shown}
use Rattle.enet_host.proofs.Slots.{peer-named}
use Rattle.enet_host.proofs.calls.peer_of.Goals as goal

pub returns : goal.returns
returns c =
    peer-named c.args.slots.now c.args.name c.in_ok-place.place c.index-slots-place.result (peer_shown (option_copied c.peer.result)) c.in_ok-place.ensures.place.0 c.in_ok-place.ensures.place.1
    c.index-slots-place.is c.in_ok-place.ensures.found c.peer.ensures
