use Rattle.std.proofs.Common.{arith}
use Rattle.enet_codec.specs.Message.{view}
use Rattle.enet_peer.proofs.Steps.{none-at, stops-at, goes-on-at}
use Rattle.enet_peer.proofs.datagram.next_of_any.Goals as goal

pub returns-in_default : goal.returns-in_default
returns-in_default c = λ full plain. none-at _ _ _ c.requires.some c.in_default.ensures.none

pub returns-in-Err : goal.returns-in-Err
returns-in-Err c = λ full plain. stops-at _ c.in-Some.len _ (view c.in-Some.command) _ _ _ plain c.in-Some.ensures.found c.in-Err.ensures

pub returns : goal.returns
returns c =
    let len = c.in-Some.ensures.length in
    λ full plain. goes-on-at _ c.in-Some.len _ (view c.in-Some.command) _ _ plain (omega (arith, len.0)) len.1 c.in-Some.ensures.found c.in_default-command.ensures
