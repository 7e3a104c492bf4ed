use Rattle.std.proofs.Common.{◌≡◌, ap, subst, ◌∙◌}
use Rattle.enet_outbox.specs.declared.parts.Pace.{Pace}
use Rattle.enet_outbox.specs.declared.parts.Destination.{Destination}
use Rattle.enet_outbox.specs.Outbox.{Outbox}
use Rattle.enet_outbox.specs.Emission.{filled, Emits}
use Rattle.enet_peer.specs.Peered.{Peered}
use Rattle.enet_peer.specs.Calls.{pace_of, gone_on}
use Rattle.enet_peer.proofs.peer.Peer.emit.Goals as goal

pub returns : goal.returns
returns c =
    let now = c.args.now in
    let old = c.args.self.now in
    let left : Outbox = c.emit-len.new.self.outbox in
    let len = c.emit-len.result in
    let buf = c.emit-len.new.buf in
    let from_view = subst (λ (v : Peered). Emits c.pace-pace.result c.destination-to.result v.peer.outbox len buf) c.self.view_is c.emit-len.ensures.emits in
    let at_pace = subst (λ (pace : Pace). Emits pace c.destination-to.result old.peer.outbox len buf) c.pace-pace.ensures.pace from_view in
    let emits = subst (λ (to : Destination). Emits (pace_of old.peer now) to old.peer.outbox len buf) c.destination-to.ensures at_pace in
    let after = subst (λ (v : Peered). c.go_on.new.self.peer ≡ gone_on (record v.peer { outbox = left })) c.self.view_is c.go_on.ensures in
    let left_from_view = subst (λ (v : Peered). left ≡ (filled c.pace-pace.result v.peer.outbox).outbox) c.self.view_is c.emit-len.ensures.left in
    let left_so = subst (λ (pace : Pace). left ≡ (filled pace old.peer.outbox).outbox) c.pace-pace.ensures.pace left_from_view in
    record { emits = emits; after = after ∙ ap (λ (o : Outbox). gone_on (record old.peer { outbox = o })) left_so }
