use Rattle.std.proofs.Common.{◌≡◌, ◌≤◌, ◌+◌, length, sym, ap, refl, subst, ◌∙◌}
use Rattle.std.specs.Prelude.{is_some}
use Rattle.std.proofs.lemmas.Result.{err_from_is_err_and}
use Rattle.enet_codec.specs.Message.{view}
use Rattle.enet_peer.specs.CommandEffect.{Outcome, answered, is_kept, obeyed, wants_memory}
use Rattle.enet_peer.specs.Private.Acting.{acted, by_foresight, Replies}
use Rattle.enet_peer.specs.Peering.{Peering}
use Rattle.enet_peer.proofs.Arriving.{obeyed_is, stopped_before, no_memory}
use Rattle.enet_peer.proofs.Crowding.{has_few}
use Rattle.enet_peer.proofs.Places.{has_place, kept_wanted, place_wanted, replied}
use Rattle.enet_peer.proofs.peer.Peer.command.Goals as goal

pub returns-in_err-foreseen : goal.returns-in_err-foreseen
returns-in_err-foreseen c =
    let p = c.args.self.now.peer in
    let r = err_from_is_err_and c.from_residual.result c.from_residual.ensures.1 in
    rw (r.1, r.2) (stopped_before p p c.args.now c.args.sent (view c.args.command.now) _ (sym c.in_err-foreseen.ensures.answer) refl)

pub returns-in_err-make_room : goal.returns-in_err-make_room
returns-in_err-make_room c =
    let p = c.args.self.now.peer in
    let m = view c.args.command.now in
    let r = err_from_is_err_and c.from_residual-in_err-make_room.result c.from_residual-in_err-make_room.ensures.1 in
    let f = sym c.in_ok-foreseen.ensures.answer in
    rw (r.1, r.2)
    (no_memory p c.make_room.new.self.peer c.args.now c.args.sent m c.in_ok-foreseen.foreseen.acknowledged _ f c.in_err-make_room.ensures.memory
    (place_wanted p c.args.now c.args.sent m c.in_ok-foreseen.foreseen.acknowledged f c.in_err-make_room.ensures.wanted)
    c.in_err-make_room.ensures.peer)

pub returns-in_err-on_command : goal.returns-in_err-on_command
returns-in_err-on_command c =
    let p = c.args.self.now.peer in
    let m = view c.args.command.now in
    let r = err_from_is_err_and c.from_residual-in_err-on_command.result c.from_residual-in_err-on_command.ensures.1 in
    let f = sym c.in_ok-foreseen.ensures.answer in
    let same = c.in_ok-make_room.ensures.peer in
    rw (r.1, r.2)
    (no_memory p c.on_command.new.self.peer c.args.now c.args.sent m c.in_ok-foreseen.foreseen.acknowledged _ f c.in_err-on_command.ensures.memory
    (kept_wanted p c.args.now c.args.sent m (ap (λ (q : Peering). is_kept q m) (sym same) ∙ c.in_err-on_command.ensures.kept))
    (c.in_err-on_command.ensures.refused ∙ same))

pub answer-requires : goal.answer-requires
answer-requires c =
    let p = c.args.self.now.peer in
    let m = view c.args.command.now in
    let same : c.make_room.new.self.peer ≡ p = c.in_ok-make_room.ensures.peer in
    let left : c.on_command.new.self.peer ≡ acted p c.args.now (is_some c.args.sent) m =
    c.in_ok-on_command.ensures.done ∙ ap (λ (q : Peering). acted q c.args.now c.is_some.result m) same ∙ ap (λ b. acted p c.args.now b m) c.is_some.ensures in
    record {
      head = c.head_of-head.ensures;
      few = has_few p c.on_command.new.self.peer c.args.now c.args.sent m c.in_ok-foreseen.foreseen.acknowledged (sym c.in_ok-foreseen.ensures.answer) left;
      room = has_place p c.on_command.new.self.peer c.args.now c.args.sent m c.in_ok-foreseen.foreseen.acknowledged c.make_room.new.self.acknowledgement_room c.on_command.new.self.acknowledgement_room left
          c.in_ok-make_room.ensures.room c.in_ok-on_command.ensures.acknowledgement_room
          (λ clears. subst (λ (q : Peering). length q.outbox.acknowledgements + c.make_room.new.self.acknowledgement_room ≤ length c.on_command.new.self.peer.outbox.acknowledgements + c.on_command.new.self.acknowledgement_room) same (c.in_ok-on_command.ensures.places clears));
    }

pub returns : goal.returns
returns c =
    let p = c.args.self.now.peer in
    let m = view c.args.command.now in
    let may = c.in_ok-foreseen.foreseen.acknowledged in
    let same : c.make_room.new.self.peer ≡ p = c.in_ok-make_room.ensures.peer in
    let left : c.on_command.new.self.peer ≡ acted p c.args.now (is_some c.args.sent) m =
    c.in_ok-on_command.ensures.done ∙ ap (λ (q : Peering). acted q c.args.now c.is_some.result m) same ∙ ap (λ b. acted p c.args.now b m) c.is_some.ensures in
    let is : answered c.on_command.new.self.peer m c.args.sent may ≡ obeyed p c.args.now c.args.sent m =
    ap (λ (q : Peering). answered q m c.args.sent may) left
    ∙ sym (obeyed_is p c.args.now c.args.sent m ∙ ap (by_foresight p (acted p c.args.now (is_some c.args.sent) m) m c.args.sent) (sym c.in_ok-foreseen.ensures.answer)) in
    replied c.answer.result (wants_memory p c.args.now c.args.sent m) (obeyed p c.args.now c.args.sent m) p c.answer.new.self.peer
    (subst (λ (o : Outcome). Replies c.answer.result o c.answer.new.self.peer) is c.answer.ensures)
