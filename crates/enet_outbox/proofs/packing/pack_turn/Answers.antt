use Rattle.std.proofs.Common.{Option, refl, sym, subst}
use Rattle.enet_sender.specs.declared.outgoing.Due.TheVariants as due
use Rattle.enet_sender.specs.Sender.{Next, wants_room}
use Rattle.enet_sender.specs.Due.{Did}
use Rattle.enet_senders.proofs.Each.{set-there}
use Rattle.enet_outbox.specs.Private.Packing.{place_in}
use Rattle.enet_outbox.proofs.ChannelTurns.{called, turn-begin, turn-none}
use Rattle.enet_outbox.proofs.packing.pack_turn.Goals as goal

pub returns-then-has_to_wait : goal.returns-then-has_to_wait
returns-then-has_to_wait c = λ s there.
    let senders = c.args.senders.now in
    let flow = c.args.flow.now in
    let buf = c.args.buf.now in
    let at = place_in c.args.progress.now buf in
    turn-none (turn-begin s there)
    (called c.args.pace c.args.channel flow c.args.progress.now senders senders buf buf due.Nothing c.occasion_of-occasion.result at c.occasion_of-occasion.ensures refl
    (λ e here.
    let waits = c.has_to_wait.ensures e here c.if-has_to_wait.true in
    let P : Option Next → Type 0 = λ n. Did n (wants_room c.occasion_of-occasion.result e.sender) due.Nothing e e (record { old = buf; at = at; new = buf }) in
    (e, (sym (set-there senders c.args.channel e here), subst P (sym waits.0) (waits.1, refl, refl)))))
