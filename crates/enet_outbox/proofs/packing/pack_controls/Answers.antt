use Rattle.std.proofs.Common.{◌<◌, ℕ, ◌∙◌, ap, sym, subst, arith}
use Rattle.enet_senders.specs.Controlling.{Commands, Did, next}
use Rattle.enet_senders.specs.declared.outgoing.Written.TheVariants as written
use Rattle.enet_outbox.specs.Emission.{control_turns, with_one_control}
use Rattle.enet_outbox.specs.Private.Packing.{place_in}
use Rattle.enet_outbox.proofs.Fillings.{leads-by}
use Rattle.enet_outbox.proofs.Repeats.{repeated-closed}
use Rattle.enet_outbox.proofs.Controls.{did-sent, control-begin, control-room, control-put, control-full, control-none}
use Rattle.enet_outbox.proofs.Turns.{control_left, control-falls}
use Rattle.enet_outbox.proofs.packing.pack_controls.Goals as goal

pub returns-then-from-clause-packs : goal.returns-then-from-clause-packs
returns-then-from-clause-packs c = λ f h e.
    leads-by (repeated-closed (control_turns f.outbox) (with_one_control c.args.pace) f (h.is_closed ∙ c.if-from.true)) h (ap (λ (c : Commands). record f.outbox { control = c }) e)

pub commands-init : goal.commands-init
commands-init c = record { stage = λ f h e. control-begin h (h.is_closed ∙ c.if-from.false) e; room = omega arith }

pub commands-smaller : goal.commands-smaller
commands-smaller c =
    let s = did-sent (next c.args.pace.now c.args.pace.timeout c.commands.control.commands) c.in-Sent.past c.commands.control.commands c.next_due.new.self.commands c.commands.buf c.place-place.result c.next_due.new.buf c.in-Sent.ensures.written in
    let P : Commands → Type 0 = λ new. control_left new < control_left c.commands.control.commands in
    subst P (sym s.3) (control-falls c.args.pace.now c.args.pace.timeout c.commands.control.commands s.0 s.1)

pub commands-preserved : goal.commands-preserved
commands-preserved c =
    let P : ℕ → Type 0 = λ at. Did (next c.args.pace.now c.args.pace.timeout c.commands.control.commands) (written.Sent c.in-Sent.past) c.commands.control.commands c.next_due.new.self.commands (record { old = c.commands.buf; at = at; new = c.next_due.new.buf }) in
    let d : P (place_in c.commands.progress c.commands.buf) = subst P c.place-place.ensures c.in-Sent.ensures.written in
    record {
      stage = λ f h e. rw c.with-progress.ensures (control-put (c.commands.invariant.stage f h e) d);
      room = omega arith;
    }

pub with-progress-requires-clause-within : goal.with-progress-requires-clause-within
with-progress-requires-clause-within c =
    let P : ℕ → Type 0 = λ at. Did (next c.args.pace.now c.args.pace.timeout c.commands.control.commands) (written.Sent c.in-Sent.past) c.commands.control.commands c.next_due.new.self.commands (record { old = c.commands.buf; at = at; new = c.next_due.new.buf }) in
    let d : P (place_in c.commands.progress c.commands.buf) = subst P c.place-place.ensures c.in-Sent.ensures.written in
    (control-room c.commands.progress c.commands.control.commands c.next_due.new.self.commands c.commands.buf c.next_due.new.buf c.in-Sent.past (next c.args.pace.now c.args.pace.timeout c.commands.control.commands) d).1

pub returns-in-NoRoom-clause-packs : goal.returns-in-NoRoom-clause-packs
returns-in-NoRoom-clause-packs c = λ f h e.
    let P : ℕ → Type 0 = λ at. Did (next c.args.pace.now c.args.pace.timeout c.commands.control.commands) written.NoRoom c.commands.control.commands c.next_due.new.self.commands (record { old = c.commands.buf; at = at; new = c.next_due.new.buf }) in
    let d : P (place_in c.commands.progress c.commands.buf) = subst P c.place-place.ensures c.in-NoRoom.ensures.written in
    rw c.shut.ensures (control-full (c.commands.invariant.stage f h e) d)

pub returns-in-Nothing-clause-packs : goal.returns-in-Nothing-clause-packs
returns-in-Nothing-clause-packs c = λ f h e.
    let P : ℕ → Type 0 = λ at. Did (next c.args.pace.now c.args.pace.timeout c.commands.control.commands) written.Nothing c.commands.control.commands c.next_due.new.self.commands (record { old = c.commands.buf; at = at; new = c.next_due.new.buf }) in
    let d : P (place_in c.commands.progress c.commands.buf) = subst P c.place-place.ensures c.in-Nothing.ensures.written in
    control-none (c.commands.invariant.stage f h e) d
