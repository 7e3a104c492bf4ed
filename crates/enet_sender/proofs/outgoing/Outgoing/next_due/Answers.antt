use Rattle.std.proofs.Common.{ℕ, length, take, Option, sym, subst}
use Rattle.std.specs.List.{slice_get}
use Rattle.slab.specs.Slab.{get}
use Rattle.enet_seq.specs.Numbering.{wire}
use Rattle.enet_sender.specs.Sender.{due_lacks, head_lacks, next_of, next_resent, next_queued, wants_room_at}
use Rattle.enet_sender.specs.Due.{Did}
use Rattle.enet_sender.specs.declared.outgoing.Outgoing.{Outgoing}
use Rattle.enet_sender.specs.Pending.{named}
use Rattle.enet_sender.specs.Rings.{rings_of, sender_of, end_of}
use Rattle.enet_sender.proofs.Changing.{first_due-found, none_due-found}
use Rattle.enet_sender.proofs.outgoing.Outgoing.next_due.Goals as goal

pub returns-in-Some-clause-did : goal.returns-in-Some-clause-did
returns-in-Some-clause-did c =
    let s = c.args.pending.now.slab in
    let at = get s in
    let place = c.in-Some.place in
    let new = end_of c.resend.new.pending.slab c.resend.new.self in
    let found = first_due-found at c.args.self.now.sent.items place c.in-Some.ensures.some in
    let P : Outgoing → Type 0 = λ o. Did (next_resent c.args.occasion (sender_of at (rings_of o)) (length (named at (take place o.sent.items))) (slice_get (named at o.sent.items) (length (named at (take place o.sent.items)))))
    (due_lacks c.args.occasion (slice_get (named at o.sent.items) (length (named at (take place o.sent.items))))) c.resend.result (end_of s o) new (record { old = c.args.buf.now; at = c.args.at; new = c.resend.new.buf }) in
    let did = subst P c.in-Some.ensures.rings c.resend.ensures.did in
    let Q : Option ℕ → Type 0 = λ i. Did (next_of wire c.args.occasion (sender_of at (rings_of c.args.self.now)) i) (wants_room_at c.args.occasion (sender_of at (rings_of c.args.self.now)) i) c.resend.result (end_of s c.args.self.now) new (record { old = c.args.buf.now; at = c.args.at; new = c.resend.new.buf }) in
    subst Q (sym found.2) did

pub returns-in-None-clause-did : goal.returns-in-None-clause-did
returns-in-None-clause-did c =
    let s = c.args.pending.now.slab in
    let at = get s in
    let new = end_of c.send_first.new.pending.slab c.send_first.new.self in
    let found = none_due-found at c.args.self.now.sent.items c.in-None.ensures.none in
    let P : Outgoing → Type 0 = λ o. Did (next_queued wire c.args.occasion (sender_of at (rings_of o)) (sender_of at (rings_of o)).queued)
    (head_lacks c.args.occasion (sender_of at (rings_of o)).sent (sender_of at (rings_of o)).queued) c.send_first.result (end_of s o) new (record { old = c.args.buf.now; at = c.args.at; new = c.send_first.new.buf }) in
    let did = subst P c.in-None.ensures.rings c.send_first.ensures.did in
    let Q : Option ℕ → Type 0 = λ i. Did (next_of wire c.args.occasion (sender_of at (rings_of c.args.self.now)) i) (wants_room_at c.args.occasion (sender_of at (rings_of c.args.self.now)) i) c.send_first.result (end_of s c.args.self.now) new (record { old = c.args.buf.now; at = c.args.at; new = c.send_first.new.buf }) in
    subst Q (sym found) did
