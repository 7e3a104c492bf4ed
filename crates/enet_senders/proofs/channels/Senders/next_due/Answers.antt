use Rattle.std.proofs.Common.{◌≡◌, ◌<◌, List, length, length-set, refl, sym, ap, subst, ◌∙◌, arith}
use Rattle.enet_seq.specs.Numbering.{wire}
use Rattle.enet_sender.specs.Sender.{next, wants_room}
use Rattle.enet_sender.specs.Due.{SendingEnd, Did}
use Rattle.enet_sender.specs.declared.outgoing.Due.TheVariants as due
use Rattle.enet_senders.proofs.Each.{set-there}
use Rattle.enet_senders.proofs.Sets.{slice_get-some}
use Rattle.enet_senders.proofs.Made.{made_there, made_set, new_there}
use Rattle.enet_senders.proofs.channels.Senders.next_due.Goals as goal

pub returns-then-from-len : goal.returns-then-from-len
returns-then-from-len c = λ s there.
    let i = c.self.inside in
    let is = new_there i.count c.args.channel i.made c.args.self.now s c.self.view_is c.self.invariant c.requires (omega arith) there in
    let none : Did (next wire c.args.occasion s.sender) (wants_room c.args.occasion s.sender) due.Nothing s s (record { old = c.args.buf.now; at = c.args.at; new = c.args.buf.now }) =
    subst (λ (e : SendingEnd). Did (next wire c.args.occasion e.sender) (wants_room c.args.occasion e.sender) due.Nothing e e (record { old = c.args.buf.now; at = c.args.at; new = c.args.buf.now })) is (refl, refl, refl) in
    (s, (sym (set-there c.args.self.now c.args.channel s there), none))

pub invariant_of-self : goal.invariant_of-self
invariant_of-self c =
    let i = c.self.inside in
    let one = slice_get-some i.made c.args.channel (omega arith) in
    let done = c.next_due.ensures one.0 one.1 in
    let long : length c.next_due.new.self ≡ length i.made = ap (λ (es : List SendingEnd). length es) done.1.0 ∙ length-set i.made c.args.channel done.0 in
    let few = c.self.invariant in
    omega arith

pub returns : goal.returns
returns c = λ s there.
    let i = c.self.inside in
    let low : c.args.channel < length i.made = omega arith in
    let done = c.next_due.ensures s (made_there i.count c.args.channel i.made c.args.self.now s c.self.view_is low there) in
    (done.0, (made_set i.count c.args.channel i.made c.next_due.new.self c.args.self.now done.0 c.self.view_is low done.1.0, done.1.1))
