use Rattle.std.proofs.Common.{◌≡◌, ◌<◌, List, length, length-set, Option, None, refl, sym, ap, subst, ◌∙◌, arith}
use Rattle.enet_sender.specs.declared.outgoing.Acknowledged.{Acknowledged}
use Rattle.enet_sender.specs.Sender.{acknowledged, after_match}
use Rattle.enet_sender.specs.Due.{SendingEnd}
use Rattle.enet_senders.proofs.Each.{set-there}
use Rattle.enet_senders.proofs.Sets.{slice_get-some}
use Rattle.enet_senders.proofs.Made.{made_there, made_set, new_there}
use Rattle.enet_senders.proofs.channels.Senders.acknowledge.Goals as goal

pub returns-then-from-len-clause-told : goal.returns-then-from-len-clause-told
returns-then-from-len-clause-told c = λ s there.
    let i = c.self.inside in
    let is = new_there i.count c.args.channel i.made c.args.self.now s c.self.view_is c.self.invariant c.requires (omega arith) there in
    subst (λ (e : SendingEnd). ◌≡◌ {A = Option Acknowledged} None (acknowledged e.sender c.args.number c.args.time)) is refl

pub returns-then-from-len-clause-ends : goal.returns-then-from-len-clause-ends
returns-then-from-len-clause-ends c = λ s there. sym (set-there c.args.self.now c.args.channel s there)

pub invariant_of-self : goal.invariant_of-self
invariant_of-self c =
    let i = c.self.inside in
    let one = slice_get-some i.made c.args.channel (omega arith) in
    let done = c.acknowledge.ensures.ends one.0 one.1 in
    let long : length c.acknowledge.new.self ≡ length i.made =
    ap (λ (es : List SendingEnd). length es) done ∙ length-set i.made c.args.channel (record one.0 { sender = after_match one.0.sender c.args.number c.acknowledge.result }) in
    let few = c.self.invariant in
    omega arith

pub returns-clause-told : goal.returns-clause-told
returns-clause-told c = λ s there.
    let i = c.self.inside in
    let low : c.args.channel < length i.made = omega arith in
    c.acknowledge.ensures.told s (made_there i.count c.args.channel i.made c.args.self.now s c.self.view_is low there)

pub returns-clause-ends : goal.returns-clause-ends
returns-clause-ends c = λ s there.
    let i = c.self.inside in
    let low : c.args.channel < length i.made = omega arith in
    made_set i.count c.args.channel i.made c.acknowledge.new.self c.args.self.now (record s { sender = after_match s.sender c.args.number c.acknowledge.result }) c.self.view_is low
    (c.acknowledge.ensures.ends s (made_there i.count c.args.channel i.made c.args.self.now s c.self.view_is low there))
