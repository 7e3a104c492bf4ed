use Rattle.std.proofs.Common.{◌≡◌, ◌<◌, List, length, set, length-set, refl, sym, ap, subst, ◌∙◌, arith}
use Rattle.enet_sender.specs.Sender.{with_skipped}
use Rattle.enet_sender.specs.Due.{SendingEnd}
use Rattle.enet_senders.proofs.Each.{set-there}
use Rattle.enet_senders.proofs.Sets.{slice_get-some}
use Rattle.enet_senders.proofs.Made.{made_there, made_set, new_there}
use Rattle.enet_senders.proofs.channels.Senders.skip.Goals as goal

pub returns-then-from-len : goal.returns-then-from-len
returns-then-from-len c = λ s there.
    let i = c.self.inside in
    let is = new_there i.count c.args.channel i.made c.args.self.now s c.self.view_is c.self.invariant c.requires (omega arith) there in
    let same : record s { sender = with_skipped s.sender } ≡ s = subst (λ (e : SendingEnd). record e { sender = with_skipped e.sender } ≡ e) is refl in
    sym (ap (set c.args.self.now c.args.channel) same ∙ set-there c.args.self.now c.args.channel s there)

pub invariant_of-self : goal.invariant_of-self
invariant_of-self c =
    let i = c.self.inside in
    let one = slice_get-some i.made c.args.channel (omega arith) in
    let done = c.skip.ensures one.0 one.1 in
    let long : length c.skip.new.self ≡ length i.made =
    ap (λ (es : List SendingEnd). length es) done ∙ length-set i.made c.args.channel (record one.0 { sender = with_skipped one.0.sender }) in
    let few = c.self.invariant in
    omega arith

pub returns : goal.returns
returns c = λ s there.
    let i = c.self.inside in
    let low : c.args.channel < length i.made = omega arith in
    made_set i.count c.args.channel i.made c.skip.new.self c.args.self.now (record s { sender = with_skipped s.sender }) c.self.view_is low
    (c.skip.ensures s (made_there i.count c.args.channel i.made c.args.self.now s c.self.view_is low there))
