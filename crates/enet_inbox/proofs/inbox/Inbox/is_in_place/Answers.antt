use Rattle.std.proofs.Common.{◌≡◌, List, length, sym, ap, ◌∙◌, arith}
use Rattle.enet_receiver.specs.Foresight.{ReceivingEnd}
use Rattle.enet_inbox.specs.Inbox.{Inbox}
use Rattle.enet_inbox.proofs.Made.{all_length}
use Rattle.enet_inbox.proofs.inbox.Inbox.is_in_place.Goals as goal

pub returns-in-Some : goal.returns-in-Some
returns-in-Some c = λ _.
    let i = c.self.inside in
    let long : length c.args.self.now.receivers ≡ i.channels = ap (λ (x : Inbox). length x.receivers) (sym c.self.view_is) ∙ all_length i.max_packet i.channels i.receivers.items c.self.invariant.within in
    let same : length c.deref.result.now ≡ length i.receivers.items = ap (λ (rs : List ReceivingEnd). length rs) c.deref.ensures.value in
    let within = c.self.invariant.within in
    let low = c.in-Some.ensures.lookup.3.0 in
    omega arith
