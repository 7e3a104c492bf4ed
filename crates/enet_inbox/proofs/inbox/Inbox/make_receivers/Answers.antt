use Rattle.std.proofs.Common.{◌≡◌, ◌<◌, List, length, sym, ap, subst, ◌∙◌, arith}
use Rattle.std.proofs.lemmas.Bool.Decides.{nat_tests}
use Rattle.enet_receiver.specs.Foresight.{ReceivingEnd}
use Rattle.enet_inbox.specs.Inbox.{Inbox}
use Rattle.enet_inbox.specs.Invariant.{Keeps}
use Rattle.enet_inbox.specs.InboxParts.{inbox_of}
use Rattle.enet_inbox.proofs.Made.{made_of, all_length, all_made, made_more, keeps_all}
use Rattle.enet_inbox.proofs.inbox.Inbox.make_receivers.Goals as goal

pub make_up_to-requires-clause-there : goal.make_up_to-requires-clause-there
make_up_to-requires-clause-there c =
    let i = c.self.inside in
    let long : length c.args.self.now.receivers ≡ i.channels = ap (λ (x : Inbox). length x.receivers) (sym c.self.view_is) ∙ all_length i.max_packet i.channels i.receivers.items c.self.invariant.within in
    let low : c.args.channel < length c.args.self.now.receivers = grind (arith, nat_tests) in
    omega arith

pub invariant_of-self : goal.invariant_of-self
invariant_of-self c =
    let i = c.self.inside in
    let rs = c.make_up_to.new.receivers.items in
    let is = c.make_up_to.ensures.made in
    subst (λ (xs : List ReceivingEnd). Keeps (inbox_of i.max_packet i.max_waiting xs i.groups i.untaken.items) i.channels i.waiting i.packets) (sym is)
    (keeps_all (length rs) i.channels (made_of i) i.waiting i.packets (omega arith) (made_more i.max_packet i.receivers.items rs is) c.make_up_to.ensures.within (omega arith) c.self.invariant)

pub returns : goal.returns
returns c =
    let i = c.self.inside in
    ap (λ (xs : List ReceivingEnd). inbox_of i.max_packet i.max_waiting xs i.groups i.untaken.items)
    (all_made i.max_packet i.channels i.receivers.items c.make_up_to.new.receivers.items c.make_up_to.ensures.made c.make_up_to.ensures.within)
    ∙ c.self.view_is
