use Rattle.std.proofs.Common.{◌≡◌, ◌-◌, ◌<◌, ◌^◌, List, sym, ap, ◌∙◌, arith}
use Rattle.enet_receiver.specs.Foresight.{ReceivingEnd}
use Rattle.enet_inbox.specs.Inbox.{Inbox, is_at_limit, is_full, waiting_of, places_of, given_way}
use Rattle.enet_inbox.specs.Private.Invariant.{waiting_in, waiting_packets_in}
use Rattle.enet_inbox.proofs.Counting.{counts_given_way, waiting_packets_counted, packets_bounded}
use Rattle.enet_inbox.proofs.GivingWay.{keeps_given_way, waiting_counted}
use Rattle.enet_inbox.proofs.Made.{made_of, all_full, all_given_way}
use Rattle.enet_inbox.proofs.inbox.Inbox.is_full_without_waiting.Goals as goal

pub waiting_in-requires : goal.waiting_in-requires
waiting_in-requires c =
    let most = waiting_counted (made_of c.self.inside) c.self.inside.waiting c.self.invariant.inbox in
    let same : waiting_in c.deref.result.now ≡ waiting_in c.self.inside.receivers.items = ap (λ (rs : List ReceivingEnd). waiting_in rs) c.deref.ensures.value in
    let fits : c.self.inside.waiting < 2 ^ 128 = omega arith in
    omega arith

pub overflow_sub-bytes : goal.overflow_sub-bytes
overflow_sub-bytes c =
    let most = waiting_counted (made_of c.self.inside) c.self.inside.waiting c.self.invariant.inbox in
    let same : c.waiting_in.result ≡ waiting_in c.self.inside.receivers.items = c.waiting_in.ensures ∙ ap (λ (rs : List ReceivingEnd). waiting_in rs) c.deref.ensures.value in
    omega arith

pub returns : goal.returns
returns c =
    let b = made_of c.self.inside in
    let same : c.waiting_in.result ≡ waiting_in c.self.inside.receivers.items = c.waiting_in.ensures ∙ ap (λ (rs : List ReceivingEnd). waiting_in rs) c.deref.ensures.value in
    let left : c.self.inside.waiting - c.waiting_in.result ≡ waiting_of (given_way b) =
    ap (λ n. c.self.inside.waiting - n) same ∙ (keeps_given_way b c.self.inside.waiting c.self.invariant.inbox).counted in
    let fewer : c.waiting_packets_in.result ≡ waiting_packets_in c.self.inside.receivers.items = c.waiting_packets_in.ensures ∙ ap (λ (rs : List ReceivingEnd). waiting_packets_in rs) c.deref-2.ensures.value in
    let counted = (counts_given_way c.self.inside.receivers.items c.self.inside.packets c.self.invariant.places).counted in
    let taken = c.places_taken-places.ensures in
    let untaken = c.len.ensures in
    let places : c.places_taken-places.result ≡ places_of (given_way b) = omega arith in
    c.is_at_limit.ensures ∙ (λ j. is_at_limit c.self.inside.max_waiting (left j) (places j)) ∙ sym (all_full c.self.inside.channels (given_way b)) ∙ ap (λ (x : Inbox). is_full x) (sym (all_given_way c.self.inside.channels b)) ∙ ap (λ (x : Inbox). is_full (given_way x)) c.self.view_is

pub waiting_packets_in-requires : goal.waiting_packets_in-requires
waiting_packets_in-requires c =
    let most = waiting_packets_counted c.self.inside.receivers.items c.self.inside.packets c.self.invariant.places in
    let same : waiting_packets_in c.deref-2.result.now ≡ waiting_packets_in c.self.inside.receivers.items = ap (λ (rs : List ReceivingEnd). waiting_packets_in rs) c.deref-2.ensures.value in
    let fits = packets_bounded c.self.inside.receivers.items c.self.inside.packets c.self.invariant.places c.self.invariant.inbox.few in
    omega arith

pub overflow_sub-packets : goal.overflow_sub-packets
overflow_sub-packets c =
    let most = waiting_packets_counted c.self.inside.receivers.items c.self.inside.packets c.self.invariant.places in
    let same : c.waiting_packets_in.result ≡ waiting_packets_in c.self.inside.receivers.items = c.waiting_packets_in.ensures ∙ ap (λ (rs : List ReceivingEnd). waiting_packets_in rs) c.deref-2.ensures.value in
    omega arith

pub places_taken-places-requires : goal.places_taken-places-requires
places_taken-places-requires c =
    let i = c.self.inside in
    let most = packets_bounded i.receivers.items i.packets c.self.invariant.places c.self.invariant.inbox.few in
    omega (arith, i.untaken.ok.0, i.untaken.small.0, i.untaken.small.1)
