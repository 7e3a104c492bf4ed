use Rattle.std.proofs.Common.{◌≡◌, ◌≤◌, ◌+◌, length, sym, ap, subst, ◌∙◌, arith}
use Rattle.enet_inbox.specs.Bounds.{most_places}
use Rattle.enet_inbox.specs.Inbox.{Inbox, place_limit, places_of}
use Rattle.enet_inbox.specs.Invariant.{packets_in}
use Rattle.enet_inbox.proofs.Counting.{packets_bounded}
use Rattle.enet_inbox.proofs.Made.{made_of, all_places, few_of_all}
use Rattle.enet_inbox.proofs.inbox.Inbox.places.Goals as goal

pub places_taken-requires : goal.places_taken-requires
places_taken-requires c =
    let i = c.self.inside in
    let most = packets_bounded i.receivers.items i.packets c.self.invariant.places c.self.invariant.inbox.few in
    omega (arith, i.untaken.ok.0, i.untaken.small.0, i.untaken.small.1)

pub returns-clause-value : goal.returns-clause-value
returns-clause-value c =
    let i = c.self.inside in
    let counted = c.self.invariant.places.counted in
    let untaken = c.len.ensures in
    let all = c.places_taken.ensures in
    let here : c.places_taken.result ≡ places_of (made_of i) = omega arith in
    here ∙ sym (all_places i.channels (made_of i)) ∙ ap (λ (x : Inbox). places_of x) c.self.view_is

pub returns-clause-bound : goal.returns-clause-bound
returns-clause-bound c =
    let i = c.self.inside in
    let most = c.self.invariant.bounded.packets.places in
    let all = all_places i.channels (made_of i) in
    subst (λ (x : Inbox). places_of x ≤ most_places x.max_waiting) c.self.view_is (omega arith)

pub returns-clause-held : goal.returns-clause-held
returns-clause-held c =
    let i = c.self.inside in
    subst (λ (x : Inbox). packets_in x.receivers ≤ place_limit x.max_waiting + length x.receivers) c.self.view_is (few_of_all i.channels (made_of i) i.waiting i.packets c.self.invariant)
