use Rattle.std.proofs.Common.{◌≤◌, ◌+◌, length, sym, ap, subst, ◌∙◌}
use Rattle.enet_inbox.specs.Inbox.{Inbox, place_limit}
use Rattle.enet_inbox.specs.Invariant.{packets_in}
use Rattle.enet_inbox.proofs.Made.{made_of, all_packets, few_of_all}
use Rattle.enet_inbox.proofs.inbox.Inbox.undispatched.Goals as goal

pub returns-clause-value : goal.returns-clause-value
returns-clause-value c =
    let i = c.self.inside in
    c.self.invariant.places.counted ∙ sym (all_packets i.channels (made_of i)) ∙ ap (λ (x : Inbox). packets_in x.receivers) c.self.view_is

pub returns-clause-bound : goal.returns-clause-bound
returns-clause-bound c =
    let i = c.self.inside in
    subst (λ (x : Inbox). packets_in x.receivers ≤ place_limit x.max_waiting + length x.receivers) c.self.view_is (few_of_all i.channels (made_of i) i.waiting i.packets c.self.invariant)
