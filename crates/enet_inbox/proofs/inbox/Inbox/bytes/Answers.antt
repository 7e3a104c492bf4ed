use Rattle.std.proofs.Common.{◌≤◌, ◌+◌, ◌*◌, length, sym, ap, subst, ◌∙◌, arith}
use Rattle.enet_inbox.specs.Bounds.{most_bytes}
use Rattle.enet_inbox.specs.Inbox.{Inbox, untaken_of, waiting_of}
use Rattle.enet_inbox.proofs.Made.{made_of, all_waiting, light_of_all}
use Rattle.enet_inbox.proofs.inbox.Inbox.bytes.Goals as goal

pub returns-clause-value : goal.returns-clause-value
returns-clause-value c =
    let i = c.self.inside in
    c.self.invariant.inbox.counted ∙ sym (all_waiting i.channels (made_of i)) ∙ ap (λ (x : Inbox). waiting_of x) c.self.view_is

pub returns-clause-bound : goal.returns-clause-bound
returns-clause-bound c =
    let i = c.self.inside in
    let most = c.self.invariant.bounded.bytes.bytes in
    let all = all_waiting i.channels (made_of i) in
    subst (λ (x : Inbox). waiting_of x ≤ most_bytes x.max_packet x.max_waiting) c.self.view_is (omega arith)

pub returns-clause-held : goal.returns-clause-held
returns-clause-held c =
    let i = c.self.inside in
    subst (λ (x : Inbox). waiting_of x ≤ x.max_waiting + (length x.receivers + 1) * x.max_packet + untaken_of x) c.self.view_is (light_of_all i.channels (made_of i) i.waiting i.packets c.self.invariant)
