use Rattle.std.proofs.Common.{◌≡◌, sym, ap, ◌∙◌}
use Rattle.enet_inbox.specs.Inbox.{Inbox, waiting_of, places_of, is_at_limit, is_full}
use Rattle.enet_inbox.specs.Made.{with_all}
use Rattle.enet_inbox.proofs.Made.{made_of, all_waiting}
use Rattle.enet_inbox.proofs.inbox.Inbox.is_full.Goals as goal

pub returns : goal.returns
returns c =
    let i = c.self.inside in
    let b = with_all i.channels (made_of i) in
    let waiting : i.waiting ≡ waiting_of b = c.self.invariant.inbox.counted ∙ sym (all_waiting i.channels (made_of i)) in
    let places : c.places.result ≡ places_of b = c.places.ensures.value ∙ ap (λ (x : Inbox). places_of x) (sym c.self.view_is) in
    c.is_at_limit.ensures ∙ (λ j. is_at_limit i.max_waiting (waiting j) (places j)) ∙ ap (λ (x : Inbox). is_full x) c.self.view_is
