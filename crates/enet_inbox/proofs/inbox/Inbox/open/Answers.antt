use Rattle.std.proofs.Common.{◌≡◌, ◌<◌, ◌^◌, List, length, sym, ap, subst, ◌∙◌, arith}
use Rattle.enet_receiver.specs.Foresight.{ReceivingEnd}
use Rattle.enet_inbox.specs.Inbox.{Inbox, empty_inbox}
use Rattle.enet_inbox.specs.Bounds.{IsBounded}
use Rattle.enet_inbox.specs.Invariant.{KeepsInbox, KeepsPackets}
use Rattle.enet_inbox.specs.InboxParts.{inbox_of}
use Rattle.enet_inbox.specs.Made.{with_all}
use Rattle.enet_inbox.proofs.Keeping.{keeps_new}
use Rattle.enet_inbox.proofs.Counting.{counts_new}
use Rattle.enet_inbox.proofs.Limits.{bounded_new}
use Rattle.enet_inbox.proofs.Made.{all_empty}
use Rattle.enet_inbox.proofs.inbox.Inbox.open.Goals as goal

pub invariant_of-result : goal.invariant_of-result
invariant_of-result c =
    let small : c.args.max_packet < 2 ^ 32 = omega arith in
    let now : inbox_of c.args.max_packet c.args.max_waiting c.new.result.items c.new-2.result c.new-3.result.items ≡ empty_inbox 0 c.args.max_packet c.args.max_waiting =
    λ j. inbox_of c.args.max_packet c.args.max_waiting (c.new.ensures.items j) (c.new-2.ensures j) (c.new-3.ensures.items j) in
    record {
      inbox = subst (λ (x : Inbox). KeepsInbox x 0) (sym now) (keeps_new 0 c.args.max_packet c.args.max_waiting (omega arith) small);
      places = subst (λ (rs : List ReceivingEnd). KeepsPackets rs 0) (sym c.new.ensures.items) (counts_new 0 c.args.max_packet);
      bounded = subst (λ (x : Inbox). IsBounded x) (sym now) (bounded_new 0 c.args.max_packet c.args.max_waiting);
      within = (let none = ap (λ (rs : List ReceivingEnd). length rs) c.new.ensures.items in omega arith);
    }

pub returns-clause-ok : goal.returns-clause-ok
returns-clause-ok c =
    (λ j. with_all c.args.channels (inbox_of c.args.max_packet c.args.max_waiting (c.new.ensures.items j) (c.new-2.ensures j) (c.new-3.ensures.items j)))
    ∙ all_empty c.args.channels c.args.max_packet c.args.max_waiting
