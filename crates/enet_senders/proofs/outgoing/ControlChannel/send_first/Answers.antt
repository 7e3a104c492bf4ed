use Rattle.std.proofs.Common.{◌≡◌, ◌∷◌, drop, Option, Some, sym, ap, subst, ◌∙◌, arith}
use Rattle.enet_senders.specs.declared.outgoing.Written.TheVariants as written
use Rattle.enet_senders.specs.Controlling.{Commands, Controlling, Did, Next, next_queued}
use Rattle.enet_senders.specs.contracts.outgoing.ControlChannel.{the_view}
use Rattle.enet_senders.proofs.Nexts.{by_head, head_gone, next_queued-goes}
use Rattle.enet_senders.proofs.outgoing.ControlChannel.send_first.Goals as goal

pub returns-clause-written : goal.returns-clause-written
returns-clause-written c =
    let now = c.args.now in
    let timeout = c.args.timeout in
    let seen : Controlling = the_view c.self.inside in
    let s : Commands = seen.commands in
    let n = c.in-Some.head.now in
    let is : s.queued ≡ n ∷ drop 1 s.queued = by_head s.queued n (grind arith) c.in-Some.ensures.lookup in
    let gone : Next = head_gone now timeout s n in
    let goes : next_queued now timeout s s.queued ≡ Some gone = next_queued-goes now timeout s n is (sym c.is_in_span.ensures ∙ c.if-not-is_in_span.false) in
    let old : Commands = c.args.self.now.commands in
    let due : next_queued now timeout old old.queued ≡ Some gone =
    ap (λ (v : Controlling). next_queued now timeout v.commands v.commands.queued) (sym c.self.view_is) ∙ goes in
    let new : Commands = record { number = s.number; queued = c.send_head.new.queued.items; sent = c.send_head.new.sent.items } in
    let sent = c.send_head.ensures.sent n (drop 1 s.queued) is in
    let is_new : new ≡ gone.commands = λ i. record { number = s.number; queued = c.send_head.ensures.queued i; sent = sent i } in
    subst
    (λ (next : Option Next). Did next (written.Sent c.in-Some-put.past) old new (record { old = c.args.buf.now; at = c.args.at; new = c.put.new.buf }))
    (sym due)
    (c.in-Some-put.ensures.some, is_new, c.in-Some-put.ensures.message)
