use Rattle.std.proofs.Common.{◌≡◌, ◌==◌, ◌&&◌, not, cond, Bool, [], length, drop, true, false, Option, Some, refl, sym, ap, subst, ◌∙◌}
use Rattle.slab.specs.Slab.{get}
use Rattle.enet_seq.specs.Numbering.{wire}
use Rattle.enet_sender.specs.declared.outgoing.Due.TheVariants as due
use Rattle.enet_sender.specs.Sender.{Next, head_lacks, next_queued, first_sent}
use Rattle.enet_sender.specs.Pending.{named}
use Rattle.enet_sender.specs.Due.{Did, SendingEnd}
use Rattle.enet_sender.proofs.NextLemmas.{did-stopped, head_lacks-empty, next_queued-goes, next_queued-empty, next_queued-blocked}
use Rattle.enet_sender.specs.Rings.{rings_of, sender_of, end_of, commands_at}
use Rattle.enet_sender.proofs.Sending.{head-there, by_first, by_none, head-queued, head-number, head_lacks-is}
use Rattle.enet_sender.proofs.outgoing.Outgoing.send_first.Goals.{After-put}
use Rattle.enet_sender.proofs.outgoing.Outgoing.send_first.Goals as goal

pub unreachable-requires : goal.unreachable-requires
unreachable-requires c =
    let at = get c.args.pending.now.slab in
    let queued = c.args.self.now.queued.items in
    let found = head-there at (rings_of c.args.self.now) c.in-Some.key (drop 1 queued) c.requires.kept (by_first queued c.in-Some.key (sym c.in-Some.ensures)) in
    let none = c.in_default-get.ensures in
    let some = found.1 in
    cc

-- what goes is the head
goes : (c : After-put) → c.may_go.result ≡ true → next_queued wire c.args.occasion (sender_of (get c.args.pending.now.slab) (rings_of c.args.self.now)) (commands_at (get c.args.pending.now.slab) c.args.self.now.queued.items)
    ≡ Some (first_sent c.args.occasion.now c.args.occasion.timeout (sender_of (get c.args.pending.now.slab) (rings_of c.args.self.now)) c.in-Some-get.head.now.command (drop 1 (commands_at (get c.args.pending.now.slab) c.args.self.now.queued.items)))
goes c may =
    let at = get c.args.pending.now.slab in
    let r = rings_of c.args.self.now in
    let p = c.in-Some-get.head.now in
    let is = head-queued at r.queued c.in-Some.key p (sym c.in-Some.ensures) (sym c.in-Some-get.ensures) in
    next_queued-goes c.args.occasion (sender_of at r) p.command is
    (sym (c.may_go.ensures.value at c.requires.kept (head-number at r p.command (drop 1 (commands_at at r.queued)) c.requires.kept is)) ∙ may)

pub returns-then-reliable-clause-did : goal.returns-then-reliable-clause-did
returns-then-reliable-clause-did c =
    let at = get c.args.pending.now.slab in
    let r = rings_of c.args.self.now in
    let p = c.in-Some-get.head.now in
    let is = head-queued at r.queued c.in-Some.key p (sym c.in-Some.ensures) (sym c.in-Some-get.ensures) in
    let next = goes (goal.at.returns-then-reliable-clause-did c).After-put c.if-not-may_go.false in
    let wants : Bool = head_lacks c.args.occasion (named (get c.args.pending.now.slab) c.args.self.now.sent.items) (commands_at (get c.args.pending.now.slab) c.args.self.now.queued.items) in
    let P : Option Next → Type 0 = λ n. Did n wants (due.Sent c.in-Some-put.past c.counted-added.result.0 c.counted-added.result.1 c.due_kind-kind.result false) (end_of c.args.pending.now.slab c.args.self.now) (end_of c.begin.new.pending.slab c.begin.new.self) (record { old = c.args.buf.now; at = c.args.at; new = c.put.new.buf }) in
    subst P (sym next) (
      c.in-Some-put.ensures.some,
      c.counted-added.ensures.bytes,
      c.counted-added.ensures.price,
      c.due_kind-kind.ensures,
      c.begin.ensures.sends p (drop 1 (commands_at at r.queued)) (sym c.in-Some-get.ensures) is,
      c.in-Some-put.ensures.message,
      refl,
    )

pub returns-else-reliable-clause-did : goal.returns-else-reliable-clause-did
returns-else-reliable-clause-did c =
    let at = get c.args.pending.now.slab in
    let r = rings_of c.args.self.now in
    let p = c.in-Some-get.head.now in
    let is = head-queued at r.queued c.in-Some.key p (sym c.in-Some.ensures) (sym c.in-Some-get.ensures) in
    let next = goes (goal.at.returns-else-reliable-clause-did c).After-put c.if-not-may_go.false in
    let wants : Bool = head_lacks c.args.occasion (named (get c.args.pending.now.slab) c.args.self.now.sent.items) (commands_at (get c.args.pending.now.slab) c.args.self.now.queued.items) in
    let P : Option Next → Type 0 = λ n. Did n wants (due.Sent c.in-Some-put.past c.counted-added.result.0 c.counted-added.result.1 c.due_kind-kind.result false) (end_of c.args.pending.now.slab c.args.self.now) (end_of c.leave.new.pending.slab c.leave.new.self) (record { old = c.args.buf.now; at = c.args.at; new = c.put.new.buf }) in
    subst P (sym next) (
      c.in-Some-put.ensures.some,
      c.counted-added.ensures.bytes,
      c.counted-added.ensures.price,
      c.due_kind-kind.ensures,
      c.leave.ensures.sends c.args.occasion.now c.args.occasion.timeout p (drop 1 (commands_at at r.queued)) (sym c.in-Some-get.ensures) is,
      c.in-Some-put.ensures.message,
      refl,
    )

pub returns-in_default-clause-did : goal.returns-in_default-clause-did
returns-in_default-clause-did c =
    let at = get c.args.pending.now.slab in
    let r = rings_of c.args.self.now in
    let e : SendingEnd = end_of c.args.pending.now.slab c.args.self.now in
    let none : r.queued ≡ [] = by_none r.queued (sym c.in_default.ensures) in
    let next = next_queued-empty c.args.occasion (sender_of at r) (ap (λ keys. length (commands_at at keys)) none) in
    let lacks = head_lacks-empty c.args.occasion (named at r.sent) (commands_at at r.queued) (ap (λ keys. commands_at at keys) none) in
    let P : Option Next → Type 0 = λ n. Did n (head_lacks c.args.occasion (named at r.sent) (commands_at at r.queued)) due.Nothing e (end_of c.give_unused_back.new.pending.slab c.give_unused_back.new.self) (record { old = c.args.buf.now; at = c.args.at; new = c.args.buf.now }) in
    subst P (sym next) (lacks, c.give_unused_back.ensures.end, refl)

pub returns-then-not-may_go-clause-did : goal.returns-then-not-may_go-clause-did
returns-then-not-may_go-clause-did c =
    let at = get c.args.pending.now.slab in
    let r = rings_of c.args.self.now in
    let p = c.in-Some-get.head.now in
    let e : SendingEnd = end_of c.args.pending.now.slab c.args.self.now in
    let is = head-queued at r.queued c.in-Some.key p (sym c.in-Some.ensures) (sym c.in-Some-get.ensures) in
    let blocked = sym (c.may_go.ensures.value at c.requires.kept (head-number at r p.command (drop 1 (commands_at at r.queued)) c.requires.kept is)) ∙ c.if-not-may_go.true in
    let next = next_queued-blocked c.args.occasion (sender_of at r) p.command is blocked in
    let lacks = head_lacks-is at r c.args.occasion p.command (drop 1 (commands_at at r.queued)) c.requires.kept is blocked in
    let none : c.is_empty.result ≡ (length r.sent == 0) = c.is_empty.ensures ∙ ap (λ n. n == 0) c.args.self.now.sent.ok.0 in
    let answer = c.stopped.ensures ∙ ap (λ b. cond (b && not c.args.occasion.barred) due.Full due.Nothing) none in
    let P : Bool → Type 0 = λ b. Did (next_queued wire c.args.occasion (sender_of at r) (commands_at at r.queued)) b c.stopped.result e e (record { old = c.args.buf.now; at = c.args.at; new = c.args.buf.now }) in
    subst P (sym lacks) (did-stopped _ ((length r.sent == 0) && not c.args.occasion.barred) c.stopped.result e c.args.buf.now c.args.at next answer)

pub returns-in_default-put-clause-did : goal.returns-in_default-put-clause-did
returns-in_default-put-clause-did c =
    let e : SendingEnd = end_of c.args.pending.now.slab c.args.self.now in
    let next = goes (goal.at.returns-in_default-put-clause-did c).After-put c.if-not-may_go.false in
    let wants : Bool = head_lacks c.args.occasion (named (get c.args.pending.now.slab) c.args.self.now.sent.items) (commands_at (get c.args.pending.now.slab) c.args.self.now.queued.items) in
    let P : Option Next → Type 0 = λ n. Did n wants due.NoRoom e e (record { old = c.args.buf.now; at = c.args.at; new = c.put.new.buf }) in
    subst P (sym next) (c.in_default-put.ensures.room, refl, c.in_default-put.ensures.none)
