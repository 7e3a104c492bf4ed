use Rattle.std.proofs.Common.{◌≡◌, ℕ, ◌+◌, ◌++◌, ◌∷◌, [], Bool, cond, List, refl, sym, ap, subst, ◌∙◌, arith}
use Rattle.std.proofs.lemmas.List.{length-map}
use Rattle.slab.specs.Slab.{get}
use Rattle.enet_sender.proofs.Counting.{reliable_in-le}
use Rattle.enet_sender.specs.Pending.{named, Passes}
use Rattle.enet_sender.specs.Private.Pending.{queued}
use Rattle.enet_sender.specs.Rings.{Rings, Keeps, rings_of, keys_of, commands_at, command_of}
use Rattle.enet_sender.proofs.Named.{named-length}
use Rattle.enet_sender.proofs.Queueing.{Comes, queued_on, comes-queued, comes-sent, comes-keeps, comes-passes}
use Rattle.enet_sender.proofs.outgoing.Outgoing.queue.Goals.{After-insert-key, Then-reliable, Else-reliable}
use Rattle.enet_sender.proofs.outgoing.Outgoing.queue.Goals as goal

comes : (c : After-insert-key) → Comes (get c.args.pending.now.slab) (get c.insert-key.new.self.slab) (rings_of c.args.self.now) c.insert-key.result (queued c.args.command)
comes c = record {
  keeps = c.requires.kept;
  low = c.insert-key.ensures.low;
  none = c.insert-key.ensures.none;
  now = c.insert-key.ensures.updates.changed;
  others = c.insert-key.ensures.updates.others;
  short = c.requires.short;
  waits = refl;
  next = c.requires.next;
}

-- the rings with these numbers and this queue
abbrev with_numbers : Rings → ℕ → ℕ → List ℕ → Rings
with_numbers r number count keys = record { number = number; unreliable = r.unreliable; passed = r.passed; reliable = count; due_from = r.due_from; queued = keys; sent = r.sent }

-- the rings after it, by whether the command is reliable
rings-are : (r : Rings) (key : ℕ) (keys : List ℕ) (number : ℕ) (b : Bool) (m n : ℕ) → keys ≡ r.queued ++ key ∷ [] → m ≡ cond b number r.number → n ≡ r.reliable + cond b 1 0
    → with_numbers r (cond b number r.number) (r.reliable + cond b 1 0) (r.queued ++ key ∷ []) ≡ with_numbers r m n keys
rings-are r key keys number b m n is number_is count_is =
    let from = sym number_is in
    let count = sym count_is in
    let ring = sym is in
    λ i. with_numbers r (from i) (count i) (ring i)

pub overflow_add-self : goal.overflow_add-self
overflow_add-self c =
    let at = get c.args.pending.now.slab in
    let keys = c.args.self.now.queued.items in
    let few = reliable_in-le (commands_at at keys) in
    let many = length-map (named at keys) command_of in
    let most = named-length at keys in
    omega (arith, c.requires.kept.counted, c.args.self.now.queued.ok.0, c.args.self.now.queued.small)

pub returns-then-reliable-clause-queued : goal.returns-then-reliable-clause-queued
returns-then-reliable-clause-queued c =
    let h = comes (goal.at.returns-then-reliable-clause-queued c).After-insert-key in
    let number = sym (ap (λ b. cond b c.args.command.number c.args.self.now.number) c.if-reliable.true) in
    let queued = ap (commands_at (get c.insert-key.new.self.slab)) c.push_back_reserved.ensures.items ∙ comes-queued h in
    let sent = comes-sent h in
    λ i. record { channel = c.args.self.now.channel; sender = record { number = number i; unreliable = c.args.self.now.unreliable; queued = queued i; sent = sent i } }

pub returns-else-reliable-clause-queued : goal.returns-else-reliable-clause-queued
returns-else-reliable-clause-queued c =
    let h = comes (goal.at.returns-else-reliable-clause-queued c).After-insert-key in
    let number = sym (ap (λ b. cond b c.args.command.number c.args.self.now.number) c.if-reliable.false) in
    let queued = ap (commands_at (get c.insert-key.new.self.slab)) c.push_back_reserved.ensures.items ∙ comes-queued h in
    let sent = comes-sent h in
    λ i. record { channel = c.args.self.now.channel; sender = record { number = number i; unreliable = c.args.self.now.unreliable; queued = queued i; sent = sent i } }

then-rings : (c : Then-reliable) → queued_on (rings_of c.args.self.now) c.insert-key.result (queued c.args.command)
    ≡ with_numbers (rings_of c.args.self.now) c.args.command.number (c.args.self.now.reliable_queued + 1) c.push_back_reserved.new.self.items
then-rings c =
    rings-are (rings_of c.args.self.now) c.insert-key.result c.push_back_reserved.new.self.items c.args.command.number c.args.command.reliable _ _ c.push_back_reserved.ensures.items
    (sym (ap (λ b. cond b c.args.command.number c.args.self.now.number) c.if-reliable.true)) (sym (ap (λ b. c.args.self.now.reliable_queued + cond b 1 0) c.if-reliable.true))

else-rings : (c : Else-reliable) → queued_on (rings_of c.args.self.now) c.insert-key.result (queued c.args.command)
    ≡ with_numbers (rings_of c.args.self.now) c.args.self.now.number c.args.self.now.reliable_queued c.push_back_reserved.new.self.items
else-rings c =
    let none : c.args.self.now.reliable_queued ≡ c.args.self.now.reliable_queued + 0 = omega arith in
    rings-are (rings_of c.args.self.now) c.insert-key.result c.push_back_reserved.new.self.items c.args.command.number c.args.command.reliable _ _ c.push_back_reserved.ensures.items
    (sym (ap (λ b. cond b c.args.command.number c.args.self.now.number) c.if-reliable.false)) (none ∙ sym (ap (λ b. c.args.self.now.reliable_queued + cond b 1 0) c.if-reliable.false))

pub returns-then-reliable-clause-kept : goal.returns-then-reliable-clause-kept
returns-then-reliable-clause-kept c =
    subst (λ (r : Rings). Keeps (get c.insert-key.new.self.slab) r) (then-rings (goal.at.returns-then-reliable-clause-kept c).Then-reliable) (comes-keeps (comes (goal.at.returns-then-reliable-clause-kept c).After-insert-key))

pub returns-else-reliable-clause-kept : goal.returns-else-reliable-clause-kept
returns-else-reliable-clause-kept c =
    subst (λ (r : Rings). Keeps (get c.insert-key.new.self.slab) r) (else-rings (goal.at.returns-else-reliable-clause-kept c).Else-reliable) (comes-keeps (comes (goal.at.returns-else-reliable-clause-kept c).After-insert-key))

pub returns-then-reliable-clause-passes : goal.returns-then-reliable-clause-passes
returns-then-reliable-clause-passes c =
    subst (λ (r : Rings). Passes (get c.args.pending.now.slab) (get c.insert-key.new.self.slab) (keys_of (rings_of c.args.self.now)) (keys_of r))
    (then-rings (goal.at.returns-then-reliable-clause-passes c).Then-reliable) (comes-passes (comes (goal.at.returns-then-reliable-clause-passes c).After-insert-key))

pub returns-else-reliable-clause-passes : goal.returns-else-reliable-clause-passes
returns-else-reliable-clause-passes c =
    subst (λ (r : Rings). Passes (get c.args.pending.now.slab) (get c.insert-key.new.self.slab) (keys_of (rings_of c.args.self.now)) (keys_of r))
    (else-rings (goal.at.returns-else-reliable-clause-passes c).Else-reliable) (comes-passes (comes (goal.at.returns-else-reliable-clause-passes c).After-insert-key))
