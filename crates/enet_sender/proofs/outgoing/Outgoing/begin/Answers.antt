use Rattle.std.proofs.Common.{◌≡◌, ℕ, ◌++◌, ◌∷◌, [], cond, drop, true, Some, IfSome, refl, sym, ap, subst, ◌∙◌}
use Rattle.slab.specs.Slab.{get}
use Rattle.enet_sender.specs.declared.sent.Sent.{Sent}
use Rattle.enet_sender.specs.Sender.{begun}
use Rattle.enet_sender.proofs.Counting.{counted-some}
use Rattle.enet_sender.specs.Pending.{named, Passes}
use Rattle.enet_sender.specs.Rings.{Keeps, rings_of, keys_of, commands_at}
use Rattle.enet_sender.proofs.Sending.{Heads, head-there, head-named, passed_on, begin-keeps, begin-passes, begin-sent}
use Rattle.enet_sender.proofs.outgoing.Outgoing.begin.Goals.{After-begin}
use Rattle.enet_sender.proofs.outgoing.Outgoing.begin.Goals as goal

heads : (c : After-begin) (p : Sent) → get c.args.pending.now.slab c.args.key ≡ Some p → Heads (get c.args.pending.now.slab) (get c.begin.new.self.slab) (rings_of c.args.self.now) c.args.key (drop 1 c.args.self.now.queued.items) p
heads c p there = record { keeps = c.requires.kept; queued = c.requires.head; there = there; others = (c.begin.ensures p there).others }

head-is : (c : After-begin) (p : Sent) → get c.args.pending.now.slab c.args.key ≡ Some p → (p.command.reliable ≡ true) × (p.command.number ≡ c.args.number)
head-is c p there = subst (λ o. IfSome o (λ (p : Sent). (p.command.reliable ≡ true) × (p.command.number ≡ c.args.number))) there c.requires.reliable

pub overflow_sub-self : goal.overflow_sub-self
overflow_sub-self c =
    let at = get c.args.pending.now.slab in
    let rest = drop 1 c.args.self.now.queued.items in
    let found = head-there at (rings_of c.args.self.now) c.args.key rest c.requires.kept c.requires.head in
    let b = (goal.at.overflow_sub-self c).After-begin in
    counted-some (commands_at at c.args.self.now.queued.items) found.0.command (commands_at at rest) c.args.self.now.reliable_queued
    (head-named (heads b found.0 found.1)).0 c.requires.kept.counted (head-is b found.0 found.1).0

pub returns-clause-sends : goal.returns-clause-sends
returns-clause-sends c = λ p more there queued_is.
    let at = get c.args.pending.now.slab in
    let later = get c.begin.new.self.slab in
    let rest = drop 1 c.args.self.now.queued.items in
    let q = begun c.args.now c.args.timeout p.command in
    let b = (goal.at.returns-clause-sends c).After-begin in
    let h = heads b p there in
    let names = head-named h in
    let more_is : commands_at at rest ≡ more = let e = sym names.0 ∙ queued_is in cc in
    let queued : commands_at later c.pop_front.new.self.items ≡ more = ap (commands_at later) c.pop_front.ensures.rest ∙ names.1 ∙ more_is in
    let sent : named later c.push_back_reserved.new.self.items ≡ cond p.command.reliable (named at c.args.self.now.sent.items ++ q ∷ []) (named at c.args.self.now.sent.items) =
    ap (named later) c.push_back_reserved.ensures.items ∙ begin-sent q h (c.begin.ensures p there).changed
    ∙ ap (λ b. cond b (named at c.args.self.now.sent.items ++ q ∷ []) (named at c.args.self.now.sent.items)) (sym (head-is b p there).0) in
    λ i. record {
      channel = c.args.self.now.channel;
      sender = record { number = c.args.self.now.number; unreliable = c.args.self.now.unreliable; queued = queued i; sent = sent i };
    }

pub returns-clause-kept : goal.returns-clause-kept
returns-clause-kept c =
    let at = get c.args.pending.now.slab in
    let later = get c.begin.new.self.slab in
    let rest = drop 1 c.args.self.now.queued.items in
    let found = head-there at (rings_of c.args.self.now) c.args.key rest c.requires.kept c.requires.head in
    let b = (goal.at.returns-clause-kept c).After-begin in
    let p = found.0 in
    let is = head-is b p found.1 in
    let q = begun c.args.now c.args.timeout p.command in
    let keeps : Keeps later (passed_on (rings_of c.args.self.now) c.args.key rest c.args.number c.len-self.result) =
    subst (λ (n : ℕ). Keeps later (passed_on (rings_of c.args.self.now) c.args.key rest n c.len-self.result)) is.1
    (begin-keeps q (heads b p found.1) (c.begin.ensures p found.1).changed refl refl is.0 c.requires.few c.requires.none c.len-self.result) in
    rw (c.pop_front.ensures.rest, c.push_back_reserved.ensures.items) keeps

pub returns-clause-passes : goal.returns-clause-passes
returns-clause-passes c =
    let at = get c.args.pending.now.slab in
    let later = get c.begin.new.self.slab in
    let rest = drop 1 c.args.self.now.queued.items in
    let found = head-there at (rings_of c.args.self.now) c.args.key rest c.requires.kept c.requires.head in
    let b = (goal.at.returns-clause-passes c).After-begin in
    let p = found.0 in
    let q = begun c.args.now c.args.timeout p.command in
    let passes : Passes at later (keys_of (rings_of c.args.self.now)) (keys_of (passed_on (rings_of c.args.self.now) c.args.key rest p.command.number 0)) =
    begin-passes q (heads b p found.1) (c.begin.ensures p found.1).changed in
    rw (c.pop_front.ensures.rest, c.push_back_reserved.ensures.items) passes
