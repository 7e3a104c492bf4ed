use Rattle.std.proofs.Common.{rules, false, ◌≡◌, ℕ, ◌+◌, ◌<◌, length, map, Option, Some, None, sym, ap, ◌∙◌, arith}
use Rattle.std.proofs.lemmas.List.{get_or_read}
use Rattle.slab.specs.Slab.{Slab, get}
use Rattle.enet_seq.specs.Windows.{ahead}
use Rattle.enet_sender.specs.declared.sent.Sent.{Sent}
use Rattle.enet_sender.specs.Due.{SendingEnd}
use Rattle.enet_sender.specs.Sender.{position_of, after_match, matching_at}
use Rattle.enet_sender.specs.declared.outgoing.Acknowledged.{Acknowledged}
use Rattle.enet_sender.specs.declared.outgoing.Outgoing.{Outgoing}
use Rattle.enet_sender.specs.Pending.{named}
use Rattle.enet_sender.specs.Rings.{rings_of, sender_of, end_of, command_of, at_place}
use Rattle.enet_sender.proofs.Acknowledging.{Goes, goes-untimely, acknowledges-none, vacant-after, goes-sent, goes-told, goes-queued, goes-passes, goes-keeps}
use Rattle.enet_sender.proofs.outgoing.Outgoing.take_acknowledged.Goals.{Joined-sent, After-from_residual-in_err-sent}
use Rattle.enet_sender.proofs.outgoing.Outgoing.take_acknowledged.Goals as goal

goes : (c : Joined-sent) → Goes (get c.args.pending.now.slab) (get c.take.new.self.slab) (rings_of c.args.self.now) c.args.number c.in_ok-place.place c.index-key.result.now c.in_ok-sent.sent
goes c =
    let len = c.args.self.now.sent.ok.0 in
    let place_is : c.in_ok-place.place + (ahead c.args.number c.args.self.now.passed + 1) ≡ length c.args.self.now.sent.items = c.in_ok-place.ensures.some ∙ len in
    let inside : c.in_ok-place.place < length c.args.self.now.sent.items = omega arith in
    record {
      keeps = c.requires;
      low = omega (arith, c.ranges.number.fits);
      place_is = place_is;
      key_is = sym (get_or_read c.args.self.now.sent.items c.in_ok-place.place c.index-key.result.now inside c.index-key.ensures 4294967295);
      there = sym c.in_ok-sent.ensures.value;
      gone = c.take.ensures.updates.changed;
      others = c.take.ensures.updates.others;
    }

-- the end after an acknowledgement that matches this
abbrev matched : Slab Sent → Outgoing → ℕ → Option Acknowledged → SendingEnd
matched s o number told = record (end_of s o) { sender = after_match (sender_of (get s) (rings_of o)) number told }

pub returns-in_err-place-clause-told : goal.returns-in_err-place-clause-told
returns-in_err-place-clause-told c =
    let at = get c.args.pending.now.slab in
    let len = c.args.self.now.sent.ok.0 in
    let none : position_of c.args.number (named at c.args.self.now.sent.items) ≡ None =
    acknowledges-none at (rings_of c.args.self.now) c.args.number c.requires (omega (arith, c.ranges.number.fits)) (λ place e. absurd (omega (arith, c.in_err-place.ensures.none))) in
    c.from_residual.ensures ∙ sym (ap (matching_at c.args.time (named at c.args.self.now.sent.items)) none)

pub returns-in_err-place-clause-removed : goal.returns-in_err-place-clause-removed
returns-in_err-place-clause-removed c = sym (ap (matched c.args.pending.now.slab c.args.self.now c.args.number) c.from_residual.ensures)

-- no command has the number where none stands under the key of its place
none-there : (c : After-from_residual-in_err-sent) → position_of c.args.number (named (get c.args.pending.now.slab) c.args.self.now.sent.items) ≡ None
none-there c =
    let at = get c.args.pending.now.slab in
    let sent = c.args.self.now.sent.items in
    let len = c.args.self.now.sent.ok.0 in
    let here = c.in_ok-place.ensures.some in
    let inside : c.in_ok-place.place < length sent = omega arith in
    let key_is = sym (get_or_read sent c.in_ok-place.place c.index-key.result.now inside c.index-key.ensures 4294967295) in
    acknowledges-none at (rings_of c.args.self.now) c.args.number c.requires (omega (arith, c.ranges.number.fits)) (λ place e.
    let same : place ≡ c.in_ok-place.place = omega arith in
    ap (at_place at sent) same ∙ ap at key_is ∙ sym c.in_err-sent.ensures.value)

pub returns-in_err-sent-clause-told : goal.returns-in_err-sent-clause-told
returns-in_err-sent-clause-told c = c.from_residual-in_err-sent.ensures ∙ sym (ap (matching_at c.args.time (named (get c.args.pending.now.slab) c.args.self.now.sent.items)) (none-there c))

pub returns-in_err-sent-clause-removed : goal.returns-in_err-sent-clause-removed
returns-in_err-sent-clause-removed c =
    ap (λ (s : Slab Sent). end_of s c.args.self.now) c.in_err-sent.ensures.absent ∙ sym (ap (matched c.args.pending.now.slab c.args.self.now c.args.number) c.from_residual-in_err-sent.ensures)

pub returns-then-not-went_at-clause-told : goal.returns-then-not-went_at-clause-told
returns-then-not-went_at-clause-told c =
    let at = get c.args.pending.now.slab in
    let sent = c.args.self.now.sent.items in
    let len = c.args.self.now.sent.ok.0 in
    let here : c.in_ok-place.place + (ahead c.args.number c.args.self.now.passed + 1) ≡ length sent = c.in_ok-place.ensures.some ∙ len in
    let inside : c.in_ok-place.place < length sent = omega arith in
    let key_is = sym (get_or_read sent c.in_ok-place.place c.index-key.result.now inside c.index-key.ensures 4294967295) in
    let not_then : c.went_at.result ≡ false = search rules in
    sym (goes-untimely at (rings_of c.args.self.now) c.args.number c.in_ok-place.place c.index-key.result.now c.args.time c.requires (omega (arith, c.ranges.number.fits)) here key_is (sym c.went_at.ensures ∙ not_then))

pub returns-clause-told : goal.returns-clause-told
returns-clause-told c = ap (λ (a : Acknowledged). Some a) c.told_of.ensures ∙ sym (goes-told (goes c) c.args.time (search rules))

pub returns-clause-removed : goal.returns-clause-removed
returns-clause-removed c =
    let g = goes c in
    let queued = ap (map command_of) (goes-queued g) in
    let sent = (c.vacate.ensures.trims (get c.take.new.self.slab)).same (vacant-after g) ∙ goes-sent g in
    λ i. record {
      channel = c.args.self.now.channel;
      sender = record { number = c.args.self.now.number; unreliable = c.args.self.now.unreliable; queued = queued i; sent = sent i };
    }

pub returns-clause-kept : goal.returns-clause-kept
returns-clause-kept c = goes-keeps (goes c) _ _ (c.vacate.ensures.trims (get c.take.new.self.slab)) c.vacate.ensures.first

pub returns-clause-passes : goal.returns-clause-passes
returns-clause-passes c = goes-passes (goes c) _ _ (c.vacate.ensures.trims (get c.take.new.self.slab))
