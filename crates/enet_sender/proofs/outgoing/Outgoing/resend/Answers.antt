use Rattle.std.proofs.Common.{◌≡◌, ◌+◌, Bool, true, not, length, map, take, refl, sym, ap, subst, ◌∙◌, Option, Some}
use Rattle.std.specs.List.{slice_get}
use Rattle.std.proofs.lemmas.List.{get_or_read}
use Rattle.slab.specs.Slab.{get}
use Rattle.enet_sender.specs.declared.outgoing.Due.TheVariants as due
use Rattle.enet_sender.specs.Sender.{Next, due_lacks, next_resent, again}
use Rattle.enet_sender.specs.Due.{Did, SendingEnd}
use Rattle.enet_sender.specs.Pending.{named}
use Rattle.enet_sender.specs.Rings.{rings_of, sender_of, end_of, command_of}
use Rattle.enet_sender.proofs.Changing.{Changes, place-read, change-sent, change-named, change-keeps, change-passes, none-due-after}
use Rattle.enet_sender.proofs.NextLemmas.{did-stopped, lacks_room-is, next_resent-blocked, next_resent-goes}
use Rattle.enet_sender.proofs.outgoing.Outgoing.resend.Goals.{After-has_room, After-send_again}
use Rattle.enet_sender.proofs.outgoing.Outgoing.resend.Goals as goal

changes : (c : After-send_again) → Changes (get c.args.pending.now.slab) (get c.send_again.new.self.slab) (rings_of c.args.self.now) c.args.place c.index-key.result.now c.in-Some.sent.now (again c.args.occasion.now c.in-Some.sent.now)
changes c =
    let there = sym c.in-Some.ensures in
    let updates = c.send_again.ensures c.in-Some.sent.now there in
    record {
      keeps = c.requires.kept;
      inside = c.requires.first.inside;
      key_is = sym (get_or_read c.args.self.now.sent.items c.args.place c.index-key.result.now c.requires.first.inside c.index-key.ensures 4294967295);
      there = there;
      now = updates.changed;
      others = updates.others;
      same = refl;
    }

-- the command of the place
read : (c : After-has_room) → slice_get (named (get c.args.pending.now.slab) c.args.self.now.sent.items) (length (named (get c.args.pending.now.slab) (take c.args.place c.args.self.now.sent.items))) ≡ Some c.in-Some.sent.now
read c =
    let at = get c.args.pending.now.slab in
    let sent = c.args.self.now.sent.items in
    let key_is = sym (get_or_read sent c.args.place c.index-key.result.now c.requires.first.inside c.index-key.ensures 4294967295) in
    place-read at sent c.args.place c.in-Some.sent.now c.requires.first.inside (ap at key_is ∙ sym c.in-Some.ensures)

pub returns-then-not-has_room-clause-did : goal.returns-then-not-has_room-clause-did
returns-then-not-has_room-clause-did c =
    let at = get c.args.pending.now.slab in
    let s = sender_of at (rings_of c.args.self.now) in
    let i = length (named at (take c.args.place c.args.self.now.sent.items)) in
    let old : SendingEnd = end_of c.args.pending.now.slab c.args.self.now in
    let there = read (goal.at.returns-then-not-has_room-clause-did c).After-has_room in
    let none = sym c.has_room.ensures ∙ c.if-not-has_room.true in
    let next = ap (next_resent c.args.occasion s i) there ∙ next_resent-blocked c.args.occasion s i c.in-Some.sent.now none in
    let lacks = ap (due_lacks c.args.occasion) there ∙ lacks_room-is c.args.occasion c.in-Some.sent.now.command none in
    let P : Bool → Type 0 = λ b. Did (next_resent c.args.occasion s i (slice_get s.sent i)) b c.stopped.result old old (record { old = c.args.buf.now; at = c.args.at; new = c.args.buf.now }) in
    subst P (sym lacks) (did-stopped _ (not c.args.occasion.barred) c.stopped.result old c.args.buf.now c.args.at next c.stopped.ensures)

pub returns-in_default-put-clause-did : goal.returns-in_default-put-clause-did
returns-in_default-put-clause-did c =
    let at = get c.args.pending.now.slab in
    let s = sender_of at (rings_of c.args.self.now) in
    let i = length (named at (take c.args.place c.args.self.now.sent.items)) in
    let old : SendingEnd = end_of c.args.pending.now.slab c.args.self.now in
    let next = ap (next_resent c.args.occasion s i) (read (goal.at.returns-in_default-put-clause-did c).After-has_room)
    ∙ next_resent-goes c.args.occasion s i c.in-Some.sent.now (sym c.has_room.ensures ∙ c.if-not-has_room.false) in
    let wants : Bool = due_lacks c.args.occasion (slice_get s.sent i) in
    let P : Option Next → Type 0 = λ n. Did n wants due.NoRoom old old (record { old = c.args.buf.now; at = c.args.at; new = c.put.new.buf }) in
    subst P (sym next) (c.in_default-put.ensures.room, refl, c.in_default-put.ensures.none)

pub returns-clause-did : goal.returns-clause-did
returns-clause-did c =
    let at = get c.args.pending.now.slab in
    let s = sender_of at (rings_of c.args.self.now) in
    let sent = c.args.self.now.sent.items in
    let i = length (named at (take c.args.place sent)) in
    let old : SendingEnd = end_of c.args.pending.now.slab c.args.self.now in
    let new : SendingEnd = end_of c.send_again.new.self.slab c.args.self.now in
    let g = changes (goal.at.returns-clause-did c).After-send_again in
    let changed = change-sent g in
    let queued = ap (map command_of) (change-named g).2 in
    let next = ap (next_resent c.args.occasion s i) changed.0 ∙ next_resent-goes c.args.occasion s i c.in-Some.sent.now (sym c.has_room.ensures ∙ c.if-not-has_room.false) in
    let wants : Bool = due_lacks c.args.occasion (slice_get s.sent i) in
    let P : Option Next → Type 0 = λ n. Did n wants (due.Sent c.in-Some-put.past c.counted-added.result.0 c.counted-added.result.1 c.due_kind-kind.result true) old new (record { old = c.args.buf.now; at = c.args.at; new = c.put.new.buf }) in
    subst P (sym next) (
      c.in-Some-put.ensures.some,
      c.counted-added.ensures.bytes,
      c.counted-added.ensures.price,
      c.due_kind-kind.ensures,
      λ j. record {
        channel = c.args.self.now.channel;
        sender = record { number = c.args.self.now.number; unreliable = c.args.self.now.unreliable; queued = queued j; sent = changed.1 j };
      },
      c.in-Some-put.ensures.message,
      refl,
    )

pub returns-clause-kept : goal.returns-clause-kept
returns-clause-kept c =
    let g = changes (goal.at.returns-clause-kept c).After-send_again in
    change-keeps g (c.args.place + 1) (none-due-after g c.requires.first refl)

pub returns-clause-passes : goal.returns-clause-passes
returns-clause-passes c = change-passes (changes (goal.at.returns-clause-passes c).After-send_again) (c.args.place + 1)
