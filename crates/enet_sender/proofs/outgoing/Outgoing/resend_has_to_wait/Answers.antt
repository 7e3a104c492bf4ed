use Rattle.std.proofs.Common.{◌∙◌, length, take, sym, ap}
use Rattle.std.proofs.lemmas.List.{get_or_read}
use Rattle.slab.specs.Slab.{get}
use Rattle.enet_seq.specs.Numbering.{wire}
use Rattle.enet_sender.specs.Sender.{next_of, next_resent, due_lacks, wants_room_at}
use Rattle.enet_sender.specs.Pending.{named}
use Rattle.enet_sender.specs.Rings.{is_due, rings_of, sender_of}
use Rattle.enet_sender.specs.Private.Rings.{IsFirstDue}
use Rattle.enet_sender.proofs.Changing.{first_due-found, place-read}
use Rattle.enet_sender.proofs.NextLemmas.{lacks_room-is, next_resent-blocked, not-true}
use Rattle.enet_sender.proofs.outgoing.Outgoing.resend_has_to_wait.Goals as goal

pub returns : goal.returns
returns c = λ waits.
    let at = get c.args.pending.now.slab in
    let s = sender_of at (rings_of c.args.self.now) in
    let sent = c.args.self.now.sent.items in
    let place = c.args.self.now.due_from in
    let p = c.in-Some.sent.now in
    let o = c.args.occasion in
    let key_is = sym (get_or_read sent place c.index-key.result.now c.requires.inside c.index-key.ensures 4294967295) in
    let there = ap at key_is ∙ sym c.in-Some.ensures in
    let read = place-read at sent place p c.requires.inside there in
    let first : IsFirstDue at sent place = record { inside = c.requires.inside; due = ap is_due there ∙ c.if-not-sent.false; before = c.requires.kept.sent.not_due } in
    let found = first_due-found at sent place first in
    let i = length (named at (take place sent)) in
    let none = sym c.has_room.ensures ∙ not-true c.has_room.result waits in (
      ap (next_of wire o s) found.2 ∙ ap (next_resent o s i) read ∙ next_resent-blocked o s i p none,
      ap (wants_room_at o s) found.2 ∙ ap (due_lacks o) read ∙ lacks_room-is o p.command none ∙ c.if-not-occasion.false,
    )
