use Rattle.std.proofs.Common.{◌≡◌, ◌+◌, ◌<◌, Bool, true, false, not, length, sym, ap, subst, ◌∙◌, arith}
use Rattle.std.specs.List.{list_all}
use Rattle.std.proofs.lemmas.List.{take_all}
use Rattle.std.proofs.lemmas.List.Elements.{All-get_or}
use Rattle.std.proofs.lemmas.List.Folds.{list_all_at}
use Rattle.slab.specs.Slab.{get}
use Rattle.enet_sender.specs.declared.outgoing.Left.{Left}
use Rattle.enet_sender.specs.declared.outgoing.Outgoing.{Outgoing}
use Rattle.enet_sender.specs.Sender.{left}
use Rattle.enet_sender.specs.Due.{SendingEnd}
use Rattle.enet_sender.specs.Rings.{Keeps, rings_of, end_of}
use Rattle.enet_senders.specs.Senders.{ends_of}
use Rattle.enet_senders.proofs.Each.{all-more, end-at, ends-length}
use Rattle.enet_senders.proofs.Sets.{all-skip, packets-none}
use Rattle.enet_senders.proofs.senders.have_no_packet.Goals as goal

abbrev has_none : SendingEnd → Bool
has_none s = not (left s.sender).packets

pub left-requires : goal.left-requires
left-requires c =
    let at = get c.args.pending.now.slab in
    let channels = c.args.channels.now in
    let o = c.index-channels-place.result in
    subst (λ (o : Outgoing). Keeps at (rings_of o)) (sym c.index-channels-place.is)
    (All-get_or (λ (o : Outgoing). Keeps at (rings_of o)) channels c.channels.place o c.channels-test.true c.requires.kept.each)

pub channels-init : goal.channels-init
channels-init c =
    sym (all-skip has_none (ends_of c.args.pending.now.slab c.args.channels.now) 0 c.next-place.result (omega arith) (λ k e low less there. packets-none e.sender (c.requires.still k e (c.next-place.ensures.lacks k low less) there).queued))

pub channels-preserved : goal.channels-preserved
channels-preserved c =
    let s = c.args.pending.now.slab in
    let channels = c.args.channels.now in
    let o = c.index-channels-place.result in
    let inside : c.channels.place < length channels = c.channels-test.true in
    let len = ends-length s channels in
    let passes : has_none (end_of s o) ≡ true = ap (λ (l : Left). not l.packets) (sym c.left.ensures) ∙ ap not c.if-left.false in
    sym (all-skip has_none (ends_of s channels) (c.channels.place + 1) c.next-place-in-channels.result c.next-place-in-channels.ensures.later (λ k e low less there. packets-none e.sender (c.requires.still k e (c.next-place-in-channels.ensures.lacks k low less) there).queued))
    ∙ all-more has_none (ends_of s channels) c.channels.place (end_of s o) (omega arith) (end-at s channels c.channels.place o inside (sym c.index-channels-place.is)) c.channels.invariant passes

pub returns-then-left : goal.returns-then-left
returns-then-left c =
    let s = c.args.pending.now.slab in
    let channels = c.args.channels.now in
    let o = c.index-channels-place.result in
    let inside : c.channels.place < length channels = c.channels-test.true in
    let len = ends-length s channels in
    let fails : has_none (end_of s o) ≡ false = ap (λ (l : Left). not l.packets) (sym c.left.ensures) ∙ ap not c.if-left.true in
    sym (list_all_at has_none (ends_of s channels) c.channels.place (end_of s o) (omega arith) (ap has_none (end-at s channels c.channels.place o inside (sym c.index-channels-place.is)) ∙ fails))

pub returns : goal.returns
returns c =
    let es = ends_of c.args.pending.now.slab c.args.channels.now in
    let len = ends-length c.args.pending.now.slab c.args.channels.now in
    sym c.channels.invariant ∙ ap (list_all has_none) (take_all c.channels.place es (omega (arith, c.channels-test.false)))
