use Rattle.std.proofs.Common.{ℕ, ◌+◌, ◌<◌, ◌≤◌, take, length, sym, subst, arith}
use Rattle.std.specs.List.{list_any}
use Rattle.enet_rtt.specs.Clock.{HappensIn}
use Rattle.enet_rtt.proofs.Waits.{never, more-in, all-in}
use Rattle.enet_sender.specs.Sender.{is_late}
use Rattle.enet_sender.specs.Due.{SendingEnd}
use Rattle.enet_sender.specs.Rings.{end_of}
use Rattle.enet_senders.specs.Senders.{ends_of}
use Rattle.enet_senders.proofs.Each.{end-at, ends-length}
use Rattle.enet_senders.proofs.Sets.{skip-in, none-in}
use Rattle.enet_senders.proofs.senders.look_for_late.Goals as goal

pub channels-init : goal.channels-init
channels-init c =
    skip-in (λ (later : ℕ) (e : SendingEnd). list_any (is_late later) e.sender.sent) (ends_of c.args.pending.now.slab c.args.channels.now) 0 c.next-place.result c.args.now 4294967295 (omega arith)
    (λ k e low less there later. none-in (is_late later) e.sender.sent (c.requires k e (c.next-place.ensures.lacks k low less) there)) (never c.args.now)

pub channels-preserved : goal.channels-preserved
channels-preserved c =
    let s = c.args.pending.now.slab in
    let channels = c.args.channels.now in
    let o = c.index-channels-place.result in
    let len = ends-length s channels in
    let low : c.channels.place < length channels = c.channels-test.true in
    let inside : c.channels.place < length (ends_of s channels) = omega arith in
    let there = end-at s channels c.channels.place o low (sym c.index-channels-place.is) in
    skip-in (λ (later : ℕ) (e : SendingEnd). list_any (is_late later) e.sender.sent) (ends_of s channels) (c.channels.place + 1) c.next-place-in-channels.result c.args.now c.min-wait.result c.next-place-in-channels.ensures.later
    (λ k e low less there later. none-in (is_late later) e.sender.sent (c.requires k e (c.next-place-in-channels.ensures.lacks k low less) there))
    (subst (λ (n : ℕ). HappensIn (λ (later : ℕ). list_any (λ (e : SendingEnd). list_any (is_late later) e.sender.sent) (take (c.channels.place + 1) (ends_of s channels))) c.args.now n) (sym c.min-wait.ensures)
    (more-in (λ (later : ℕ) (e : SendingEnd). list_any (is_late later) e.sender.sent) (ends_of s channels) c.channels.place (end_of s o) (end_of s o) c.args.now c.channels.wait c.next_late.result inside there
    c.channels.invariant c.next_late.ensures))

pub returns : goal.returns
returns c =
    let es = ends_of c.args.pending.now.slab c.args.channels.now in
    let len = ends-length c.args.pending.now.slab c.args.channels.now in
    let past : length es ≤ c.channels.place = omega (arith, c.channels-test.false) in
    all-in (λ (later : ℕ) (e : SendingEnd). list_any (is_late later) e.sender.sent) es c.channels.place c.args.now c.channels.wait past c.channels.invariant
