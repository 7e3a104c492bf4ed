-- A tick that brings a host nothing.
use Rattle.std.proofs.Common.{◌≡◌, ◌≢◌, ℕ, suc, ◌%◌, ◌^◌, ◌<◌, ◌≤◌, inl, inr, nat_le, Bool, true, false, cond, ◌||◌, ◌&&◌, if◌then◌else◌, is_some, Option, Some, None, List, [], ◌∷◌, ◌++◌, length, map, take, drop, slice_get, get_or, refl, sym, ap, ap₂, subst, ◌∙◌, arith}
use Rattle.std.specs.List.{count_by, list_any}
use Rattle.std.proofs.lemmas.Bool.{le-leb}
use Rattle.std.proofs.lemmas.Option.{slice_get_within, slice_get-get_or}
use Rattle.enet_sleepers.specs.Soon.{is_due_soon}
use Rattle.enet_rtt.specs.Clock.{elapsed_time, HappensIn}
use Rattle.enet_codec.specs.declared.packet.Packet.{Packet}
use Rattle.enet_peer.specs.declared.parts.PeerState.{PeerState}
use Rattle.enet_peer.specs.declared.parts.PeerState.TheVariants as state
use Rattle.enet_peer.specs.Peering.{Peering}
use Rattle.enet_peer.specs.Calls as peers
use Rattle.enet_peer.specs.Calls.{is_connected, with_throttle_limit}
use Rattle.enet_peer.proofs.Calm.{nothing-moved}
use Rattle.enet_slot.specs.Slot.{SlotState, changed, with_changed, with_peer, with_peer_in, is_due_in}
use Rattle.enet_slot.specs.Slot as slot
use Rattle.enet_slot.specs.Giving.{is_vacant}
use Rattle.enet_slot.specs.Sharing.{is_standing, limit_for, with_limit, shared}
use Rattle.enet_peer.specs.Waiting as peered
use Rattle.enet_slot.specs.Waiting.{waits_in, Waits}
use Rattle.enet_sleepers.specs.Sleeping.{Noted, Sleeps, KeepsSleepers}
use Rattle.enet_sleepers.proofs.Keeping.{keeps-mapped, some-same}
use Rattle.enet_deadlines.specs.Sets.{IsIn, IsOut}
use Rattle.enet_host.specs.Private.Ticking.{all_ticked}
use Rattle.enet_host.specs.Host.{Host, HoldsNoFree}
use Rattle.enet_host.specs.declared.credits.Credit.{Credit}
use Rattle.enet_host.specs.Crediting.{is_short_at}
use Rattle.enet_host.specs.Ticking.{all_moved, brings, clock_after, ticked, with_shares, IsDueIn}
use Rattle.enet_host.proofs.Moving.{slot_moved, length-moved, get-moved, moved-still}

neither-left : (b c : Bool) → (b || c) ≡ false → b ≡ false
neither-left true c e = e
neither-left false c e = refl

neither-right : (b c : Bool) → (b || c) ≡ false → c ≡ false
neither-right true c e = absurd (let y : true ≡ false = e in cc)
neither-right false c e = e

-- a slot keeps a peer that is not free
kept-in : (st : PeerState) (s : SlotState) (p : Peering) → st ≢ state.Free → with_peer_in st s p ≡ record s { peer = Some p }
kept-in state.Free s p busy = absurd (busy refl)
kept-in state.Connecting s p busy = refl
kept-in state.Answering s p busy = refl
kept-in state.Connected s p busy = refl
kept-in state.DisconnectLater s p busy = refl
kept-in state.Disconnecting s p busy = refl
kept-in state.AckDisconnect s p busy = refl
kept-in state.Ended s p busy = refl
kept-in state.Parting s p busy = refl

calm-slot : (now : ℕ) (short : Bool) (s : SlotState) (o : Option Peering) → s.peer ≡ o → is_due_in o now ≡ false → ((p : Peering) → o ≡ Some p → p.state ≢ state.Free)
    → with_changed (λ (p : Peering). peers.moved short p now) s o ≡ s
calm-slot now short s None held none busy = refl
calm-slot now short s (Some p) held none busy =
    ap (λ (q : Peering). with_peer s q) (nothing-moved short p now none) ∙ kept-in p.state s p (busy p refl) ∙ ap (λ (o : Option Peering). record s { peer = o }) (sym held)

-- one that waits is not free
busy-waits : (s : SlotState) → Waits s → (p : Peering) → s.peer ≡ Some p → p.state ≢ state.Free
busy-waits s waits p held free =
    let waiting : peered.Waits p = subst waits_in held waits in
    let e : false ≡ true = ap peered.is_steady (sym free) ∙ waiting.steady in
    absurd (cc)

-- one that sleeps is left as it is by a tick
pub moved-asleep : (now : ℕ) (short : Bool) (i : ℕ) (v : Noted) (s : SlotState) → v.clock % 2 ^ 32 ≡ now → Sleeps v i s → slot_moved now short s ≡ s
moved-asleep now short i v s shown (inl f) = ap (λ (o : Option Peering). with_changed (λ (p : Peering). peers.moved short p now) s o) f.empty
moved-asleep now short i v s shown (inr h) =
    calm-slot now short s s.peer refl (subst (λ (n : ℕ). slot.is_due n s ≡ false) shown (h.due.before v.clock (omega arith) h.ahead)) (busy-waits s h.waits)

keeps-all-moved : (now : ℕ) (short : ℕ → Bool) (v : Noted) (slots : List SlotState) → KeepsSleepers now v slots → KeepsSleepers now v (all_moved now short slots)
keeps-all-moved now short v slots k = record {
  count = k.count ∙ sym (length-moved now short slots);
  shown = k.shown;
  blank = k.blank;
  asleep = λ i t there out.
      let inside : i < length slots = omega (arith, slice_get_within (all_moved now short slots) i t there, length-moved now short slots) in
      let s : SlotState = get_or slots i t in
      let was : slice_get slots i ≡ Some s = slice_get-get_or slots i t inside in
      let sleeps : Sleeps v i s = k.asleep i s was out in
      let is : slot_moved now (short i) s ≡ t = some-same (slice_get (all_moved now short slots) i) (slot_moved now (short i) s) t (get-moved now short slots i s was) there in
      subst (Sleeps v i) (sym (moved-asleep now (short i) i v s k.shown sleeps) ∙ is) sleeps;
}

pub keeps-moved : (now : ℕ) (credits : List Credit) (v : Noted) (old new : List SlotState) → KeepsSleepers now v old → new ≡ all_ticked now credits old → KeepsSleepers now v new
keeps-moved now credits v old new k same = subst (KeepsSleepers now v) (sym same) (keeps-all-moved now (is_short_at credits) v old k)

-- a tick changes nothing of those that sleep between two slots
pub moved-past : (now : ℕ) (credits : List Credit) (k m : ℕ) (v : Noted) (slots : List SlotState) → KeepsSleepers now v slots → ((i : ℕ) → k ≤ i → i < m → IsOut v.awake i) → k ≤ m
    → all_ticked now credits (take k slots) ++ drop k slots ≡ all_ticked now credits (take m slots) ++ drop m slots
moved-past now credits k m v slots kept out more =
    moved-still now (is_short_at credits) slots k m more
    (λ i s there past less. moved-asleep now (is_short_at credits i) i v s kept.shown (kept.asleep i s there (out i past less)))

-- a throttle's limit leaves it open whether there is an event
last-mute : (st : PeerState) (p q : Peering) → is_some (peers.last_event st q) ≡ is_some (peers.last_event st p)
last-mute state.Free p q = refl
last-mute state.Connecting p q = refl
last-mute state.Answering p q = refl
last-mute state.Connected p q = refl
last-mute state.DisconnectLater p q = refl
last-mute state.Disconnecting p q = refl
last-mute state.AckDisconnect p q = refl
last-mute state.Ended p q = refl
last-mute state.Parting p q = refl

packet-mute : (untaken : List Packet) (limit : ℕ) (p : Peering) → is_some (peers.packet_event (with_throttle_limit p limit) untaken) ≡ is_some (peers.packet_event p untaken)
packet-mute [] limit p = last-mute p.state p (with_throttle_limit p limit)
packet-mute (q ∷ rest) limit p = refl

event-mute : (greeting : Option ℕ) (limit : ℕ) (p : Peering) → is_some (peers.event_after (with_throttle_limit p limit) greeting) ≡ is_some (peers.event_after p greeting)
event-mute None limit p = packet-mute p.inbox.untaken limit p
event-mute (Some info) limit p = refl

-- bandwidth that is shared out leaves those that sleep asleep
limited-waits : (outgoing standing emitted : ℕ) (b : Bool) (p : Peering) → peered.Waits p → waits_in (Some (cond b (with_throttle_limit p (limit_for outgoing standing emitted p)) p))
limited-waits outgoing standing emitted true p w = record { steady = w.steady; mute = event-mute p.greeting (limit_for outgoing standing emitted p) p ∙ w.mute; rests = record { acknowledgements = w.rests.acknowledgements; control = w.rests.control; unsequenced = w.rests.unsequenced; still = w.rests.still } }
limited-waits outgoing standing emitted false p w = w

limited-due : (outgoing standing emitted now : ℕ) (b : Bool) (p : Peering) → is_due_in (Some (cond b (with_throttle_limit p (limit_for outgoing standing emitted p)) p)) now ≡ peers.is_due p now
limited-due outgoing standing emitted now true p = refl
limited-due outgoing standing emitted now false p = refl

shared-waits : (outgoing standing emitted : ℕ) (o : Option Peering) → waits_in o → waits_in (with_limit outgoing standing emitted o)
shared-waits outgoing standing emitted None w = w
shared-waits outgoing standing emitted (Some p) w = limited-waits outgoing standing emitted (is_connected p.state) p w

shared-due : (outgoing standing emitted now : ℕ) (o : Option Peering) → is_due_in (with_limit outgoing standing emitted o) now ≡ is_due_in o now
shared-due outgoing standing emitted now None = refl
shared-due outgoing standing emitted now (Some p) = limited-due outgoing standing emitted now (is_connected p.state) p

shared-vacant : (outgoing standing emitted : ℕ) (o : Option Peering) → is_vacant (with_limit outgoing standing emitted o) ≡ is_vacant o
shared-vacant outgoing standing emitted None = refl
shared-vacant outgoing standing emitted (Some p) = refl

shared-none : (outgoing standing emitted : ℕ) (o : Option Peering) → o ≡ None → with_limit outgoing standing emitted o ≡ None
shared-none outgoing standing emitted None e = refl
shared-none outgoing standing emitted (Some p) e = absurd (cc)

shared-sleeps : (outgoing standing i : ℕ) (v : Noted) (s : SlotState) → Sleeps v i s → Sleeps v i (shared outgoing standing s)
shared-sleeps outgoing standing i v s (inl f) = inl (record { empty = shared-none outgoing standing s.emitted s.peer f.empty; listed = f.listed; never = f.never })
shared-sleeps outgoing standing i v s (inr h) =
    inr (record {
      waits = shared-waits outgoing standing s.emitted s.peer h.waits;
      held = shared-vacant outgoing standing s.emitted s.peer ∙ h.held;
      unlisted = h.unlisted;
      moment = h.moment;
      at = h.at;
      ahead = h.ahead;
      near = h.near;
      due = record {
        before = λ t past less. shared-due outgoing standing s.emitted (t % 2 ^ 32) s.peer ∙ h.due.before t past less;
        first = λ near. shared-due outgoing standing s.emitted (h.moment % 2 ^ 32) s.peer ∙ h.due.first near;
      };
    })

pub keeps-shared : (now outgoing standing : ℕ) (v : Noted) (slots : List SlotState) → KeepsSleepers now v slots → KeepsSleepers now v (map (shared outgoing standing) slots)
keeps-shared now outgoing standing v slots k = keeps-mapped now v (shared outgoing standing) slots (λ i s there out sleeps. shared-sleeps outgoing standing i v s sleeps) k

-- and so do new bandwidths, where only free ones sleep
changed-sleeps : (i : ℕ) (v : Noted) (change : Peering → Peering) (s : SlotState) → IsIn v.free i → Sleeps v i s → Sleeps v i (changed change s)
changed-sleeps i v change s listed (inl f) = subst (λ (t : SlotState). Sleeps v i t) (sym (ap (λ (o : Option Peering). with_changed change s o) f.empty)) (inl f)
changed-sleeps i v change s listed (inr h) = let x : false ≡ true = sym h.unlisted ∙ listed in absurd (cc)

pub keeps-changed : (now : ℕ) (v : Noted) (change : Peering → Peering) (slots : List SlotState) → ((i : ℕ) → i < length v.awake → IsOut v.awake i → IsIn v.free i) → KeepsSleepers now v slots
    → KeepsSleepers now v (map (changed change) slots)
keeps-changed now v change slots free k =
    keeps-mapped now v (changed change) slots
    (λ i s there out sleeps. changed-sleeps i v change s (free i (omega (arith, slice_get_within slots i s there, k.count)) out) sleeps) k

calm-slots : (now : ℕ) (short : ℕ → Bool) (slots : List SlotState) → list_any (slot.is_due now) slots ≡ false → HoldsNoFree slots → all_moved now short slots ≡ slots
calm-slots now short [] none held = refl
calm-slots now short (s ∷ rest) none held =
    ap₂ (λ (t : SlotState) (ts : List SlotState). t ∷ ts)
    (calm-slot now (short 0) s s.peer refl (neither-left (slot.is_due now s) (list_any (slot.is_due now) rest) none) (λ p is. held 0 s p refl is))
    (calm-slots now (λ i. short (suc i)) rest (neither-right (slot.is_due now s) (list_any (slot.is_due now) rest) none) (λ i t p there is. held (suc i) t p there is))

calm-tick : (h : Host) (ms : ℕ) → HoldsNoFree h.slots → brings h (clock_after h.clock ms) ≡ false → ticked h ms ≡ record h { clock = clock_after h.clock ms }
calm-tick h ms held none =
    let now = clock_after h.clock ms in
    let slots = calm-slots now (is_short_at h.credits) h.slots (neither-left (list_any (slot.is_due now) h.slots) (nat_le 1000 (elapsed_time now h.shared_at)) none) held in
    let early = neither-right (list_any (slot.is_due now) h.slots) (nat_le 1000 (elapsed_time now h.shared_at)) none in
    ap (λ (ss : List SlotState). with_shares (record h { clock = now; slots = ss })) slots
    ∙ ap (λ (b : Bool). record h {
      clock = now;
      shared_at = if b then now else h.shared_at;
      slots = if b then map (shared h.config.outgoing (count_by is_standing h.slots)) h.slots else h.slots;
    }) early

-- the clock shows how long a tick was
ticks : (clock ms : ℕ) → clock < 2 ^ 32 → ms ≤ 60000 → elapsed_time (clock_after clock ms) clock ≡ ms
ticks clock ms fits short = omega arith

low-clock : (clock ms : ℕ) → clock_after clock ms < 2 ^ 32
low-clock clock ms = omega arith

pub due-in : (h : Host) (ms : ℕ) → h.clock < 2 ^ 32 → HoldsNoFree h.slots → HappensIn (brings h) h.clock ms → ms ≤ 1000 → IsDueIn h ms
due-in h ms fits held happens within = record {
  calm = λ fewer less.
      let shown = ticks h.clock fewer fits (omega arith) in
      calm-tick h fewer held (happens.before (clock_after h.clock fewer) (low-clock h.clock fewer) (omega arith));
  due = happens.first (omega arith) (clock_after h.clock ms) (low-clock h.clock ms) (ticks h.clock ms fits (omega arith));
  within = within;
}

-- within a second it is all one
pub soon-all : (slots : List SlotState) (also : ℕ → Bool) (now wait : ℕ) → wait ≤ 1000 → HappensIn (λ (later : ℕ). list_any (is_due_soon now later) slots || also later) now wait
    → HappensIn (λ (later : ℕ). list_any (slot.is_due later) slots || also later) now wait
soon-all slots also now wait near h = record {
  before = λ later l less. sym (same later (omega (arith, less, near))) ∙ h.before later l less;
  first = λ some later l is. sym (same later (omega (arith, is, near))) ∙ h.first some later l is;
}
  where
    same : (later : ℕ) → elapsed_time later now ≤ 1000 → (list_any (is_due_soon now later) slots || also later) ≡ (list_any (slot.is_due later) slots || also later)
    same later within = ap (λ (b : Bool). list_any (λ (s : SlotState). b && slot.is_due later s) slots || also later) (le-leb (elapsed_time later now) 1000 within)
