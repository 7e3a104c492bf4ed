-- A peer that leaves by one unsequenced DISCONNECT puts it out at once, and is free.
use Rattle.std.proofs.Common.{◌≡◌, ℕ, ◌≤◌, ◌%◌, ◌^◌, ltb, max, min, Bool, true, false, cond, List, [], ◌∷◌, ◌++◌, length, refl, sym, ap, subst, ◌∙◌, inl, inr, arith, Option, Some, None}
use Rattle.std.specs.List.{slice_get}
use Rattle.enet_codec.specs.declared.packet.Packet.{Packet}
use Rattle.enet_codec.specs.declared.stop.Stop.TheVariants as stop
use Rattle.enet_codec.specs.Message.{Message}
use Rattle.enet_rtt.specs.declared.expiry.Expiry.{Expiry}
use Rattle.enet_rtt.specs.declared.expiry.Expiry.TheVariants.{No, Resend, End}
use Rattle.enet_senders.specs.Controlling as controlling
use Rattle.enet_senders.specs.Controlling.{Commands}
use Rattle.enet_senders.specs.declared.control.Numbered.{Numbered}
use Rattle.enet_senders.specs.declared.control.SentControl.{SentControl}
use Rattle.enet_receiver.specs.Members.{Has}
use Rattle.enet_outbox.specs.declared.parts.Pace.{Pace}
use Rattle.enet_outbox.specs.Outbox.{Outbox}
use Rattle.enet_outbox.specs.Emission.{filled}
use Rattle.enet_outbox.proofs.Filled.{by-filling}
use Rattle.enet_peer.specs.declared.parts.PeerState.TheVariants as state
use Rattle.enet_peer.specs.Peering.{Peering}
use Rattle.enet_peer.specs.Endings.{freed, parting}
use Rattle.enet_peer.specs.CommandEffect.{Outcome, obeyed, stopped, is_connect}
use Rattle.enet_peer.specs.Calls.{pace_of, expiry_of, gone_on, gone_on_in, is_answering, moved, pinged, after_timeouts_by, next_event, event_after, packet_event}
use Rattle.enet_peer.proofs.Refusals.{heeded-obeyed}
use Rattle.law_progress.specs.Attempts.{Step, Hears, TellsAgain, PutsOut, Takes, after_take, after_step, Stays, Turn, Turns, LastsAtMost}
use Rattle.law_progress.proofs.Blocked.{idle-controls}
use Rattle.law_progress.proofs.Controls.{GoesControl, Heads, Repeats, goes-control}
use Rattle.law_progress.proofs.Moving.{moved-elsewhere}
use Rattle.law_progress.proofs.NothingLeft.{nothing-left}

-- of channel 0xFF nothing waits for an acknowledgement, and nothing that is queued asks for one
record Unasking (c : Commands) : Type 0 where
  sent : c.sent ≡ []
  queued : (x : Numbered) → Has c.queued x → controlling.is_reliable x.control ≡ false

unasking-next : (now wait : ℕ) (c : Commands) (n : controlling.Next) → Unasking c → GoesControl now wait c n → Unasking n.commands
unasking-next now wait c n u (Heads x rest q is) = subst (λ (k : controlling.Next). Unasking k.commands) is (record {
  sent = ap (λ b. cond b (c.sent ++ controlling.begun now wait x ∷ []) c.sent) (u.queued x (subst (λ (l : List Numbered). Has l x) (sym q) (inl refl))) ∙ u.sent;
  queued = λ y h. u.queued y (subst (λ (l : List Numbered). Has l y) (sym q) (inr h));
})
unasking-next now wait c n u (Repeats i p there due is) = absurd (let f : None ≡ Some p = ap (λ (l : List SentControl). slice_get l i) (sym u.sent) ∙ there in cc)

abbrev Rests : Pace → Commands → Type 0
Rests pace c = (controlling.next pace.now pace.timeout c ≡ None) × Unasking c

filled-unasking : (pace : Pace) (o : Outbox) → Unasking o.control → Unasking (filled pace o).outbox.control
filled-unasking pace o u = by-filling pace o (λ f. Unasking f.outbox.control) (record {
  closes = λ f g. g;
  acknowledges = λ f a rest e g. g;
  controls = λ f n e g. unasking-next pace.now pace.timeout f.outbox.control n g (goes-control pace.now pace.timeout f.outbox.control n e);
  puts_unsequenced = λ f x rest t e g. g;
  drops_unsequenced = λ f x rest t e g. g;
  puts_data = λ f k s n t there due g. g;
  drops_data = λ f k s n t there due kind g. g;
  keeps_room = λ f i x there wants g. g;
  gives_room = λ f i x n there due g. g;
}) u

filled-rests : (pace : Pace) (o : Outbox) → Rests pace o.control → Rests pace (filled pace o).outbox.control
filled-rests pace o r = by-filling pace o (λ f. Rests pace f.outbox.control) (record {
  closes = λ f g. g;
  acknowledges = λ f a rest e g. g;
  controls = λ f n e g. absurd (let z : Some n ≡ None = sym e ∙ g.0 in cc);
  puts_unsequenced = λ f x rest t e g. g;
  drops_unsequenced = λ f x rest t e g. g;
  puts_data = λ f k s n t there due g. g;
  drops_data = λ f k s n t there due kind g. g;
  keeps_room = λ f i x there wants g. g;
  gives_room = λ f i x n there due g. g;
}) r

abbrev at_parting : Peering → Peering
at_parting p = record p { state = state.Parting }

same-peer : (p : Peering) → p.state ≡ state.Parting → at_parting p ≡ p
same-peer p e = ap (λ s. record p { state = s }) (sym e)

-- a step
hears-unasking : (p : Peering) (now : ℕ) (sent : Option ℕ) (m : Message) → Unasking p.outbox.control → Unasking (obeyed (at_parting p) now sent m).after.outbox.control
hears-unasking p now sent m u = by (is_connect m.body)
  where
    by : (b : Bool) → Unasking (cond b (stopped (at_parting p) stop.BadCommand) (stopped (at_parting p) stop.NotConnected)).after.outbox.control
    by true = u
    by false = u

takes-unasking : (p : Peering) → Unasking p.outbox.control → Unasking (after_take (at_parting p) (next_event (at_parting p))).outbox.control
takes-unasking p u = by p.greeting
  where
    packets : (untaken : List Packet) → Unasking (after_take (at_parting p) (packet_event (at_parting p) untaken)).outbox.control
    packets [] = u
    packets (q ∷ rest) = u

    by : (greeting : Option ℕ) → Unasking (after_take (at_parting p) (event_after (at_parting p) greeting)).outbox.control
    by (Some info) = u
    by None = packets p.inbox.untaken

went-unasking : (q : Peering) → q.state ≡ state.Parting → Unasking q.outbox.control → (gone_on q).state ≡ state.Parting → Unasking (gone_on q).outbox.control
went-unasking q e u h = by (ltb 0 (length q.outbox.control.queued)) refl
  where
    goes : gone_on q ≡ cond (ltb 0 (length q.outbox.control.queued)) q (freed q)
    goes = ap (λ s. gone_on_in s q) e

    by : (b : Bool) → ltb 0 (length q.outbox.control.queued) ≡ b → Unasking (gone_on q).outbox.control
    by true k = subst (λ (x : Peering). Unasking x.outbox.control) (sym (goes ∙ ap (λ b. cond b q (freed q)) k)) u
    by false k = absurd (let x : gone_on q ≡ freed q = goes ∙ ap (λ b. cond b q (freed q)) k in let y : state.Free ≡ state.Parting = ap (λ (z : Peering). z.state) (sym x) ∙ h in cc)

step-unasking : (now : ℕ) (p : Peering) (step : Step) → p.state ≡ state.Parting → Unasking p.outbox.control → (after_step now p step).state ≡ state.Parting → Unasking (after_step now p step).outbox.control
step-unasking now p (Hears full sent m) e u h =
    subst (λ (o : Outcome). Unasking o.after.outbox.control) (sym (heeded-obeyed full p now sent m (ap is_answering e)))
    (subst (λ (x : Peering). Unasking (obeyed x now sent m).after.outbox.control) (same-peer p e) (hears-unasking p now sent m u))
step-unasking now p TellsAgain e u h = subst (λ (x : Peering). Unasking (after_step now x TellsAgain).outbox.control) (same-peer p e) u
step-unasking now p PutsOut e u h = went-unasking (record p { outbox = (filled (pace_of p now) p.outbox).outbox }) e (filled-unasking (pace_of p now) p.outbox u) h
step-unasking now p Takes e u h = subst (λ (x : Peering). Unasking (after_take x (next_event x)).outbox.control) (same-peer p e) (takes-unasking p u)

first-state : (moment : ℕ) (steps : List Step) (p q : Peering) → Stays state.Parting moment steps p q → p.state ≡ state.Parting
first-state moment [] p q h = h.0
first-state moment (step ∷ steps) p q h = h.0

stays-unasking : (now : ℕ) (steps : List Step) (p q : Peering) → Unasking p.outbox.control → Stays state.Parting now steps p q → (q.state ≡ state.Parting) × Unasking q.outbox.control
stays-unasking now [] p q u h = (ap (λ (x : Peering). x.state) (sym h.1) ∙ h.0, subst (λ (x : Peering). Unasking x.outbox.control) h.1 u)
stays-unasking now (step ∷ steps) p q u h =
    let r = after_step now p step in
    stays-unasking now steps r q (step-unasking now p step h.0 u (first-state now steps r q h.1)) h.1

-- after its turn the peer is free
turn-frees : (now : ℕ) (p q : Peering) → ((short : Bool) → (moved short p (now % 2 ^ 32)).state ≡ state.Parting → Unasking (moved short p (now % 2 ^ 32)).outbox.control) → Turn state.Parting now p q → q.state ≡ state.Free
turn-frees now p q first turn = ap (λ (x : Peering). x.state) (turn.after ∙ ap (λ s. gone_on_in s r) l.0 ∙ ap (λ (c : List Numbered). cond (ltb 0 (length c)) r (freed r)) none)
  where
    n : ℕ
    n = now % 2 ^ 32

    last : Peering
    last = turn.last

    l : (last.state ≡ state.Parting) × Unasking last.outbox.control
    l = stays-unasking n turn.steps (moved turn.short p n) last (first turn.short (first-state n turn.steps (moved turn.short p n) last turn.stays)) turn.stays

    pace : Pace
    pace = pace_of last n

    r : Peering
    r = record last { outbox = (filled pace last.outbox).outbox }

    wide : (m : ℕ) → 576 ≤ max 576 m
    wide m = grind arith

    rests : Rests pace r.outbox.control
    rests = filled-rests pace last.outbox (nothing-left pace last.outbox (wide (min last.terms.mtu 4096)) turn.spent, l.1)

    none : r.outbox.control.queued ≡ []
    none = let u = rests.1 in idle-controls pace.now pace.timeout r.outbox.control u.sent rests.0

-- and stays so
free-stays : (short : Bool) (p : Peering) (n : ℕ) → p.state ≡ state.Free → (moved short p n).state ≡ state.Parting → ⊥
free-stays short p n e h = by (expiry_of old n) (subst (λ (x : Peering). x.state ≡ state.Parting) (moved-elsewhere short old n refl) (subst (λ (x : Peering). (moved short x n).state ≡ state.Parting) (sym at) h))
  where
    old : Peering
    old = record p { state = state.Free }

    at : old ≡ p
    at = ap (λ s. record p { state = s }) (sym e)

    by : (x : Expiry) → (pinged (after_timeouts_by x old n) n).state ≡ state.Parting → ⊥
    by End k = cc
    by Resend k = cc
    by No k = cc

no-turn : (now : ℕ) (p q : Peering) → p.state ≡ state.Free → Turn state.Parting now p q → ⊥
no-turn now p q e turn = free-stays turn.short p (now % 2 ^ 32) e (first-state (now % 2 ^ 32) turn.steps (moved turn.short p (now % 2 ^ 32)) turn.last turn.stays)

no-turns : (gap now : ℕ) (later : List ℕ) (p q : Peering) → p.state ≡ state.Free → Turns state.Parting gap now p later q → ⊥
no-turns gap now [] p q e turn = no-turn now p q e turn
no-turns gap now (next ∷ later) p q e (r, turn, up, down, rest) = no-turn now p r e turn

begins-unasking : (short : Bool) (p : Peering) (info n : ℕ) → (moved short (parting p info) n).state ≡ state.Parting → Unasking (moved short (parting p info) n).outbox.control
begins-unasking short p info n = subst (λ (x : Peering). x.state ≡ state.Parting → Unasking x.outbox.control) (sym (moved-elsewhere short (parting p info) n refl)) (by (expiry_of (parting p info) n))
  where
    only : (number : ℕ) (x : Numbered) → Has ((record { number = number; control = Rattle.enet_senders.specs.declared.control.Control.TheVariants.DisconnectNow info }) ∷ []) x → controlling.is_reliable x.control ≡ false
    only number x (inl e) = ap (λ (y : Numbered). controlling.is_reliable y.control) (sym e)
    only number x (inr k) = absurd k

    by : (e : Expiry) → (pinged (after_timeouts_by e (parting p info) n) n).state ≡ state.Parting → Unasking (pinged (after_timeouts_by e (parting p info) n) n).outbox.control
    by End k = absurd (cc)
    by Resend k = record { sent = refl; queued = only _ }
    by No k = record { sent = refl; queued = only _ }

pub parting-ends : (p : Peering) (info : ℕ) → LastsAtMost state.Parting (parting p info) 0
parting-ends p info gap now [] q near turn = omega arith
parting-ends p info gap now (next ∷ later) q near (r, turn, up, down, rest) = absurd (no-turns gap next later r q (turn-frees now (parting p info) r (λ short. begins-unasking short p info (now % 2 ^ 32)) turn) rest)
