-- A command of the log that comes to a peer keeps all links.
use Rattle.std.proofs.Common.{◌≡◌, ◌≢◌, ℕ, ◌%◌, ◌^◌, ◌<◌, ◌≤◌, Bool, true, false, cond, ◌==◌, ◌&&◌, not, List, [], ◌∷◌, ◌++◌, refl, sym, ap, subst, ◌∙◌, inl, inr, ◌⊎◌, arith, Option, Some, None}
use Rattle.std.proofs.lemmas.Bool.Decides.{nat_tests}
use Rattle.std.proofs.lemmas.List.{append-nil}
use Rattle.enet_codec.specs.declared.packet.Packet.{Packet}
use Rattle.enet_codec.specs.Message.{Message, acknowledge}
use Rattle.enet_rtt.specs.Clock.{meant_time}
use Rattle.enet_senders.specs.declared.control.Control.{Control}
use Rattle.enet_senders.specs.declared.control.Control.TheVariants as control
use Rattle.enet_sender.specs.declared.outgoing.Acknowledged.{Acknowledged}
use Rattle.enet_packets.specs.declared.incoming_packet.Dispatched.{Dispatched}
use Rattle.enet_inbox.specs.Inbox.{Inbox}
use Rattle.enet_inbox.specs.DataEffect.{DataEffect, unsequenced_taken}
use Rattle.enet_outbox.specs.declared.parts.Acknowledgement.{Acknowledgement}
use Rattle.enet_outbox.specs.declared.parts.Matched.{Matched}
use Rattle.enet_outbox.specs.declared.parts.Matched.TheVariants as matched
use Rattle.enet_outbox.specs.Outbox.{with_acknowledgement, after_acknowledgement, is_done, matched_by, told_by, with_growth}
use Rattle.enet_peer.specs.Peering.{Peering}
use Rattle.enet_peer.specs.declared.parts.Ending.{Ending}
use Rattle.enet_peer.specs.declared.parts.Ending.TheVariants.{AskedHere, AskedThere}
use Rattle.enet_peer.specs.declared.parts.PeerState.{PeerState}
use Rattle.enet_peer.specs.declared.parts.PeerState.TheVariants as state
use Rattle.enet_peer.specs.Endings.{ended, freed, disconnecting, parting, settled, is_later}
use Rattle.enet_peer.specs.CommandEffect.{Outcome, answered, answered_at, is_answered_in, sampled, with_answer, on_match, accepted, is_connecting, on_acknowledge, on_last_disconnect, on_disconnect_in}
use Rattle.law_connection.specs.Link.{is_late}
use Rattle.law_connection.specs.LinkSteps.{Has}
use Rattle.law_connection.specs.Connection.{Put, End, sent_on, in_sequence}
use Rattle.law_connection.specs.Steps.{with_peer}
use Rattle.law_connection.specs.Linked.{sends_in, dispatches_in, numbers_on}
use Rattle.law_connection.specs.Invariant.{AreLinked}
use Rattle.law_connection.proofs.InboxMoves.{in_sequence-append}
use Rattle.law_connection.proofs.Relinking.{QuietOut, QuietIn, Stops, both-quiet, both-stops}
use Rattle.law_connection.proofs.Moves.{both-acknowledged}
use Rattle.law_connection.proofs.Runs.{and-left}

-- the ways in which a connection ends stop both directions

pub stops-ended : (p : Peering) (why : Ending) (info : ℕ) → Stops p (ended p why info)
stops-ended p why info = record { sends = refl; dispatches = refl; mtu = refl; senders = refl; untaken = inl refl; numbers = λ i h. refl }

pub stops-freed : (p : Peering) → Stops p (freed p)
stops-freed p = record { sends = refl; dispatches = refl; mtu = refl; senders = refl; untaken = inr refl; numbers = λ i h. refl }

pub stops-disconnecting : (p : Peering) (info : ℕ) → Stops p (disconnecting p info)
stops-disconnecting p info = record { sends = refl; dispatches = refl; mtu = refl; senders = refl; untaken = inl refl; numbers = λ i h. refl }

pub stops-parting : (p : Peering) (info : ℕ) → Stops p (parting p info)
stops-parting p info = record { sends = refl; dispatches = refl; mtu = refl; senders = refl; untaken = inr refl; numbers = λ i h. refl }

-- all links between an end whose peer is this and another
abbrev pub Holds : End → End → Peering → Type 0
Holds own other p = AreLinked (with_peer own p) other

pub holds-quiet : (own other : End) (p q : Peering) → QuietOut p q → QuietIn p q → Holds own other p → Holds own other q
holds-quiet own other p q a b h = both-quiet (with_peer own p) other p q refl a b h

pub holds-stops : (own other : End) (p q : Peering) → Stops p q → Holds own other p → Holds own other q
holds-stops own other p q c h = both-stops (with_peer own p) other p q refl c h

pub holds-if : (own other : End) (b : Bool) (p q : Peering) → Holds own other p → Holds own other q → Holds own other (cond b p q)
holds-if own other true p q a b = a
holds-if own other false p q a b = b

pub holds-settled : (own other : End) (p : Peering) → Holds own other p → Holds own other (settled p)
holds-settled own other p h = holds-if own other (is_later p.state && is_done p.outbox) (disconnecting p p.info) p (holds-stops own other p (disconnecting p p.info) (stops-disconnecting p p.info) h) h

-- a change of fields that no link shows
pub quiet-out : (p q : Peering) → q.state ≡ p.state → q.terms.mtu ≡ p.terms.mtu → q.outbox.senders ≡ p.outbox.senders → QuietOut p q
quiet-out p q s m o = record { sends = ap sends_in s; mtu = m; senders = o }

-- an acknowledgement is queued that is none of a data channel
pub numbers-push : (channel : ℕ) (xs : List Acknowledgement) (a : Acknowledgement) → a.channel ≢ channel → numbers_on channel (xs ++ a ∷ []) ≡ numbers_on channel xs
numbers-push channel [] a n = let f : (a.channel == channel) ≡ false = grind (arith, nat_tests) in ap (λ b. cond b (a.number ∷ []) []) f
numbers-push channel (x ∷ xs) a n = ap (λ l. cond (x.channel == channel) (x.number ∷ l) l) (numbers-push channel xs a n)

pub numbers-push_own : (channel : ℕ) (xs : List Acknowledgement) (a : Acknowledgement) → a.channel ≡ channel → numbers_on channel (xs ++ a ∷ []) ≡ numbers_on channel xs ++ a.number ∷ []
numbers-push_own channel [] a e = let t : (a.channel == channel) ≡ true = grind (arith, nat_tests) in ap (λ b. cond b (a.number ∷ []) []) t
numbers-push_own channel (x ∷ xs) a e =
    let h = numbers-push_own channel xs a e in
    elim (x.channel == channel) as (λ b. cond b (x.number ∷ numbers_on channel (xs ++ a ∷ [])) (numbers_on channel (xs ++ a ∷ [])) ≡ cond b (x.number ∷ numbers_on channel xs) (numbers_on channel xs) ++ a.number ∷ []) [
      | true ↦ ap (λ l. x.number ∷ l) h
      | false ↦ h
    ]

holds-answer : (own other : End) (p : Peering) (a : Acknowledgement) → 255 ≤ a.channel → Holds own other p → Holds own other (record p { outbox = with_acknowledgement p.outbox a })
holds-answer own other p a far h =
    let q : Peering = record p { outbox = with_acknowledgement p.outbox a } in
    holds-quiet own other p q (quiet-out p q refl refl refl)
    (record { dispatches = refl; receivers = refl; untaken = λ i few. refl; numbers = λ i few. numbers-push i p.outbox.acknowledgements a (λ e. omega arith) }) h

pub outcome-if : (own other : End) (b : Bool) (x y : Outcome) → (b ≡ true → Holds own other x.after) → Holds own other y.after → Holds own other (cond b x y).after
outcome-if own other true x y a h = a refl
outcome-if own other false x y a h = h

-- a command that isn't sequenced data is acknowledged
pub holds-answered : (own other : End) (p : Peering) (m : Message) (sent : Option ℕ) (may : Bool) → (m.head.acknowledge ≡ true → 255 ≤ m.head.channel) → Holds own other p → Holds own other (answered p m sent may).after
holds-answered own other p m sent may far h =
    outcome-if own other (m.head.acknowledge && may && is_answered_in p.state m.body) (answered_at p m.head sent) (record { stop = None; after = p })
    (λ t. by sent (far (and-left m.head.acknowledge may (and-left (m.head.acknowledge && may) (is_answered_in p.state m.body) t)))) h
  where
    by : (o : Option ℕ) → 255 ≤ m.head.channel → Holds own other (answered_at p m.head o).after
    by None high = h
    by (Some time) high = holds-answer own other p (record { channel = m.head.channel; number = m.head.number; time = time }) high h

-- an acknowledgement comes
holds-sampled : (own other : End) (p : Peering) (grown : Option Acknowledged) (now time : ℕ) → Holds own other p → Holds own other (sampled (record p { outbox = with_growth p.outbox grown }) now time)
holds-sampled own other p grown now time h =
    let q : Peering = sampled (record p { outbox = with_growth p.outbox grown }) now time in
    holds-quiet own other p q (quiet-out p q refl refl refl) (record { dispatches = refl; receivers = refl; untaken = λ i few. refl; numbers = λ i few. refl }) h

holds-with_answer : (own other : End) (p : Peering) (s : PeerState) (what : Control) → p.state ≡ s → Holds own other p → Holds own other (with_answer s what p)
holds-with_answer own other p state.Answering (control.VerifyConnect verify) e h =
    let q : Peering = record p { state = state.Connected; greeting = Some p.info } in
    holds-quiet own other p q (record { sends = sym (ap sends_in e); mtu = refl; senders = refl })
    (record { dispatches = sym (ap dispatches_in e); receivers = refl; untaken = λ i few. refl; numbers = λ i few. refl }) h
holds-with_answer own other p state.Disconnecting (control.Disconnect info) e h = holds-stops own other p (ended p AskedHere 0) (stops-ended p AskedHere 0) h
holds-with_answer own other p s what e h = h

pub holds-acknowledged : (own other : End) (p : Peering) (put : Put) (now number told : ℕ) → Has other.log put → put.message.body ≡ acknowledge number told → (put.message.head.channel < 255 → is_late (sent_on put.message.head.channel own) put.sent_then number ≡ false)
    → Holds own other p → Holds own other (on_acknowledge p now put.message.head.channel number told)
holds-acknowledged own other p put now number told logged body late h = by-state (is_connecting p.state)
  where
    time : ℕ
    time = meant_time told (p.offset % 2 ^ 16)

    q : Peering
    q = sampled (record p { outbox = with_growth (after_acknowledgement p.outbox put.message.head.channel number) (told_by p.outbox put.message.head.channel number time) }) now time

    k : Holds own other q
    k = holds-sampled own other (record p { outbox = after_acknowledgement p.outbox put.message.head.channel number }) (told_by p.outbox put.message.head.channel number time) now time
        (both-acknowledged (with_peer own p) other p put number told refl logged body late h)

    by : (x : Matched) → Holds own other (on_match x p q)
    by matched.Nothing = h
    by matched.Data = holds-settled own other q k
    by (matched.Control what) = holds-settled own other (with_answer p.state what q) (holds-with_answer own other q p.state what refl k)

    by-state : (b : Bool) → Holds own other (cond b p (accepted p now put.message.head.channel number time))
    by-state true = h
    by-state false = by (matched_by p.outbox put.message.head.channel number time)

-- DISCONNECT comes
holds-last : (own other : End) (p : Peering) (b : Bool) (info : ℕ) → Holds own other p → Holds own other (on_last_disconnect p b info)
holds-last own other p true info h = holds-stops own other p (on_last_disconnect p true info) (record { sends = refl; dispatches = refl; mtu = refl; senders = refl; untaken = inl refl; numbers = λ i few. refl }) h
holds-last own other p false info h = holds-stops own other p (ended p AskedThere info) (stops-ended p AskedThere info) h

pub holds-disconnect : (own other : End) (p : Peering) (s : PeerState) (b : Bool) (info : ℕ) → Holds own other p → Holds own other (on_disconnect_in s p b info)
holds-disconnect own other p state.Connected b info h = holds-last own other p b info h
holds-disconnect own other p state.DisconnectLater b info h = holds-last own other p b info h
holds-disconnect own other p state.Connecting b info h = holds-stops own other p (ended p AskedThere info) (stops-ended p AskedThere info) h
holds-disconnect own other p state.Disconnecting b info h = holds-stops own other p (ended p AskedThere info) (stops-ended p AskedThere info) h
holds-disconnect own other p state.Answering b info h = holds-stops own other p (freed p) (stops-freed p) h
holds-disconnect own other p state.Free b info h = h
holds-disconnect own other p state.AckDisconnect b info h = h
holds-disconnect own other p state.Ended b info h = h
holds-disconnect own other p state.Parting b info h = h

-- an unsequenced packet comes
pub unsequenced-end : (channel : ℕ) (qs : List Packet) (q : Packet) → q.flags ≡ 2 → in_sequence channel (qs ++ q ∷ []) ≡ in_sequence channel qs
unsequenced-end channel qs q e =
    let none : in_sequence channel (q ∷ []) ≡ [] = by (q.channel == channel) in
    in_sequence-append channel qs (q ∷ []) ∙ ap (λ l. in_sequence channel qs ++ l) none ∙ append-nil (in_sequence channel qs)
  where
    two : (q.flags == 2) ≡ true
    two = ap (λ n. n == 2) e

    d : Dispatched
    d = record { flags = q.flags; body = q.body }

    by : (b : Bool) → cond (b && not (q.flags == 2)) (d ∷ []) [] ≡ []
    by true = ap (λ t. cond (not t) (d ∷ []) []) two
    by false = refl

pub holds-inbox : (own other : End) (p : Peering) (a : DataEffect) → ((a.after ≡ p.inbox) ⊎ ((channel group : ℕ) × (payload : List ℕ) × (a.after ≡ unsequenced_taken p.inbox channel group payload))) → Holds own other p → Holds own other (record p { inbox = a.after })
holds-inbox own other p a (inl e) h = subst (λ (b : Inbox). Holds own other (record p { inbox = b })) (sym e) h
holds-inbox own other p a (inr u) h =
    let q : Peering = record p { inbox = unsequenced_taken p.inbox u.0 u.1 u.2 } in
    subst (λ (b : Inbox). Holds own other (record p { inbox = b })) (sym u.3)
    (holds-quiet own other p q (quiet-out p q refl refl refl)
    (record { dispatches = refl; receivers = refl; untaken = λ i few. unsequenced-end i p.inbox.untaken (record { channel = u.0; flags = 2; body = u.2 }) refl; numbers = λ i few. refl }) h)
