-- What an end keeps of its own, whatever happens: its peer is tidy, its log is clean, and its packets are of channels below 255.
use Rattle.std.proofs.Common.{◌≡◌, ℕ, true, false, ltb, leb, ◌||◌, List, [], ◌∷◌, ◌++◌, refl, sym, subst, ◌∙◌, Option, Some, None, length}
use Rattle.std.specs.Prelude.{min, IsTrue}
use Rattle.enet_codec.specs.declared.packet.Packet.{Packet}
use Rattle.enet_codec.specs.declared.command.Offer.{Offer}
use Rattle.enet_connect.specs.declared.server.Server.{Server}
use Rattle.enet_connect.specs.Terms.{is_channel_count}
use Rattle.enet_fragment.specs.Cutting.{piece_count}
use Rattle.enet_sender.specs.CommandChoice.{fragment_limit}
use Rattle.enet_sender.specs.CommandChoice as command_choice
use Rattle.enet_peer.specs.Peering.{Peering, answering}
use Rattle.enet_peer.specs.declared.parts.Limits.{Limits}
use Rattle.enet_peer.specs.declared.parts.Offsets.{Offsets}
use Rattle.enet_peer.specs.declared.parts.PeerEvent.{PeerEvent}
use Rattle.enet_peer.specs.declared.parts.PeerEvent.TheVariants as told
use Rattle.enet_peer.specs.declared.parts.PeerState.TheVariants as state
use Rattle.enet_peer.specs.Calls.{next_event, is_connected, submitted, moved}
use Rattle.enet_peer.specs.CommandEffect.{obeyed}
use Rattle.enet_peer.specs.Endings.{freed}
use Rattle.enet_peer.specs.Refusing.{heeded, told_again}
use Rattle.law_connection.specs.Connection.{End, packets_of, in_sequence}
use Rattle.law_connection.specs.Steps.{Event, Answer, Submit, Emit, Come, Tick, Take, Disconnect, Set, GiveWay, TellAgain, Happens, with_peer, with_submission, with_setting}
use Rattle.law_connection.specs.Invariant.{IsTidy, AreLow, IsLow, PeerFits, IsFit}
use Rattle.law_connection.proofs.PeerChanges.{kept-moved, kept-left, kept-set, kept-emitted, kept-given_way, kept-heeded, kept-told_again}
use Rattle.law_connection.proofs.TidyPeers.{tidies, tidy-submitted}
use Rattle.law_connection.proofs.CleanLogs.{clean-same, clean-emitted}
use Rattle.law_connection.proofs.LowChannels.{lows, low-append, low-new}
use Rattle.law_connection.proofs.Beginnings.{tidy-answering, granted-few}
use Rattle.law_connection.proofs.Moves.{packets-push}
use Rattle.law_connection.proofs.Events.{accepted, took}
use Rattle.law_connection.proofs.InboxMoves.{in_sequence-append}

pub fit-peer : (e : End) (p : Peering) → e.peer ≡ Some p → IsFit e → IsTidy e.submitted p × IsLow p
fit-peer e p is h = subst (λ (o : Option Peering). PeerFits e.submitted o) is h.peer

-- another peer
fit-with : (own : End) (q : Peering) → IsFit own → IsTidy own.submitted q → IsLow q → IsFit (with_peer own q)
fit-with own q h t l = record { clean = clean-same own (with_peer own q) refl h.clean; taken = h.taken; peer = (t, l) }

-- a submission touches no inbox
low-submitted : (p : Peering) (channel : ℕ) (q : command_choice.Packet) → IsLow p → IsLow (submitted p channel q)
low-submitted p channel q h = record { channels = h.channels; untaken = h.untaken }

low-parts : (xs ys : List Packet) → AreLow (xs ++ ys) → AreLow xs × AreLow ys
low-parts xs ys h = (
  (λ channel far. parts-left (in_sequence channel xs) (in_sequence channel ys) (sym (in_sequence-append channel xs ys) ∙ h channel far)),
  (λ channel far. parts-right (in_sequence channel xs) (in_sequence channel ys) (sym (in_sequence-append channel xs ys) ∙ h channel far)),
)
  where
    parts-left : {X : Type 0} (a b : List X) → a ++ b ≡ [] → a ≡ []
    parts-left [] b e = refl
    parts-left (x ∷ a) b e = absurd (cc)

    parts-right : {X : Type 0} (a b : List X) → a ++ b ≡ [] → b ≡ []
    parts-right [] b e = e
    parts-right (x ∷ a) b e = absurd (cc)

-- the user takes an event
fit-took : (own : End) (p q : Peering) (e : PeerEvent) → own.peer ≡ Some p → next_event p ≡ Some (record { event = e; after = q }) → IsFit own → IsFit (record own { peer = Some q; events = own.events ++ e ∷ [] })
fit-took own p q e is next h =
    let f = fit-peer own p is h in
    let t = f.0 in
    let l = f.1 in
    took (λ q e. IsFit (record own { peer = Some q; events = own.events ++ e ∷ [] })) p q e next
    (λ info g. made (record p { greeting = None }) (told.Connect info)
    (record { places = t.places; few = t.few; receivers = t.receivers; young = t.young; big = t.big }) (record { channels = l.channels; untaken = l.untaken }) (λ channel far. refl))
    (λ x rest g u. let a = low-parts (x ∷ []) rest (subst AreLow u l.untaken) in
    made (record p { inbox = record p.inbox { untaken = rest } }) (told.Receive x)
    (record { places = t.places; few = t.few; receivers = t.receivers; young = t.young; big = t.big }) (record { channels = l.channels; untaken = a.1 }) a.0)
    (λ g u at. made (record p { state = state.Free }) (told.Disconnect p.info)
    (record { places = t.places; few = t.few; receivers = t.receivers; young = λ y. absurd (let x : false ≡ true = y in cc); big = λ y. absurd (let x : false ≡ true = y in cc) })
    (record { channels = l.channels; untaken = l.untaken }) (λ channel far. refl))
  where
    made : (q : Peering) (e : PeerEvent) → IsTidy own.submitted q → IsLow q → AreLow (packets_of (e ∷ [])) → IsFit (record own { peer = Some q; events = own.events ++ e ∷ [] })
    made q e t l new = record {
      clean = clean-same own (record own { peer = Some q; events = own.events ++ e ∷ [] }) refl h.clean;
      taken = subst AreLow (sym (packets-push own.events e)) (low-append (packets_of own.events) (packets_of (e ∷ [])) h.taken new);
      peer = (t, l);
    }

-- a server that answers
fit-answered : (own : End) (now : ℕ) (offsets : Offsets) (offer : Offer) (server : Server) (limits : Limits) → IsTrue (is_channel_count offer.channels) → own.peer ≡ None → IsFit own → IsFit (with_peer own (answering now offsets offer server limits))
fit-answered own now offsets offer server limits count none h =
    let unsubmitted : own.submitted ≡ [] = subst (λ (o : Option Peering). PeerFits own.submitted o) none h.peer in
    fit-with own (answering now offsets offer server limits) h (subst (λ (qs : List Packet). IsTidy qs (answering now offsets offer server limits)) (sym unsubmitted) (tidy-answering now offsets offer server limits count))
    (low-new (answering now offsets offer server limits) limits.max_packet (min offer.channels server.channels) (granted-few offer.channels server.channels count) refl refl)

pub fit-happens : (own other new : End) (e : Event) → IsFit own → Happens own other e new → IsFit new
fit-happens own other new (Answer put offer now offsets server limits) f h = subst IsFit (sym h.4) (fit-answered own now offsets offer server limits h.3 h.0 f)
fit-happens own other new (Submit q) f h =
    let p : Peering = h.0 in
    let a = accepted (is_connected p.state) (leb (length p.outbox.senders) q.channel) (ltb p.limits.max_packet (length q.body) || ltb fragment_limit (piece_count (length q.body) p.terms.mtu)) h.2 in
    let k = fit-peer own p h.1 f in
    subst IsFit (sym h.3) (record {
      clean = clean-same own (with_submission own p q) refl f.clean;
      taken = f.taken;
      peer = (tidy-submitted own.submitted (own.submitted ++ q ∷ []) p q.channel (record { flags = q.flags; body = q.body }) a.0 k.0, low-submitted p q.channel (record { flags = q.flags; body = q.body }) k.1);
    })
fit-happens own other new (Emit now) f h =
    let p : Peering = h.0 in let k = fit-peer own p h.1 f in
    let t = k.0 in
    subst IsFit (sym h.2) (record {
      clean = clean-emitted own other p now t.places t.few f.clean;
      taken = f.taken;
      peer = (kept-emitted (IsTidy own.submitted) (tidies own.submitted) p now t, kept-emitted IsLow lows p now k.1);
    })
fit-happens own other new (Come put now sent) f h =
    let p : Peering = h.0 in let k = fit-peer own p h.1 f in
    let q : Peering = (heeded h.3 p now sent put.message).after in
    subst IsFit (sym h.4) (fit-with own q f (kept-heeded (IsTidy own.submitted) (tidies own.submitted) h.3 p put.message.head now sent put.message.body k.0) (kept-heeded IsLow lows h.3 p put.message.head now sent put.message.body k.1))
fit-happens own other new (Tick now) f h =
    let p : Peering = h.0 in let k = fit-peer own p h.1 f in
    subst IsFit (sym h.3) (fit-with own (moved h.2 p now) f (kept-moved (IsTidy own.submitted) (tidies own.submitted) h.2 p now k.0) (kept-moved IsLow lows h.2 p now k.1))
fit-happens own other new Take f h = subst IsFit (sym h.5) (fit-took own h.0 h.1 h.2 h.3 h.4 f)
fit-happens own other new (Disconnect way info) f h =
    let p : Peering = h.0 in let k = fit-peer own p h.2 f in
    subst IsFit (sym h.4) (fit-with own h.1 f (kept-left (IsTidy own.submitted) (tidies own.submitted) p h.1 way info h.3 k.0) (kept-left IsLow lows p h.1 way info h.3 k.1))
fit-happens own other new (Set setting) f h =
    let p : Peering = h.0 in let k = fit-peer own p h.1 f in
    subst IsFit (sym h.3) (fit-with own (with_setting setting p) f (kept-set (IsTidy own.submitted) (tidies own.submitted) p setting h.2 k.0) (kept-set IsLow lows p setting h.2 k.1))
fit-happens own other new GiveWay f h =
    let p : Peering = h.0 in let k = fit-peer own p h.1 f in
    subst IsFit (sym h.3) (fit-with own (freed p) f (kept-given_way (IsTidy own.submitted) (tidies own.submitted) p k.0) (kept-given_way IsLow lows p k.1))
fit-happens own other new TellAgain f h =
    let p : Peering = h.0 in let k = fit-peer own p h.1 f in
    subst IsFit (sym h.3) (fit-with own (told_again p) f (kept-told_again (IsTidy own.submitted) (tidies own.submitted) p h.2 k.0) (kept-told_again IsLow lows p h.2 k.1))
