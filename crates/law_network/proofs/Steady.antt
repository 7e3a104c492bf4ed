-- A peer whose connection stands, or stood, keeps the mtu of its datagrams.
use Rattle.std.proofs.Common.{◌≡◌, ℕ, ltb, leb, ◌||◌, Bool, true, false, cond, inl, inr, List, [], ◌∷◌, length, refl, sym, ap, subst, ◌∙◌, Option, Some, None, slice_get}
use Rattle.enet_codec.specs.declared.packet.Packet.{Packet}
use Rattle.enet_fragment.specs.Cutting.{piece_count}
use Rattle.enet_sender.specs.CommandChoice.{fragment_limit}
use Rattle.enet_sender.specs.CommandChoice as command_choice
use Rattle.enet_sender.specs.Due.{SendingEnd}
use Rattle.enet_outbox.specs.Outbox.{is_unsequenced, with_unsequenced, with_sequenced}
use Rattle.enet_outbox.specs.Emission.{filled}
use Rattle.enet_peer.specs.declared.parts.PeerEvent.{PeerEvent}
use Rattle.enet_peer.specs.declared.parts.PeerState.{PeerState}
use Rattle.enet_peer.specs.declared.parts.PeerState.TheVariants as state
use Rattle.enet_peer.specs.Peering.{Peering}
use Rattle.enet_peer.specs.CommandEffect.{obeyed}
use Rattle.enet_peer.specs.Calls.{is_connected, submission_refusal, submitted, pace_of, gone_on, moved, next_event}
use Rattle.law_connection.specs.Connection.{End}
use Rattle.law_connection.specs.Invariant.{is_young}
use Rattle.law_connection.specs.Steps.{Event, Answer, Submit, Emit, Come, Tick, Take, Disconnect, Set, Happens, with_setting, GiveWay, TellAgain}
use Rattle.law_connection.proofs.Events.{accepted, took}
use Rattle.enet_peer.specs.Endings.{freed}
use Rattle.enet_peer.specs.Refusing.{heeded, told_again}
use Rattle.law_connection.proofs.PeerChanges.{Core, Changes, kept-moved, kept-left, kept-set, kept-emitted, kept-given_way, kept-heeded, kept-told_again}
use Rattle.law_network.specs.Shown.{RunsAt, GoesBy}

-- a peer whose connection has begun to stand, with this mtu
pub record IsSteady (m : ℕ) (p : Peering) : Type 0 where
  pub old : is_young p.state ≡ false
  pub same : p.terms.mtu ≡ m

steadies : (m : ℕ) → Changes (IsSteady m)
steadies m = record {
  quiet = λ p q e h. record { old = ap (λ (c : Core). is_young c.state) e ∙ h.old; same = ap (λ (c : Core). c.mtu) e ∙ h.same };
  controls = λ p what plain on h. record { old = h.old; same = h.same };
  ends = λ p why info here h. record { old = refl; same = h.same };
  cuts = λ p why now gone over h. record { old = refl; same = h.same };
  frees = λ p h. record { old = refl; same = h.same };
  parts = λ p info h. record { old = refl; same = h.same };
  disconnects = λ p info up h. record { old = refl; same = h.same };
  answers = λ p info up h. record { old = refl; same = h.same };
  waits = λ p info on h. record { old = refl; same = h.same };
  greets = λ p e h. record { old = refl; same = h.same };
  welcomes = λ p v terms e big word h. absurd (let y : true ≡ false = sym (ap is_young e) ∙ h.old in cc);
  acknowledges = λ p j number here h. record { old = h.old; same = h.same };
  marks = λ p tick h. record { old = h.old; same = h.same };
  refuses = λ p at h. record { old = h.old; same = h.same };
  holds_back = λ p tick at h. record { old = h.old; same = h.same };
  gives_way = λ p on h. record { old = h.old; same = h.same };
  takes = λ p j r c on there h. record { old = h.old; same = h.same };
  takes_unsequenced = λ p j group payload on h. record { old = h.old; same = h.same };
  puts_control = λ p now timeout n due h. record { old = h.old; same = h.same };
  puts_data = λ p k occasion s n there due h. record { old = h.old; same = h.same };
  drops_data = λ p k occasion s n there due h. record { old = h.old; same = h.same };
}

steady-submitted : (m : ℕ) (p : Peering) (channel : ℕ) (q : command_choice.Packet) → IsSteady m p → IsSteady m (submitted p channel q)
steady-submitted m p channel q h = by (is_unsequenced p.terms.mtu q)
  where
    at : (o : Option SendingEnd) → IsSteady m (record p { outbox = with_sequenced p.outbox p.terms.mtu channel q o })
    at None = record { old = h.old; same = h.same }
    at (Some s) = record { old = h.old; same = h.same }

    by : (b : Bool) → IsSteady m (record p { outbox = cond b (with_unsequenced p.outbox channel q) (with_sequenced p.outbox p.terms.mtu channel q (slice_get p.outbox.senders channel)) })
    by true = record { old = h.old; same = h.same }
    by false = at (slice_get p.outbox.senders channel)

steady-took : (m : ℕ) (p q : Peering) (e : PeerEvent) → next_event p ≡ Some (record { event = e; after = q }) → IsSteady m p → IsSteady m q
steady-took m p q e next h = took (λ (q : Peering) (e : PeerEvent). IsSteady m q) p q e next
    (λ info g. record { old = h.old; same = h.same })
    (λ x rest g u. record { old = h.old; same = h.same })
    (λ g u at. record { old = refl; same = h.same })

-- an end whose peer, which it has, is steady
SteadyEnd : ℕ → End → Type 0
SteadyEnd m e = (p : Peering) × (e.peer ≡ Some p) × IsSteady m p

same-some : (p q : Peering) → ◌≡◌ {A = Option Peering} (Some p) (Some q) → p ≡ q
same-some p q e = cc

steady-peer : (m : ℕ) (own : End) (p : Peering) → own.peer ≡ Some p → SteadyEnd m own → IsSteady m p
unfolding SteadyEnd
steady-peer m own p is s = subst (IsSteady m) (same-some s.0 p (sym s.1 ∙ is)) s.2

steady-happens : (m : ℕ) (own far new : End) (e : Event) → SteadyEnd m own → Happens own far e new → SteadyEnd m new
unfolding SteadyEnd
steady-happens m own far new (Answer put offer now offsets server limits) s x = absurd (let y : ◌≡◌ {A = Option Peering} None (Some s.0) = sym x.0 ∙ s.1 in cc)
steady-happens m own far new (Submit q) s x =
    (submitted x.0 q.channel (record { flags = q.flags; body = q.body }), ap (λ (z : End). z.peer) x.3, steady-submitted m x.0 q.channel (record { flags = q.flags; body = q.body }) (steady-peer m own x.0 x.1 s))
steady-happens m own far new (Emit now) s x =
    (gone_on (record x.0 { outbox = (filled (pace_of x.0 now) x.0.outbox).outbox }), ap (λ (z : End). z.peer) x.2, kept-emitted (IsSteady m) (steadies m) x.0 now (steady-peer m own x.0 x.1 s))
steady-happens m own far new (Come put now sent) s x =
    ((heeded x.3 x.0 now sent put.message).after, ap (λ (z : End). z.peer) x.4, kept-heeded (IsSteady m) (steadies m) x.3 x.0 put.message.head now sent put.message.body (steady-peer m own x.0 x.1 s))
steady-happens m own far new (Tick now) s x = (moved x.2 x.0 now, ap (λ (z : End). z.peer) x.3, kept-moved (IsSteady m) (steadies m) x.2 x.0 now (steady-peer m own x.0 x.1 s))
steady-happens m own far new Take s x = (x.1, ap (λ (z : End). z.peer) x.5, steady-took m x.0 x.1 x.2 x.4 (steady-peer m own x.0 x.3 s))
steady-happens m own far new (Disconnect way info) s x = (x.1, ap (λ (z : End). z.peer) x.4, kept-left (IsSteady m) (steadies m) x.0 x.1 way info x.3 (steady-peer m own x.0 x.2 s))
steady-happens m own far new (Set setting) s x = (with_setting setting x.0, ap (λ (z : End). z.peer) x.3, kept-set (IsSteady m) (steadies m) x.0 setting x.2 (steady-peer m own x.0 x.1 s))
steady-happens m own far new GiveWay s x = (freed x.0, ap (λ (z : End). z.peer) x.3, kept-given_way (IsSteady m) (steadies m) x.0 (steady-peer m own x.0 x.1 s))
steady-happens m own far new TellAgain s x = (told_again x.0, ap (λ (z : End). z.peer) x.3, kept-told_again (IsSteady m) (steadies m) x.0 x.2 (steady-peer m own x.0 x.1 s))

steady-runs : (m : ℕ) (es : List Event) (own far new : End) → RunsAt es own far new → SteadyEnd m own → SteadyEnd m new
steady-runs m [] own far new r s = subst (SteadyEnd m) r s
steady-runs m (e ∷ es) own far new r s = steady-runs m es r.0 far new r.2 (steady-happens m own far r.0 e s r.1)

-- events that submit nothing leave it
pub mtu-stays : (m : ℕ) (es : List Event) (own far new : End) (p q : Peering) → own.peer ≡ Some p → RunsAt es own far new → new.peer ≡ Some q → new.submitted ≡ own.submitted → GoesBy own.submitted m p → GoesBy new.submitted m q
unfolding SteadyEnd
mtu-stays m es own far new p q is runs has same (inl none) = inl (same ∙ none)
mtu-stays m es own far new p q is runs has same (inr k) =
    let s = steady-peer m new q has (steady-runs m es own far new runs (p, is, record { old = k.0; same = k.1 })) in
    inr (s.old, s.same)

-- a packet is submitted to no other peer
connected-old : (s : PeerState) → is_connected s ≡ true → is_young s ≡ false
connected-old state.Connected e = refl
connected-old _ e = absurd (cc)

pub mtu-submitted : (m : ℕ) (p r : Peering) (channel : ℕ) (q : command_choice.Packet) (qs : List Packet) → submission_refusal p channel (length q.body) ≡ None → p.terms.mtu ≡ m → submitted p channel q ≡ r → GoesBy qs m r
mtu-submitted m p r channel q qs fits same is =
    let a = accepted (is_connected p.state) (leb (length p.outbox.senders) channel) (ltb p.limits.max_packet (length q.body) || ltb fragment_limit (piece_count (length q.body) p.terms.mtu)) fits in
    let s = subst (IsSteady m) is (steady-submitted m p channel q (record { old = connected-old p.state a.0; same = same })) in
    inr (s.old, s.same)
