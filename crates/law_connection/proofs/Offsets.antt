-- What a peer adds to its sent times stays as it was, whatever happens to it.
use Rattle.std.proofs.Common.{◌≡◌, ℕ, Bool, List, [], ◌∷◌, refl, sym, ap, subst, ◌∙◌, Option, Some, None}
use Rattle.enet_codec.specs.declared.packet.Packet as codec
use Rattle.enet_codec.specs.Message.{Message}
use Rattle.enet_outbox.specs.Emission.{filled}
use Rattle.enet_peer.specs.declared.parts.PeerState.{PeerState}
use Rattle.enet_peer.specs.declared.parts.PeerState.TheVariants as state
use Rattle.enet_peer.specs.Peering.{Peering}
use Rattle.enet_peer.specs.Endings.{settled}
use Rattle.enet_peer.specs.CommandEffect.{obeyed}
use Rattle.enet_peer.specs.Calls.{Leave, AtOnce, TellsOnce, Asks, AsksLater, Refused, left, Taken, last_event, packet_event, event_after, next_event, pace_of, gone_on, moved}
use Rattle.enet_peer.specs.Refusing.{heeded}
use Rattle.law_connection.specs.Connection.{End}
use Rattle.law_connection.specs.Law.{offset_in, offset_of}
use Rattle.law_connection.specs.Steps.{Event, Answer, Submit, Emit, Come, Tick, Take, Disconnect, Set, GiveWay, TellAgain, Happens, leave_by, Setting, Bandwidth, Throttle, ThrottleLimit, PingInterval, Timeout, with_setting}
use Rattle.law_connection.proofs.PeerChanges.{Core, Changes, kept-settled, kept-gone_on, kept-moved, kept-emitted, kept-heeded, kept-obeyed, kept-told_again}

abbrev pub Adds : ℕ → Peering → Type 0
Adds n p = p.offset ≡ n

-- each single change keeps it
pub adds : (n : ℕ) → Changes (Adds n)
adds n = record {
  quiet = λ p q e h. ap (λ (c : Core). c.offset) e ∙ h;
  controls = λ p what plain on h. h;
  ends = λ p why info here h. h;
  cuts = λ p why now gone over h. h;
  frees = λ p h. h;
  parts = λ p info h. h;
  disconnects = λ p info up h. h;
  answers = λ p info up h. h;
  waits = λ p info on h. h;
  greets = λ p e h. h;
  welcomes = λ p v terms e big word h. h;
  acknowledges = λ p j number here h. h;
  marks = λ p tick h. h;
  refuses = λ p at h. h;
  holds_back = λ p tick at h. h;
  gives_way = λ p on h. h;
  takes = λ p j r c on there h. h;
  takes_unsequenced = λ p j group payload on h. h;
  puts_control = λ p now timeout n due h. h;
  puts_data = λ p k occasion s n there due h. h;
  drops_data = λ p k occasion s n there due h. h;
}

-- a command comes
pub offset-obeyed : (p : Peering) (now : ℕ) (sent : Option ℕ) (m : Message) → (obeyed p now sent m).after.offset ≡ p.offset
offset-obeyed p now sent m = kept-obeyed (Adds p.offset) (adds p.offset) p m.head now sent m.body refl

-- a datagram goes
pub offset-gone_on : (p : Peering) → (gone_on p).offset ≡ p.offset
offset-gone_on p = kept-gone_on (Adds p.offset) (adds p.offset) p p.state refl refl

pub offset-emitted : (p : Peering) (now : ℕ) → (gone_on (record p { outbox = (filled (pace_of p now) p.outbox).outbox })).offset ≡ p.offset
offset-emitted p now = kept-emitted (Adds p.offset) (adds p.offset) p now refl

-- the clock
pub offset-moved : (short : Bool) (p : Peering) (now : ℕ) → (moved short p now).offset ≡ p.offset
offset-moved short p now = kept-moved (Adds p.offset) (adds p.offset) short p now refl

pub offset-heeded : (full : Bool) (p : Peering) (now : ℕ) (sent : Option ℕ) (m : Message) → (heeded full p now sent m).after.offset ≡ p.offset
offset-heeded full p now sent m = kept-heeded (Adds p.offset) (adds p.offset) full p m.head now sent m.body refl

-- the user takes an event

abbrev TakenAdds : ℕ → Option Taken → Type 0
TakenAdds n None = n ≡ n
TakenAdds n (Some t) = t.after.offset ≡ n

last-adds : (p : Peering) (s : PeerState) → TakenAdds p.offset (last_event s p)
last-adds p state.Ended = refl
last-adds p s = refl

packet-adds : (p : Peering) (qs : List codec.Packet) → TakenAdds p.offset (packet_event p qs)
packet-adds p [] = last-adds p p.state
packet-adds p (q ∷ rest) = refl

after-adds : (p : Peering) (greeting : Option ℕ) → TakenAdds p.offset (event_after p greeting)
after-adds p None = packet-adds p p.inbox.untaken
after-adds p (Some info) = refl

pub offset-taken : (p : Peering) (t : Taken) → next_event p ≡ Some t → t.after.offset ≡ p.offset
offset-taken p t e = subst (TakenAdds p.offset) e (after-adds p p.greeting)

-- the user disconnects

some-adds : (p x q : Peering) → x.offset ≡ p.offset → Some x ≡ Some q → q.offset ≡ p.offset
some-adds p x q h e = (let same : x ≡ q = cc in subst (Adds p.offset) same h)

pub offset-left : (leave : Leave) (p q : Peering) (info : ℕ) → left leave p info ≡ Some q → q.offset ≡ p.offset
offset-left AtOnce p q info e = some-adds p _ q refl e
offset-left TellsOnce p q info e = some-adds p _ q refl e
offset-left Asks p q info e = some-adds p _ q refl e
offset-left AsksLater p q info e =
    let waiting : Peering = record p { state = state.DisconnectLater; info = info } in
    some-adds p (settled waiting) q (kept-settled (Adds p.offset) (adds p.offset) waiting refl) e
offset-left Refused p q info e = absurd (cc)

-- the user sets something
pub offset-set : (p : Peering) (s : Setting) → (with_setting s p).offset ≡ p.offset
offset-set p (Bandwidth incoming outgoing) = refl
offset-set p (Throttle interval acceleration deceleration) = refl
offset-set p (ThrottleLimit limit) = refl
offset-set p (PingInterval ms) = refl
offset-set p (Timeout limit minimum maximum) = refl

-- whatever happens at an end that has a peer

here : (own : End) (p q : Peering) → own.peer ≡ Some p → own.peer ≡ Some q → q.offset ≡ p.offset
here own p q is is' = ap offset_in (sym is' ∙ is)

pub offset-happens : (own other new : End) (p : Peering) (e : Event) → own.peer ≡ Some p → Happens own other e new → offset_of new ≡ p.offset
offset-happens own other new p (Answer put offer now offsets server limits) is h = absurd (let none : None ≡ Some p = sym h.0 ∙ is in cc)
offset-happens own other new p (Submit q) is h = ap offset_of h.3 ∙ here own p h.0 is h.1
offset-happens own other new p (Emit now) is h = ap offset_of h.2 ∙ offset-emitted h.0 now ∙ here own p h.0 is h.1
offset-happens own other new p (Come put now sent) is h = ap offset_of h.4 ∙ offset-heeded h.3 h.0 now sent put.message ∙ here own p h.0 is h.1
offset-happens own other new p (Tick now) is h = ap offset_of h.3 ∙ offset-moved h.2 h.0 now ∙ here own p h.0 is h.1
offset-happens own other new p Take is h = ap offset_of h.5 ∙ offset-taken h.0 (record { event = h.2; after = h.1 }) h.4 ∙ here own p h.0 is h.3
offset-happens own other new p (Disconnect way info) is h = ap offset_of h.4 ∙ offset-left (leave_by way h.0.state) h.0 h.1 info h.3 ∙ here own p h.0 is h.2
offset-happens own other new p (Set setting) is h = ap offset_of h.3 ∙ offset-set h.0 setting ∙ here own p h.0 is h.1
offset-happens own other new p GiveWay is h = ap offset_of h.3 ∙ here own p h.0 is h.1
offset-happens own other new p TellAgain is h = ap offset_of h.3 ∙ kept-told_again (Adds h.0.offset) (adds h.0.offset) h.0 h.2 refl ∙ here own p h.0 is h.1
