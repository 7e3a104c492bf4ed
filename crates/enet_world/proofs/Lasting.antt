-- What a peer keeps, whatever happens at it: alone, and at its end of a connection.
use Rattle.std.proofs.Common.{◌≡◌, ℕ, ◌⊎◌, inl, inr, Bool, true, false, List, [], ◌∷◌, length, refl, sym, ap, subst, ◌∙◌, Option, Some, None, Result, Ok, Err}
use Rattle.enet_codec.specs.declared.stop.Stop.{Stop}
use Rattle.enet_codec.specs.declared.stop.Stop.TheVariants as stop
use Rattle.enet_codec.specs.Message.{Message}
use Rattle.enet_sender.specs.CommandChoice.{Packet}
use Rattle.enet_peer.specs.declared.parts.PeerEvent.{PeerEvent}
use Rattle.enet_peer.specs.declared.parts.PeerState.{PeerState}
use Rattle.enet_peer.specs.declared.parts.PeerState.TheVariants as state
use Rattle.enet_peer.specs.Peering.{Peering}
use Rattle.enet_peer.specs.CommandEffect.{Outcome, Obeys, wants_memory}
use Rattle.enet_peer.specs.Calls.{submission_refusal, is_answering, left, moved, submitted, next_event}
use Rattle.enet_peer.specs.Endings.{freed}
use Rattle.enet_peer.specs.Refusing.{heeded, is_turned_away, told_again}
use Rattle.law_connection.specs.Connection.{End}
use Rattle.law_connection.specs.Steps.{Way, leave_by, Setting, MaySet, with_setting, Happens, Event}
use Rattle.law_connection.specs.Steps as event
use Rattle.law_connection.proofs.Events.{took}
use Rattle.law_connection.proofs.PeerChanges.{Core, Changes, kept-moved, kept-left, kept-set, kept-emitted, kept-given_way, kept-heeded, kept-told_again}
use Rattle.law_network.specs.Deeds.{Deed, Alone, AllAlone, emitted}
use Rattle.law_network.specs.Deeds as deed
use Rattle.law_network.proofs.Accepting.{accepted}
use Rattle.law_network.proofs.Matching.{was-set, matches}
use Rattle.law_network.proofs.Submitting.{same-some}
use Rattle.law_network.specs.Shown.{RunsAt}

-- what a peer keeps
pub record Lasts (P : Peering → Type 0) : Type 0 where
  pub submits : (p : Peering) (channel : ℕ) (q : Packet) → submission_refusal p channel (length q.body) ≡ None → P p → P (submitted p channel q)
  pub emits : (p : Peering) (now : ℕ) → P p → P (emitted p now)
  pub comes : (full : Bool) (p : Peering) (now : ℕ) (sent : Option ℕ) (m : Message) → P p → P (heeded full p now sent m).after
  pub yields : (p : Peering) → is_answering p.state ≡ true → P p → P (freed p)
  pub tells : (p : Peering) → is_turned_away p ≡ true → P p → P (told_again p)
  pub ticks : (short : Bool) (p : Peering) (now : ℕ) → P p → P (moved short p now)
  pub takes : (p q : Peering) (e : PeerEvent) → next_event p ≡ Some (record { event = e; after = q }) → P p → P q
  pub leaves : (p q : Peering) (way : Way) (info : ℕ) → left (leave_by way p.state) p info ≡ Some q → P p → P q
  pub sets : (p : Peering) (s : Setting) → MaySet s p → P p → P (with_setting s p)

-- ---- alone
pub obeys : (P : Peering → Type 0) (answer : Result (Unit {0}) Stop) (wants : Bool) (o : Outcome) (p q : Peering) → Obeys answer wants o p q → P p → P o.after → P q
obeys P (Ok done) wants o p q a h after = subst P (sym a.1) after
obeys P (Err stop.Memory) wants o p q a h after = subst P (sym a.2) h
obeys P (Err why) wants o p q a h after = subst P (sym a.1) after

pub lasts-alone : (P : Peering → Type 0) → Lasts P → (d : Deed) (p q : Peering) → Alone d p q → P p → P q
lasts-alone P k (deed.Submit x limit (Ok done)) p q a h =
    subst P (sym a.1) (k.submits p x.channel (record { flags = x.flags; body = x.body }) (accepted limit p x.channel (record { flags = x.flags; body = x.body }) a.0) h)
lasts-alone P k (deed.Submit x limit (Err why)) p q a h = subst P (sym a.1) h
lasts-alone P k (deed.Emit now given) p q a h = subst P (sym a.1) (k.emits p now h)
lasts-alone P k (deed.Come b m answer) p q a h = obeys P answer (wants_memory p b.now b.sent m) (heeded b.full p b.now b.sent m) p q a h (k.comes b.full p b.now b.sent m h)
lasts-alone P k (deed.Tick now short) p q a h = subst P (sym a) (k.ticks short p now h)
lasts-alone P k (deed.Take None) p q a h = subst P (sym a.1) h
lasts-alone P k (deed.Take (Some e)) p q a h = k.takes p q e a h
lasts-alone P k (deed.Disconnect way info (Ok done)) p q a h = k.leaves p q way info a h
lasts-alone P k (deed.Disconnect way info (Err why)) p q a h = subst P (sym a.2) h
lasts-alone P k (deed.Set s (Ok done)) p q a h = (let set = was-set s done p q a in subst P (sym set.1) (k.sets p s set.0 h))
lasts-alone P k (deed.Set s (Err why)) p q a h = subst P (sym (matches.refused (deed.Set s (Err why)) p q a refl)) h
lasts-alone P k deed.GiveWay p q a h = subst P (sym a.1) (k.yields p a.0 h)
lasts-alone P k deed.TellAgain p q a h = subst P (sym a.1) (k.tells p a.0 h)

pub lasts-all : (P : Peering → Type 0) → Lasts P → (ds : List Deed) (p q : Peering) → AllAlone ds p q → P p → P q
lasts-all P k [] p q a h = subst P a h
lasts-all P k (d ∷ ds) p q a h = lasts-all P k ds a.0 q a.2 (lasts-alone P k d p a.0 a.1 h)

-- ---- at an end
-- the end's peer has it
abbrev pub Holds : (Peering → Type 0) → End → Type 0
Holds P e = (p : Peering) × (e.peer ≡ Some p) × P p

pub holds-here : (P : Peering → Type 0) (e : End) (p : Peering) → e.peer ≡ Some p → Holds P e → P p
holds-here P e p is h = subst P (same-some h.0 p (sym h.1 ∙ is)) h.2

held : (P : Peering → Type 0) (new after : End) (q : Peering) → new ≡ after → after.peer ≡ Some q → P q → Holds P new
held P new after q same is h = (q, ap (λ (e : End). e.peer) same ∙ is, h)

pub lasts-event : (P : Peering → Type 0) → Lasts P → (own other new : End) (e : Event) → Happens own other e new → Holds P own → Holds P new
lasts-event P k own other new (event.Answer put offer now offsets server limits) x h = absurd (let z : ◌≡◌ {A = Option Peering} None (Some h.0) = sym x.0 ∙ h.1 in cc)
lasts-event P k own other new (event.Submit q) x h =
    held P new (event.with_submission own x.0 q) (submitted x.0 q.channel (record { flags = q.flags; body = q.body })) x.3 refl (k.submits x.0 q.channel (record { flags = q.flags; body = q.body }) x.2 (holds-here P own x.0 x.1 h))
lasts-event P k own other new (event.Emit now) x h = held P new (event.with_emission own other x.0 now) (emitted x.0 now) x.2 refl (k.emits x.0 now (holds-here P own x.0 x.1 h))
lasts-event P k own other new (event.Come put now sent) x h =
    held P new (event.with_peer own (heeded x.3 x.0 now sent put.message).after) (heeded x.3 x.0 now sent put.message).after x.4 refl (k.comes x.3 x.0 now sent put.message (holds-here P own x.0 x.1 h))
lasts-event P k own other new (event.Tick now) x h = held P new (event.with_peer own (moved x.2 x.0 now)) (moved x.2 x.0 now) x.3 refl (k.ticks x.2 x.0 now (holds-here P own x.0 x.1 h))
lasts-event P k own other new event.Take x h = (x.1, ap (λ (e : End). e.peer) x.5, k.takes x.0 x.1 x.2 x.4 (holds-here P own x.0 x.3 h))
lasts-event P k own other new (event.Disconnect way info) x h = held P new (event.with_peer own x.1) x.1 x.4 refl (k.leaves x.0 x.1 way info x.3 (holds-here P own x.0 x.2 h))
lasts-event P k own other new (event.Set setting) x h = held P new (event.with_peer own (with_setting setting x.0)) (with_setting setting x.0) x.3 refl (k.sets x.0 setting x.2 (holds-here P own x.0 x.1 h))
lasts-event P k own other new event.GiveWay x h = held P new (event.with_peer own (freed x.0)) (freed x.0) x.3 refl (k.yields x.0 x.2 (holds-here P own x.0 x.1 h))
lasts-event P k own other new event.TellAgain x h = held P new (event.with_peer own (told_again x.0)) (told_again x.0) x.3 refl (k.tells x.0 x.2 (holds-here P own x.0 x.1 h))

pub lasts-run : (P : Peering → Type 0) → Lasts P → (es : List Event) (own far new : End) → RunsAt es own far new → Holds P own → Holds P new
lasts-run P k [] own far new r h = subst (Holds P) r h
lasts-run P k (e ∷ es) own far new r h = lasts-run P k es r.0 far new r.2 (lasts-event P k own far r.0 e r.1 h)

-- ---- what each change of a peer keeps, it keeps, if a submission and a take do
pub changes-last : (P : Peering → Type 0) → Changes P → ((p : Peering) (channel : ℕ) (q : Packet) → P p → P (submitted p channel q))
    → ((p q : Peering) → q.state ≡ p.state → q.outbox.control ≡ p.outbox.control → P p → P q) → ((p : Peering) → p.state ≡ state.Ended → P p → P (record p { state = state.Free })) → Lasts P
changes-last P k submits same frees = record {
  submits = λ p channel q free h. submits p channel q h;
  emits = λ p now h. kept-emitted P k p now h;
  comes = λ full p now sent m h. kept-heeded P k full p m.head now sent m.body h;
  yields = λ p answers h. kept-given_way P k p h;
  tells = λ p away h. kept-told_again P k p away h;
  ticks = λ short p now h. kept-moved P k short p now h;
  takes = λ p q e next h. took (λ r t. P r) p q e next
      (λ info g. same p (record p { greeting = None }) refl refl h)
      (λ x rest g u. same p (record p { inbox = record p.inbox { untaken = rest } }) refl refl h)
      (λ g u at. frees p at h);
  leaves = λ p q way info e h. kept-left P k p q way info e h;
  sets = λ p s may h. kept-set P k p s may h;
}

-- ---- states
-- a property of states that a peer, once it has it, keeps: none has it before the connection stands
record Falls (f : PeerState → Bool) : Type 0 where
  connecting : f state.Connecting ≡ false
  answering : f state.Answering ≡ false
  later : f state.DisconnectLater ≡ true
  asking : f state.Disconnecting ≡ true
  acknowledging : f state.AckDisconnect ≡ true
  ended : f state.Ended ≡ true
  parting : f state.Parting ≡ true
  free : f state.Free ≡ true

abbrev pub IsIn : (PeerState → Bool) → Peering → Type 0
IsIn f p = f p.state ≡ true

falls-changes : (f : PeerState → Bool) → Falls f → Changes (IsIn f)
falls-changes f k = record {
  quiet = λ p q e h. ap (λ (c : Core). f c.state) e ∙ h;
  controls = λ p what plain on h. h;
  ends = λ p why info here h. k.ended;
  cuts = λ p why now gone over h. k.ended;
  frees = λ p h. k.free;
  parts = λ p info h. k.parting;
  disconnects = λ p info up h. k.asking;
  answers = λ p info up h. k.acknowledging;
  waits = λ p info on h. k.later;
  greets = λ p e h. absurd (let z : true ≡ false = sym h ∙ ap f e ∙ k.answering in cc);
  welcomes = λ p v terms e big word h. absurd (let z : true ≡ false = sym h ∙ ap f e ∙ k.connecting in cc);
  acknowledges = λ p j number here h. h;
  marks = λ p tick h. h;
  refuses = λ p at h. h;
  holds_back = λ p tick at h. h;
  gives_way = λ p on h. h;
  takes = λ p j r c on there h. h;
  takes_unsequenced = λ p j group payload on h. h;
  puts_control = λ p now timeout n due h. h;
  puts_data = λ p i occasion s n there due h. h;
  drops_data = λ p i occasion s n there due h. h;
}

falls-last : (f : PeerState → Bool) → Falls f → Lasts (IsIn f)
falls-last f k = changes-last (IsIn f) (falls-changes f k) (λ p channel q h. h) (λ p q same control h. ap f same ∙ h) (λ p at h. k.free)

-- the connection stood, and ends or has ended
abbrev pub is_past : PeerState → Bool
is_past state.Connected = false
is_past state.Connecting = false
is_past state.Answering = false
is_past _ = true

-- or it stands
abbrev pub is_begun : PeerState → Bool
is_begun state.Connecting = false
is_begun state.Answering = false
is_begun _ = true

pub past-lasts : Lasts (IsIn is_past)
past-lasts = falls-last is_past (record { connecting = refl; answering = refl; later = refl; asking = refl; acknowledging = refl; ended = refl; parting = refl; free = refl })

pub begun-lasts : Lasts (IsIn is_begun)
begun-lasts = falls-last is_begun (record { connecting = refl; answering = refl; later = refl; asking = refl; acknowledging = refl; ended = refl; parting = refl; free = refl })

pub connected-begun : (s : PeerState) → s ≡ state.Connected → is_begun s ≡ true
connected-begun s e = ap is_begun e

pub connected-or-past : (s : PeerState) → is_begun s ≡ true → (s ≡ state.Connected) ⊎ (is_past s ≡ true)
connected-or-past state.Connected h = inl refl
connected-or-past state.Connecting h = absurd (cc)
connected-or-past state.Answering h = absurd (cc)
connected-or-past s h = inr refl

pub not-past : (s : PeerState) → s ≡ state.Connected → is_past s ≡ true → ⊥
not-past s e h = (let z : false ≡ true = ap is_past (sym e) ∙ h in cc)
