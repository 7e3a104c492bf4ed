-- What each peer of a world has kept since it began: all that it has to send fits its datagrams, and only a client that asks has a CONNECT.
use Rattle.std.proofs.Common.{◌≡◌, ℕ, ◌≤◌, ◌&&◌, min, inl, inr, Bool, true, false, cond, List, [], ◌∷◌, length, nat_lt, refl, sym, ap, subst, ◌∙◌, arith, Option, Some, None, Ok, Err}
use Rattle.std.proofs.lemmas.Bool.Decides.{nat_tests}
use Rattle.enet_codec.specs.declared.command.Offer.{Offer}
use Rattle.enet_codec.specs.declared.config.Admission.TheVariants as admission
use Rattle.enet_codec.specs.declared.config.Config.{Config}
use Rattle.enet_codec.specs.Config.{is_in_range}
use Rattle.enet_codec.specs.declared.event.PeerRef.{PeerRef}
use Rattle.enet_senders.specs.declared.control.Control.TheVariants as control
use Rattle.enet_outbox.specs.Outbox.{with_control}
use Rattle.enet_outbox.proofs.Rooms.{awaited-filled}
use Rattle.enet_outbox.specs.Emission.{filled}
use Rattle.enet_peer.specs.Peering.{Peering}
use Rattle.enet_peer.specs.Peering as peers
use Rattle.enet_peer.specs.Calls.{AtOnce, pace_of, is_connected}
use Rattle.enet_slot.specs.declared.giving.Question.{Question}
use Rattle.enet_slot.specs.Giving.{limits_of, joined_terms, offer_from, drawn_for, server_from}
use Rattle.enet_slot.specs.Slot.{SlotState}
use Rattle.enet_host.specs.Host.{Host, named}
use Rattle.enet_host.specs.Opening as opening
use Rattle.law_connection.specs.Steps as event
use Rattle.law_connection.specs.Steps.{leave_by}
use Rattle.law_network.specs.declared.event.Side.{Side}
use Rattle.law_network.specs.declared.event.Side.TheVariants.{A, B}
use Rattle.law_network.specs.Alone.{LiveAlone, calls_at}
use Rattle.law_network.specs.Beginnings.{BeganBy, Lived}
use Rattle.law_network.specs.Calls.{Call, Series, later}
use Rattle.law_network.specs.Calls as call
use Rattle.law_network.specs.Common.{common_of}
use Rattle.law_network.specs.Deeds.{Deed}
use Rattle.law_network.specs.Falling as falling
use Rattle.law_network.specs.Own.{config_by}
use Rattle.law_network.specs.World.{World, site_of, address_of, joined_config}
use Rattle.law_network.proofs.Alone.{each-alone}
use Rattle.law_network.proofs.Beginning.{each-beginning}
use Rattle.law_network.proofs.Own.{of-the-host}
use Rattle.law_network.proofs.Runs.{both}
use Rattle.law_network.proofs.Submitting.{same-some}
use Rattle.law_progress.proofs.Fitting.{Fits, fits-same, fits-again, fits-heeded, fits-takes, fits-went, fits-submitted, fits-left, fits-moved, small-filled, room_of, joined-fits, asking-fits, answering-fits}
use Rattle.law_progress.specs.Attempts.{after_take}
use Rattle.law_progress.specs.Waits.{after_leave}
use Rattle.enet_world.specs.Worlds.{first}
use Rattle.enet_world.specs.Private.Worlds.{IsReached}
use Rattle.enet_world.proofs.Lasting.{Lasts, lasts-all}
use Rattle.enet_world.proofs.Offers.{AsksAlone, asks-lasts, none-asks, asking-asks, answering-asks}

-- each beginning of a peer has it
pub record Starts (P : Peering → Type 0) : Type 0 where
  pub joined : (c : Config) → c.mtu ≤ 4096 → P (peers.joined c.clock (joined_terms c) (limits_of c))
  pub asks : (c : Config) (now i : ℕ) (s : SlotState) (question : Question) → c.mtu ≤ 4096 → P (peers.connecting now (drawn_for c i s).offsets.time (offer_from c i s question) (limits_of c))
  pub answers : (c : Config) (now i : ℕ) (s : SlotState) (o : Offer) → P (peers.answering now (drawn_for c i s).offsets o (server_from c i s o) (limits_of c))

given : (P : Peering → Type 0) → Starts P → (c : Call) (h : Host) (i : ℕ) (s t : SlotState) (p : Peering) → h.config.mtu ≤ 4096 → falling.Begins c (common_of h) i s t → t.peer ≡ Some p → P p
given P k c h i s t p low (falling.asks address channels info word is some free) has =
    subst P (same-some _ p has) (k.asks h.config h.clock i s (record { address = address; channels = channels; info = info; word = word }) low)
given P k c h i s t p low (falling.answers from bytes commands header o is read nobody offer taken new free) has = subst P (same-some _ p has) (k.answers h.config h.clock i s o)

same-mtu : (c : Call) (k : Config) → (config_by c k).mtu ≡ k.mtu
same-mtu (call.SetBandwidth incoming outgoing (Ok done)) k = refl
same-mtu (call.SetBandwidth incoming outgoing (Err why)) k = refl
same-mtu (call.Admit admission.GiveWay (Ok done)) k = refl
same-mtu (call.Admit (admission.Most peers) (Ok done)) k = refl
same-mtu (call.Admit (admission.OfAddress peers) (Ok done)) k = refl
same-mtu (call.Admit what (Err why)) k = refl
same-mtu c k = refl

began : (P : Peering → Type 0) → Starts P → (name : PeerRef) (cs : List Call) (series : Series cs) (p : Peering) (ds : List Deed) → series.before.config.mtu ≤ 4096 → BeganBy name cs series p ds → P p
began P k name [] series p ds low b = absurd b
began P k name (c ∷ cs) series p ds low (inl b) = given P k c series.before name.slot b.0.slot b.0.given p low b.0.begins b.0.peer
began P k name (c ∷ cs) series p ds low (inr b) =
    began P k name cs (later series) p ds
    (let same : series.steps.0.config.mtu ≡ series.before.config.mtu = ap (λ (x : Config). x.mtu) (of-the-host c series.before series.steps.0 series.steps.1).0 ∙ same-mtu c series.before.config in omega arith) b

lived : (P : Peering → Type 0) → Lasts P → Starts P → (name : PeerRef) (cs : List Call) (series : Series cs) (p : Peering) → series.before.config.mtu ≤ 4096 → ((q : Peering) → named series.before.slots name ≡ Some q → P q)
    → Lived name cs series p → P p
lived P k s name cs series p low was l = lasts-all P k l.deeds l.first p l.alone (elim l.began [ inl there ↦ was l.first there.0 | inr b ↦ began P s name cs series l.first l.deeds low b ])

-- ---- at the beginning of a world
few-mtu : (c : Config) → is_in_range c ≡ true → c.mtu ≤ 4096
few-mtu c h = grind (arith, nat_tests)

least : (a b : ℕ) → a ≤ 4096 → min a b ≤ 4096
least a b h = grind arith

first-mtu : (joined : Bool) (a b : Config) (side : Side) → (is_in_range a && is_in_range b) ≡ true → (site_of (first joined a b) side).host.config.mtu ≤ 4096
first-mtu true a b A h = (let r = both (is_in_range a) (is_in_range b) h in least a.mtu b.mtu (few-mtu a r.0))
first-mtu true a b B h = (let r = both (is_in_range a) (is_in_range b) h in least b.mtu a.mtu (few-mtu b r.1))
first-mtu false a b A h = (let r = both (is_in_range a) (is_in_range b) h in few-mtu a r.0)
first-mtu false a b B h = (let r = both (is_in_range a) (is_in_range b) h in few-mtu b r.1)

nobody : (P : Peering → Type 0) (c : Config) (name : PeerRef) (q : Peering) → named (opening.opened c).slots name ≡ Some q → P q
nobody P c name q is = absurd (let z : ◌≡◌ {A = Option Peering} None (Some q) = sym (each-beginning.nobody c name) ∙ is in cc)

first-has : (P : Peering → Type 0) → Starts P → (joined : Bool) (a b : Config) (side : Side) → (is_in_range a && is_in_range b) ≡ true → (name : PeerRef) (q : Peering) → named (site_of (first joined a b) side).host.slots name ≡ Some q → P q
first-has P s true a b A h name q is =
    subst P (sym (each-beginning.one (joined_config a b) (address_of B) name q is).1) (s.joined (joined_config a b) (first-mtu true a b A h))
first-has P s true a b B h name q is =
    subst P (sym (each-beginning.one (joined_config b a) (address_of A) name q is).1) (s.joined (joined_config b a) (first-mtu true a b B h))
first-has P s false a b A h name q is = nobody P a name q is
first-has P s false a b B h name q is = nobody P b name q is

pub named-has : (P : Peering → Type 0) → Lasts P → Starts P → (joined : Bool) (w : World) → IsReached joined w → (side : Side) (name : PeerRef) (p : Peering) → named (site_of w side).host.slots name ≡ Some p → P p
named-has P k s joined w r side name p is =
    let alone : LiveAlone (calls_at side r.events r.answers (first joined r.a r.b) w r.runs) (site_of (first joined r.a r.b) side).host (site_of w side).host = each-alone (first joined r.a r.b) r.events r.answers w r.runs side in
    lived P k s name (calls_at side r.events r.answers (first joined r.a r.b) w r.runs) (record { before = (site_of (first joined r.a r.b) side).host; after = (site_of w side).host; steps = alone.steps }) p
    (first-mtu joined r.a r.b side r.in_range) (λ q there. first-has P s joined r.a r.b side r.in_range name q there) (alone.lived name p is)

-- ---- all fits
fits-lasts : Lasts Fits
fits-lasts = record {
  submits = λ p channel q free f. fits-submitted p channel q f;
  emits = λ p now f. (let o = (filled (pace_of p now) p.outbox).outbox in
      fits-went (record p { outbox = o }) p.state (record { mtu = f.mtu; small = small-filled (room_of p.terms.mtu) (pace_of p now) p.outbox f.small; awaited = awaited-filled (pace_of p now) p.outbox f.awaited }));
  comes = λ full p now sent m f. fits-heeded full p now sent m f;
  yields = λ p answers f. fits-left p AtOnce 0 f;
  tells = λ p away f. fits-again true (nat_lt 0 (length p.outbox.control.queued)) p f;
  ticks = λ short p now f. fits-moved short p now f;
  takes = λ p q e next f. subst (λ t. Fits (after_take p t)) next (fits-takes p f);
  leaves = λ p q way info e f. subst (λ (o : Option Peering). Fits (after_leave p o)) e (fits-left p (leave_by way p.state) info f);
  sets = λ p s may f. set p s f;
}
  where
    set : (p : Peering) (s : event.Setting) → Fits p → Fits (event.with_setting s p)
    set p (event.Bandwidth incoming outgoing) f = told (is_connected p.state)
      where
        after : Bool → Peering
        after b = record p { limits = record p.limits { incoming = incoming; outgoing = outgoing }; outbox = cond b (with_control p.outbox (control.BandwidthLimit incoming outgoing)) p.outbox }

        told : (b : Bool) → Fits (after b)
        told true = fits-same p (after true) f refl refl refl refl
        told false = fits-same p (after false) f refl refl refl refl
    set p (event.Throttle interval acceleration deceleration) f = fits-same p (event.with_setting (event.Throttle interval acceleration deceleration) p) f refl refl refl refl
    set p (event.ThrottleLimit limit) f = fits-same p (event.with_setting (event.ThrottleLimit limit) p) f refl refl refl refl
    set p (event.PingInterval ms) f = fits-same p (event.with_setting (event.PingInterval ms) p) f refl refl refl refl
    set p (event.Timeout limit minimum maximum) f = fits-same p (event.with_setting (event.Timeout limit minimum maximum) p) f refl refl refl refl

pub named-fits : (joined : Bool) (w : World) → IsReached joined w → (side : Side) (name : PeerRef) (p : Peering) → named (site_of w side).host.slots name ≡ Some p → Fits p
named-fits = named-has Fits fits-lasts (record {
  joined = λ c low. joined-fits c.clock (joined_terms c) (limits_of c) low;
  asks = λ c now i s question low. asking-fits now (drawn_for c i s).offsets.time (offer_from c i s question) (limits_of c) low;
  answers = λ c now i s o. answering-fits now (drawn_for c i s).offsets o (server_from c i s o) (limits_of c);
})

-- ---- a CONNECT is a client's
pub named-asks : (joined : Bool) (w : World) → IsReached joined w → (side : Side) (name : PeerRef) (p : Peering) → named (site_of w side).host.slots name ≡ Some p → AsksAlone p
named-asks = named-has AsksAlone asks-lasts (record {
  joined = λ c low. none-asks (peers.joined c.clock (joined_terms c) (limits_of c)) refl refl;
  asks = λ c now i s question low. asking-asks (peers.connecting now (drawn_for c i s).offsets.time (offer_from c i s question) (limits_of c)) refl;
  answers = λ c now i s o. answering-asks (peers.answering now (drawn_for c i s).offsets o (server_from c i s o) (limits_of c)) _ refl refl refl;
})
