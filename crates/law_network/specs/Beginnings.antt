-- From a host's opening on: how each peer began, and of whom its slot had the sessions and the ending then.
use Rattle.std.specs.Prelude.{◌≡◌, ◌⊎◌, ℕ, ◌+◌, true, List, [], ◌∷◌, Some, None, slice_get}
use Rattle.enet_codec.specs.declared.address.Addr.{Addr}
use Rattle.enet_codec.specs.declared.config.Config.{Config}
use Rattle.enet_codec.specs.declared.event.PeerRef.{PeerRef}
use Rattle.enet_codec.specs.Config.{is_in_range}
use Rattle.enet_peer.specs.declared.parts.PeerState.TheVariants as state
use Rattle.enet_peer.specs.Peering.{Peering}
use Rattle.enet_peer.specs.Peering as peers
use Rattle.enet_slot.specs.Slot.{SlotState, with_peer}
use Rattle.enet_slot.specs.Giving.{limits_of, joined_terms}
use Rattle.enet_host.specs.Host.{Host, named}
use Rattle.enet_host.specs.Opening as opening
use Rattle.law_network.specs.Calls.{Call, Steps, Series, later}
use Rattle.law_network.specs.Common.{Common, common_of}
use Rattle.law_network.specs.Deeds.{Deed, AllAlone}
use Rattle.law_network.specs.Falling.{Fell, Begins, FellAll}

-- slot i, which is s, as this call gives it out: it was free, or its peer did what fell to it, which left it free
pub data IsReady (c : Call) (h : Common) (i : ℕ) (s : SlotState) : SlotState → Type 0 where
  was_free : s.peer ≡ None → IsReady c h i s s
  was_left : (p q : Peering) (ds : List Deed) → s.peer ≡ Some p → Fell h (record { number = i; slot = s; peer = p }) c ds → AllAlone ds p q → q.state ≡ state.Free → IsReady c h i s (with_peer s q)

-- by this call on a host the peer of this name begins so
pub record BeginsAs (c : Call) (h : Host) (name : PeerRef) (first : Peering) : Type 0 where
  pub before : SlotState
  pub there : slice_get h.slots name.slot ≡ Some before
  pub slot : SlotState
  pub ready : IsReady c (common_of h) name.slot before slot
  pub same : slot.generation ≡ name.generation
  pub given : SlotState
  pub begins : Begins c (common_of h) name.slot slot given
  pub peer : given.peer ≡ Some first

-- the peer of this name began so by one of these calls, and these deeds fell to it since
abbrev pub BeganBy : PeerRef → (cs : List Call) → Series cs → Peering → List Deed → Type 0
BeganBy name [] series first ds = ⊥
BeganBy name (c ∷ cs) series first ds =
    (BeginsAs c series.before name first × FellAll name cs (later series) ds) ⊎ BeganBy name cs (later series) first ds

-- or it was there before them
abbrev pub WasThere : PeerRef → (cs : List Call) → Series cs → Peering → List Deed → Type 0
WasThere name cs series first ds = (named series.before.slots name ≡ Some first) × FellAll name cs series ds

-- where the peer of this name is after these calls, or where it ended: where one peer alone is, from its beginning on
pub record Lived (name : PeerRef) (cs : List Call) (series : Series cs) (p : Peering) : Type 0 where
  pub first : Peering
  pub deeds : List Deed
  pub began : WasThere name cs series first deeds ⊎ BeganBy name cs series first deeds
  pub alone : AllAlone deeds first p

-- the sessions of slot i, which is s, are those of the peer of the generation before, as it ended, and so is why its connection ended
pub record IsAfter (i : ℕ) (cs : List Call) (series : Series cs) (s : SlotState) : Type 0 where
  pub generation : ℕ
  pub next : s.generation ≡ generation + 1
  pub last : Peering
  pub lived : Lived (record { slot = i; generation = generation }) cs series last
  pub ended : last.state ≡ state.Free
  pub incoming : s.incoming_session ≡ last.terms.incoming_session
  pub outgoing : s.outgoing_session ≡ last.terms.outgoing_session
  pub ending : s.ending ≡ last.ending

-- or 0xFF and nothing, where it had none
pub record IsFirst (s : SlotState) : Type 0 where
  pub generation : s.generation ≡ 0
  pub incoming : s.incoming_session ≡ 0xFF
  pub outgoing : s.outgoing_session ≡ 0xFF
  pub ending : s.ending ≡ None

-- whatever is called on this host: each peer of a name lived from its beginning on, and each slot has the sessions and the ending of its
-- last peer
pub record IsBeginning (old : Host) : Type 0 where
  pub lived : (cs : List Call) (new : Host) (steps : Steps cs old new) (name : PeerRef) (p : Peering) → named new.slots name ≡ Some p → Lived name cs (record { before = old; after = new; steps = steps }) p
  pub sessions : (cs : List Call) (new : Host) (steps : Steps cs old new) (i : ℕ) (s : SlotState) → slice_get new.slots i ≡ Some s → IsFirst s ⊎ IsAfter i cs (record { before = old; after = new; steps = steps }) s

-- so it is of each host that was opened: nobody was there before, or the one peer of a host that is joined from the start
pub record Beginnings : Type 0 where
  pub opened : (c : Config) → is_in_range c ≡ true → IsBeginning (opening.opened c)
  pub nobody : (c : Config) (name : PeerRef) → named (opening.opened c).slots name ≡ None
  pub joined : (c : Config) (address : Addr) → is_in_range c ≡ true → IsBeginning (opening.joined c address)
  pub one : (c : Config) (address : Addr) (name : PeerRef) (p : Peering) → named (opening.joined c address).slots name ≡ Some p
      → (name ≡ record { slot = 0; generation = 0 }) × (p ≡ peers.joined c.clock (joined_terms c) (limits_of c))
