-- What each deed is that falls to a peer by a call, by what each of its kind is.
use Rattle.std.specs.Prelude.{is_some}
use Rattle.std.proofs.Common.{ℕ, ◌==◌, Bool, true, false, cond, List, [], ◌∷◌, subst, Option, Result, nat_lt}
use Rattle.enet_codec.specs.declared.event.Received.{Received}
use Rattle.enet_codec.specs.declared.stop.Stop.{Stop}
use Rattle.enet_codec.specs.Message.{Message}
use Rattle.enet_peer.specs.Handling.{Arrival}
use Rattle.enet_peer.specs.Peering.{Peering}
use Rattle.enet_slot.specs.Slot.{SlotState}
use Rattle.law_network.specs.Deeds.{Deed, Alone, AllAlone}
use Rattle.law_network.specs.Deeds as deed
use Rattle.law_network.specs.Falling.{Falls, Reaches, Receipt, deeds_if, up_to}
use Rattle.law_network.specs.Falling as falling

abbrev pub Each : (Deed → Type 0) → List Deed → Type 0
Each D [] = Unit {0}
Each D (d ∷ ds) = D d × Each D ds

-- what such a deed keeps, all of them keep
pub kept-by-each : (D : Deed → Type 0) (P : Peering → Type 0) → ((d : Deed) (p q : Peering) → D d → Alone d p q → P p → P q) → (ds : List Deed) (p q : Peering) → Each D ds → AllAlone ds p q → P p → P q
kept-by-each D P one [] p q at a h = subst P a h
kept-by-each D P one (d ∷ ds) p q at a h = kept-by-each D P one ds a.0 q at.1 a.2 (one d p a.0 at.0 a.1 h)

pub each-if : (D : Deed → Type 0) (b : Bool) (d : Deed) → D d → Each D (deeds_if b d)
each-if D true d k = (k, tt)
each-if D false d k = tt

pub each-up-to : (D : Deed → Type 0) (turn : ℕ → ℕ) (j i : ℕ) (gives passes : Deed) → D gives → D passes → Each D (up_to turn j i gives passes)
each-up-to D turn j i gives passes g p = by (j == i)
  where
    by : (b : Bool) → Each D (cond b (gives ∷ []) (deeds_if (nat_lt (turn i) (turn j)) passes))
    by true = (g, tt)
    by false = each-if D (nat_lt (turn i) (turn j)) passes p

-- each command that comes in a datagram at this moment
abbrev Come : (Deed → Type 0) → ℕ → Type 0
Come D now = (sent : Option ℕ) (full : Bool) (m : Message) (answer : Result (Unit {0}) Stop) → D (deed.Come (record { now = now; sent = sent; full = full }) m answer)

each-falls : (D : Deed → Type 0) (a : Arrival) (handled : ℕ) (bytes : List ℕ) (answer : Received) (ds : List Deed) → Come D a.now → Falls a handled bytes answer ds → Each D ds
each-falls D a handled bytes answer ds come (falling.nothing_left n) = tt
each-falls D a handled bytes answer ds come (falling.no_command n text some none) = tt
each-falls D a handled bytes answer ds come (falling.stops n text rest m why spelled) = (come a.sent a.full m _, tt)
each-falls D a handled bytes answer ds come (falling.goes_on n text rest m told more spelled f) = (come a.sent a.full m _, each-falls D a _ rest told more come f)

-- or its peer gives way, or is told again
pub each-reaches : (D : Deed → Type 0) (i : ℕ) (s : SlotState) (r : Receipt) (ds : List Deed) → Come D r.host.clock → D deed.GiveWay → D deed.TellAgain → Reaches i s r ds → Each D ds
each-reaches D i s r ds come yields tells (falling.unreadable why un) = tt
each-reaches D i s r ds come yields tells (falling.elsewhere header commands read not-here none) = tt
each-reaches D i s r ds come yields tells (falling.gives_way header commands read seat) = (yields, tt)
each-reaches D i s r ds come yields tells (falling.turned_away header commands why read some is refused told) = tt
each-reaches D i s r ds come yields tells (falling.here header commands ds' read some is taken not' f) = each-falls D _ 0 commands r.answer ds' come f
each-reaches D i s r ds come yields tells (falling.told_again header commands read some is taken was told) = each-if D (is_some header.sent) deed.TellAgain tells
