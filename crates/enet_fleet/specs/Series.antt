-- A fleet whose hosts are called as their users like: by every call of a host, those too that set something.
use Rattle.std.specs.Prelude.{◌≡◌, Bool, true, false, List, [], ◌∷◌, ◌++◌, Some, slice_get}
use Rattle.std.specs.List.{list_all}
use Rattle.enet_codec.specs.declared.config.Config.{Config}
use Rattle.enet_codec.specs.Config.{is_in_range}
use Rattle.enet_host.specs.Host.{Host}
use Rattle.law_network.specs.Calls.{Call, Acts}
use Rattle.law_network.specs.Calls as call
use Rattle.law_network.specs.Alone.{call_by}
use Rattle.law_network.specs.Steps.{Calls}
use Rattle.law_network.specs.Places.{Place}
use Rattle.law_headline.specs.declared.node.Node.{Node}
use Rattle.law_headline.specs.declared.node.Node.TheVariants.{Server}
use Rattle.law_headline.specs.Nets as nets
use Rattle.law_headline.specs.Nets.{Thing}
use Rattle.enet_fleet.specs.Alone.{at_node, LeadAlone}
use Rattle.enet_fleet.specs.Fleets.{Fleet, place_of, with_place, address_of, open_fleet}

-- things that happen at the hosts, one after another
abbrev pub AllHappen : List Thing → Fleet → Fleet → Type 0
AllHappen ts old new = nets.AllHappen address_of ts old new

-- of every fleet that comes of hosts whose slots are all free, whatever happens at its hosts
abbrev pub OfEachSeries : (Fleet → Type 0) → Type 0
OfEachSeries P = (server : Config) (clients : List Config) → is_in_range server ≡ true → list_all is_in_range clients ≡ true
    → (ts : List Thing) (f : Fleet) → AllHappen ts (open_fleet server clients) f → P f

-- the calls of a host among things that happen, in order
abbrev pub calls_among : (n : Node) (ts : List Thing) (old new : Fleet) → AllHappen ts old new → List Call
calls_among n [] old new happen = []
calls_among n (t ∷ ts) old new happen = at_node n t.node (call_by happen.1.sender.site t.what) ++ calls_among n ts happen.0 new happen.3

-- each peer of each host lived alone by these
abbrev pub EachAloneAmong : Type 0
EachAloneAmong = (old : Fleet) (ts : List Thing) (new : Fleet) (happen : AllHappen ts old new)
    → (n : Node) (was : Place) → place_of old n ≡ Some was → LeadAlone (calls_among n ts old new happen) was new n

-- the calls for which a fleet has no event
abbrev pub is_setting : Call → Bool
is_setting (call.SetBandwidth incoming outgoing answer) = true
is_setting (call.ConfigureThrottle name interval acceleration deceleration answer) = true
is_setting (call.SetPingInterval name ms answer) = true
is_setting (call.SetTimeout name limit minimum maximum answer) = true
is_setting (call.Admit what answer) = true
is_setting (call.SetSendLimit bytes commands) = true
is_setting c = false

abbrev pub with_host : Place → Host → Place
with_host p h = record p { site = record p.site { host = h } }

-- whatever one of them does at a host, by its contract, is one thing that happens there
abbrev pub SettingsHappen : Type 0
SettingsHappen = (f : Fleet) (n : Node) (was : Place) → place_of f n ≡ Some was → (c : Call) → is_setting c ≡ true → (h : Host) → Acts c was.site.host h
    → AllHappen (record { node = n; from = Server; what = Calls c } ∷ []) f (with_place f n (with_host was h))
