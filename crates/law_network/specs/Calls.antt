-- A host through a list of calls, each of which does what its contract says.
use Rattle.std.specs.Prelude.{◌≡◌, ℕ, Bool, true, List, [], ◌∷◌, Option, Result, Ok, Err, IfErr}
use Rattle.std.specs.List.{list_any}
use Rattle.enet_codec.specs.declared.address.Addr.{Addr}
use Rattle.enet_codec.specs.declared.config.Admission.{Admission}
use Rattle.enet_codec.specs.declared.event.DisconnectMode.{DisconnectMode}
use Rattle.enet_codec.specs.declared.event.Event.{Event}
use Rattle.enet_codec.specs.declared.event.PeerRef.{PeerRef}
use Rattle.enet_codec.specs.declared.event.Received.{Received}
use Rattle.enet_codec.specs.declared.refusal.Refusal.{Refusal}
use Rattle.enet_codec.specs.declared.refusal.Refusal.TheVariants as refusal
use Rattle.enet_sender.specs.CommandChoice.{Packet}
use Rattle.enet_host.specs.Host.{Host, KeepsRest, named}
use Rattle.enet_host.specs.Opening.{host_basis, Connects}
use Rattle.enet_host.specs.Receiving.{Receives}
use Rattle.enet_host.specs.Serving.{Serves}
use Rattle.enet_host.specs.Ticking.{ticked}
use Rattle.enet_slot.specs.Calls.{Submits, Does, DoesWithMemory, submission, unless_full, leaving, throttling, pinging, waiting}
use Rattle.enet_slot.specs.Sharing.{wants_room, wants_room_in}
use Rattle.enet_host.specs.Calls.{Admits, Takes, on_named, with_bandwidth, with_send_limit}

-- whether a call without a result was refused, and why
abbrev pub Done : Type 0
Done = Result (Unit {0}) Refusal

-- a call of a host with what it answered
pub data Call : Type 0 where
  Connect : (address : Addr) (channels info word : ℕ) (answer : Result PeerRef Refusal) → Call
  Submit : (name : PeerRef) (channel : ℕ) (packet : Packet) (answer : Result (Unit {0}) (Refusal × List ℕ)) → Call
  Receive : (from : Addr) (bytes : List ℕ) (answer : Received) → Call
  Service : (answer : Option (PeerRef × Addr × ℕ)) (buf : List ℕ) → Call
  Tick : (ms : ℕ) → Call
  Disconnect : (mode : DisconnectMode) (name : PeerRef) (info : ℕ) (answer : Done) → Call
  SetBandwidth : (incoming outgoing : ℕ) (answer : Done) → Call
  ConfigureThrottle : (name : PeerRef) (interval acceleration deceleration : ℕ) (answer : Done) → Call
  SetPingInterval : (name : PeerRef) (ms : ℕ) (answer : Done) → Call
  SetTimeout : (name : PeerRef) (limit minimum maximum : ℕ) (answer : Done) → Call
  NextEvent : (answer : Option Event) → Call
  Admit : (what : Admission) (answer : Done) → Call
  SetSendLimit : (bytes commands : ℕ) → Call

-- memory is only refused where this says that it may be wanted
abbrev pub IsWanted : Done → Bool → Type 0
IsWanted answer wants = IfErr answer (λ why. why ≡ refusal.Memory → wants ≡ true)

-- what a call of set_bandwidth did: want of memory changes nothing, and comes only where some connected peer has a command of
-- channel 0xFF queued or unacknowledged
abbrev pub Sets : Done → Host → Host → Host → Type 0
Sets (Ok done) after old new = new ≡ after
Sets (Err why) after old new = (why ≡ refusal.Memory) × (new ≡ old) × (list_any wants_room old.slots ≡ true)

-- what a call did, by the contract of `HostCore`
abbrev pub Acts : Call → Host → Host → Type 0
Acts (Connect address channels info word answer) old new =
    Connects (host_basis old) old.slots (record { address = address; channels = channels; info = info; word = word }) answer new.slots × KeepsRest old new
Acts (Submit name channel q answer) old new =
    Submits answer q (on_named old.slots name (unless_full old.send_limit (submission channel q))) old.slots new.slots × KeepsRest old new
Acts (Receive from bytes answer) old new = Receives old from bytes answer new
Acts (Service answer buf) old new = Serves old answer buf new
Acts (Tick ms) old new = new ≡ ticked old ms
Acts (Disconnect mode name info answer) old new = Does answer (on_named old.slots name (leaving mode info)) old.slots new.slots × KeepsRest old new
Acts (SetBandwidth incoming outgoing answer) old new = Sets answer (with_bandwidth old incoming outgoing) old new
Acts (ConfigureThrottle name interval acceleration deceleration answer) old new =
    DoesWithMemory answer (on_named old.slots name (throttling interval acceleration deceleration)) old.slots new.slots × KeepsRest old new
    × IsWanted answer (wants_room_in (named old.slots name))
Acts (SetPingInterval name ms answer) old new = Does answer (on_named old.slots name (pinging ms)) old.slots new.slots × KeepsRest old new
Acts (SetTimeout name limit minimum maximum answer) old new =
    Does answer (on_named old.slots name (waiting limit minimum maximum)) old.slots new.slots × KeepsRest old new
Acts (NextEvent answer) old new = Takes answer old new
Acts (Admit what answer) old new = Admits what answer old new
Acts (SetSendLimit bytes commands) old new = new ≡ with_send_limit old (record { bytes = bytes; commands = commands })

-- calls, one after another
abbrev pub Steps : List Call → Host → Host → Type 0
Steps [] old new = old ≡ new
Steps (c ∷ cs) old new = (next : Host) × Acts c old next × Steps cs next new

-- these calls were made: the host before them, the host after them, and each step between
pub record Series (calls : List Call) : Type 0 where
  pub before : Host
  pub after : Host
  pub steps : Steps calls before after

-- all but the first of them
abbrev pub later : {c : Call} {cs : List Call} → Series (c ∷ cs) → Series cs
later series = record { before = series.steps.0; after = series.after; steps = series.steps.2 }
