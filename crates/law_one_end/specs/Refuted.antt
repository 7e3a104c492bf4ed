-- What the law rules out of what a user takes.
use Rattle.std.specs.Prelude.{◌≡◌, ◌≢◌, ℕ, true, false, Option, Some, None, List, [], ◌∷◌, flat_map}
use Rattle.enet_codec.specs.declared.address.Addr.{Addr}
use Rattle.enet_codec.specs.declared.event.Event.TheVariants as event
use Rattle.enet_codec.specs.declared.event.PeerRef.{PeerRef}
use Rattle.enet_codec.specs.declared.event.Received.{Received}
use Rattle.enet_codec.specs.declared.header.Header.{Header}
use Rattle.enet_codec.specs.declared.packet.Packet.{Packet}
use Rattle.enet_codec.specs.Message.{Message, acknowledge}
use Rattle.enet_rtt.specs.Clock.{told_time}
use Rattle.enet_senders.specs.declared.control.Numbered.{Numbered}
use Rattle.enet_host.specs.Receiving.{handled_one}
use Rattle.enet_peer.specs.Heading.{IsRead}
use Rattle.enet_peer.specs.declared.parts.PeerEvent.{PeerEvent}
use Rattle.enet_peer.specs.declared.parts.PeerEvent.TheVariants as told
use Rattle.enet_peer.specs.Peering.{Peering}
use Rattle.enet_packets.specs.declared.incoming_packet.Dispatched.{Dispatched}
use Rattle.enet_receiver.specs.Members.{Has}
use Rattle.enet_slot.specs.Receiving.{is_same_address}
use Rattle.law_network.specs.Calls.{Call, Series}
use Rattle.law_network.specs.Calls as call
use Rattle.law_one_end.specs.OneEnd.{Heard, OneEnd, Emit, Come, Take, beginning}
use Rattle.law_one_end.specs.Confirmed.{IsConfirmed}
use Rattle.law_one_end.specs.Carried.{AreCarried}
use Rattle.law_one_end.specs.Hosts.{IsEnd, IsNobody, told_by}
use Rattle.law_one_end.specs.Law.{IsHeard}

-- nothing came on a channel
abbrev pub CameElsewhere : ℕ → List Heard → Type 0
CameElsewhere channel came = (h : Heard) → Has came h → h.channel ≢ channel

-- of what came so, nobody takes these packets of channel 0
abbrev pub IsRefused : List Heard → List Dispatched → Type 0
IsRefused came ds = AreCarried came 0 0 1 ds → ⊥

-- a reliable command of channel 0 with one byte, and a reliable packet
abbrev pub command_of : ℕ → ℕ → Heard
command_of number byte = record { channel = 0; command = record { reliable = true; number = number; unreliable = 0; fragment = None; body = byte ∷ [] }; front = 0; taken = 0 }

abbrev pub packet_of : ℕ → Dispatched
packet_of byte = record { flags = 1; body = byte ∷ [] }

-- no end is one to which these commands came
abbrev pub IsNoEnds : List Heard → Type 0
IsNoEnds came = (e : OneEnd) → e.came ≡ came → IsHeard e → ⊥

-- a command that came when the receiver stood here and the user had taken so many reliable packets
abbrev pub command_at : ℕ → ℕ → Heard
command_at front taken = record (command_of 2 8) { front = front; taken = taken }

-- no user of a host took these events of one peer, whatever was called
abbrev pub IsNoLife : List PeerEvent → Type 0
IsNoLife es = (name : PeerRef) (cs : List Call) (series : Series cs) → flat_map (told_by name) cs ≡ es → IsEnd name cs series → ⊥

-- that a packet was taken before a Connect, or the end of the connection twice
abbrev pub PacketFirstIsRefused : Type 0
PacketFirstIsRefused = (q : Packet) (es : List PeerEvent) → IsNoLife (told.Receive q ∷ es)

abbrev pub TwoEndsAreRefused : Type 0
TwoEndsAreRefused = (x y : ℕ) (es : List PeerEvent) → IsNoLife (told.Disconnect x ∷ told.Disconnect y ∷ es)

-- of a host: a CONNECT came from an address, then a datagram from this or another address, and of the peer its user took a packet
abbrev pub heard_of : PeerRef → Addr → List ℕ → Addr → List ℕ → Received → List Call
heard_of name a connect b other answer =
    call.Receive a connect handled_one ∷ call.Receive b other answer ∷ call.NextEvent (Some (event.Receive name (record { channel = 0; flags = 1; body = 7 ∷ [] }))) ∷ []

-- or its user was told at once that it is connected
abbrev pub hasty : PeerRef → Addr → List ℕ → ℕ → List Call
hasty name a connect info = call.Receive a connect handled_one ∷ call.NextEvent (Some (event.Connect name info)) ∷ []

-- the law says that no host is called so, with these answers
abbrev pub IsNoHosts : PeerRef → List Call → Type 0
IsNoHosts name cs = (IsNobody name cs → ⊥) × ((series : Series cs) → IsEnd name cs series → ⊥)

abbrev pub ForeignIsRefused : Type 0
ForeignIsRefused = (name : PeerRef) (a b : Addr) (connect other : List ℕ) (answer : Received) → is_same_address a b ≡ false → IsNoHosts name (heard_of name a connect b other answer)

-- also where it came from the peer's address, but names another slot
abbrev pub MisdirectedIsRefused : Type 0
MisdirectedIsRefused = (name : PeerRef) (a : Addr) (connect other : List ℕ) (answer : Received) (header : Header) (commands : List ℕ)
    → IsRead other header commands → header.peer ≢ name.slot → IsNoHosts name (heard_of name a connect a other answer)

abbrev pub HastyIsRefused : Type 0
HastyIsRefused = (name : PeerRef) (a : Addr) (connect : List ℕ) (info : ℕ) → IsNoHosts name (hasty name a connect info)

-- a datagram went once, and one command came before the user was told of a client: it is an acknowledgement that repeats the answer's number and
-- what the datagram told, and no guess
abbrev pub GuessIsRefused : Type 0
GuessIsRefused = (p : Peering) (answer : Numbered) (now then' : ℕ) (sent : Option ℕ) (m : Message) → m.body ≢ acknowledge answer.number (told_time now p.offset)
    → IsConfirmed (beginning p) (Emit now ∷ Come m then' sent ∷ Take ∷ []) answer → ⊥
