-- A host puts out a datagram, or has none.
use Rattle.std.specs.Prelude.{◌≡◌, ℕ, Bool, true, false, List, length, take, Option, Some, None}
use Rattle.enet_codec.specs.declared.address.Addr.{Addr}
use Rattle.enet_codec.specs.declared.event.PeerRef.{PeerRef}
use Rattle.law_network.specs.Calls.{Call}
use Rattle.law_network.specs.Calls as call
use Rattle.law_network.specs.Network.{Site}
use Rattle.law_network.specs.Steps.{Calls, HappensAmong}
use Rattle.enet_site.specs.declared.put_out.Turned.{Turned}
use Rattle.enet_site.specs.declared.put_out.Turned.TheVariants.{Sent, Away}

-- a call of a host that begins no connection, with these hosts around it, however many connections there are
abbrev pub CallsAround : (Addr → Bool) → (ℕ → List ℕ) → Call → Site → Site → Type 0
CallsAround hosts far c old new =
    (count : ℕ) (from : Site) → HappensAmong (record { count = count; is_host = hosts; numbers = far }) from (Calls c) old new

-- so says the network's definition
abbrev pub TurnsAmong : (Addr → Bool) → (ℕ → List ℕ) → Option Turned → Site → Site → Type 0
TurnsAmong hosts far None old new = (buf : List ℕ) × CallsAround hosts far (call.Service None buf) old new
TurnsAmong hosts far (Some (Sent n)) old new =
    (n ≡ length old.log) × (gave : PeerRef × Addr × ℕ) × (buf : List ℕ) × (hosts gave.1 ≡ true) × CallsAround hosts far (call.Service (Some gave) buf) old new
TurnsAmong hosts far (Some (Away to text)) old new =
    (gave : PeerRef × Addr × ℕ) × (buf : List ℕ) × (hosts gave.1 ≡ false) × (to ≡ gave.1) × (text ≡ take gave.2 buf)
    × CallsAround hosts far (call.Service (Some gave) buf) old new
