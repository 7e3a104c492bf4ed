-- A host puts out a datagram, or has none.
use Rattle.std.specs.Prelude.{◌≡◌, ℕ, Bool, List, length, Option, Some, None}
use Rattle.enet_codec.specs.declared.address.Addr.{Addr}
use Rattle.enet_codec.specs.declared.event.PeerRef.{PeerRef}
use Rattle.law_network.specs.Calls as call
use Rattle.law_network.specs.declared.put_out.Sent.{Sent}
use Rattle.law_network.specs.declared.put_out.Sent.TheVariants.{Of, Away}
use Rattle.law_network.specs.Places.{Place}
use Rattle.enet_site.specs.Turning.{CallsAround}
use Rattle.enet_site.specs.declared.put_out.Turned.{Turned}
use Rattle.enet_site.specs.declared.put_out.Turned.TheVariants as turned
use Rattle.enet_fleet.specs.Fleets.{sent_if}

-- as it is kept
abbrev pub sent_of : Turned → Sent
sent_of (turned.Sent n) = Of n
sent_of (turned.Away to text) = Away to text

-- by a turn of a host with these hosts around it, which gives the datagram the host's next number
abbrev pub PutsOutByTurn : (Addr → Bool) → (ℕ → List ℕ) → Option ℕ → Place → Place → Type 0
PutsOutByTurn hosts far None was is = (buf : List ℕ) × CallsAround hosts far (call.Service None buf) was.site is.site × (is.sent ≡ was.sent)
PutsOutByTurn hosts far (Some k) was is =
    (k ≡ length was.sent) × (gave : PeerRef × Addr × ℕ) × (buf : List ℕ) × CallsAround hosts far (call.Service (Some gave) buf) was.site is.site
    × (is.sent ≡ sent_if (hosts gave.1) gave buf was)
