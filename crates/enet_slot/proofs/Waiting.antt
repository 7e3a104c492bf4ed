-- A slot that only waits has nothing to put out and nothing to tell.
use Rattle.std.proofs.Common.{◌≡◌, ℕ, true, false, Option, Some, None, [], refl, sym, ap, ◌∙◌}
use Rattle.enet_peer.specs.declared.parts.PeerState.{PeerState}
use Rattle.enet_peer.specs.declared.parts.PeerState.TheVariants as state
use Rattle.enet_peer.specs.Peering.{Peering}
use Rattle.enet_peer.specs.Waiting as peers
use Rattle.enet_peer.proofs.Waiting.{puts-nothing}
use Rattle.enet_slot.specs.Slot.{SlotState, with_peer, with_peer_in}
use Rattle.enet_slot.specs.Emitting.{passes_by, Passes}
use Rattle.enet_slot.specs.Calls.{peer_tells, tells}
use Rattle.enet_slot.specs.Waiting.{waits_in, Waits}

kept-peer : (st : PeerState) (s : SlotState) (p : Peering) → peers.is_steady st ≡ true → with_peer_in st s p ≡ record s { peer = Some p }
kept-peer state.Connecting s p e = refl
kept-peer state.Answering s p e = refl
kept-peer state.Connected s p e = refl
kept-peer state.Disconnecting s p e = refl
kept-peer st s p e = absurd (cc)

same-slot : (s : SlotState) (p : Peering) → s.peer ≡ Some p → peers.Waits p → with_peer s p ≡ s
same-slot s p held waits = kept-peer p.state s p waits.steady ∙ ap (λ (o : Option Peering). record s { peer = o }) (sym held)

passes-in : (now : ℕ) (s : SlotState) (o : Option Peering) → s.peer ≡ o → waits_in o → passes_by now s s o
passes-in now s None held waits = refl
passes-in now s (Some p) held waits = record {
  after = p;
  buf = [];
  puts = puts-nothing now [] p waits;
  left = sym (same-slot s p held waits);
}

-- it is asked in vain and stays as it is
pub passes-waiting : (now : ℕ) (s : SlotState) → Waits s → Passes now s s
passes-waiting now s waits = passes-in now s s.peer refl waits

mute-in : (o : Option Peering) → waits_in o → peer_tells o ≡ false
mute-in None waits = refl
mute-in (Some p) waits = waits.mute

pub mute-waiting : (s : SlotState) → Waits s → tells s ≡ false
mute-waiting s waits = mute-in s.peer waits
