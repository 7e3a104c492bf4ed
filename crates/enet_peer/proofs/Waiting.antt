-- A peer that only waits puts nothing out when it is asked for a datagram, and stays as it is.
use Rattle.std.proofs.Common.{◌≡◌, ℕ, true, ◌&&◌, if◌then◌else◌, None, List, refl, sym, ap, ◌∙◌}
use Rattle.enet_outbox.specs.Outbox.{Outbox, is_done}
use Rattle.enet_outbox.proofs.Idle.{rest-goes}
use Rattle.enet_peer.specs.declared.parts.PeerState.{PeerState}
use Rattle.enet_peer.specs.declared.parts.PeerState.TheVariants as state
use Rattle.enet_peer.specs.Peering.{Peering}
use Rattle.enet_peer.specs.Endings.{is_later, disconnecting}
use Rattle.enet_peer.specs.Calls.{pace_of, gone_on, gone_on_in, PutsOut}
use Rattle.enet_peer.specs.Waiting.{is_steady, Waits}

stays-in : (st : PeerState) (p : Peering) → p.state ≡ st → is_steady st ≡ true → gone_on_in st p ≡ p
stays-in state.Connecting p is e = ap (λ (st : PeerState). if is_later st && is_done p.outbox then disconnecting p p.info else p) is
stays-in state.Answering p is e = ap (λ (st : PeerState). if is_later st && is_done p.outbox then disconnecting p p.info else p) is
stays-in state.Connected p is e = ap (λ (st : PeerState). if is_later st && is_done p.outbox then disconnecting p p.info else p) is
stays-in state.Disconnecting p is e = ap (λ (st : PeerState). if is_later st && is_done p.outbox then disconnecting p p.info else p) is
stays-in st p is e = absurd (cc)

stays : (p : Peering) → Waits p → gone_on p ≡ p
stays p s = stays-in p.state p refl s.steady

pub puts-nothing : (now : ℕ) (buf : List ℕ) (p : Peering) → Waits p → PutsOut now None p p buf
puts-nothing now buf p s =
    let none = rest-goes (pace_of p now) p.outbox s.rests in
    record { emits = none.0; after = sym (stays p s) ∙ ap (λ (o : Outbox). gone_on (record p { outbox = o })) none.1 }
