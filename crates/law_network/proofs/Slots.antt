-- What a slot is once a call left its peer so.
use Rattle.std.proofs.Common.{◌≡◌, ◌≢◌, ℕ, refl, sym, ap, ◌∙◌, Some}
use Rattle.enet_peer.specs.declared.parts.PeerState.{PeerState}
use Rattle.enet_peer.specs.declared.parts.PeerState.TheVariants as state
use Rattle.enet_peer.specs.Peering.{Peering}
use Rattle.enet_slot.specs.Slot.{SlotState, with_peer, with_peer_in, vacated}
use Rattle.law_network.specs.IsolationLaw.{having_emitted}

emitted-in : (st : PeerState) (s : SlotState) (q : Peering) (n : ℕ) → with_peer_in st (having_emitted s n) q ≡ having_emitted (with_peer_in st s q) n
emitted-in state.Free s q n = refl
emitted-in st s q n = refl

-- bytes that were put out make no other difference
pub emitted-apart : (s : SlotState) (q : Peering) (n : ℕ) → with_peer (having_emitted s n) q ≡ having_emitted (with_peer s q) n
emitted-apart s q n = emitted-in q.state s q n

-- a peer that isn't free stays in its slot
pub held-in : (st : PeerState) (s : SlotState) (q : Peering) → st ≢ state.Free → with_peer_in st s q ≡ record s { peer = Some q }
held-in state.Free s q n = absurd (n refl)
held-in st s q n = refl

pub held : (s : SlotState) (q : Peering) → q.state ≢ state.Free → with_peer s q ≡ record s { peer = Some q }
held s q n = held-in q.state s q n

pub freed-in : (s : SlotState) (q : Peering) → q.state ≡ state.Free → with_peer s q ≡ vacated s q
freed-in s q e = ap (λ (st : PeerState). with_peer_in st s q) e

-- a slot whose count stays
emitted-kept-in : (st : PeerState) (s : SlotState) (q : Peering) → with_peer_in st s q ≡ having_emitted (with_peer_in st s q) s.emitted
emitted-kept-in state.Free s q = refl
emitted-kept-in st s q = refl

pub counted-same : (s : SlotState) (q : Peering) (n : ℕ) → n ≡ s.emitted → with_peer s q ≡ having_emitted (with_peer s q) n
counted-same s q n e = emitted-kept-in q.state s q ∙ ap (λ (k : ℕ). having_emitted (with_peer s q) k) (sym e)
