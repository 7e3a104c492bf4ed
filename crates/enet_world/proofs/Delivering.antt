-- What a host has nothing left to send of arrived at the other, in every world.
use Rattle.std.proofs.Common.{ℕ, ◌==◌, Bool, true, false, inl, inr}
use Rattle.law_network.specs.World.{World}
use Rattle.law_network.proofs.Runs.{Sound, less-or-not, sound-list, sound-joined-list}
use Rattle.law_headline.proofs.Delivering.{arrives-between, arrives-none}
use Rattle.enet_world.specs.Delivered.{HasDelivered}
use Rattle.enet_world.specs.Private.Worlds.{IsReached}

sound-delivered : (j : ℕ → Bool) (w : World) → Sound j w → HasDelivered w
sound-delivered j w s x = elim (less-or-not x w.count) [
  | inl low ↦ arrives-between (j x) w.a w.b w.count x s.a s.b (s.pairs x low)
  | inr far ↦ arrives-none w.a w.b w.count x s.a s.b far
]

pub reached-delivered : (joined : Bool) (w : World) → IsReached joined w → HasDelivered w
reached-delivered true w r = sound-delivered (λ x. x == 0) w (sound-joined-list r.a r.b r.in_range r.events r.answers w r.runs)
reached-delivered false w r = sound-delivered (λ x. false) w (sound-list r.a r.b r.in_range r.events r.answers w r.runs)
