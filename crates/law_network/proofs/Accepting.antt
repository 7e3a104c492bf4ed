-- A packet that is accepted.
use Rattle.std.proofs.Common.{◌≡◌, ℕ, Bool, length, refl, Option, Some, None}
use Rattle.enet_codec.specs.declared.refusal.Refusal.{Refusal}
use Rattle.enet_sender.specs.CommandChoice.{Packet}
use Rattle.enet_outbox.specs.declared.parts.SendLimit.{SendLimit}
use Rattle.enet_outbox.specs.Outstanding.{is_full}
use Rattle.enet_peer.specs.Peering.{Peering}
use Rattle.enet_peer.specs.Calls.{submission_refusal}
use Rattle.enet_slot.specs.Calls.{or_else_full}
use Rattle.law_network.specs.Deeds.{refusal_of}

not-refused : (full : Bool) (o : Option Refusal) → or_else_full full o ≡ None → o ≡ None
not-refused full None e = refl
not-refused full (Some why) e = e

-- what is accepted under a limit is accepted without one
pub accepted : (limit : Option SendLimit) (p : Peering) (channel : ℕ) (q : Packet) → refusal_of limit p channel q ≡ None → submission_refusal p channel (length q.body) ≡ None
accepted limit p channel q e = not-refused (is_full limit p.outbox) (submission_refusal p channel (length q.body)) e
