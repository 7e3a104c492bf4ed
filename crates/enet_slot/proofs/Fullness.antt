-- A call that a full peer refuses.
use Rattle.std.proofs.Common.{◌≡◌, Bool, true, false, cond, Option, Result, Ok, Err}
use Rattle.enet_codec.specs.declared.refusal.Refusal.{Refusal}
use Rattle.enet_outbox.specs.declared.parts.SendLimit.{SendLimit}
use Rattle.enet_outbox.specs.Outstanding.{is_full}
use Rattle.enet_peer.specs.Peering.{Peering}
use Rattle.enet_slot.specs.Calls.{or_full, unless_full}

-- what is carried out would be without a limit
pub unless_full-ok : (limit : Option SendLimit) (call : Peering → Result Peering Refusal) (p q : Peering) → unless_full limit call p ≡ Ok q → call p ≡ Ok q
unless_full-ok limit call p q e = by (is_full limit p.outbox) (call p) e
  where
    by : (b : Bool) (r : Result Peering Refusal) → cond b (or_full r) r ≡ Ok q → r ≡ Ok q
    by true (Ok x) e = absurd (cc)
    by true (Err why) e = e
    by false r e = e
