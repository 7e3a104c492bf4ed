-- What passes a relay that shares its service's thread.
use Rattle.std.specs.Prelude.{◌≡◌, List, ◌++◌, Bool, Option}
use Rattle.enet_codec.specs.declared.event.Event.{Event}
use Rattle.enet_submit.specs.declared.order.Order.{Order}
use Rattle.enet_submit.specs.declared.order.Submission.{Submission}
use Rattle.enet_bridge.specs.Ends.{orders}
use Rattle.enet_chat.specs.declared.lone.LoneRelay.{LoneRelay}
use Rattle.enet_chat.specs.Relaying.{noted_all, relayed_all, SameForEach}
use Rattle.enet_service.specs.Queues.{given, accepted}

-- it was put these events, expanded some behind those that waited, and gave of its orders what the service was given
pub record Passes (old : LoneRelay) (gave : List (Option Submission)) (puts : List (Event × Bool)) (new : LoneRelay) : Type 0 where
  pub expanded : List Event
  pub asked_for : List Order
  pub events : old.events ++ accepted puts ≡ expanded ++ new.events
  pub peers : new.table ≡ noted_all old.table expanded
  pub for_each : SameForEach asked_for (relayed_all old.table expanded)
  pub orders_done : old.orders ++ asked_for ≡ orders (given gave) ++ new.orders
