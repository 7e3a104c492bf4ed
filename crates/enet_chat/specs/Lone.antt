-- A relay that shares its service's thread.
use Rattle.std.specs.Prelude.{◌≡◌, ℕ, ◌+◌, ◌-◌, min, List, ◌++◌, length}
use Rattle.enet_codec.specs.declared.event.Event.{Event}
use Rattle.enet_submit.specs.declared.order.Order.{Order}
use Rattle.enet_chat.specs.Relaying.{noted_all, relayed_all, SameForEach}
use Rattle.enet_chat.specs.declared.lone.LoneRelay.{LoneRelay}

-- what a relay counts: the events that it expanded, and the orders that they gave
abbrev pub expanded_by : LoneRelay → ℕ
expanded_by relay = relay.expanded

abbrev pub asked_by : LoneRelay → ℕ
asked_by relay = relay.asked

-- a count after so many more: it stops at the greatest number of 64 bits
abbrev pub counted_on : ℕ → ℕ → ℕ
counted_on count more = count + min more (18446744073709551615 - count)

-- The oldest events were expanded. The table is what they made of it. The orders behind those that waited are for every peer what these
-- events give for it, in order. Both are counted
pub record Expands (old new : LoneRelay) : Type 0 where
  pub expanded : List Event
  pub asked_for : List Order
  pub in_order : old.events ≡ expanded ++ new.events
  pub peers : new.table ≡ noted_all old.table expanded
  pub orders : new.orders ≡ old.orders ++ asked_for
  pub for_each : SameForEach asked_for (relayed_all old.table expanded)
  pub counted : expanded_by new ≡ counted_on (expanded_by old) (length expanded)
  pub counted_orders : asked_by new ≡ counted_on (asked_by old) (length asked_for)
