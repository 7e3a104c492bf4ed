-- Slots that are counted one by one.
use Rattle.std.specs.Prelude.{ℕ, ◌+◌}
use Rattle.enet_slot.specs.declared.counting.SlotCounts.{SlotCounts}
use Rattle.enet_slot.specs.declared.counting.Standing.{Standing}
use Rattle.enet_slot.specs.declared.counting.Standing.TheVariants as standing

-- with a slot more that is so
abbrev pub with_one : SlotCounts → Standing → SlotCounts
with_one c standing.Free = record c { free = c.free + 1 }
with_one c standing.Spent = record c { spent = c.spent + 1 }
with_one c standing.Connecting = record c { connecting = c.connecting + 1 }
with_one c standing.Answering = record c { answering = c.answering + 1 }
with_one c standing.Connected = record c { connected = c.connected + 1 }
with_one c standing.Leaving = record c { leaving = c.leaving + 1 }

abbrev pub none_counted : SlotCounts
none_counted = record { free = 0; spent = 0; connecting = 0; answering = 0; connected = 0; leaving = 0 }

-- how many slots were counted
abbrev pub counted : SlotCounts → ℕ
counted c = c.free + c.spent + c.connecting + c.answering + c.connected + c.leaving
