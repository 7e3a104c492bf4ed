-- The receivers of the first channels are made. To those of the others nothing came.
use Rattle.std.specs.Prelude.{ℕ, ◌-◌, List, ◌++◌, length, map}
use Rattle.std.specs.List.{range_with_len}
use Rattle.enet_receiver.specs.Foresight.{ReceivingEnd, new_end}
use Rattle.enet_inbox.specs.Inbox.{Inbox}

-- the receivers of so many channels, where these are made
unfoldable pub all_receivers : ℕ → ℕ → List ReceivingEnd → List ReceivingEnd
all_receivers max_packet count made = made ++ map (λ channel. new_end channel max_packet) (range_with_len (length made) (count - length made))

-- the inbox of so many channels, where this one has the receivers that are made
abbrev pub with_all : ℕ → Inbox → Inbox
with_all count b = record b { receivers = all_receivers b.max_packet count b.receivers }
