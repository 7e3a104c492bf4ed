-- The senders of the first channels are made. To those of the others nothing was submitted.
use Rattle.std.specs.Prelude.{ℕ, ◌-◌, List, ◌++◌, length, map}
use Rattle.std.specs.List.{range_with_len}
use Rattle.enet_sender.specs.Due.{SendingEnd, new_end}

-- the ends of so many channels, where these are made
unfoldable pub all_ends : ℕ → List SendingEnd → List SendingEnd
all_ends count made = made ++ map new_end (range_with_len (length made) (count - length made))
