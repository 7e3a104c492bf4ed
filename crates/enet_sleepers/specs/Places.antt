-- Where connections are looked for.
use Rattle.std.specs.Prelude.{ℕ, ◌+◌, ◌*◌, ◌/◌, ◌%◌, ◌^◌}
use Rattle.enet_codec.specs.declared.address.Addr.{Addr}
use Rattle.enet_sleepers.specs.declared.key.Key.{Key}

-- the middle of the square of a number and a key
unfoldable pub stirred : ℕ → ℕ → ℕ
stirred n key = ((n + key) % 2 ^ 64) * ((n + key) % 2 ^ 64) % 2 ^ 64 / 4294967296

-- the row of an IP address, of 256
unfoldable pub row_of : Key → ℕ → ℕ
row_of key ip = stirred (stirred ip key.address) key.last / 16777216

-- the first of the eight cells of a connection's place, where there are so many cells
unfoldable pub first_cell : Key → ℕ → Addr → ℕ → ℕ
first_cell key count a word =
    stirred (stirred (stirred (a.ip * 65536 + a.port) key.address * 4294967296 + word) key.word) key.last * (count / 8) % 2 ^ 64 / 4294967296 * 8
