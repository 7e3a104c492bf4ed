-- What is kept of a host, apart from the host itself.
use Rattle.std.specs.Prelude.{◌≡◌, ℕ, ◌+◌, ◌*◌, ◌^◌, List, [], ◌∷◌, ◌++◌, replicate, length}
use Rattle.law_connection.specs.LinkSteps.{Has}
use Rattle.law_network.specs.Log.{Logged}
use Rattle.law_network.specs.Network.{HostEnd}
use Rattle.enet_site.specs.Records.{AreBelow, AreApart}

-- the numbers sent at first, with this one on channel 0xFF
unfoldable pub first_numbers : ℕ → List ℕ
first_numbers control = replicate 255 0 ++ control ∷ []

-- what holds of an end once its host has put so many datagrams out: a datagram has at most 32 commands, and by each a number rises by less than 2 ^ 15
pub record IsKept (count : ℕ) (e : HostEnd) : Type 0 where
  pub channels : length e.channels ≡ 256
  pub numbers : length e.greatest ≡ 256
  pub below : AreBelow (2 + 2 ^ 20 * count) e.greatest

-- what holds of all that is kept
pub record AreKept (log : List Logged) (ends : List HostEnd) : Type 0 where
  pub each : (e : HostEnd) → Has ends e → IsKept (length log) e
  pub apart : AreApart ends
