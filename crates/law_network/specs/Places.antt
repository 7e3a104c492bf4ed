-- Hosts with all that they put out.
use Rattle.std.specs.Prelude.{ℕ, ◌+◌, List, [], ◌∷◌}
use Rattle.enet_codec.specs.declared.address.Addr.{Addr}
use Rattle.enet_codec.specs.declared.config.Config.{Config}
use Rattle.enet_host.specs.Opening.{opened}
use Rattle.law_network.specs.Network.{Site}
pub use Rattle.law_network.specs.declared.put_out.Sent.{Sent}
pub use Rattle.law_network.specs.declared.put_out.Sent.TheVariants.{Of, Away}

-- a host with all that it put out
pub record Place : Type 0 where
  pub site : Site
  pub sent : List Sent

-- a host to which nothing has happened
abbrev pub opened_at : Addr → Config → Place
opened_at address c = record { site = record { address = address; host = opened c; log = []; ends = [] }; sent = [] }

-- hosts to which nothing has happened, from number i on
abbrev pub all_opened : (ℕ → Addr) → ℕ → List Config → List Place
all_opened address i [] = []
all_opened address i (c ∷ cs) = opened_at (address i) c ∷ all_opened address (i + 1) cs
