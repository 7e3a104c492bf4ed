-- The headline of each connection of a net.
use Rattle.std.specs.Prelude.{◌≡◌, ℕ, false, true, List, length, Option, Some, None, slice_get}
use Rattle.std.specs.List.{list_all}
use Rattle.enet_codec.specs.declared.address.Addr.{Addr}
use Rattle.enet_codec.specs.declared.config.Config.{Config}
use Rattle.enet_codec.specs.Config.{is_in_range}
use Rattle.law_connection.specs.LinkSteps.{Has}
use Rattle.law_network.specs.Headline.{HasHeadlineAt, HasHeadlineBetween}
use Rattle.law_network.specs.Network.{HostEnd, end_of}
use Rattle.law_headline.specs.declared.node.Node.{Node}
use Rattle.law_network.specs.Places.{Place}
use Rattle.law_headline.specs.Nets.{Net, place_of, client_of, is_host, Thing, AllHappen, AreApart, open_net}

-- the end of connection x at a host, if it has one
abbrev pub end_in : ℕ → Option Place → Option HostEnd
end_in x None = None
end_in x (Some p) = end_of x p.site.ends

-- the headline of each connection, end and channel
pub record HasHeadline (at : Node → Addr) (f : Net) : Type 0 where
  pub hosts : (n : Node) (p : Place) → place_of f n ≡ Some p → HasHeadlineAt false (is_host at (length f.clients)) p.site
  pub own : (i : ℕ) (p : Place) → slice_get f.clients i ≡ Some p → (e : HostEnd) → Has p.site.ends e → slice_get f.asked e.connection ≡ Some i
  pub begun : (x i : ℕ) → slice_get f.asked x ≡ Some i → (e : HostEnd) × (end_in x (client_of f x) ≡ Some e)
  pub asked : (e : HostEnd) → Has f.server.site.ends e → (i : ℕ) × (slice_get f.asked e.connection ≡ Some i)
  pub ends : (x : ℕ) → HasHeadlineBetween (end_in x (client_of f x)) (end_of x f.server.site.ends)

-- of every net that comes of hosts whose slots are all free, whatever happens there
abbrev pub OfEachNet : ((Node → Addr) → Net → Type 0) → Type 0
OfEachNet P = (at : Node → Addr) → AreApart at → (server : Config) (clients : List Config) → is_in_range server ≡ true → list_all is_in_range clients ≡ true
    → (ts : List Thing) (f : Net) → AllHappen at ts (open_net at server clients) f → P at f
