-- A server and its clients, wherever they are, with strangers around them, and what happens there one thing at a time.
use Rattle.std.specs.Prelude.{◌≡◌, ℕ, zero, suc, ◌+◌, ◌||◌, Bool, false, List, [], ◌∷◌, ◌++◌, length, map, Option, Some, None, Ok, slice_get, slice_set}
use Rattle.enet_codec.specs.declared.address.Addr.{Addr}
use Rattle.enet_codec.specs.declared.config.Config.{Config}
use Rattle.enet_slot.specs.Receiving.{is_same_address}
use Rattle.law_network.specs.Calls.{Call}
use Rattle.law_network.specs.Calls as call
use Rattle.law_network.specs.Log.{Logged}
use Rattle.law_network.specs.Network.{numbers_of}
use Rattle.law_network.specs.Steps.{Around, Happening, Calls, Delivers, HappensAmong}
use Rattle.law_network.specs.Places.{Place, opened_at, all_opened}
use Rattle.law_headline.specs.declared.node.Node.{Node}
use Rattle.law_headline.specs.declared.node.Node.TheVariants.{Server, Client}

-- all hosts, and the client of each connection so far
pub record Net : Type 0 where
  pub server : Place
  pub clients : List Place
  pub asked : List ℕ

abbrev pub place_of : Net → Node → Option Place
place_of f Server = Some f.server
place_of f (Client i) = slice_get f.clients i

abbrev pub with_place : Net → Node → Place → Net
with_place f Server p = record f { server = p }
with_place f (Client i) p = record f { clients = slice_set f.clients i p }

-- no two hosts share an address
abbrev pub AreApart : (Node → Addr) → Type 0
AreApart at = (n m : Node) → at n ≡ at m → n ≡ m

-- whether a host is at an address where there are so many clients
abbrev pub is_client : (Node → Addr) → ℕ → Addr → Bool
is_client at zero a = false
is_client at (suc n) a = is_same_address a (at (Client n)) || is_client at n a

abbrev pub is_host : (Node → Addr) → ℕ → Addr → Bool
is_host at clients a = is_same_address a (at Server) || is_client at clients a

abbrev pub numbers_at : ℕ → Option Place → List ℕ
numbers_at x None = []
numbers_at x (Some p) = numbers_of p.site x

abbrev pub client_in : List Place → Option ℕ → Option Place
client_in clients None = None
client_in clients (Some i) = slice_get clients i

abbrev pub client_of : Net → ℕ → Option Place
client_of f x = client_in f.clients (slice_get f.asked x)

-- the greatest numbers that the other end of a connection of a host sent
abbrev pub numbers_far : Net → Node → ℕ → List ℕ
numbers_far f Server x = numbers_at x (client_of f x)
numbers_far f (Client i) x = numbers_of f.server.site x

abbrev pub around : (Node → Addr) → Net → Node → Around
around at f n = record { count = length f.asked; is_host = is_host at (length f.clients); numbers = numbers_far f n }

-- an accepted Connect is its client's
abbrev pub asked_after : Node → Happening → List ℕ → List ℕ
asked_after (Client i) (Calls (call.Connect address channels info word (Ok name))) asked = asked ++ i ∷ []
asked_after _ _ asked = asked

-- one thing happens at a host, the others staying as they were; it speaks to the host `from`, or hears it
pub record HappensAt (at : Node → Addr) (n from : Node) (what : Happening) (old new : Net) : Type 0 where
  pub was : Place
  pub there : place_of old n ≡ Some was
  pub sender : Place
  pub sends : place_of old from ≡ Some sender
  pub is : Place
  pub here : HappensAmong (around at old n) sender.site what was.site is.site
  pub rest : new ≡ record (with_place old n is) { asked = asked_after n what old.asked }

-- the server asks for no connection, a client asks the server alone, and a datagram that is brought went to the host to which it is brought
abbrev pub AllowsCall : Node → Node → Call → Type 0
AllowsCall (Client i) m c = m ≡ Server
AllowsCall Server m (call.Connect address channels info word answer) = ⊥
AllowsCall Server m c = m ≡ Server

abbrev pub IsAllowed : (Node → Addr) → Net → Node → Node → Happening → Type 0
IsAllowed at f n m (Delivers k answer) = (p : Place) → place_of f m ≡ Some p → (d : Logged) → slice_get p.site.log k ≡ Some d → d.to ≡ at n
IsAllowed at f n m (Calls c) = AllowsCall n m c

-- one thing after another: where, of which other host, and what
pub record Thing : Type 0 where
  pub node : Node
  pub from : Node
  pub what : Happening

abbrev pub AllHappen : (Node → Addr) → List Thing → Net → Net → Type 0
AllHappen at [] old new = new ≡ old
AllHappen at (t ∷ ts) old new = (between : Net) × HappensAt at t.node t.from t.what old between × IsAllowed at old t.node t.from t.what × AllHappen at ts between new

-- hosts to which nothing has happened
abbrev pub open_net : (Node → Addr) → Config → List Config → Net
open_net at server clients = record { server = opened_at (at Server) server; clients = all_opened (λ i. at (Client i)) 0 clients; asked = [] }
