-- Each peer of a fleet's hosts is one end.
use Rattle.std.proofs.Common.{◌≡◌, ◌+◌, true, List, subst, Some, None, Result, Ok, Err}
use Rattle.std.specs.Prelude.{IfOk}
use Rattle.std.specs.List.{list_all}
use Rattle.enet_codec.specs.declared.config.Config.{Config}
use Rattle.enet_codec.specs.declared.event.PeerRef.{PeerRef}
use Rattle.enet_codec.specs.declared.refusal.Refusal.{Refusal}
use Rattle.enet_codec.specs.Config.{is_in_range}
use Rattle.enet_host.specs.Host.{Keeps, named}
use Rattle.law_network.specs.Calls.{Call}
use Rattle.law_network.proofs.Beginning.{each-beginning}
use Rattle.law_network.proofs.IsolationKeeping.{each-keeps}
use Rattle.law_network.proofs.Submitting.{same-some}
use Rattle.law_one_end.proofs.Hosts.{are-ends}
use Rattle.law_network.specs.Places.{Place, opened_at}
use Rattle.law_headline.specs.declared.node.Node.{Node}
use Rattle.law_headline.specs.declared.node.Node.TheVariants.{Server, Client}
use Rattle.law_headline.proofs.Net as net
use Rattle.enet_fleet.specs.declared.answer.Answer.{Answer}
use Rattle.enet_fleet.specs.declared.event.FleetEvent.{FleetEvent}
use Rattle.enet_fleet.specs.Alone.{calls_at}
use Rattle.enet_fleet.specs.Ends.{LeadToEnds, EachIsOneEnd}
use Rattle.enet_fleet.specs.Fleets.{Fleet, place_of, address_of, Runs, open_fleet}
use Rattle.enet_fleet.specs.Reached.{fit}
use Rattle.enet_fleet.proofs.Alone.{each-alone}
use Rattle.enet_fleet.proofs.Places.{apart}
use Rattle.enet_fleet.proofs.Reaching.{fit-server, fit-clients}

-- at first nobody is at a host
abbrev pub StandsEmpty : Place → Type 0
StandsEmpty p = Keeps p.site.host × ((name : PeerRef) → named p.site.host.slots name ≡ None)

empty-opened : (n : Node) (c : Config) → is_in_range c ≡ true → StandsEmpty (opened_at (address_of n) c)
empty-opened n c fits = (each-keeps.opened c fits, λ name. each-beginning.nobody c name)

pub empty-at : (server : Config) (clients : List Config) → is_in_range server ≡ true → list_all is_in_range clients ≡ true → (n : Node) (p : Place) → place_of (open_fleet server clients) n ≡ Some p → StandsEmpty p
empty-at server clients one all Server p h = subst StandsEmpty (same-some (opened_at (address_of Server) server) p h) (empty-opened Server server one)
empty-at server clients one all (Client i) p h =
    let r = net.open-client address_of apart clients 0 i p all h in
    subst StandsEmpty r.2 (empty-opened (Client (0 + i)) r.0 r.1)

each-one-end : (server : Config) (clients : List Config) → fit server clients ≡ true → (events : List FleetEvent) (answers : List (Result Answer Refusal)) (f : Fleet) → Runs (open_fleet server clients) events answers f
    → EachIsOneEnd server clients events answers
each-one-end server clients fits events answers f r = (f, r, each)
  where
    calls : Node → List Call
    calls n = calls_at n events answers (open_fleet server clients) f r

    each : (n : Node) (was : Place) → place_of (open_fleet server clients) n ≡ Some was → (is : Place) × (place_of f n ≡ Some is) × LeadToEnds (calls n) was is
    each n was there =
        let l = each-alone (open_fleet server clients) events answers f r n was there in
        let e = empty-at server clients (fit-server server clients fits) (fit-clients server clients fits) n was there in
        let alone = l.2 in
        (l.0, l.1, (alone.steps, λ name. are-ends was.site.host e.0 (calls n) l.0.site.host alone.steps name (e.1 name)))

pub ended : {V : Type 0} (items : V → List (Result Answer Refusal)) (server : Config) (clients : List Config) (events : List FleetEvent) (r : Result V Refusal) (first f : Fleet) → fit server clients ≡ true → first ≡ open_fleet server clients
    → IfOk r (λ a. Runs first events (items a) f) → IfOk r (λ a. EachIsOneEnd server clients events (items a))
ended items server clients events (Ok a) first f fits fresh runs = each-one-end server clients fits events (items a) f (subst (λ (g : Fleet). Runs g events (items a) f) fresh runs)
ended items server clients events (Err why) first f fits fresh runs = tt
