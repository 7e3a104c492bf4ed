-- The fleets that are reached, and what holds of them.
use Rattle.std.proofs.Common.{◌≡◌, ℕ, suc, ◌≤◌, ◌+◌, ◌&&◌, ◌||◌, nat_le, Bool, true, false, List, [], ◌∷◌, ◌++◌, length, refl, sym, ap, subst, ◌∙◌, arith, Option, Some, None, Result, Ok, Err, slice_get}
use Rattle.std.specs.Prelude.{is_none}
use Rattle.std.specs.List.{list_all}
use Rattle.std.proofs.lemmas.Bool.Decides.{nat_tests}
use Rattle.std.proofs.lemmas.List.{length-set}
use Rattle.enet_codec.specs.declared.address.Addr.{Addr}
use Rattle.enet_codec.specs.declared.config.Config.{Config}
use Rattle.enet_codec.specs.declared.refusal.Refusal.{Refusal}
use Rattle.enet_codec.specs.declared.refusal.Refusal.TheVariants.{NoSuchDatagram, NoSuchHost}
use Rattle.enet_codec.specs.Config.{is_in_range}
use Rattle.law_connection.proofs.Lists.{Has-slice_get}
use Rattle.enet_slot.specs.Receiving.{is_same_address}
use Rattle.enet_fleet.specs.declared.answer.Answer.{Answer}
use Rattle.law_network.specs.Headline.{AreEnds}
use Rattle.law_network.specs.Log.{Logged}
use Rattle.law_network.specs.World.{IsRefusedFor}
use Rattle.law_network.proofs.Addresses.{equal-address}
use Rattle.law_network.proofs.Running.{runs-keep, runs-push}
use Rattle.law_network.proofs.Runs.{both}
use Rattle.law_network.specs.declared.put_out.Sent.{Sent}
use Rattle.law_network.specs.declared.put_out.Sent.TheVariants.{Of, Away}
use Rattle.law_network.specs.Places.{Place, all_opened}
use Rattle.enet_fleet.specs.declared.event.FleetEvent.{FleetEvent}
use Rattle.enet_fleet.specs.declared.event.FleetEvent.TheVariants as happen
use Rattle.law_headline.specs.declared.node.Node.{Node}
use Rattle.law_headline.specs.declared.node.Node.TheVariants.{Server, Client}
use Rattle.enet_fleet.specs.Fleets.{Fleet, place_of, with_place, address_of, is_host, gone_to, logged_in, logged_to, node_of, lacks, refused_there, refused_delivery, Refuses, RefusesIf, Steps, open_fleet}
use Rattle.enet_fleet.specs.Headline.{HasHeadline}
use Rattle.enet_fleet.specs.Law.{OfEachRun}
use Rattle.enet_fleet.specs.Reached.{fit}
use Rattle.enet_fleet.specs.Private.Reached.{IsReached}
use Rattle.law_headline.proofs.Net as net
use Rattle.enet_fleet.proofs.Places.{apart, server-apart, Sound}
use Rattle.enet_fleet.proofs.Runs.{sound-run, IsAcross, goes-across}
use Rattle.enet_fleet.proofs.Headlines.{has-headline}

pub reached-step : (f g : Fleet) (e : FleetEvent) (x : Result Answer Refusal) → IsReached f → Steps f e x g → IsReached g
reached-step f g e x r step = record {
  server = r.server;
  clients = r.clients;
  fit = r.fit;
  events = r.events ++ e ∷ [];
  answers = r.answers ++ x ∷ [];
  runs = runs-push Steps (open_fleet r.server r.clients) r.events r.answers f g e x r.runs step;
}

-- settings that fit

pub fit-server : (server : Config) (clients : List Config) → fit server clients ≡ true → is_in_range server ≡ true
fit-server server clients h = (both (is_in_range server) (list_all is_in_range clients) (both (is_in_range server && list_all is_in_range clients) (nat_le 1 (length clients) && nat_le (length clients) 4095) h).0).0

pub fit-clients : (server : Config) (clients : List Config) → fit server clients ≡ true → list_all is_in_range clients ≡ true
fit-clients server clients h = (both (is_in_range server) (list_all is_in_range clients) (both (is_in_range server && list_all is_in_range clients) (nat_le 1 (length clients) && nat_le (length clients) 4095) h).0).1

pub fit-few : (server : Config) (clients : List Config) → fit server clients ≡ true → length clients ≤ 4095
fit-few server clients h =
    let most : nat_le (length clients) 4095 ≡ true =
    (both (nat_le 1 (length clients)) (nat_le (length clients) 4095) (both (is_in_range server && list_all is_in_range clients) (nat_le 1 (length clients) && nat_le (length clients) 4095) h).1).1 in
    grind (arith, nat_tests)

-- so the law holds

pub reached-law : (P : Fleet → Type 0) → OfEachRun P → (f : Fleet) → IsReached f → P f
reached-law P law f r = law r.server r.clients (fit-server r.server r.clients r.fit) (fit-clients r.server r.clients r.fit) r.events r.answers f r.runs

reached-sound : (f : Fleet) → IsReached f → Sound f
reached-sound f r = reached-law Sound sound-run f r

pub owned-at : (f : Fleet) (n : Node) (p : Place) → IsReached f → place_of f n ≡ Some p → AreEnds (is_host (length f.clients)) p.site
owned-at f n p r there = (let h : HasHeadline f = has-headline f (reached-sound f r) in (h.hosts n p there).all)

pub at-its-address : (f : Fleet) (n : Node) (p : Place) → IsReached f → place_of f n ≡ Some p → p.site.address ≡ address_of n
at-its-address f n p r there = (net.each-holds address_of apart f (reached-sound f r) n p there).address

-- there are few clients

length-with : (f : Fleet) (n : Node) (p : Place) → length (with_place f n p).clients ≡ length f.clients
length-with f Server p = refl
length-with f (Client i) p = length-set f.clients i p

step-clients : (f g : Fleet) (e : FleetEvent) (x : Result Answer Refusal) → Steps f e x g → length f.clients ≤ 4095 → length g.clients ≤ 4095
step-clients f g e (Ok a) r few =
    let same : length g.clients ≡ length f.clients = ap (λ (h : Fleet). length h.clients) r.2.happens.rest ∙ length-with f (node_of e) r.2.happens.is in
    omega arith
step-clients f g e (Err why) r few = (let same : length g.clients ≡ length f.clients = ap (λ (h : Fleet). length h.clients) r.1 in omega arith)

length-opened : (address : ℕ → Addr) (i : ℕ) (cs : List Config) → length (all_opened address i cs) ≡ length cs
length-opened address i [] = refl
length-opened address i (c ∷ cs) = ap (λ (n : ℕ). suc n) (length-opened address (i + 1) cs)

pub few-clients : (f : Fleet) → IsReached f → length f.clients ≤ 4095
few-clients f r =
    let opened : length (open_fleet r.server r.clients).clients ≡ length r.clients = length-opened (λ i. address_of (Client i)) 0 r.clients in
    let few : length r.clients ≤ 4095 = fit-few r.server r.clients r.fit in
    runs-keep Steps (λ (g : Fleet). length g.clients ≤ 4095) step-clients r.events r.answers (open_fleet r.server r.clients) f r.runs (omega arith)

-- no datagram of a connection goes from a client to a client, or from the server to itself

abbrev pub IsAside : Node → Node → Type 0
IsAside Server Server = Unit {0}
IsAside (Client i) (Client k) = Unit {0}
IsAside _ _ = ⊥

aside : (to from : Node) (at : Addr) → IsAside to from → IsAcross from at → is_same_address at (address_of to) ≡ false
aside to from at h across = by (is_same_address at (address_of to)) refl
  where
    never : (to from : Node) → IsAside to from → IsAcross from at → at ≡ address_of to → ⊥
    never Server Server h across e = server-apart across.0 (sym e ∙ across.1)
    never (Client i) (Client k) h across e = server-apart i (sym across ∙ e)
    never Server (Client k) h across e = absurd h
    never (Client i) Server h across e = absurd h

    by : (b : Bool) → is_same_address at (address_of to) ≡ b → b ≡ false
    by true same = absurd (never to from h across (equal-address at (address_of to) same))
    by false same = refl

pub not-aside : (f : Fleet) (to from : Node) (p : Place) (k : ℕ) → IsReached f → place_of f from ≡ Some p → IsAside to from → logged_to (address_of to) p k ≡ None
not-aside f to from p k r there h = at-sent (slice_get p.sent k)
  where
    at-log : (n : ℕ) (found : Option Logged) → slice_get p.site.log n ≡ found → gone_to (address_of to) n found ≡ None
    at-log n None e = refl
    at-log n (Some d) e =
        let across : IsAcross from d.to = goes-across f (reached-sound f r) from p there d (Has-slice_get p.site.log n d e) in
        rw (aside to from d.to h across) refl

    at-sent : (o : Option Sent) → logged_in (address_of to) p o ≡ None
    at-sent None = refl
    at-sent (Some (Away address text)) = refl
    at-sent (Some (Of n)) = at-log n (slice_get p.site.log n) refl

-- so a delivery of one is refused, where both hosts are there
pub refuses-aside : (f : Fleet) (to from : Node) (q p : Place) (k : ℕ) → IsReached f → place_of f to ≡ Some q → place_of f from ≡ Some p → IsAside to from → Refuses f (happen.Deliver to from k) NoSuchDatagram
refuses-aside f to from q p k r at there h =
    let here : lacks f (happen.Deliver to from k) ≡ false = ap (λ (o : Option Place). is_none o || is_none (place_of f from)) at ∙ ap (λ (o : Option Place). is_none o) there in
    let none : refused_delivery to (place_of f from) (place_of f to) k ≡ Some NoSuchDatagram =
    ap (λ (o : Option Place). refused_delivery to o (place_of f to) k) there ∙ ap (λ (o : Option Place). refused_delivery to (Some p) o k) at
    ∙ ap (refused_there p.site q.site) (not-aside f to from p k r there h) in
    subst (λ (b : Bool). RefusesIf b f (happen.Deliver to from k) NoSuchDatagram) (sym here) (subst (λ (o : Option Refusal). IsRefusedFor NoSuchDatagram o) (sym none) refl)

-- and as well where one isn't
pub refuses-to : (f : Fleet) (to from : Node) (k : ℕ) → place_of f to ≡ None → Refuses f (happen.Deliver to from k) NoSuchHost
refuses-to f to from k none =
    subst (λ (b : Bool). RefusesIf b f (happen.Deliver to from k) NoSuchHost) (sym (ap (λ (o : Option Place). is_none o || is_none (place_of f from)) none)) refl

pub refuses-from : (f : Fleet) (to from : Node) (k : ℕ) → place_of f from ≡ None → Refuses f (happen.Deliver to from k) NoSuchHost
refuses-from f to from k none =
    let lacking : lacks f (happen.Deliver to from k) ≡ true = ap (λ (o : Option Place). is_none (place_of f to) || is_none o) none ∙ either (is_none (place_of f to)) in
    subst (λ (b : Bool). RefusesIf b f (happen.Deliver to from k) NoSuchHost) (sym lacking) refl
  where
    either : (b : Bool) → (b || true) ≡ true
    either true = refl
    either false = refl
