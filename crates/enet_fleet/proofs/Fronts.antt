-- The page holds of each front of a list, and a connection keeps the name that the server has for its peer.
use Rattle.std.proofs.Common.{◌≡◌, ◌≤◌, ℕ, true, List, length, take, refl, sym, ap, subst, ◌∙◌, Some, Result, Ok, Err}
use Rattle.std.specs.Prelude.{zip}
use Rattle.std.specs.List.{list_all}
use Rattle.enet_codec.specs.declared.config.Config.{Config}
use Rattle.enet_codec.specs.declared.event.PeerRef.{PeerRef}
use Rattle.enet_codec.specs.declared.refusal.Refusal.{Refusal}
use Rattle.enet_codec.specs.Config.{is_in_range}
use Rattle.law_connection.specs.LinkSteps.{Has}
use Rattle.law_network.specs.Network.{HostEnd, end_of}
use Rattle.law_network.proofs.Submitting.{same-some}
use Rattle.law_network.specs.Places.{Place}
use Rattle.law_headline.specs.declared.node.Node.TheVariants.{Server}
use Rattle.law_headline.proofs.Page.{called, called-some, has-end}
use Rattle.law_headline.proofs.Telling.{zip-take, front-run, front-keeps}
use Rattle.enet_fleet.specs.declared.answer.Answer.{Answer}
use Rattle.enet_fleet.specs.declared.event.FleetEvent.{FleetEvent}
use Rattle.enet_fleet.specs.Fleets.{Fleet, node_of, from_of, Steps, Runs, open_fleet}
use Rattle.enet_fleet.specs.Headline.{HasHeadline}
use Rattle.enet_fleet.specs.Transcript.{IsOnEachFront}
use Rattle.enet_fleet.proofs.Headlines.{headline-run}
use Rattle.enet_fleet.proofs.Tying.{Stays, stays}
use Rattle.enet_fleet.proofs.Elsewhere.{IsOn, on-transcript}

-- the server has an end of connection x, which has this name
abbrev HasName : ℕ → PeerRef → Fleet → Type 0
HasName x p f = (e : HostEnd) × Has f.server.site.ends e × (e.connection ≡ x) × (e.name ≡ p)

name-stays : (x : ℕ) (p : PeerRef) (f g : Fleet) (event : FleetEvent) (answer : Result Answer Refusal) → Steps f event answer g → HasName x p f → HasName x p g
name-stays x p f g event (Ok answer) r k =
    let s : Stays g Server k.0 = stays (node_of event) Server (from_of event) r.0 f g r.2.happens f.server refl k.0 k.1 in
    (s.end, subst (λ (q : Place). Has q.site.ends s.end) (same-some s.place g.server (sym s.there)) s.has, s.connection ∙ k.2, s.name ∙ k.3)
name-stays x p f g event (Err why) r k = subst (HasName x p) (sym r.1) k

pub on-each-front : (server : Config) (clients : List Config) → is_in_range server ≡ true → list_all is_in_range clients ≡ true
    → (events : List FleetEvent) (answers : List (Result Answer Refusal)) (f : Fleet) → Runs (open_fleet server clients) events answers f → IsOnEachFront (length clients) (zip events answers)
on-each-front server clients one all events answers f r = record { front = λ n. (page n).0; stays = keeps }
  where
    at : (n : ℕ) → (g : Fleet) × Runs (open_fleet server clients) (take n events) (take n answers) g
    at n = front-run Steps n events answers (open_fleet server clients) f r

    page : (n : ℕ) → IsOn (length clients) (at n).0 (take n (zip events answers))
    page n = subst (IsOn (length clients) (at n).0) (zip-take n events answers) (on-transcript server clients one all (take n events) (take n answers) (at n).0 (at n).1)

    has : (n x : ℕ) (p : PeerRef) → (page n).0.headline.here x ≡ Some p → HasName x p (at n).0
    has n x p is =
        let t = called-some (end_of x (at n).0.server.site.ends) p (sym ((page n).1 x) ∙ is) in
        let h = has-end x (at n).0.server.site.ends t.0 t.1 in
        (t.0, h.0, h.1, t.2)

    keeps : (n m x : ℕ) (p : PeerRef) → n ≤ m → (page n).0.headline.here x ≡ Some p → (page m).0.headline.here x ≡ Some p
    keeps n m x p le is =
        let k : HasName x p (at m).0 = front-keeps Steps (HasName x p) (name-stays x p) n m le events answers (open_fleet server clients) f r (has n x p is) in
        let h : HasHeadline (at m).0 = headline-run server clients one all (take m events) (take m answers) (at m).0 (at m).1 in
        let only : end_of k.0.connection (at m).0.server.site.ends ≡ Some k.0 = (h.hosts Server (at m).0.server refl).only k.0 k.1 in
        (page m).1 x ∙ ap called (subst (λ (y : ℕ). end_of y (at m).0.server.site.ends ≡ Some k.0) k.2 only) ∙ ap (λ (q : PeerRef). Some q) k.3
