-- The headline on the transcript of a fleet.
use Rattle.std.proofs.Common.{◌≡◌, ◌<◌, ℕ, zero, suc, arith, List, [], ◌∷◌, map, length, refl, sym, ap, subst, ◌∙◌, Bool, true, false, Option, Some, None, Result, Ok, Err, slice_get}
use Rattle.std.specs.Option.{option_map}
use Rattle.enet_codec.specs.declared.event.PeerRef.{PeerRef}
use Rattle.law_connection.specs.LinkSteps.{Has}
use Rattle.std.proofs.lemmas.Option.{slice_get_within}
use Rattle.law_network.specs.Headline.{HasHeadlineBetween}
use Rattle.law_network.specs.Network.{HostEnd, Site, end_of}
use Rattle.law_network.proofs.Lists.{get-map}
use Rattle.law_network.proofs.Submitting.{same-some}
use Rattle.law_network.specs.Places.{Place}
use Rattle.enet_fleet.specs.declared.event.End.TheVariants as end
use Rattle.law_headline.specs.declared.node.Node.{Node}
use Rattle.law_headline.specs.declared.node.Node.TheVariants.{Server, Client}
use Rattle.enet_fleet.specs.Fleets.{Fleet, place_of, is_host, client_in}
use Rattle.enet_fleet.specs.Headline.{HasHeadline, end_in, end_at}
use Rattle.law_headline.specs.Page.{IsHeadline}
use Rattle.law_headline.proofs.Page.{IsUsers, IsBegun, called, named-page}
use Rattle.law_headline.proofs.Telling.{get-unmapped, length-mapped}
use Rattle.enet_fleet.specs.Transcript.{Happened, asked, user}
use Rattle.enet_fleet.specs.Told.{IsToldBy}

abbrev site-of : Option Place → Option Site
site-of o = option_map (λ (p : Place). p.site) o

has-site : (o : Option Place) (s : Site) → site-of o ≡ Some s → (p : Place) × (o ≡ Some p) × (p.site ≡ s)
has-site None s h = absurd (let y : ◌≡◌ {A = Option Site} None (Some s) = h in cc)
has-site (Some p) s h = (p, refl, same-some p.site s h)

-- each connection with the name that the server's end gives it
pub headline-on : (f : Fleet) (hs : List Happened) → HasHeadline f → IsToldBy hs f
    → (h : IsHeadline (user Server hs) (λ i. user (Client i) hs) (asked hs)) × ((x : ℕ) → h.here x ≡ called (end_of x f.server.site.ends))
headline-on f hs k told = named-page (is_host (length f.clients)) f.server.site (user Server hs) (λ i. site-of (slice_get f.clients i)) (λ i. user (Client i) hs) (asked hs)
    (record { recorded = told.each Server f.server refl; headline = k.hosts Server f.server refl; covered = told.covered Server f.server refl })
    (λ i s h. (let p = has-site (slice_get f.clients i) s h in
    subst (IsUsers (is_host (length f.clients)) (user (Client i) hs)) p.2 (record { recorded = told.each (Client i) p.0 p.1; headline = k.hosts (Client i) p.0 p.1; covered = told.covered (Client i) p.0 p.1 })))
    begun below absent own
  where
    below : (e : HostEnd) → Has f.server.site.ends e → e.connection < length (asked hs)
    below e h =
        let a = k.asked e h in
        let low : e.connection < length f.asked = slice_get_within f.asked e.connection a.0 a.1 in
        let same : length f.asked ≡ length (asked hs) = ap length told.asked_is ∙ length-mapped (λ (a : ℕ × PeerRef). a.0) (asked hs) in
        omega arith

    absent : (i : ℕ) (p : PeerRef) → site-of (slice_get f.clients i) ≡ None → (user (Client i) hs).taken p ≡ []
    absent i p none = told.absent (Client i) (by (slice_get f.clients i) none) p
      where
        by : (o : Option Place) → site-of o ≡ None → o ≡ None
        by None h = refl
        by (Some q) h = absurd (let y : ◌≡◌ {A = Option Site} None (Some q.site) = sym h in cc)

    own : (i : ℕ) (s : Site) → site-of (slice_get f.clients i) ≡ Some s → (e : HostEnd) → Has s.ends e → (name : PeerRef) × (slice_get (asked hs) e.connection ≡ Some (i, name))
    own i s is e h =
        let p = has-site (slice_get f.clients i) s is in
        let x : slice_get f.asked e.connection ≡ Some i = k.own i p.0 p.1 e (subst (λ (z : Site). Has z.ends e) (sym p.2) h) in
        let a = get-unmapped (λ (a : ℕ × PeerRef). a.0) (asked hs) e.connection i (ap (λ (l : List ℕ). slice_get l e.connection) (sym told.asked_is) ∙ x) in
        (a.0.1, a.1 ∙ ap (λ (j : ℕ). Some (j, a.0.1)) a.2)

    begun : (x i : ℕ) (name : PeerRef) → slice_get (asked hs) x ≡ Some (i, name) → IsBegun (λ j. site-of (slice_get f.clients j)) f.server.site x i name
    begun x i name is =
        let b = told.begun x i name is in
        let e : HostEnd = b.2 in
        let own : end_of x b.0.site.ends ≡ Some e = subst (λ (n : ℕ). end_of n b.0.site.ends ≡ Some e) b.4 ((k.hosts (Client i) b.0 b.1).only e b.3) in
        let by : slice_get f.asked x ≡ Some i = ap (λ (l : List ℕ). slice_get l x) told.asked_is ∙ get-map (λ (a : ℕ × PeerRef). a.0) (asked hs) x (i, name) is in
        let here : end_at f x end.Client ≡ Some e = ap (λ (o : Option ℕ). end_in x (client_in f.clients o)) by ∙ ap (end_in x) b.1 ∙ own in
        record {
          site = b.0.site;
          is = ap site-of b.1;
          end = e;
          has = b.3;
          connection = b.4;
          named = b.5;
          between = subst (λ (o : Option HostEnd). HasHeadlineBetween o (end_of x f.server.site.ends)) here (k.ends x);
        }
