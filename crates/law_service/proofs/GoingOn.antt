-- Whatever a host does by a call that it may make, what is kept follows.
use Rattle.std.proofs.Common.{◌≡◌, ℕ, ◌⊎◌, inl, inr, Bool, true, false, List, [], ◌∷◌, length, refl, sym, ap, subst, ◌∙◌, Option, Some, None, Ok, Err, slice_get, slice_set}
use Rattle.std.specs.List.{list_all}
use Rattle.enet_codec.specs.declared.address.Addr.{Addr}
use Rattle.enet_codec.specs.declared.config.Config.{Config}
use Rattle.enet_codec.specs.declared.event.Received.{Received}
use Rattle.enet_codec.specs.Config.{is_in_range}
use Rattle.enet_host.specs.Host.{Host}
use Rattle.law_headline.specs.declared.node.Node.{Node}
use Rattle.law_headline.specs.declared.node.Node.TheVariants.{Server, Client}
use Rattle.law_network.specs.Calls.{Call, Acts}
use Rattle.law_network.specs.Calls as call
use Rattle.law_network.specs.Headline.{AreEnds}
use Rattle.law_network.specs.Log.{Logged}
use Rattle.law_network.specs.Network.{Site, delivery_refusal}
use Rattle.law_network.specs.Steps.{Around, Happening, Calls, Delivers, HappensAmong}
use Rattle.law_network.proofs.Lists.{get-set}
use Rattle.law_network.proofs.Owned.{are-ends}
use Rattle.law_network.proofs.Submitting.{same-some}
use Rattle.law_network.specs.Places.{Place}
use Rattle.law_headline.specs.Nets.{Net, place_of, with_place, around, asked_after, HappensAt, AllowsCall, IsAllowed, AreApart, is_host, open_net}
use Rattle.law_headline.proofs.Net.{Sound, Holds, each-holds}
use Rattle.law_service.specs.Law.{MayCall}
use Rattle.law_service.specs.EndToEnd.{IsCall, Makes, AllMake, IsHonest, MayMake, NeverStuck}
use Rattle.law_service.proofs.EndToEnd.{IsTold, all-told, open-told}
use Rattle.law_service.proofs.Happening.{each-call}

-- the place of a host that was changed
placed-there : (f : Net) (n : Node) (was is : Place) (asked : List ℕ) → place_of f n ≡ Some was → place_of (record (with_place f n is) { asked = asked }) n ≡ Some is
placed-there f Server was is asked there = refl
placed-there f (Client i) was is asked there = get-set f.clients i was is there

-- one thing at a host, from one thing at its site
goes : (at : Node → Addr) (f : Net) (n from : Node) (p sender : Place) (c : Call) (what : Happening) (host : Host) (new : Site) → place_of f n ≡ Some p → place_of f from ≡ Some sender → new.host ≡ host → HappensAmong (around at f n) sender.site what p.site new
    → IsAllowed at f n from what → IsCall what sender.site c → (g : Net) × Makes at n c f g × (q : Place) × (place_of g n ≡ Some q) × (q.site.host ≡ host)
goes at f n from p sender c what host new there sends same happens allowed is =
    let q : Place = record { site = new; sent = [] } in
    let g : Net = record (with_place f n q) { asked = asked_after n what f.asked } in (
      g,
      record { from = from; what = what; happens = record { was = p; there = there; sender = sender; sends = sends; is = q; here = happens; rest = refl }; allowed = allowed; is = is },
      q,
      placed-there f n p q (asked_after n what f.asked) there,
      same,
    )

module _ (at : Node → Addr) (apart : AreApart at) (f : Net) (s : Sound at apart f) where
  hosts : Addr → Bool
  hosts = is_host at (length f.clients)

  owned : (n : Node) (p : Place) → place_of f n ≡ Some p → AreEnds (is_host at (length f.clients)) p.site
  owned n p there = are-ends (is_host at (length f.clients)) p.site (each-holds at apart f s n p there).owned

  -- a call that speaks to the server at most
  calls : (n : Node) (p : Place) → place_of f n ≡ Some p → (c : Call) (host : Host) → Acts c p.site.host host → MayCall (around at f n) f.server.site c → AllowsCall n Server c
      → (g : Net) × Makes at n c f g × (q : Place) × (place_of g n ≡ Some q) × (q.site.host ≡ host)
  calls n p there c host acts may allowed =
      let r = each-call.calls (around at f n) f.server.site p.site c host (owned n p there) acts may in
      goes at f n Server p f.server c (Calls c) host r.0 there refl r.1 r.2 allowed refl

  brings : (n m : Node) (p : Place) → place_of f n ≡ Some p → (from : Addr) (bytes : List ℕ) (answer : Received) (host : Host) → Acts (call.Receive from bytes answer) p.site.host host → IsHonest at f n m p from bytes
      → (g : Net) × Makes at n (call.Receive from bytes answer) f g × (q : Place) × (place_of g n ≡ Some q) × (q.site.host ≡ host)
  brings n m p there from bytes answer host acts k =
      let same : call.Receive from bytes answer ≡ call.Receive k.sender.site.address k.datagram.text answer = (λ i. call.Receive (k.address i) (k.text i) answer) in
      let r = each-call.delivers (around at f n) k.sender.site p.site k.k k.datagram answer host k.sent k.in_time (subst (λ (c : Call). Acts c p.site.host host) same acts) in
      goes at f n m p k.sender (call.Receive from bytes answer) (Delivers k.k answer) host r.0 there k.there r.1 r.2
      (λ q is d sent. (let one : k.sender ≡ q = same-some k.sender q (sym k.there ∙ is) in
      let two : k.datagram ≡ d = same-some k.datagram d (sym k.sent ∙ ap (λ (z : Place). slice_get z.site.log k.k) one ∙ sent) in
      ap (λ (z : Logged). z.to) (sym two) ∙ k.to_it))
      (k.datagram, k.sent, same)

  received : (n : Node) (p : Place) → place_of f n ≡ Some p → (from : Addr) (bytes : List ℕ) (answer : Received) (host : Host) → Acts (call.Receive from bytes answer) p.site.host host → AllowsCall n Server (call.Receive from bytes answer)
      → (is_host at (length f.clients) from ≡ false) ⊎ ((m : Node) × IsHonest at f n m p from bytes)
      → (g : Net) × Makes at n (call.Receive from bytes answer) f g × (q : Place) × (place_of g n ≡ Some q) × (q.site.host ≡ host)
  received n p there from bytes answer host acts allowed (inl strange) = calls n p there (call.Receive from bytes answer) host acts strange allowed
  received n p there from bytes answer host acts allowed (inr k) = brings n k.0 p there from bytes answer host acts k.1

  steps : (n : Node) (p : Place) → place_of f n ≡ Some p → (c : Call) (host : Host) → Acts c p.site.host host → MayMake at f n p c → (g : Net) × Makes at n c f g × (q : Place) × (place_of g n ≡ Some q) × (q.site.host ≡ host)
  steps (Client i) p there (call.Connect address channels info word answer) host acts may =
      calls (Client i) p there (call.Connect address channels info word answer) host acts (may ∙ sym (each-holds at apart f s Server f.server refl).address) refl
  steps Server p there (call.Connect address channels info word answer) host acts may = absurd may
  steps (Client i) p there (call.Receive from bytes answer) host acts may = received (Client i) p there from bytes answer host acts refl may
  steps Server p there (call.Receive from bytes answer) host acts may = received Server p there from bytes answer host acts refl may
  steps (Client i) p there c host acts may = calls (Client i) p there c host acts tt refl
  steps Server p there c host acts may = calls Server p there c host acts tt refl

pub never-stuck : NeverStuck
never-stuck at apart server clients one all ms f r n p there c host acts may =
    steps at apart f (all-told at apart (length clients) [] ms (open_net at server clients) f r (open-told at apart server clients one all)).sound n p there c host acts may
