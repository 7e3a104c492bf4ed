-- A turn is what the network's definition says.
use Rattle.std.proofs.Common.{◌≡◌, ℕ, Bool, true, false, List, [], ◌∷◌, ◌++◌, take, refl, sym, ap, subst, ◌∙◌, Option, Some, None, Result, Ok, Err, IfOk, OnErr}
use Rattle.enet_codec.specs.declared.address.Addr.{Addr}
use Rattle.enet_codec.specs.declared.event.PeerRef.{PeerRef}
use Rattle.enet_codec.specs.declared.refusal.Refusal.{Refusal}
use Rattle.enet_host.specs.Host.{Host}
use Rattle.enet_host.specs.Serving.{Serves, served_of}
use Rattle.enet_slot.specs.Giving.{no_address}
use Rattle.law_network.specs.Calls as call
use Rattle.law_network.specs.Log.{Logged}
use Rattle.law_network.specs.Network.{Site}
use Rattle.law_network.specs.Steps.{Around, Calls, LogsIf}
use Rattle.enet_site.specs.Records.{Records, Notes}
use Rattle.enet_site.specs.declared.put_out.Turned.{Turned}
use Rattle.enet_site.specs.declared.put_out.Turned.TheVariants.{Sent, Away}
use Rattle.enet_site.specs.Sites.{site}
use Rattle.enet_site.specs.Private.Sites.{IsWhole}
use Rattle.enet_site.specs.Turning.{CallsAround, TurnsAmong}
use Rattle.enet_site.specs.Private.Turning.{Puts, Turns}
use Rattle.enet_site.proofs.Going.{Goes, whole-after}

abbrev around : (Addr → Bool) → (ℕ → List ℕ) → Around
around hosts far = record { count = 0; is_host = hosts; numbers = far }

-- a datagram to a host is logged

logged : (hosts : Addr → Bool) (far : ℕ → List ℕ) (a : Addr) (old new : Host) (was is : Records) (p : Puts hosts far (record { host = old; records = was }) (record { host = new; records = is })) (text : List ℕ) → text ≡ (p.given).text → text ≡ take (p.gives).len (p.gives).buf
    → Notes far (record p.given { text = take (p.gives).len (p.gives).buf }) was.ends is.ends p.logged → LogsIf true far (served_of ((p.given).name, (p.given).to, (p.gives).len) (p.gives).buf) (site a old was) (site a new is)
logged hosts far a old new was is p text whole cut notes = record {
  own = notes.own;
  there = notes.there;
  name = notes.named;
  header = notes.header;
  commands = notes.commands;
  read = notes.read;
  greatest = notes.greatest;
  marks = notes.marks;
  counts = notes.counts;
  rest = (λ i. record { address = a; host = new; log = (p.log ∙ ap (λ (d : Logged). was.log ++ d ∷ []) notes.is) i; ends = notes.ends i });
}

-- by whether it goes to a host
serves : (hosts : Addr → Bool) (far : ℕ → List ℕ) (b : Bool) (name : PeerRef) (to : Addr) (len : ℕ) (buf : List ℕ) (old new : Site) → hosts to ≡ b → Serves old.host (Some (name, to, len)) buf new.host → LogsIf b far (served_of (name, to, len) buf) old new
    → CallsAround hosts far (call.Service (Some (name, to, len)) buf) old new
serves hosts far b name to len buf old new at gives logs = λ count from. (gives, subst (λ (c : Bool). LogsIf c far (served_of (name, to, len) buf) old new) (sym at) logs)

turns-at : (hosts : Addr → Bool) (far : ℕ → List ℕ) (a : Addr) (old new : Host) (was is : Records) (sent : Option Turned) → Turns hosts far sent (record { host = old; records = was }) (record { host = new; records = is }) → TurnsAmong hosts far sent (site a old was) (site a new is)
turns-at hosts far a old new was is None t = (t.0.0, λ count from. (t.0.1, ap (λ (r : Records). site a new r) t.1))
turns-at hosts far a old new was is (Some (Sent n)) t =
    let p = t.1 in
    let d = p.given in
    let g = p.gives in
    let cut = g.text_is in
    let logs : LogsIf true far (served_of (d.name, d.to, g.len) g.buf) (site a old was) (site a new is) = logged hosts far a old new was is p d.text refl cut (subst (λ (l : List ℕ). Notes far (record d { text = l }) was.ends is.ends p.logged) cut p.notes) in
    (t.0, (d.name, d.to, g.len), g.buf, p.host, serves hosts far true d.name d.to g.len g.buf (site a old was) (site a new is) p.host g.serves logs)
turns-at hosts far a old new was is (Some (Away to text)) t =
    let name = t.0 in
    let g = t.1 in
    let logs : LogsIf false far (served_of (name, to, g.len) g.buf) (site a old was) (site a new is) = ap (λ (r : Records). site a new r) t.3 in
    ((name, to, g.len), g.buf, t.2, refl, g.text_is, serves hosts far false name to g.len g.buf (site a old was) (site a new is) t.2 g.serves logs)

goes-of : (hosts : Addr → Bool) (far : ℕ → List ℕ) (sent : Option Turned) (old new : Host) (was is : Records) → TurnsAmong hosts far sent (site no_address old was) (site no_address new is) → Goes old was new is
goes-of hosts far None old new was is t = (around hosts far, site no_address old was, Calls (call.Service None t.0), t.1 0 (site no_address old was))
goes-of hosts far (Some (Sent n)) old new was is t = (around hosts far, site no_address old was, Calls (call.Service (Some t.1) t.2), t.4 0 (site no_address old was))
goes-of hosts far (Some (Away to text)) old new was is t = (around hosts far, site no_address old was, Calls (call.Service (Some t.0) t.1), t.5 0 (site no_address old was))

-- by what a call answered

pub whole-turned : (r : Result (Option Turned) Refusal) (hosts : Addr → Bool) (far : ℕ → List ℕ) (old new : Host) (was is : Records) → OnErr r (new ≡ old) → OnErr r (is ≡ was) → IfOk r (λ sent. Turns hosts far sent (record { host = old; records = was }) (record { host = new; records = is })) → IsWhole old was.ends → IsWhole new is.ends
whole-turned r hosts far old new was is host same turns k =
    whole-after r (λ sent. Turns hosts far sent (record { host = old; records = was }) (record { host = new; records = is })) old new was is host same turns (λ sent t. goes-of hosts far sent old new was is (turns-at hosts far no_address old new was is sent t)) k

pub site-turned : (r : Result (Option Turned) Refusal) (hosts : Addr → Bool) (far : ℕ → List ℕ) (a : Addr) (old new : Host) (was is : Records) → IfOk r (λ sent. Turns hosts far sent (record { host = old; records = was }) (record { host = new; records = is })) → (s : Site) → site a old was ≡ s → IfOk r (λ sent. TurnsAmong hosts far sent s (site a new is))
site-turned (Ok sent) hosts far a old new was is turns s before = subst (λ (x : Site). TurnsAmong hosts far sent x (site a new is)) before (turns-at hosts far a old new was is sent turns)
site-turned (Err why) hosts far a old new was is turns s before = tt
