-- What a call of a host does is a step of its fleet.
use Rattle.std.proofs.Common.{◌≡◌, ℕ, ◌||◌, true, false, Bool, List, [], ◌∷◌, ◌++◌, length, refl, sym, ap, subst, ◌∙◌, Option, Some, None, is_none, Result, Ok, Err, IfOk, slice_get, slice_set}
use Rattle.std.proofs.lemmas.List.{set-get_or}
use Rattle.std.proofs.lemmas.Option.{get_or_from_slice_get}
use Rattle.std.proofs.lemmas.Result.{IfOk-weaker}
use Rattle.std.specs.Option.{option_and_then, option_zip}
use Rattle.enet_codec.specs.declared.address.Addr.{Addr}
use Rattle.enet_codec.specs.declared.event.DisconnectMode.{DisconnectMode}
use Rattle.enet_codec.specs.declared.event.Event.{Event}
use Rattle.enet_codec.specs.declared.event.PeerRef.{PeerRef}
use Rattle.enet_codec.specs.declared.event.Received.{Received}
use Rattle.enet_codec.specs.declared.refusal.Refusal.{Refusal}
use Rattle.enet_codec.specs.declared.refusal.Refusal.TheVariants.{Memory, NoSuchHost}
use Rattle.enet_peer.specs.declared.parts.PeerEvent.{PeerEvent}
use Rattle.enet_peer.specs.declared.parts.PeerEvent.TheVariants as told
use Rattle.enet_slot.specs.Slot.{name_of}
use Rattle.enet_slot.specs.Calls.{event_of}
use Rattle.enet_host.specs.Host.{Host}
use Rattle.enet_host.specs.Calls.{TakesOne, address_in, address_named}
use Rattle.enet_host.specs.Calls as host_calls
use Rattle.enet_host.specs.Foretelling.{teller_of, Foretells}
use Rattle.enet_codec.specs.declared.config.Admission.{Admission}
use Rattle.law_network.specs.Calls.{Call}
use Rattle.law_network.specs.Calls as call
use Rattle.enet_fleet.specs.declared.answer.Answer.{Answer}
use Rattle.enet_fleet.specs.declared.answer.Answer.TheVariants as answers
use Rattle.law_network.specs.Network.{Site}
use Rattle.law_network.specs.Steps.{Happening, Calls, Delivers, Happens, HappensAmong, Called}
use Rattle.law_network.specs.World.{IsRefusedFor, RefusesCall, RefusesTake}
use Rattle.law_network.proofs.Names.{there-slot}
use Rattle.law_network.specs.declared.put_out.Sent.TheVariants.{Of, Away}
use Rattle.enet_site.specs.declared.put_out.Turned.{Turned}
use Rattle.enet_site.specs.declared.put_out.Turned.TheVariants as turn
use Rattle.law_network.specs.Places.{Place}
use Rattle.enet_site.specs.Sites.{CallsAt}
use Rattle.enet_site.specs.Turning.{CallsAround, TurnsAmong}
use Rattle.enet_fleet.specs.declared.event.FleetEvent.{FleetEvent}
use Rattle.enet_fleet.specs.declared.event.FleetEvent.TheVariants as happen
use Rattle.law_headline.specs.declared.node.Node.{Node}
use Rattle.law_headline.specs.declared.node.Node.TheVariants.{Server, Client}
use Rattle.enet_fleet.specs.Fleets.{Fleet, place_of, with_place, address_of, is_host, numbers_far, asked_after, sent_if, sent_after, HappensAt, logged_to, next_number, brings, lacks, RefusesAt, RefusesTakeAt, refused_there, refused_delivery, RefusesThere, RefusesIf, Refuses, IsFrom, Steps}
use Rattle.enet_fleet.specs.Private.Around.{around}
use Rattle.enet_fleet.specs.Private.Turning.{PutsOutByTurn, sent_of}
use Rattle.enet_fleet.proofs.Runs.{is_connect}

-- a host put back as it was

pub with-same : (f : Fleet) (n : Node) (p : Place) → place_of f n ≡ Some p → with_place f n p ≡ f
with-same f Server p there = ap (λ (o : Option Place). record f { server = of o }) (sym there)
  where
    of : Option Place → Place
    of None = p
    of (Some q) = q
with-same f (Client i) p there =
    ap (λ (ps : List Place). record f { clients = ps }) (ap (slice_set f.clients i) (sym (get_or_from_slice_get f.clients i p p there)) ∙ set-get_or f.clients i p)

-- an event that is refused

pub lacking : (f : Fleet) (event : FleetEvent) → lacks f event ≡ true → Refuses f event NoSuchHost
lacking f event h = subst (λ (b : Bool). RefusesIf b f event NoSuchHost) (sym h) refl

pub refusing : (f : Fleet) (event : FleetEvent) (why : Refusal) → lacks f event ≡ false → RefusesThere f event why → Refuses f event why
refusing f event why h refused = subst (λ (b : Bool). RefusesIf b f event why) (sym h) refused

pub none-there : (o : Option Place) → o ≡ None → is_none o ≡ true
none-there o e = ap is_none e

pub some-there : (o : Option Place) (p : Place) → o ≡ Some p → is_none o ≡ false
some-there o p e = ap is_none e

-- one thing at a host

stays : (n : Node) (what : Happening) (f : Fleet) (is : Place) → asked_after n what f.asked ≡ f.asked → with_place f n is ≡ record (with_place f n is) { asked = asked_after n what f.asked }
stays Server what f is h = ap (λ (a : List ℕ). record f { server = is; asked = a }) (sym h)
stays (Client i) what f is h = ap (λ (a : List ℕ). record f { clients = slice_set f.clients i is; asked = a }) (sym h)

pub done : (n from : Node) (what : Happening) (f : Fleet) (was sender is : Place) → asked_after n what f.asked ≡ f.asked → place_of f n ≡ Some was → place_of f from ≡ Some sender
    → HappensAmong (around f n) sender.site what was.site is.site → is.sent ≡ sent_after (is_host (length f.clients)) what was → HappensAt n from what f (with_place f n is)
done n from what f was sender is asked there sends here sent =
    record { happens = record { was = was; there = there; sender = sender; sends = sends; is = is; here = here; rest = stays n what f is asked }; sent = sent }

-- but for a Connect no call adds to the connections
pub no-connect : (n : Node) (c : Call) (asked : List ℕ) → is_connect c ≡ false → asked_after n (Calls c) asked ≡ asked
no-connect Server c asked h = refl
no-connect (Client i) (call.Connect address channels info word answer) asked h = absurd (let e : true ≡ false = h in cc)
no-connect (Client i) c asked h = refl

pub no-more : (n : Node) (k : ℕ) (answer : _) (asked : List ℕ) → asked_after n (Delivers k answer) asked ≡ asked
no-more Server k answer asked = refl
no-more (Client i) k answer asked = refl

-- a call that puts nothing out
pub called : (n : Node) (c : Call) (f : Fleet) (was : Place) (new : Site) → is_connect c ≡ false → place_of f n ≡ Some was
    → HappensAmong (around f n) f.server.site (Calls c) was.site new → sent_after (is_host (length f.clients)) (Calls c) was ≡ was.sent
    → HappensAt n Server (Calls c) f (with_place f n (record was { site = new }))
called n c f was new plain there here sent = done n Server (Calls c) f was f.server (record was { site = new }) (no-connect n c f.asked plain) there refl here (sym sent)

-- a call that its host refuses

pub refuses-at : (f : Fleet) (n : Node) (was : Place) (c : Call) → place_of f n ≡ Some was → RefusesCall c was.site → RefusesAt (place_of f n) c
refuses-at f n was c there h = subst (λ (o : Option Place). RefusesAt o c) (sym there) h

pub refuses-take : (f : Fleet) (n : Node) (was : Place) (why : Refusal) → place_of f n ≡ Some was → RefusesTake why was.site.host → RefusesTakeAt (place_of f n) why
refuses-take f n was why there h = subst (λ (o : Option Place). RefusesTakeAt o why) (sym there) h

pub refused : (f : Fleet) (event : FleetEvent) (why : Refusal) (n : Node) (was : Place) (new : Site) → lacks f event ≡ false → RefusesThere f event why
    → place_of f n ≡ Some was → new ≡ was.site → Steps f event (Err why) (with_place f n (record was { site = new }))
refused f event why n was new h r there same = (refusing f event why h r, ap (λ (s : Site). with_place f n (record was { site = s })) same ∙ with-same f n was there)

-- events of a host alone

pub submitted : (f : Fleet) (n : Node) (was : Place) (new : Site) (peer : PeerRef) (channel flags : ℕ) (body : List ℕ) → place_of f n ≡ Some was
    → CallsAt (call.Submit peer channel (record { flags = flags; body = body }) (Ok tt)) was.site new
    → Steps f (happen.Submit n peer channel flags body) (Ok answers.Done) (with_place f n (record was { site = new }))
submitted f n was new peer channel flags body there h =
    let c = call.Submit peer channel (record { flags = flags; body = body }) (Ok tt) in
    (Calls c, refl, called n c f was new refl there (h (length f.asked) f.server.site) refl)

pub ticked : (f : Fleet) (n : Node) (was : Place) (new : Site) (ms : ℕ) → place_of f n ≡ Some was → CallsAt (call.Tick ms) was.site new
    → Steps f (happen.Tick n ms) (Ok answers.Done) (with_place f n (record was { site = new }))
ticked f n was new ms there h = (Calls (call.Tick ms), refl, called n (call.Tick ms) f was new refl there (h (length f.asked) f.server.site) refl)

teller-is : (name : PeerRef) (e : PeerEvent) → teller_of (event_of name e) ≡ Some name
teller-is name (told.Connect info) = refl
teller-is name (told.Receive q) = refl
teller-is name (told.Disconnect info) = refl

-- the host has the peer of an event that it gives
given-from : (h : Host) (event : Event) (after : Host) → TakesOne h event after → (a : Addr) × (option_and_then (address_named h.slots) (teller_of event) ≡ Some a)
given-from h event after t = (
  t.first.slot.address,
  ap (λ (e : Event). option_and_then (address_named h.slots) (teller_of e)) t.gives.told ∙ ap (option_and_then (address_named h.slots)) (teller-is name t.gives.taken.event)
      ∙ ap address_in (there-slot h.slots name t.gives.peer (record { slot = t.first.slot; there = t.first.there; same = refl; peer = t.gives.held })) ∙ ap (host_calls.address_of t.first.slot) t.gives.held,
)
  where
    name : PeerRef
    name = name_of t.from t.first.slot

pub taken-one : (f : Fleet) (n : Node) (was : Place) (new : Site) (event : Event) (from : Addr) → place_of f n ≡ Some was → CallsAt (call.NextEvent (Some event)) was.site new
    → option_and_then (address_named was.site.host.slots) (teller_of event) ≡ Some from
    → Steps f (happen.Take n) (Ok (answers.Taken (Some (event, from)))) (with_place f n (record was { site = new }))
taken-one f n was new event from there h at = (
  Calls (call.NextEvent (Some event)),
  (refl, subst (λ (o : Option Place). IsFrom o event from) (sym there) at),
  called n (call.NextEvent (Some event)) f was new refl there (h (length f.asked) f.server.site) refl,
)

pub taken : (f : Fleet) (n : Node) (was : Place) (new : Site) (event : Option Event) (from : Option Addr) → place_of f n ≡ Some was → CallsAt (call.NextEvent event) was.site new
    → Foretells (λ e. option_and_then (address_named was.site.host.slots) (teller_of e)) was.site.host from
    → Steps f (happen.Take n) (Ok (answers.Taken (option_zip event from))) (with_place f n (record was { site = new }))
taken f n was new None from there h tells = (Calls (call.NextEvent None), refl, called n (call.NextEvent None) f was new refl there (h (length f.asked) f.server.site) refl)
taken f n was new (Some event) from there h tells =
    let takes : TakesOne was.site.host event new.host = (h (length f.asked) f.server.site).0 in
    let g = given-from was.site.host event new.host takes in
    subst (λ (o : Option Addr). Steps f (happen.Take n) (Ok (answers.Taken (option_zip (Some event) o))) (with_place f n (record was { site = new }))) (sym (tells (Some event) new.host takes ∙ g.1))
    (taken-one f n was new event g.0 there h g.1)

pub left : (f : Fleet) (n : Node) (was : Place) (new : Site) (peer : PeerRef) (how : DisconnectMode) (info : ℕ) → place_of f n ≡ Some was
    → CallsAt (call.Disconnect how peer info (Ok tt)) was.site new
    → Steps f (happen.Disconnect n peer how info) (Ok answers.Done) (with_place f n (record was { site = new }))
left f n was new peer how info there h =
    let c = call.Disconnect how peer info (Ok tt) in
    (Calls c, refl, called n c f was new refl there (h (length f.asked) f.server.site) refl)

pub admitted : (f : Fleet) (n : Node) (was : Place) (new : Site) (what : Admission) → place_of f n ≡ Some was
    → CallsAt (call.Admit what (Ok tt)) was.site new
    → Steps f (happen.Admit n what) (Ok answers.Done) (with_place f n (record was { site = new }))
admitted f n was new what there h =
    let c = call.Admit what (Ok tt) in
    (Calls c, refl, called n c f was new refl there (h (length f.asked) f.server.site) refl)

pub limited : (f : Fleet) (n : Node) (was : Place) (new : Site) (bytes commands : ℕ) → place_of f n ≡ Some was → CallsAt (call.SetSendLimit bytes commands) was.site new
    → Steps f (happen.SetSendLimit n bytes commands) (Ok answers.Done) (with_place f n (record was { site = new }))
limited f n was new bytes commands there h =
    let c = call.SetSendLimit bytes commands in
    (Calls c, refl, called n c f was new refl there (h (length f.asked) f.server.site) refl)

pub heard : (f : Fleet) (n : Node) (was : Place) (new : Site) (addr : Addr) (bytes : List ℕ) (answer : Received) → place_of f n ≡ Some was
    → is_host (length f.clients) addr ≡ false → ((next : ℕ) → Called next (call.Receive addr bytes answer) was.site new)
    → Steps f (happen.Stranger n addr bytes) (Ok (answers.Received answer)) (with_place f n (record was { site = new }))
heard f n was new addr bytes answer there strange h =
    let c = call.Receive addr bytes answer in
    (Calls c, refl, called n c f was new refl there (strange, h (length f.asked)) refl)

-- a client asks the server for a connection

pub asks : (f : Fleet) (i : ℕ) (was : Place) (new : Site) (asked : List ℕ) (channels info word : ℕ) (name : PeerRef) → slice_get f.clients i ≡ Some was → f.server.site.address ≡ address_of Server
    → Happens (length f.asked) f.server.site (Calls (call.Connect f.server.site.address channels info word (Ok name))) was.site new → asked ≡ f.asked ++ i ∷ []
    → Steps f (happen.Connect i channels info word) (Ok (answers.Peer name)) (record f { clients = slice_set f.clients i (record was { site = new }); asked = asked })
asks f i was new asked channels info word name there at h noted = (
  Calls (call.Connect (address_of Server) channels info word (Ok name)),
  refl,
  record {
    happens = record {
      was = was;
      there = there;
      sender = f.server;
      sends = refl;
      is = record was { site = new };
      here = subst (λ (a : Addr). HappensAmong (around f (Client i)) f.server.site (Calls (call.Connect a channels info word (Ok name))) was.site new) at h;
      rest = λ t. record f { clients = slice_set f.clients i (record was { site = new }); asked = noted t };
    };
    sent = refl;
  },
)

pub ask-refused : (f : Fleet) (i : ℕ) (was : Place) (new : Site) (asked : List ℕ) (channels info word : ℕ) (why : Refusal) → slice_get f.clients i ≡ Some was → f.server.site.address ≡ address_of Server
    → RefusesCall (call.Connect f.server.site.address channels info word (Err why)) was.site → new ≡ was.site → asked ≡ f.asked
    → Steps f (happen.Connect i channels info word) (Err why) (record f { clients = slice_set f.clients i (record was { site = new }); asked = asked })
ask-refused f i was new asked channels info word why there at r same none =
    let c = λ (a : Addr). call.Connect a channels info word (Err why) in (
      refusing f (happen.Connect i channels info word) why (some-there (slice_get f.clients i) was there)
          (refuses-at f (Client i) was (c (address_of Server)) there (subst (λ (a : Addr). RefusesCall (c a) was.site) at r)),
      (λ t. record f { clients = slice_set f.clients i (record was { site = same t }); asked = none t }) ∙ with-same f (Client i) was there,
    )

-- the network brings a datagram

pub brings-it : (r : Result Received Refusal) (to : Addr) (p : Place) (k n : ℕ) (from old new : Site) → logged_to to p k ≡ Some n → from ≡ p.site
    → IfOk r (λ answer. (next : ℕ) → Happens next from (Delivers n answer) old new)
    → IfOk r (λ answer. (m : ℕ) × (logged_to to p k ≡ Some m) × ((next : ℕ) → Happens next p.site (Delivers m answer) old new))
brings-it r to p k n from old new found same h =
    IfOk-weaker r (λ answer. (next : ℕ) → Happens next from (Delivers n answer) old new) (λ answer. (m : ℕ) × (logged_to to p k ≡ Some m) × ((next : ℕ) → Happens next p.site (Delivers m answer) old new))
    (λ answer g. (n, found, λ next. subst (λ (s : Site). Happens next s (Delivers n answer) old new) same (g next))) h

pub delivered : (f : Fleet) (to from : Node) (k n : ℕ) (was sender : Place) (new : Site) (answer : Received) → place_of f to ≡ Some was → place_of f from ≡ Some sender
    → logged_to (address_of to) sender k ≡ Some n → ((next : ℕ) → Happens next sender.site (Delivers n answer) was.site new)
    → Steps f (happen.Deliver to from k) (Ok (answers.Received answer)) (with_place f to (record was { site = new }))
delivered f to from k n was sender new answer there sends found h = (
  Delivers n answer,
  (n, ap (λ (o : Option Place). brings to o k) sends ∙ found, refl),
  done to from (Delivers n answer) f was sender (record was { site = new }) (no-more to n answer f.asked) there sends (h 0) refl,
)

pub undelivered : (f : Fleet) (to from : Node) (k : ℕ) (was sender : Place) (new : Site) (why : Refusal) → place_of f to ≡ Some was → place_of f from ≡ Some sender
    → IsRefusedFor why (refused_there sender.site was.site (logged_to (address_of to) sender k)) → new ≡ was.site
    → Steps f (happen.Deliver to from k) (Err why) (with_place f to (record was { site = new }))
undelivered f to from k was sender new why there sends r same =
    refused f (happen.Deliver to from k) why to was new (λ t. is_none (there t) || is_none (sends t))
    (subst (λ (o : Option Place). IsRefusedFor why (refused_delivery to o (place_of f to) k)) (sym sends)
    (subst (λ (o : Option Place). IsRefusedFor why (refused_delivery to (Some sender) o k)) (sym there) r))
    there same

-- a turn

pub turned : (f : Fleet) (n : Node) (k : Option ℕ) (was is : Place) → place_of f n ≡ Some was → PutsOutByTurn (is_host (length f.clients)) (numbers_far f n) k was is
    → Steps f (happen.Turn n) (Ok (answers.Sent k)) (with_place f n is)
turned f n None was is there h =
    let c = call.Service None h.0 in
    (Calls c, (h.0, refl), done n Server (Calls c) f was f.server is (no-connect n c f.asked refl) there refl (h.1 (length f.asked) f.server.site) h.2)
turned f n (Some k) was is there h =
    let c = call.Service (Some h.1) h.2 in
    (Calls c, (h.1, h.2, refl, h.0 ∙ sym (ap next_number there)), done n Server (Calls c) f was f.server is (no-connect n c f.asked refl) there refl (h.3 (length f.asked) f.server.site) h.4)

pub not-turned : (f : Fleet) (n : Node) (why : Refusal) (was is : Place) → place_of f n ≡ Some was → why ≡ Memory → is ≡ was → Steps f (happen.Turn n) (Err why) (with_place f n is)
not-turned f n why was is there memory same =
    (refusing f (happen.Turn n) why (some-there (place_of f n) was there) memory, ap (with_place f n) same ∙ with-same f n was there)

-- what a turn put out is kept

pub puts-none : (hosts : Addr → Bool) (far : ℕ → List ℕ) (was is : Place) (site : Site) → site ≡ was.site → TurnsAmong hosts far None site is.site → is.sent ≡ was.sent → PutsOutByTurn hosts far None was is
puts-none hosts far was is site same h kept = (h.0, subst (λ (s : Site). CallsAround hosts far (call.Service None h.0) s is.site) same h.1, kept)

pub puts-some : (hosts : Addr → Bool) (far : ℕ → List ℕ) (was is : Place) (site : Site) (given : Turned) (k : ℕ) → site ≡ was.site → TurnsAmong hosts far (Some given) site is.site → k ≡ length was.sent
    → is.sent ≡ was.sent ++ sent_of given ∷ [] → PutsOutByTurn hosts far (Some k) was is
puts-some hosts far was is site (turn.Sent n) k same h number kept = (
  number,
  h.1,
  h.2,
  subst (λ (s : Site). CallsAround hosts far (call.Service (Some h.1) h.2) s is.site) same h.4,
  kept ∙ ap (λ (m : ℕ). was.sent ++ Of m ∷ []) (h.0 ∙ ap (λ (s : Site). length s.log) same) ∙ ap (λ (b : Bool). sent_if b h.1 h.2 was) (sym h.3),
)
puts-some hosts far was is site (turn.Away to text) k same h number kept = (
  number,
  h.0,
  h.1,
  subst (λ (s : Site). CallsAround hosts far (call.Service (Some h.0) h.1) s is.site) same h.5,
  kept ∙ (λ t. was.sent ++ Away (h.3 t) (h.4 t) ∷ []) ∙ ap (λ (b : Bool). sent_if b h.0 h.1 was) (sym h.2),
)

-- what is so of the hosts, seen from inside, is so of the fleet
pub at-client : (f w : Fleet) (event : ℕ → FleetEvent) (r : Result Answer Refusal) (i client : ℕ) (new : Fleet) → w ≡ f → i ≡ client → Steps w (event i) r new → Steps f (event client) r new
at-client f w event r i client new same at h = subst (λ (g : Fleet). Steps g (event client) r new) same (subst (λ (k : ℕ). Steps w (event k) r new) at h)
