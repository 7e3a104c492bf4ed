-- What a call said of a host and what is kept of it, it says of the site.
use Rattle.std.proofs.Common.{◌≡◌, ℕ, false, List, [], refl, subst, Option, Result, Ok, Err, IfOk, IfErr, OnErr, slice_get}
use Rattle.enet_codec.specs.declared.address.Addr.{Addr}
use Rattle.enet_codec.specs.declared.event.Event.{Event}
use Rattle.enet_codec.specs.declared.event.PeerRef.{PeerRef}
use Rattle.enet_codec.specs.declared.event.Received.{Received}
use Rattle.enet_codec.specs.declared.refusal.Refusal.{Refusal}
use Rattle.enet_sender.specs.CommandChoice.{Packet}
use Rattle.enet_host.specs.Host.{Host}
use Rattle.enet_slot.specs.Giving.{no_address}
use Rattle.law_network.specs.Calls.{Call, Done, Acts}
use Rattle.law_network.specs.Calls as call
use Rattle.law_network.specs.Network.{Site, delivery_refusal}
use Rattle.law_network.specs.Steps.{Calls, Delivers, beside, Happens, Called, BringsOne}
use Rattle.law_network.specs.World.{IsRefusedFor, RefusesCall}
use Rattle.enet_site.specs.Records.{Records}
use Rattle.enet_site.specs.Sites.{site, CallsAt}
use Rattle.enet_site.specs.Private.Sites.{IsWhole, CallsOn}
use Rattle.enet_site.proofs.Going.{whole-goes, whole-after}

pub refuses-at : {T : Type 0} (r : Result T Refusal) (c : Refusal → Call) (a : Addr) (h : Host) (was : Records) (s : Site) → site a h was ≡ s → IfErr r (λ why. Acts (c why) h h) → IfErr r (λ why. RefusesCall (c why) s)
refuses-at (Ok x) c a h was s same is = tt
refuses-at (Err why) c a h was s same is = subst (RefusesCall (c why)) same is

-- a connection is asked for

pub asked-refused-at : (r : Result PeerRef Refusal) (a b : Addr) (h g : Host) (was far : Records) (channels info word : ℕ) (s f : Site) → site a h was ≡ s → site b g far ≡ f
    → IfErr r (λ why. Acts (call.Connect b channels info word (Err why)) h h) → IfErr r (λ why. RefusesCall (call.Connect f.address channels info word (Err why)) s)
asked-refused-at r a b h g was far channels info word s f before beside is =
    subst (λ (z : Site). IfErr r (λ why. RefusesCall (call.Connect z.address channels info word (Err why)) s)) beside (refuses-at r (λ why. call.Connect b channels info word (Err why)) a h was s before is)

pub asked-at : (r : Result PeerRef Refusal) (a b : Addr) (old new g : Host) (was is far : Records) (next channels info word : ℕ) (s f : Site) → site a old was ≡ s → site b g far ≡ f
    → IfOk r (λ name. CallsOn next (call.Connect b channels info word (Ok name)) (record { host = old; records = was }) (record { host = new; records = is })) → IfOk r (λ name. Happens next f (Calls (call.Connect f.address channels info word (Ok name))) s (site a new is))
asked-at (Err why) a b old new g was is far next channels info word s f before beside done = tt
asked-at (Ok name) a b old new g was is far next channels info word s f before beside done =
    subst (λ (z : Site). Happens next z (Calls (call.Connect z.address channels info word (Ok name))) s (site a new is)) beside
    (subst (λ (z : Site). Happens next (site b g far) (Calls (call.Connect b channels info word (Ok name))) z (site a new is)) before (refl, done a))

pub asked-whole : (r : Result PeerRef Refusal) (b : Addr) (old new : Host) (was is : Records) (next channels info word : ℕ) → OnErr r (new ≡ old) → OnErr r (is ≡ was)
    → IfOk r (λ name. CallsOn next (call.Connect b channels info word (Ok name)) (record { host = old; records = was }) (record { host = new; records = is })) → IsWhole old was.ends → IsWhole new is.ends
asked-whole r b old new was is next channels info word host same done k =
    whole-after r (λ name. CallsOn next (call.Connect b channels info word (Ok name)) (record { host = old; records = was }) (record { host = new; records = is })) old new was is host same done
    (λ name d. (beside next (site b old was), site b old was, Calls (call.Connect b channels info word (Ok name)), (refl, d no_address))) k

-- a packet is submitted

pub submitted-at : (r : Done) (a : Addr) (old new : Host) (was is : Records) (name : PeerRef) (channel : ℕ) (q : Packet) (s : Site) → site a old was ≡ s → IfOk r (λ done. CallsOn 0 (call.Submit name channel q (Ok tt)) (record { host = old; records = was }) (record { host = new; records = is }))
    → IfOk r (λ done. CallsAt (call.Submit name channel q (Ok tt)) s (site a new is))
submitted-at (Err why) a old new was is name channel q s before done = tt
submitted-at (Ok u) a old new was is name channel q s before done = subst (λ (z : Site). CallsAt (call.Submit name channel q (Ok tt)) z (site a new is)) before (λ next far. done a)

pub submitted-whole : (r : Done) (old new : Host) (was is : Records) (name : PeerRef) (channel : ℕ) (q : Packet) → OnErr r (new ≡ old) → OnErr r (is ≡ was) → IfOk r (λ done. CallsOn 0 (call.Submit name channel q (Ok tt)) (record { host = old; records = was }) (record { host = new; records = is }))
    → IsWhole old was.ends → IsWhole new is.ends
submitted-whole r old new was is name channel q host same done k =
    whole-after r (λ u. CallsOn 0 (call.Submit name channel q (Ok tt)) (record { host = old; records = was }) (record { host = new; records = is })) old new was is host same done (λ u d. (beside 0 (site no_address old was), site no_address old was, Calls (call.Submit name channel q (Ok tt)), d no_address)) k

-- an event is taken

pub taken-at : (r : Result (Option Event) Refusal) (a : Addr) (old new : Host) (was is : Records) (s : Site) → site a old was ≡ s → IfOk r (λ event. CallsOn 0 (call.NextEvent event) (record { host = old; records = was }) (record { host = new; records = is })) → IfOk r (λ event. CallsAt (call.NextEvent event) s (site a new is))
taken-at (Err why) a old new was is s before done = tt
taken-at (Ok event) a old new was is s before done = subst (λ (z : Site). CallsAt (call.NextEvent event) z (site a new is)) before (λ next far. done a)

pub taken-whole : (r : Result (Option Event) Refusal) (old new : Host) (was is : Records) → OnErr r (new ≡ old) → OnErr r (is ≡ was) → IfOk r (λ event. CallsOn 0 (call.NextEvent event) (record { host = old; records = was }) (record { host = new; records = is })) → IsWhole old was.ends → IsWhole new is.ends
taken-whole r old new was is host same done k =
    whole-after r (λ event. CallsOn 0 (call.NextEvent event) (record { host = old; records = was }) (record { host = new; records = is })) old new was is host same done (λ event d. (beside 0 (site no_address old was), site no_address old was, Calls (call.NextEvent event), d no_address)) k

-- a datagram is brought

pub brought-refused-at : (r : Result Received Refusal) (a b : Addr) (old g : Host) (was far : Records) (n : ℕ) (s f : Site) → site a old was ≡ s → site b g far ≡ f
    → IfErr r (λ why. (address : Addr) (h : Host) → IsRefusedFor why (delivery_refusal (site b h far) (site address old was) (slice_get far.log n))) → IfErr r (λ why. IsRefusedFor why (delivery_refusal f s (slice_get f.log n)))
brought-refused-at (Ok answer) a b old g was far n s f before beside is = tt
brought-refused-at (Err why) a b old g was far n s f before beside is =
    subst (λ (z : Site). IsRefusedFor why (delivery_refusal z s (slice_get z.log n))) beside (subst (λ (z : Site). IsRefusedFor why (delivery_refusal (site b g far) z (slice_get far.log n))) before (is a g))

pub brought-at : (r : Result Received Refusal) (a b : Addr) (old new g : Host) (was is far : Records) (n : ℕ) (s f : Site) → site a old was ≡ s → site b g far ≡ f
    → IfOk r (λ answer. (address : Addr) (h : Host) → BringsOne (site b h far) (slice_get far.log n) answer (site address old was) (site address new is)) → IfOk r (λ answer. (next : ℕ) → Happens next f (Delivers n answer) s (site a new is))
brought-at (Err why) a b old new g was is far n s f before beside done = tt
brought-at (Ok answer) a b old new g was is far n s f before beside done =
    subst (λ (z : Site). (next : ℕ) → Happens next z (Delivers n answer) s (site a new is)) beside
    (subst (λ (z : Site). (next : ℕ) → Happens next (site b g far) (Delivers n answer) z (site a new is)) before (λ next. done a g))

pub brought-whole : (r : Result Received Refusal) (b : Addr) (old new : Host) (was is far : Records) (n : ℕ) → OnErr r (new ≡ old) → OnErr r (is ≡ was)
    → IfOk r (λ answer. (address : Addr) (h : Host) → BringsOne (site b h far) (slice_get far.log n) answer (site address old was) (site address new is)) → IsWhole old was.ends → IsWhole new is.ends
brought-whole r b old new was is far n host same done k =
    whole-after r (λ answer. (address : Addr) (h : Host) → BringsOne (site b h far) (slice_get far.log n) answer (site address old was) (site address new is)) old new was is host same done
    (λ answer d. (beside 0 (site b old far), site b old far, Delivers n answer, d no_address old)) k

-- a stranger's datagram comes

pub heard-whole : (from : Addr) (bytes : List ℕ) (answer : Received) (a : Addr) (old new : Host) (was : Records) → Acts (call.Receive from bytes answer) old new → IsWhole old was.ends → IsWhole new was.ends
heard-whole from bytes answer a old new was acts k =
    whole-goes (record { count = 0; is_host = λ x. false; numbers = λ x. [] }) (site a old was) (site a old was) (site a new was) (Calls (call.Receive from bytes answer)) (refl, (acts, refl)) k

pub heard-at : (from : Addr) (bytes : List ℕ) (answer : Received) (a : Addr) (old new : Host) (was : Records) (s : Site) → site a old was ≡ s → Acts (call.Receive from bytes answer) old new → (next : ℕ) → Called next (call.Receive from bytes answer) s (site a new was)
heard-at from bytes answer a old new was s before acts next = subst (λ (z : Site). Called next (call.Receive from bytes answer) z (site a new was)) before (acts, refl)
