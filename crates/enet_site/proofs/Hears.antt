-- A datagram comes, at its site.
use Rattle.std.proofs.Common.{◌≡◌, ◌≢◌, ℕ, ◌==◌, Bool, false, List, [], ◌++◌, append-nil, sym, ap, subst, ◌∙◌, arith, Option, Some, None, IfNone, Result, Ok, Err, IfOk}
use Rattle.std.proofs.lemmas.Bool.Decides.{nat_tests}
use Rattle.enet_codec.specs.declared.address.Addr.{Addr}
use Rattle.enet_codec.specs.declared.event.PeerRef.{PeerRef}
use Rattle.enet_codec.specs.declared.event.Received.{Received}
use Rattle.enet_codec.specs.declared.refusal.Refusal.{Refusal}
use Rattle.enet_codec.specs.declared.header.Header.{Header}
use Rattle.enet_peer.specs.Heading.{IsRead}
use Rattle.enet_host.specs.Host.{Host}
use Rattle.enet_host.specs.Foretelling.{guest_name}
use Rattle.enet_host.specs.Opening.{host_basis}
use Rattle.enet_slot.specs.Receiving.{no_peer}
use Rattle.law_network.specs.Calls.{Acts}
use Rattle.law_network.specs.Calls as call
use Rattle.law_network.specs.Log.{Logged}
use Rattle.law_network.specs.Network.{HostEnd, delivery_refusal}
use Rattle.law_network.specs.Steps.{BringsOne, Brought, begun}
use Rattle.enet_site.specs.Records.{Records}
use Rattle.enet_site.specs.Sites.{site}
use Rattle.enet_site.proofs.Beginning.{begun-none}

pub other-peer : (b : Bool) (text : List ℕ) → b ≡ false → ((header : Header) (commands : List ℕ) → IsRead text header commands → b ≡ (header.peer == no_peer)) → (header : Header) (commands : List ℕ) → IsRead text header commands → header.peer ≢ no_peer
other-peer b text is says header commands read same = (let t : (header.peer == no_peer) ≡ false = sym (says header commands read) ∙ is in grind (arith, nat_tests))

pub none-answers : (o : Option PeerRef) (h : Host) (from : Addr) (text : List ℕ) → o ≡ guest_name (host_basis h) from h.slots → IfNone o ((x : ℕ) (answer : Received) (after : Host) → Acts (call.Receive from text answer) h after → begun x from h after ≡ [])
none-answers None h from text is = λ x answer after acts. begun-none x from h after (sym is)
none-answers (Some name) h from text is = tt

-- what a datagram of this connection does that begins these ends
pub brought-by : (from : Addr) (d : Logged) (x : ℕ) (text : List ℕ) (answer : Received) (old new : Host) (was : Records) (log : List Logged) (ends after more : List HostEnd) → x ≡ d.connection → text ≡ d.text → record { log = log; ends = ends } ≡ was → Acts (call.Receive from text answer) old new
    → begun x from old new ≡ more → after ≡ ends ++ more → (address : Addr) → Brought from d answer (site address old was) (site address new (record { log = log; ends = after }))
brought-by from d x text answer old new was log ends after more of same view acts begins is =
    subst (λ (w : Records). (address : Addr) → Brought from d answer (site address old w) (site address new (record { log = log; ends = after }))) view
    (λ address. (
      subst (λ (t : List ℕ). Acts (call.Receive from t answer) old new) same acts,
      (λ i. record { address = address; host = new; log = log; ends = (is ∙ ap (λ (l : List HostEnd). ends ++ l) (sym begins ∙ ap (λ (n : ℕ). begun n from old new) of)) i }),
    ))

-- what one does that nobody answers
pub brought-none : (from : Addr) (d : Logged) (text asked : List ℕ) (answer : Received) (old now new : Host) (own : Records) → text ≡ d.text → asked ≡ d.text → now ≡ old → Acts (call.Receive from text answer) now new
    → ((x : ℕ) (told : Received) (after : Host) → Acts (call.Receive from asked told) old after → begun x from old after ≡ []) → (address : Addr) → Brought from d answer (site address old own) (site address new own)
brought-none from d text asked answer old now new own same same_asked kept acts none =
    let acts' : Acts (call.Receive from d.text answer) old new = subst (λ (h : Host). Acts (call.Receive from d.text answer) h new) kept (subst (λ (t : List ℕ). Acts (call.Receive from t answer) now new) same acts) in
    let begins : begun d.connection from old new ≡ [] = none d.connection answer new (subst (λ (t : List ℕ). Acts (call.Receive from t answer) old new) (sym same_asked) acts') in
    λ address. (acts', (λ i. record { address = address; host = new; log = own.log; ends = (sym (append-nil own.ends) ∙ ap (λ (l : List HostEnd). own.ends ++ l) (sym begins)) i }))

pub delivered : (r : Result Received Refusal) (from : Addr) (far : Records) (d : Logged) (found : Option Logged) (old new : Host) (was is : Records) → Some d ≡ found
    → ((address : Addr) (g : Host) → None ≡ delivery_refusal (site from g far) (site address old was) found)
    → IfOk r (λ answer. (address : Addr) → Brought from d answer (site address old was) (site address new is))
    → IfOk r (λ answer. (address : Addr) (g : Host) → BringsOne (site from g far) found answer (site address old was) (site address new is))
delivered (Err why) from far d found old new was is there free done = tt
delivered (Ok answer) from far d found old new was is there free done = λ address g.
    (subst (λ (o : Option Logged). (None ≡ delivery_refusal (site from g far) (site address old was) o) → BringsOne (site from g far) o answer (site address old was) (site address new is)) there
    (λ none. (sym none, done address)) (free address g))
