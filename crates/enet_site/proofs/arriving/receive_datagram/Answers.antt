use Rattle.std.proofs.Common.{◌≡◌, Bool, List, [], ◌∷◌, ◌++◌, append-nil, length, Some, sym, ap, subst, ◌∙◌}
use Rattle.enet_codec.specs.declared.address.Addr.{Addr}
use Rattle.enet_host.specs.Host.{Host}
use Rattle.enet_host.specs.Foretelling.{guest_name}
use Rattle.enet_host.specs.Opening.{host_basis}
use Rattle.law_network.specs.Log.{Logged}
use Rattle.law_network.specs.Network.{HostEnd, fresh_end}
use Rattle.law_network.specs.Steps.{Brought}
use Rattle.enet_site.specs.Sites.{site}
use Rattle.enet_site.specs.Records.{Records}
use Rattle.enet_site.specs.RecordsPrivate.Records.{AreKept}
use Rattle.enet_site.proofs.RecordsFresh.{fresh-kept}
use Rattle.enet_site.proofs.Keeps.{kept-more}
use Rattle.enet_site.specs.Private.Sites.{AreShown, begun_if}
use Rattle.enet_site.proofs.Beginning.{guest-other}
use Rattle.enet_site.proofs.Hears.{brought-by, brought-none}
use Rattle.enet_site.proofs.arriving.receive_datagram.Goals as goal

pub invariant_of-own-2 : goal.invariant_of-own-2
invariant_of-own-2 c =
    let x = c.datagram.inside.connection in
    let name = c.in-Some.name in
    let items : c.push_reserved.new.self.items ≡ c.own.inside.ends.items ++ fresh_end x name ∷ [] = c.push_reserved.ensures.items ∙ (λ k. c.reserve.ensures.items k ++ c.in_ok-end.ensures.fresh k ∷ []) in
    subst (AreKept c.own.inside.log.items) (sym items)
    (kept-more c.own.inside.log.items c.own.inside.ends.items (fresh_end x name) c.own.invariant (fresh-kept (length c.own.inside.log.items) x name)
    (guest-other c.args.host.now c.args.from c.own.inside.ends.items name c.requires.keeps (subst (λ (r : Records). AreShown c.args.host.now r.ends) (sym c.own.view_is) c.requires.shown) c.in-Some.ensures.next))

-- asking who answers next left the host as it was
pub returns-clause-brings : goal.returns-clause-brings
returns-clause-brings c =
    let x = c.datagram.inside.connection in
    let name = c.in-Some.name in
    let more : List HostEnd = fresh_end x name ∷ [] in
    let log = c.own.inside.log.items in
    let after = c.push_reserved.new.self.items in
    subst (λ (h : Host). (address : Addr) → Brought c.args.from c.args.datagram.now c.receive-begins.result.0 (site address h c.args.own.now) (site address c.receive-begins.new.host (record { log = log; ends = after }))) c.answering_peer.ensures.same
    (brought-by c.args.from c.args.datagram.now x c.deref-2.result.now c.receive-begins.result.0 c.answering_peer.new.host c.receive-begins.new.host c.args.own.now log c.own.inside.ends.items after more
    (ap (λ (d : Logged). d.connection) c.datagram.view_is) (c.deref-2.ensures.value ∙ ap (λ (d : Logged). d.text) c.datagram.view_is) c.own.view_is c.receive-begins.ensures.receives
    (c.receive-begins.ensures.begins x ∙ ap (λ (b : Bool). begun_if b x name) c.if-not-begins.false)
    (c.push_reserved.ensures.items ∙ (λ k. c.reserve.ensures.items k ++ c.in_ok-end.ensures.fresh k ∷ [])))

pub receive-begins-requires : goal.receive-begins-requires
receive-begins-requires c = subst (λ (h : Host). guest_name (host_basis h) c.args.from h.slots ≡ Some c.in-Some.name) (sym c.answering_peer.ensures.same) c.in-Some.ensures.next

-- nobody would answer it
pub returns-in_default-clause-brings : goal.returns-in_default-clause-brings
returns-in_default-clause-brings c =
    brought-none c.args.from c.args.datagram.now c.deref-in_default.result.now c.deref.result.now c.receive.result c.args.host.now c.answering_peer.new.host c.receive.new.self c.args.own.now
    (c.deref-in_default.ensures.value ∙ ap (λ (d : Logged). d.text) c.datagram.view_is) (c.deref.ensures.value ∙ ap (λ (d : Logged). d.text) c.datagram.view_is) c.answering_peer.ensures.same c.receive.ensures c.in_default.ensures.none

-- it was stopped
pub returns-then-not-begins-clause-brings : goal.returns-then-not-begins-clause-brings
returns-then-not-begins-clause-brings c =
    let x = c.datagram.inside.connection in
    let name = c.in-Some.name in
    let log = c.own.inside.log.items in
    let ends = c.own.inside.ends.items in
    let after = c.reserve.new.self.items in
    subst (λ (h : Host). (address : Addr) → Brought c.args.from c.args.datagram.now c.receive-begins.result.0 (site address h c.args.own.now) (site address c.receive-begins.new.host (record { log = log; ends = after }))) c.answering_peer.ensures.same
    (brought-by c.args.from c.args.datagram.now x c.deref-2.result.now c.receive-begins.result.0 c.answering_peer.new.host c.receive-begins.new.host c.args.own.now log ends after []
    (ap (λ (d : Logged). d.connection) c.datagram.view_is) (c.deref-2.ensures.value ∙ ap (λ (d : Logged). d.text) c.datagram.view_is) c.own.view_is c.receive-begins.ensures.receives
    (c.receive-begins.ensures.begins x ∙ ap (λ (b : Bool). begun_if b x name) c.if-not-begins.true)
    (c.reserve.ensures.items ∙ sym (append-nil ends)))
