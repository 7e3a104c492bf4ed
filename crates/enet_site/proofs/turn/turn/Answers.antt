use Rattle.std.proofs.Common.{◌≡◌, ℕ, true, List, [], ◌∷◌, ◌++◌, length, rules, sym, ap, subst, ◌∙◌}
use Rattle.std.proofs.lemmas.List.{with_items_is}
use Rattle.enet_peer.specs.Heading.{IsRead}
use Rattle.law_network.specs.Log.{Logged}
use Rattle.law_network.specs.Network.{HostEnd}
use Rattle.enet_site.specs.Records.{Records, HasEnd}
use Rattle.enet_site.specs.RecordsPrivate.Records.{AreKept}
use Rattle.enet_site.proofs.Keeps.{kept-noted}
use Rattle.enet_site.proofs.Reading.{gave-read, gave-address}
use Rattle.enet_site.proofs.turn.turn.Goals as goal

pub note-datagram-requires-clause-there : goal.note-datagram-requires-clause-there
note-datagram-requires-clause-there g c =
    let given = c.in-Some.ensures.gives in
    let at = gave-address c.args.host.now c.emit.new.host c.in-Some.name c.in-Some.to given.len given.buf given.serves in
    let host : g.A.Around.hosts c.args.around.now c.in-Some.to ≡ true = sym c.is_host.ensures ∙ c.if-not-is_host.false in
    subst (λ (xs : List HostEnd). HasEnd xs c.in-Some.name) (sym (c.deref_mut.ensures.value ∙ ap (λ (r : Records). r.ends) c.own.view_is)) (c.requires c.in-Some.name c.in-Some.to at host)

pub note-datagram-requires-clause-read : goal.note-datagram-requires-clause-read
note-datagram-requires-clause-read g c =
    let given = c.in-Some.ensures.gives in
    let r = gave-read c.args.host.now c.emit.new.host c.in-Some.name c.in-Some.to given.len given.buf given.serves in
    (r.0, r.1, subst (λ (l : List ℕ). IsRead l r.0 r.1) (sym given.text_is) r.2)

pub invariant_of-own-2 : goal.invariant_of-own-2
invariant_of-own-2 g c =
    let long : length c.note-datagram.new.ends ≡ c.own.inside.ends.len = search rules in
    subst (AreKept c.push_reserved.new.self.items) (sym (with_items_is c.own.inside.ends c.note-datagram.new.ends long))
    (kept-noted (g.A.Around.numbers c.args.around.now) c.in-Some.name c.in-Some.to c.in-Some.text.items c.deref_mut.result.now c.note-datagram.new.ends c.note-datagram.result c.own.inside.log.items c.push_reserved.new.self.items
    (subst (AreKept c.own.inside.log.items) (sym c.deref_mut.ensures.value) c.own.invariant) c.note-datagram.ensures
    (◌∙◌ {A = List Logged} c.push_reserved.ensures.items (ap (λ (l : List Logged). l ++ c.note-datagram.result ∷ []) c.reserve.ensures.items)))
