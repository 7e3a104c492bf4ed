use Rattle.std.proofs.Common.{◌≡◌, [], ◌∷◌, ◌++◌, length, sym, subst, ◌∙◌}
use Rattle.law_network.specs.Network.{fresh_end}
use Rattle.enet_site.specs.Records.{Records}
use Rattle.enet_site.specs.RecordsPrivate.Records.{AreKept}
use Rattle.enet_site.proofs.RecordsFresh.{fresh-kept}
use Rattle.enet_site.proofs.Keeps.{kept-more}
use Rattle.enet_site.specs.Private.Sites.{AreShown}
use Rattle.enet_site.proofs.Beginning.{next-other}
use Rattle.enet_site.proofs.connecting.connect.Goals as goal

pub invariant_of-own-2 : goal.invariant_of-own-2
invariant_of-own-2 c =
    let items : c.push_reserved.new.self.items ≡ c.own.inside.ends.items ++ fresh_end c.args.next c.in_ok-name.name ∷ [] =
    c.push_reserved.ensures.items ∙ (λ k. c.reserve.ensures.items k ++ c.in_ok-end.ensures.fresh k ∷ []) in
    subst (AreKept c.own.inside.log.items) (sym items)
    (kept-more c.own.inside.log.items c.own.inside.ends.items (fresh_end c.args.next c.in_ok-name.name) c.own.invariant (fresh-kept (length c.own.inside.log.items) c.args.next c.in_ok-name.name)
    (next-other c.args.host.now c.own.inside.ends.items c.in_ok-name.name (subst (λ (r : Records). AreShown c.args.host.now r.ends) (sym c.own.view_is) c.requires.shown) c.in_ok-name.ensures.next))
