use Rattle.enet_site.proofs.Fresh.{whole-open}
use Rattle.enet_site.proofs.site.Site.open.Goals as goal

pub invariant_of-result : goal.invariant_of-result
invariant_of-result c = whole-open c.args.config c.in_ok-open.field-0 c.open-2.result (c.in_ok-open.ensures).0 (c.in_ok-open.ensures).1 c.open-2.ensures
