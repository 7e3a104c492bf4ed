use Rattle.enet_site.proofs.Fresh.{whole-joined}
use Rattle.enet_site.proofs.site.Site.joined.Goals as goal

pub invariant_of-result : goal.invariant_of-result
invariant_of-result c = whole-joined c.args.config c.args.far c.in_ok-joined.field-0 c.in_ok-records.records (c.in_ok-joined.ensures).0 (c.in_ok-joined.ensures).1 c.in_ok-records.ensures.fresh
