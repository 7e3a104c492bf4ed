use Rattle.enet_site.proofs.RecordsFresh.{kept-by}
use Rattle.enet_site.proofs.records.Records.joined.Goals as goal

pub invariant_of-result : goal.invariant_of-result
invariant_of-result c =
    kept-by c.new.result.items c.in-Ok.ends.items c.push_reserved.new.self.items c.in_ok-joined_end.field-0 c.new.ensures.items c.push_reserved.ensures.items c.in-Ok.ensures.items c.in_ok-joined_end.ensures.fresh
