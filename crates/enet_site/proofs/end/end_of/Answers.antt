use Rattle.std.proofs.Common.{sym, ◌∙◌}
use Rattle.enet_site.proofs.Ends.{end-found, end-missed}
use Rattle.enet_site.proofs.end.end_of.Goals as goal

pub returns-in_err-place : goal.returns-in_err-place
returns-in_err-place c = rw c.from_residual.ensures (sym (end-missed c.args.connection c.args.ends.now (sym c.place_of_connection.ensures.first ∙ c.in_err-place.was)))

pub returns : goal.returns
returns c = sym (end-found c.args.connection c.args.ends.now c.in_ok-place.place c.index-ends-place.result (sym c.place_of_connection.ensures.first ∙ c.in_ok-place.was) c.index-ends-place.is)
