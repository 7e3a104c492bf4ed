use Rattle.std.proofs.Common.{ℕ, List, subst}
use Rattle.enet_c.specs.Numbers.{Writes, unknown, known}
use Rattle.enet_c.proofs.names.gofnjerta_core_stop_name.Goals as goal

pub returns-in-Some : goal.returns-in-Some
returns-in-Some c =
    known c.in-Some.stop _ _ c.in-Some.ensures.some
    (subst (λ (l : List ℕ). Writes l c.args.name.now c.written.result c.written.new.name) c.label.ensures c.written.ensures)

pub returns-in-None : goal.returns-in-None
returns-in-None c = unknown c.in-None.ensures.none
