use Rattle.std.proofs.Common.{◌≡◌, ◌∙◌, true, sym, rules}
use Rattle.enet_site.specs.Standing.{state_at}
use Rattle.enet_world.proofs.Commands.{connected-is, enough-told}
use Rattle.enet_world.proofs.world.World.rounds_needed.Goals as goal

pub returns-clause-enough : goal.returns-clause-enough
returns-clause-enough c =
    let at_a : c.is_connected-at_a.result ≡ true = search rules in
    let at_b : c.is_connected-at_b.result ≡ true = search rules in
    enough-told c.args.self.now.joined c.args.self.now.world c.args.conn c.args.ms c.in_ok-waits.waits c.pieces-of_a.result c.pieces-of_b.result c.rounds_for.result c.is_reached.ensures.reached
    (connected-is (state_at c.args.self.now.world.a c.args.conn) (sym c.is_connected-at_a.ensures ∙ at_a)) (connected-is (state_at c.args.self.now.world.b c.args.conn) (sym c.is_connected-at_b.ensures ∙ at_b))
    c.in_ok-waits.ensures.over c.pieces-of_a.ensures c.pieces-of_b.ensures c.rounds_for.ensures
