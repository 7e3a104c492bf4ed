use Rattle.std.proofs.Common.{◌≡◌, Bool, Some, refl, sym, subst, ◌∙◌}
use Rattle.enet_codec.specs.declared.stop.Stop.TheVariants as stop
use Rattle.enet_peer.specs.Handling.{HearsIf}
use Rattle.enet_peer.proofs.datagram.receive.Goals as goal

pub returns-then-is_refused : goal.returns-then-is_refused
returns-then-is_refused c =
    subst (λ (b : Bool). HearsIf b (record { now = c.args.now; sent = c.args.sent; full = c.args.full }) c.args.commands.now c.args.peer.now.peer (record { handled = 0; stop = Some stop.NotConnected }) c.remind.new.self.peer)
    (sym c.if-is_refused.true ∙ c.is_refused.ensures) (refl, c.remind.ensures)

pub returns : goal.returns
returns c =
    subst (λ (b : Bool). HearsIf b (record { now = c.args.now; sent = c.args.sent; full = c.args.full }) c.args.commands.now c.args.peer.now.peer c.handle.result c.handle.new.peer.peer)
    (sym c.if-is_refused.false ∙ c.is_refused.ensures) c.handle.ensures
