use Rattle.std.proofs.Common.{◌∙◌, ap, sym}
use Rattle.std.specs.Result.{is_ok}
use Rattle.enet_chat.specs.Peers.{has}
use Rattle.enet_chat.proofs.PeersLemmas.{added_once}
use Rattle.enet_chat.proofs.table.Table.add.Goals as goal

pub invariant_of-self : goal.invariant_of-self
invariant_of-self c =
    let apart = ap (λ xs. has xs c.args.peer) c.self.view_is ∙ (sym c.has.ensures ∙ c.if-has.false) in
    added_once (is_ok c.push.result) _ _ c.args.peer c.push.ensures.items apart c.self.invariant
