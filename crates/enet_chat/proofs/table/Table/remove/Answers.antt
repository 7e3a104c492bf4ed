use Rattle.std.proofs.Common.{rules, ◌≡◌, true, ◌∙◌, ap, sym, subst, not}
use Rattle.std.proofs.lemmas.Fn.{filter_same}
use Rattle.enet_chat.specs.Peers.{others, is_same, has_each_once}
use Rattle.enet_chat.proofs.PeersLemmas.{others_once}
use Rattle.enet_chat.proofs.table.Table.remove.Goals as goal

pub returns : goal.returns
returns c = filter_same _ (λ p. not (is_same p c.args.peer)) _ (λ x b q k. search rules) _ _ c.retain.ensures.filtered ∙ ap (λ xs. others xs c.args.peer) c.self.view_is

pub invariant_of-self : goal.invariant_of-self
invariant_of-self c =
    let e = filter_same _ (λ p. not (is_same p c.args.peer)) _ (λ x b q k. search rules) _ _ c.retain.ensures.filtered in
    subst (λ xs. has_each_once xs ≡ true) (sym e) (others_once _ c.args.peer c.self.invariant)
