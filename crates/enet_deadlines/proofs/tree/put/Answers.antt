use Rattle.std.proofs.Common.{◌≡◌, ◌*◌, ◌/◌, ◌+◌, inl, inr, min, get_or, ◌∙◌, sym, arith}
use Rattle.std.proofs.lemmas.List.{get_or-set_same, drop-set-lt}
use Rattle.enet_deadlines.proofs.Trees.{beside-right, tree-whole, tree-but-set}
use Rattle.enet_deadlines.proofs.tree.put.Goals.{then-node-eq0, else-node-eq0}
use Rattle.enet_deadlines.proofs.tree.put.Goals as goal

pub returns-then-tree-node-clause-tree : goal.returns-then-tree-node-clause-tree
returns-then-tree-node-clause-tree c =
    let tree = c.loop-node.tree in
    let node = c.loop-node.node in
    let is = beside-right tree node c.if-node-eq0.beside c.loop-node.least c.loop-node.invariant.here (elim c.if-node-eq0.branch [
      | then-node-eq0 w ↦ inl (w.if-node-eq0.true, w.beside-is)
      | else-node-eq0 w ↦ inr (w.if-node-eq0.false, w.beside-is)
    ]) in
    tree-whole c.args.count tree (node / 2) c.loop-node.invariant.right (c.if-tree-node.true ∙ c.min-least.ensures ∙ is)

pub loop-node-preserved : goal.loop-node-preserved
loop-node-preserved c =
    let tree = c.loop-node.tree in
    let node = c.loop-node.node in
    let inv = c.loop-node.invariant in
    let more = c.loop-node-test.true in
    let within = inv.within in
    let least = c.min-least.result in
    let is = beside-right tree node c.if-node-eq0.beside c.loop-node.least inv.here (elim c.if-node-eq0.branch [
      | then-node-eq0 w ↦ inl (w.if-node-eq0.true, w.beside-is)
      | else-node-eq0 w ↦ inr (w.if-node-eq0.false, w.beside-is)
    ]) in
    record {
      some = omega (arith, more);
      within = omega (arith, within);
      here = get_or-set_same tree (node / 2) least 0 (omega (arith, within, inv.right.count));
      right = tree-but-set c.args.count tree (node / 2) least (omega (arith, more)) (omega (arith, within)) (c.min-least.ensures ∙ is) inv.right;
      numbers = drop-set-lt c.args.count tree (node / 2) least (omega (arith, within)) ∙ inv.numbers;
    }
