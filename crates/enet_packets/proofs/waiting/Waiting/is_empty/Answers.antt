use Rattle.std.proofs.Common.{◌≡◌, ℕ, IsTrue, ◌↔◌, sym, subst}
use Rattle.enet_packets.proofs.Maps.{len-sorted}
use Rattle.enet_packets.proofs.waiting.Waiting.is_empty.Goals as goal

pub returns : goal.returns
returns c =
    rw (← c.self.view_is)
    (subst (λ (n : ℕ). IsTrue c.is_empty.result ↔ (n ≡ 0)) (sym (len-sorted c.self.inside.lines.entries c.self.invariant.lines.sorted)) c.is_empty.ensures)
