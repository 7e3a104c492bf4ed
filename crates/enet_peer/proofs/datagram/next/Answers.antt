use Rattle.std.proofs.Common.{◌≡◌, ℕ, Bool, List, Option, Result, true, false, sym, ap, subst, ◌∙◌}
use Rattle.enet_codec.specs.declared.stop.Stop.{Stop}
use Rattle.enet_peer.specs.Peering.{Peering}
use Rattle.enet_peer.specs.Peered.{Peered}
use Rattle.enet_peer.specs.Private.Handling.{Advances, AdvancesPlainly, GoesOn, IsPlain}
use Rattle.enet_peer.proofs.Steps.{refused-at}
use Rattle.enet_peer.proofs.datagram.next.Goals as goal
use Rattle.enet_peer.proofs.datagram.next.Goals.{then-full+in_default, else-full}

plainly : (now : ℕ) (sent : Option ℕ) (full : Bool) (bytes : List ℕ) (p q new : Peering) (r : Result ℕ Stop) → q ≡ p → IsPlain full bytes p → AdvancesPlainly now sent bytes q new r
    → Advances (record { now = now; sent = sent; full = full }) bytes p new r
plainly now sent full bytes p q new r same plain advances =
    subst (λ (o : Peering). AdvancesPlainly now sent bytes o new r) same advances full plain

pub returns : goal.returns
returns c =
    elim c.if-full.branch [
      | then-full+in_default w ↦ plainly c.args.now c.args.sent c.args.full c.args.bytes.now c.args.peer.now.peer c.if-full.peer.peer _ c.next_plainly.result
          (ap (λ (o : Peered). o.peer) w.peer-is ∙ w.in_default.ensures.same) (λ is. w.in_default.ensures.none) c.next_plainly.ensures
      | else-full w ↦ plainly c.args.now c.args.sent c.args.full c.args.bytes.now c.args.peer.now.peer c.if-full.peer.peer _ c.next_plainly.result
          (ap (λ (o : Peered). o.peer) w.peer-is) (λ is. absurd (let y : true ≡ false = sym is ∙ w.if-full.false in cc)) c.next_plainly.ensures
    ]

pub returns-in-Some : goal.returns-in-Some
returns-in-Some c =
    subst (λ (b : Bool). GoesOn (record { now = c.args.now; sent = c.args.sent; full = b }) c.args.bytes.now c.args.peer.now.peer c.refuse.new.peer.peer c.in-Some.len) (sym c.if-full.true)
    (refused-at c.args.now c.args.sent c.in-Some.len c.args.bytes.now _ _ c.in-Some.ensures.confirmed c.in-Some.ensures.refused)
