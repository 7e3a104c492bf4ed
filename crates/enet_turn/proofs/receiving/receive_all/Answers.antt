use Rattle.std.proofs.Common.{◌≡◌, ◌+◌, ℕ, List, [], ◌∷◌, ◌++◌, take, true, false, Option, Ok, refl, ap, subst, ◌∙◌, inl, inr, arith}
use Rattle.std.proofs.lemmas.List.{append-nil}
use Rattle.enet_codec.specs.declared.address.Addr.{Addr}
use Rattle.enet_wire.specs.declared.told.Told.{Told}
use Rattle.enet_wire.specs.declared.told.Told.TheVariants.{Came, NothingCame}
use Rattle.enet_wire.specs.Wires.{also, unless_spent, came}
use Rattle.enet_turn.specs.Phases.{ReceivesAll}
use Rattle.enet_turn.proofs.PhaseSteps.{hears_on}
use Rattle.enet_turn.proofs.Tellings.{told_on, told_no_more, came_more}
use Rattle.enet_turn.proofs.receiving.receive_all.Goals as goal

pub returns-in-Ok-None : goal.returns-in-Ok-None
returns-in-Ok-None g c =
    let inv = c.loop-datagram.invariant in
    let told : List Told = inv.0 in
    let buf : List ℕ = c.recv.new.buf in
    let now = c.in-Ok-None.ensures.told
    ∙ ap (λ (d : Option (Addr × ℕ)). also (g.W.Wire.told c.loop-datagram.wire) (unless_spent (g.W.Wire.faults c.loop-datagram.wire) (came (Ok d) buf))) c.in-Ok-None.field-0-is in
    let faults : g.W.Wire.faults c.recv.new.self ≡ g.W.Wire.faults c.args.wire.now = c.in-Ok-None.ensures.faults ∙ inv.2 in (
      told ++ NothingCame ∷ [],
      told_on _ _ _ _ _ told (NothingCame ∷ []) inv.1 inv.2 now,
      inv.5 (NothingCame ∷ []) (record { host = c.loop-datagram.host; failed = false }) (omega arith, refl, refl, refl),
      omega (arith, came_more told (NothingCame ∷ []), inv.3),
      omega (arith, faults),
      c.in-Ok-None.ensures.kept ∙ inv.6,
    )

pub returns-in-Err : goal.returns-in-Err
returns-in-Err g c =
    let inv = c.loop-datagram.invariant in
    let told : List Told = inv.0 in
    let faults : g.W.Wire.faults c.recv.new.self ≡ g.W.Wire.faults c.args.wire.now + 1 = c.in-Err.ensures.faults ∙ ap (λ (n : ℕ). n + 1) inv.2 in (
      told,
      told_no_more _ _ _ _ _ told inv.1 inv.2 c.in-Err.ensures.told,
      subst (λ (xs : List Told). ReceivesAll g.H.Core.calls 256 c.args.host.now xs (record { host = c.loop-datagram.host; failed = true })) (append-nil told)
          (inv.5 [] (record { host = c.loop-datagram.host; failed = true }) (inr (omega arith, refl), refl)),
      inv.3,
      faults,
      c.in-Err.ensures.kept ∙ inv.6,
    )

pub loop-datagram-preserved : goal.loop-datagram-preserved
loop-datagram-preserved g c =
    let inv = c.loop-datagram.invariant in
    let told : List Told = inv.0 in
    let buf : List ℕ = c.recv.new.buf in
    let x : Told = Came c.in-Ok-Some.from (take c.in-Ok-Some.len buf) in
    let now = c.in-Ok-Some.ensures.told
    ∙ ap (λ (d : Option (Addr × ℕ)). also (g.W.Wire.told c.loop-datagram.wire) (unless_spent (g.W.Wire.faults c.loop-datagram.wire) (came (Ok d) buf))) c.in-Ok-Some.field-0-is in (
      told ++ x ∷ [],
      told_on _ _ _ _ _ told (x ∷ []) inv.1 inv.2 now,
      c.in-Ok-Some.ensures.faults ∙ inv.2,
      omega (arith, came_more told (x ∷ []), inv.3),
      omega (arith, inv.4),
      hears_on g.H.Core.calls c.loop-datagram._datagram _ _ _ told _ _ (omega arith) inv.5 c.receive.ensures,
      c.in-Ok-Some.ensures.kept ∙ inv.6,
    )

pub returns : goal.returns
returns g c =
    let inv = c.loop-datagram.invariant in
    let told : List Told = inv.0 in
    let faults : g.W.Wire.faults c.loop-datagram.wire ≡ g.W.Wire.faults c.args.wire.now = inv.2 in (
      told,
      inv.1,
      subst (λ (xs : List Told). ReceivesAll g.H.Core.calls 256 c.args.host.now xs (record { host = c.loop-datagram.host; failed = false })) (append-nil told)
          (inv.5 [] (record { host = c.loop-datagram.host; failed = false }) (inl (omega arith, refl), refl)),
      inv.3,
      omega (arith, faults),
      inv.6,
    )
