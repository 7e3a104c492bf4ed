use Rattle.std.proofs.Common.{◌≡◌, ◌+◌, ℕ, List, [], ◌++◌, take, true, false, Ok, inl, refl, sym, ap, subst, ◌∙◌, arith}
use Rattle.std.proofs.lemmas.List.{append-nil}
use Rattle.enet_codec.specs.declared.address.Addr.{Addr}
use Rattle.enet_wire.specs.declared.told.Told.{Told}
use Rattle.enet_wire.specs.declared.wire.SendOutcome.{SendOutcome}
use Rattle.enet_wire.specs.Wires.{went}
use Rattle.enet_turn.specs.Phases.{EmitsAll, at_limit, has_none, fails}
use Rattle.enet_turn.specs.Private.Ending.{ends_sending, sent_by, lost_by}
use Rattle.enet_turn.proofs.PhaseSteps.{SendsOn}
use Rattle.enet_turn.proofs.Sendings.{comes_soundly, went_by, kept_by, few_by, goes_by, ends_by}
use Rattle.enet_turn.proofs.Tellings.{told_on, told_no_more}
use Rattle.enet_turn.proofs.emitting.emit_all.Goals as goal

pub returns-in-Err : goal.returns-in-Err
returns-in-Err g c =
    let inv = c.loop-datagram.invariant in
    let told : List Told = inv.0 in
    let faults : g.W.Wire.faults c.send.new.self ≡ g.W.Wire.faults c.args.wire.now + 1 = c.in-Err.ensures.faults ∙ ap (λ (n : ℕ). n + 1) inv.2 in (
      told,
      told_no_more _ _ _ _ _ told inv.1 inv.2 c.in-Err.ensures.told,
      subst (λ (xs : List Told). EmitsAll g.H.Core.calls 256 16 c.args.host.now xs (record { host = c.emit.new.self; failed = true })) (append-nil told)
          (inv.7 [] (record { host = c.emit.new.self; failed = true }) (fails (omega arith) (omega arith) refl c.in-Some.to (take c.in-Some.len c.emit.new.buf) c.in-Some.ensures.given)),
      inv.3,
      omega (arith, inv.4),
      faults,
      c.in-Err.ensures.kept ∙ inv.8,
    )

pub returns-in_default : goal.returns-in_default
returns-in_default g c =
    let inv = c.loop-datagram.invariant in
    let told : List Told = inv.0 in
    let faults : g.W.Wire.faults c.loop-datagram.wire ≡ g.W.Wire.faults c.args.wire.now = inv.2 in
    comes_soundly g.H.Core.calls c.args.host.now c.emit.new.self _ _ _ _ _ _ c.ended.result _ _ c.ended.ensures (
      told,
      inv.1,
      subst (λ (xs : List Told). EmitsAll g.H.Core.calls 256 16 c.args.host.now xs (record { host = c.emit.new.self; failed = false })) (append-nil told)
          (inv.7 [] (record { host = c.emit.new.self; failed = false }) (has_none (omega arith) (omega arith) refl c.in_default.ensures.given)),
      inv.3,
      omega (arith, inv.4),
      omega (arith, faults),
      inv.8,
    )

pub loop-datagram-preserved : goal.loop-datagram-preserved
loop-datagram-preserved g c =
    let inv = c.loop-datagram.invariant in
    let told : List Told = inv.0 in
    let to : Addr = c.in-Some.to in
    let bytes : List ℕ = take c.in-Some.len c.emit.new.buf in
    let became : SendOutcome = c.in-Ok.became in
    let lost : ℕ = c.loop-datagram.lost in
    let counted : (c.counts-went.result.0 ≡ sent_by became) × (c.counts-went.result.1 ≡ lost_by became) × (c.counts-went.result.0 + c.counts-went.result.1 ≡ 1) =
    (c.counts-went.ensures.sent, c.counts-went.ensures.lost, c.counts-went.ensures.one) in
    let on : ends_sending became (lost + lost_by became) ≡ false =
    ap (λ (n : ℕ). ends_sending became (lost + n)) (sym counted.1) ∙ (sym c.ends_sending.ensures ∙ c.if-ends_sending.false) in (
      told ++ went to bytes (Ok became),
      told_on _ _ _ _ _ told (went to bytes (Ok became)) inv.1 inv.2 c.in-Ok.ensures.told,
      c.in-Ok.ensures.faults ∙ inv.2,
      omega (arith, went_by told to bytes became, counted.0, inv.3),
      omega (arith, kept_by told to bytes became, counted.1, inv.4),
      omega (arith, counted.2, inv.5),
      omega (arith, few_by lost became inv.6 on, counted.1),
      subst (λ (n : ℕ). SendsOn g.H.Core.calls (c.loop-datagram._datagram + 1) (lost + n) c.args.host.now (told ++ went to bytes (Ok became)) c.emit.new.self) (sym counted.1)
          (goes_by g.H.Core.calls c.loop-datagram._datagram lost _ _ _ told to bytes became (omega arith) inv.6 inv.7 c.in-Some.ensures.given on),
      c.in-Ok.ensures.kept ∙ inv.8,
    )

pub returns : goal.returns
returns g c =
    let inv = c.loop-datagram.invariant in
    let told : List Told = inv.0 in
    let faults : g.W.Wire.faults c.loop-datagram.wire ≡ g.W.Wire.faults c.args.wire.now = inv.2 in
    comes_soundly g.H.Core.calls c.args.host.now c.loop-datagram.host _ _ _ _ _ _ c.ended-2.result _ _ c.ended-2.ensures (
      told,
      inv.1,
      subst (λ (xs : List Told). EmitsAll g.H.Core.calls 256 16 c.args.host.now xs (record { host = c.loop-datagram.host; failed = false })) (append-nil told)
          (inv.7 [] (record { host = c.loop-datagram.host; failed = false }) (at_limit (inl (omega arith)) refl refl)),
      inv.3,
      omega (arith, inv.4),
      omega (arith, faults),
      inv.8,
    )

pub returns-then-ends_sending : goal.returns-then-ends_sending
returns-then-ends_sending g c =
    let inv = c.loop-datagram.invariant in
    let told : List Told = inv.0 in
    let to : Addr = c.in-Some.to in
    let bytes : List ℕ = take c.in-Some.len c.emit.new.buf in
    let became : SendOutcome = c.in-Ok.became in
    let lost : ℕ = c.loop-datagram.lost in
    let counted : (c.counts-went.result.0 ≡ sent_by became) × (c.counts-went.result.1 ≡ lost_by became) × (c.counts-went.result.0 + c.counts-went.result.1 ≡ 1) =
    (c.counts-went.ensures.sent, c.counts-went.ensures.lost, c.counts-went.ensures.one) in
    let ends : ends_sending became (lost + lost_by became) ≡ true =
    ap (λ (n : ℕ). ends_sending became (lost + n)) (sym counted.1) ∙ (sym c.ends_sending.ensures ∙ c.if-ends_sending.true) in
    let faults : g.W.Wire.faults c.send.new.self ≡ g.W.Wire.faults c.args.wire.now = c.in-Ok.ensures.faults ∙ inv.2 in
    comes_soundly g.H.Core.calls c.args.host.now c.emit.new.self _ _ _ _ _ _ c.ended-then-ends_sending.result _ _ c.ended-then-ends_sending.ensures (
      told ++ went to bytes (Ok became),
      told_on _ _ _ _ _ told (went to bytes (Ok became)) inv.1 inv.2 c.in-Ok.ensures.told,
      ends_by g.H.Core.calls c.loop-datagram._datagram lost c.args.host.now _ _ told to bytes became (omega arith) inv.6 inv.7 c.in-Some.ensures.given ends,
      omega (arith, went_by told to bytes became, counted.0, inv.3),
      omega (arith, kept_by told to bytes became, counted.1, inv.4),
      omega (arith, faults),
      c.in-Ok.ensures.kept ∙ inv.8,
    )
