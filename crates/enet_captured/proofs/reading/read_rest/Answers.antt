use Rattle.std.proofs.Common.{◌≤◌, ◌++◌, ◌∷◌, List, [], Some, None, length, length-drop, drop, refl, sym, ap, subst, append_assoc, append-nil, rules, arith}
use Rattle.enet_codec.specs.declared.stop.Stop.TheVariants as stop
use Rattle.enet_codec.specs.Message.{view}
use Rattle.enet_captured.specs.declared.told.Told.{Told}
use Rattle.enet_captured.specs.Private.Commands.{told_of}
use Rattle.enet_captured.specs.Private.Readings.{SaysRest}
use Rattle.enet_captured.proofs.Steps.{ends_at, goes_on_at, one_behind, stops_at}
use Rattle.enet_captured.proofs.reading.read_rest.Goals as goal

pub loop-place-init : goal.loop-place-init
loop-place-init c = (c.requires, ([], sym (append-nil c.args.told.now.items), λ more why later. later))

pub returns-in_default : goal.returns-in_default
returns-in_default c =
    let l = c.loop-place in (
      l.invariant.1.0,
      l.invariant.1.1,
      subst (λ (said : List Told). SaysRest (drop c.args.header c.args.datagram.now) said (Some stop.BadCommand)) (append-nil l.invariant.1.0)
          (l.invariant.1.2 [] (Some stop.BadCommand)
          (stops_at l.place c.args.datagram.now _ c.bytes_after-rest.ensures c.loop-place-test.true c.in_default.ensures.none)),
    )

pub loop-place-preserved : goal.loop-place-preserved
loop-place-preserved c =
    let l = c.loop-place in
    let from = c.bytes_after-rest.ensures in
    let one : Told = told_of (view c.in-Some.command) in (
      omega (arith, c.in-Some.ensures.length.1, length-drop l.place c.args.datagram.now, ap length from, c.loop-place-test.true),
      (
        l.invariant.1.0 ++ one ∷ [],
        one_behind c.args.told.now.items l.invariant.1.0 l.told.items c.push.new.self.items c.told_of.result one l.invariant.1.1 c.in_ok-push.ensures.items
            c.told_of.ensures,
        λ more why later. subst (λ (said : List Told). SaysRest (drop c.args.header c.args.datagram.now) said why)
            (sym (append_assoc l.invariant.1.0 (one ∷ []) more))
            (l.invariant.1.2 (one ∷ more) why
            (goes_on_at l.place c.in-Some.len _ c.args.datagram.now c.bytes_after-rest.result.now more why (view c.in-Some.command) from c.in-Some.ensures.found
            c.in-Some.ensures.length.1 refl later)),
      ),
    )

pub returns : goal.returns
returns c =
    let l = c.loop-place in
    let past : length c.args.datagram.now ≤ l.place = search rules in (
      l.invariant.1.0,
      l.invariant.1.1,
      subst (λ (said : List Told). SaysRest (drop c.args.header c.args.datagram.now) said None) (append-nil l.invariant.1.0)
          (l.invariant.1.2 [] None (ends_at l.place c.args.datagram.now past)),
    )
