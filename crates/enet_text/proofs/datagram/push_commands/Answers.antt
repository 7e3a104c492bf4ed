use Rattle.std.proofs.Common.{◌≤◌, ◌++◌, List, [], ℕ, length, length-drop, drop, refl, sym, ap, subst, append_assoc, append-nil, rules, arith}
use Rattle.std.specs.String.{string_bytes}
use Rattle.enet_codec.specs.declared.stop.Stop.TheVariants as stop
use Rattle.enet_codec.specs.Message.{view}
use Rattle.enet_text.specs.InspectTexts.{command_line, stop_line}
use Rattle.enet_text.specs.Described.{Tells}
use Rattle.enet_text.proofs.Joins.{behind, if_ok}
use Rattle.enet_text.proofs.Steps.{ends_at, goes_on_at, stops_at}
use Rattle.enet_text.proofs.datagram.push_commands.Goals as goal

pub loop-place-init : goal.loop-place-init
loop-place-init c = (c.requires, ([], sym (append-nil (string_bytes c.args.text.now)), λ more later. later))

pub returns-in_default : goal.returns-in_default
returns-in_default c =
    let l = c.loop-place in
    let line : List ℕ = stop_line stop.BadCommand l.place c.bytes_after-rest.result.now in
    if_ok c.push_stop_line.result (λ is. (
      l.invariant.1.0 ++ line,
      behind (string_bytes c.args.text.now) l.invariant.1.0 line (string_bytes l.text) (string_bytes c.push_stop_line.new.text) l.invariant.1.1 is,
      l.invariant.1.2 line (stops_at c.args.bodies l.place c.args.datagram.now _ c.bytes_after-rest.ensures c.loop-place-test.true c.in_default.ensures.none),
    )) c.push_stop_line.ensures

pub loop-place-preserved : goal.loop-place-preserved
loop-place-preserved c =
    let l = c.loop-place in
    let from = c.bytes_after-rest.ensures in
    let line : List ℕ = command_line c.args.bodies (view c.in-Some.command) in (
      omega (arith, c.in-Some.ensures.length.1, length-drop l.place c.args.datagram.now, ap length from, c.loop-place-test.true),
      (
        l.invariant.1.0 ++ line,
        behind (string_bytes c.args.text.now) l.invariant.1.0 line (string_bytes l.text) (string_bytes c.push_command_line.new.text) l.invariant.1.1
            c.in_ok-push_command_line.ensures,
        λ more later. subst (λ (told : List ℕ). Tells c.args.bodies c.args.header (drop c.args.header c.args.datagram.now) told)
            (sym (append_assoc l.invariant.1.0 line more))
            (l.invariant.1.2 _
            (goes_on_at c.args.bodies l.place c.in-Some.len _ c.args.datagram.now c.bytes_after-rest.result.now more (view c.in-Some.command) from c.in-Some.ensures.found
            c.in-Some.ensures.length.1 refl later)),
      ),
    )

pub returns : goal.returns
returns c =
    let l = c.loop-place in
    let past : length c.args.datagram.now ≤ l.place = search rules in (
      l.invariant.1.0,
      l.invariant.1.1,
      subst (λ (told : List ℕ). Tells c.args.bodies c.args.header (drop c.args.header c.args.datagram.now) told) (append-nil l.invariant.1.0)
          (l.invariant.1.2 [] (ends_at c.args.bodies l.place c.args.datagram.now past)),
    )
