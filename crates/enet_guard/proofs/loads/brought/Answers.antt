use Rattle.std.proofs.Common.{List, ℕ, length, sym, ap, subst, ◌∙◌, arith}
use Rattle.std.proofs.lemmas.List.{length-drop}
use Rattle.enet_codec.specs.Message.{view}
use Rattle.enet_guard.specs.declared.loads.Load.{Load}
use Rattle.enet_guard.specs.Loads.{nothing, load_of, both, Brings}
use Rattle.enet_guard.proofs.Loading.{both_nothing, nothing_both, both_assoc, brings_none, brings_more, load_within}
use Rattle.enet_guard.proofs.loads.brought.Goals as goal

pub loop-command-init : goal.loop-command-init
loop-command-init c = (
  λ later brings. subst (λ (l : Load). Brings c.args.bytes.now l) (sym (nothing_both later)) brings,
  omega arith,
  omega arith,
  omega arith,
)

pub both-load-requires-clause-packets : goal.both-load-requires-clause-packets
both-load-requires-clause-packets c =
    let w = load_within c.in-Some.len c.loop-command.rest.now (view c.in-Some.command) c.in-Some.ensures.length.1 c.in-Some.ensures.found in
    let e = ap (λ (l : Load). l.packets) c.load_of.ensures in
    omega (arith, w.0, e, c.loop-command.invariant.1, c.in-Some.ensures.length.1)

pub both-load-requires-clause-bytes : goal.both-load-requires-clause-bytes
both-load-requires-clause-bytes c =
    let w = load_within c.in-Some.len c.loop-command.rest.now (view c.in-Some.command) c.in-Some.ensures.length.1 c.in-Some.ensures.found in
    let e = ap (λ (l : Load). l.bytes) c.load_of.ensures in
    omega (arith, w.1, e, c.loop-command.invariant.2, c.in-Some.ensures.length.1)

pub both-load-requires-clause-reliable : goal.both-load-requires-clause-reliable
both-load-requires-clause-reliable c =
    let w = load_within c.in-Some.len c.loop-command.rest.now (view c.in-Some.command) c.in-Some.ensures.length.1 c.in-Some.ensures.found in
    let e = ap (λ (l : Load). l.reliable) c.load_of.ensures in
    omega (arith, w.2, e, c.loop-command.invariant.3, c.in-Some.ensures.length.1)

pub loop-command-preserved : goal.loop-command-preserved
loop-command-preserved c =
    let rest : List ℕ = c.loop-command.rest.now in
    let m = view c.in-Some.command in
    let load : Load = c.loop-command.load in
    let now = c.both-load.ensures ∙ ap (both load) c.load_of.ensures in
    let w = load_within c.in-Some.len rest m c.in-Some.ensures.length.1 c.in-Some.ensures.found in
    let left = ap length c.bytes_after-rest.ensures ∙ length-drop c.in-Some.len rest in (
      λ later brings.
          subst (λ (l : Load). Brings c.args.bytes.now l) (sym (ap (λ (l : Load). both l later) now ∙ both_assoc load (load_of m.body) later))
          (c.loop-command.invariant.0 (both (load_of m.body) later)
          (brings_more c.in-Some.len rest m later c.in-Some.ensures.found (subst (λ (xs : List ℕ). Brings xs later) c.bytes_after-rest.ensures brings))),
      (let e = ap (λ (l : Load). l.packets) now in omega (arith, w.0, e, left, c.loop-command.invariant.1, c.in-Some.ensures.length.1)),
      (let e = ap (λ (l : Load). l.bytes) now in omega (arith, w.1, e, left, c.loop-command.invariant.2, c.in-Some.ensures.length.1)),
      (let e = ap (λ (l : Load). l.reliable) now in omega (arith, w.2, e, left, c.loop-command.invariant.3, c.in-Some.ensures.length.1)),
    )

pub returns : goal.returns
returns c =
    subst (λ (l : Load). Brings c.args.bytes.now l) (both_nothing c.loop-command.load)
    (c.loop-command.invariant.0 nothing (brings_none c.loop-command.rest.now c.in_default.ensures.none))
