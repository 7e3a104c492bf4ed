use Rattle.std.proofs.Common.{rules, ◌≡◌, List, [], ◌∷◌, ◌++◌, Bool, None, refl, arith}
use Rattle.std.specs.Prelude.{IsSome}
use Rattle.enet_codec.specs.declared.event.Event.{Event}
use Rattle.enet_turn.specs.Counts.{count_of}
use Rattle.enet_turn.proofs.Options.{some_is, none_is}
use Rattle.enet_turn.proofs.PhaseSteps.{tells_on, tells_end, tells_none, chain_step}
use Rattle.enet_turn.proofs.Tellings.{taken_more}
use Rattle.enet_turn.proofs.telling.tell_all.Goals as goal

pub returns : goal.returns
returns g c =
    let inv = c.loop-host.invariant in
    let waits : IsSome c.loop-host.waiting.event = search (rules, some_is) in
    (inv.0, inv.1, tells_end g.H.Core.calls _ (record { host = c.loop-host.host; waiting = c.loop-host.waiting }) inv.0 inv.3 waits, inv.2)

pub returns-in-None : goal.returns-in-None
returns-in-None g c =
    let inv = c.loop-host.invariant in
    let none : c.loop-host.waiting.event ≡ None = search (rules, none_is) in (
      inv.0,
      inv.1,
      tells_none g.H.Core.calls _ (record { host = c.loop-host.host; waiting = c.loop-host.waiting })
          (record { host = c.next_event.new.self; waiting = c.loop-host.waiting }) inv.0 none refl inv.3 c.in-None.ensures.told,
      inv.2,
    )

pub loop-host-preserved : goal.loop-host-preserved
loop-host-preserved g c =
    let inv = c.loop-host.invariant in
    let none : c.loop-host.waiting.event ≡ None = search (rules, none_is) in
    let puts : List (Event × Bool) = inv.0 in
    let taken : Bool = c.offer-taken.ensures.0 in
    let counted : c.offer-taken.result ≡ count_of taken = c.offer-taken.ensures.3 in (
      puts ++ (c.in-Some.event, taken) ∷ [],
      chain_step _ _ _ _ _ _ inv.1 c.offer-taken.ensures.1,
      omega (arith, taken_more puts ((c.in-Some.event, taken) ∷ []), inv.2, counted),
      tells_on g.H.Core.calls _ (record { host = c.loop-host.host; waiting = c.loop-host.waiting }) _ _ puts c.in-Some.event taken none c.offer-taken.ensures.2 inv.3 c.in-Some.ensures.told,
    )
