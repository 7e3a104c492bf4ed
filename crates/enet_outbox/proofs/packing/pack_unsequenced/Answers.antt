use Rattle.std.proofs.lemmas.Option.{slice_get_read, slice_get_past}
use Rattle.std.specs.List.{slice_get}
use Rattle.std.proofs.Common.{◌≡◌, ℕ, ◌<◌, ◌≤◌, arith, length, drop, List, Option, Some, ap, ◌∙◌, sym, refl}
use Rattle.enet_throttle.specs.Throttle.{Throttling, is_admitted}
use Rattle.enet_outbox.specs.declared.parts.Unsequenced.{Unsequenced}
use Rattle.enet_outbox.specs.Outbox.{Outbox}
use Rattle.enet_outbox.specs.Emission.{asked, unsequenced_of, with_command, with_one_unsequenced}
use Rattle.enet_outbox.proofs.Fillings.{leads-by, holds-shut, holds-other}
use Rattle.enet_outbox.proofs.Repeats.{repeated-closed}
use Rattle.enet_outbox.proofs.Stages.{unsequenced-go, unsequenced-drop, unsequenced-stop, unsequenced-end}
use Rattle.enet_outbox.proofs.packing.pack_unsequenced.Goals as goal
use Rattle.enet_outbox.proofs.packing.pack_unsequenced.Goals.{then-admits, else-admits}

pub returns-then-from : goal.returns-then-from
returns-then-from c = λ f h e1 e2 e3.
    leads-by (repeated-closed (length f.outbox.unsequenced) with_one_unsequenced f (h.is_closed ∙ c.if-from.true)) h
    (ap (λ (us : List Unsequenced). record f.outbox { unsequenced = us }) e1
    ∙ ap (λ (t : Throttling). record f.outbox { unsequenced = c.args.unsequenced.now; throttle = t }) e2
    ∙ ap (λ (l : Option ℕ). record f.outbox { unsequenced = c.args.unsequenced.now; throttle = c.args.throttle.now; last = l }) e3)

pub packets-preserved : goal.packets-preserved
packets-preserved c = λ f h e1 e2 e3.
    let i = c.packets.invariant f h e1 e2 e3 in
    let g = i.0 in
    let u = c.in-Some.packet.now in
    let m = unsequenced_of u in
    let xs = c.packets.unsequenced in
    let ys = c.drop_first.new.self in
    let some : 0 < length xs = grind arith in
    let is : slice_get xs 0 ≡ Some u = slice_get_read xs (length xs) 0 u refl some c.in-Some.ensures.lookup in
    let rest : ys ≡ drop 1 xs = c.drop_first.ensures.rest in
    let t = c.in-Some-put_packet.ensures g i.1 in
    let waits : g.outbox.unsequenced ≡ xs = ap (λ (o : Outbox). o.unsequenced) i.3 in
    let throttle : is_admitted g.outbox.throttle ≡ is_admitted c.packets.throttle = ap (λ (o : Outbox). is_admitted o.throttle) i.3 in
    let answer : is_admitted g.outbox.throttle ≡ c.admits.result = throttle ∙ sym c.admits.ensures.answer in
    let after : Option ℕ → Outbox → Outbox = λ last o. record (asked o) { unsequenced = ys; last = last } in
    let before : Outbox = record f.outbox { unsequenced = xs; throttle = c.packets.throttle; last = c.packets.last } in
    let counted : (last : Option ℕ) → after last before ≡ record f.outbox { unsequenced = ys; throttle = c.admits.new.self; last = last } =
    λ last. ap (λ (t : Throttling). record f.outbox { unsequenced = ys; throttle = t; last = last }) (sym c.admits.ensures.counted) in
    elim c.if-admits.branch [
      | then-admits w ↦
          rw (w.last-is, w.progress-is) (
            with_command g m (after (Some u.channel) g.outbox),
            t.1 (after (Some u.channel) g.outbox),
            refl,
            ap (after (Some u.channel)) i.3 ∙ counted (Some u.channel),
            i.4 ∙ unsequenced-go xs ys u g i.2 waits is rest t.0 (answer ∙ w.if-admits.true),
          )
      | else-admits w ↦
          rw (w.last-is, w.progress-is) (
            record g { outbox = record (asked g.outbox) { unsequenced = ys } },
            holds-other (record (asked g.outbox) { unsequenced = ys }) t.2,
            i.2,
            ap (λ (o : Outbox). record (asked o) { unsequenced = ys }) i.3 ∙ counted c.packets.last,
            i.4 ∙ unsequenced-drop xs ys u g i.2 waits is rest t.0 (answer ∙ w.if-admits.false),
          )
    ]

pub returns-in_default-put_packet : goal.returns-in_default-put_packet
returns-in_default-put_packet c = λ f h e1 e2 e3.
    let i = c.packets.invariant f h e1 e2 e3 in
    let u = c.in-Some.packet.now in
    let xs = c.packets.unsequenced in
    let some : 0 < length xs = grind arith in
    let is : slice_get xs 0 ≡ Some u = slice_get_read xs (length xs) 0 u refl some c.in-Some.ensures.lookup in
    let t = c.in_default-put_packet.ensures in
    rw (c.shut.ensures, t.0) (leads-by (i.4 ∙ unsequenced-stop _ u i.0 i.2 (ap (λ (o : Outbox). o.unsequenced) i.3) is (t.1 i.0 i.1)) (holds-shut i.1) i.3)

pub returns : goal.returns
returns c = λ f h e1 e2 e3.
    let i = c.packets.invariant f h e1 e2 e3 in
    let xs = c.packets.unsequenced in
    let none : length xs ≤ 0 = grind arith in
    leads-by (i.4 ∙ unsequenced-end xs i.0 (slice_get_past xs 0 none)) i.1
    (i.3 ∙ ap (λ (us : List Unsequenced). record f.outbox { unsequenced = us; throttle = c.packets.throttle; last = c.packets.last }) (sym c.give_unused_back.ensures))
