use Rattle.std.proofs.Common.{refl, sym, ◌+◌, [], rules, arith}
use Rattle.std.proofs.lemmas.Bool.{false≢true}
use Rattle.enet_submit.specs.Parcels.{numbered}
use Rattle.enet_submit.proofs.Takes.{next-in, next-last, next-counted, some-left}
use Rattle.enet_submit.proofs.token.Drain.next_left.Goals as goal

pub overflow_add-self : goal.overflow_add-self
overflow_add-self g c =
    let next = next-in c.args.self.now c.in_ok-rest.rest.now c.in_ok-order.order c.next.new.self (sym c.in_ok-rest.ensures.value) c.in_ok-order.ensures.some in
    let room = next.room in
    (omega arith)

pub bounds-self-self : goal.bounds-self-self
bounds-self-self g c =
    let next = next-in c.args.self.now c.in_ok-rest.rest.now c.in_ok-order.order c.next.new.self (sym c.in_ok-rest.ensures.value) c.in_ok-order.ensures.some in
    omega (arith, next.seat, c.args.self.now.few)

pub invariant_of-self-then-is_empty-clause-counted : goal.invariant_of-self-then-is_empty-clause-counted
invariant_of-self-then-is_empty-clause-counted g c s lt =
    let next = next-last c.args.self.now c.in_ok-order.order c.next.new.self (c.if-is_empty.ensures.0 refl) (next-in c.args.self.now c.in_ok-rest.rest.now c.in_ok-order.order c.next.new.self (sym c.in_ok-rest.ensures.value) c.in_ok-order.ensures.some) in
    next-counted c.args.self.now c.in_ok-order.order [] (search rules) next s lt

pub invariant_of-self-then-is_empty-clause-ends : goal.invariant_of-self-then-is_empty-clause-ends
invariant_of-self-then-is_empty-clause-ends g c = (next-last c.args.self.now c.in_ok-order.order c.next.new.self (c.if-is_empty.ensures.0 refl) (next-in c.args.self.now c.in_ok-rest.rest.now c.in_ok-order.order c.next.new.self (sym c.in_ok-rest.ensures.value) c.in_ok-order.ensures.some)).ends

pub invariant_of-self-else-is_empty-clause-counted : goal.invariant_of-self-else-is_empty-clause-counted
invariant_of-self-else-is_empty-clause-counted g c s lt =
    let next = next-in c.args.self.now c.in_ok-rest.rest.now c.in_ok-order.order c.next.new.self (sym c.in_ok-rest.ensures.value) c.in_ok-order.ensures.some in
    next-counted c.args.self.now c.in_ok-order.order c.next.new.self (search rules) next s lt

pub invariant_of-self-else-is_empty-clause-ends : goal.invariant_of-self-else-is_empty-clause-ends
invariant_of-self-else-is_empty-clause-ends g c = (next-in c.args.self.now c.in_ok-rest.rest.now c.in_ok-order.order c.next.new.self (sym c.in_ok-rest.ensures.value) c.in_ok-order.ensures.some).ends

pub invariant_of-self-else-is_empty-clause-some : goal.invariant_of-self-else-is_empty-clause-some
invariant_of-self-else-is_empty-clause-some g c = some-left c.next.new.self (λ none. false≢true (c.if-is_empty.ensures.1 none))

pub returns-then-is_empty-clause-some : goal.returns-then-is_empty-clause-some
returns-then-is_empty-clause-some g c = (next-last c.args.self.now c.in_ok-order.order c.next.new.self (c.if-is_empty.ensures.0 refl) (next-in c.args.self.now c.in_ok-rest.rest.now c.in_ok-order.order c.next.new.self (sym c.in_ok-rest.ensures.value) c.in_ok-order.ensures.some)).grown

pub returns-then-is_empty-clause-next : goal.returns-then-is_empty-clause-next
returns-then-is_empty-clause-next g c = let next = next-last c.args.self.now c.in_ok-order.order c.next.new.self (c.if-is_empty.ensures.0 refl) (next-in c.args.self.now c.in_ok-rest.rest.now c.in_ok-order.order c.next.new.self (sym c.in_ok-rest.ensures.value) c.in_ok-order.ensures.some) in (next.seat, next.number)

pub returns-then-is_empty-clause-began : goal.returns-then-is_empty-clause-began
returns-then-is_empty-clause-began g c = ([], (next-last c.args.self.now c.in_ok-order.order c.next.new.self (c.if-is_empty.ensures.0 refl) (next-in c.args.self.now c.in_ok-rest.rest.now c.in_ok-order.order c.next.new.self (sym c.in_ok-rest.ensures.value) c.in_ok-order.ensures.some)).history)

pub returns-clause-some : goal.returns-clause-some
returns-clause-some g c = (next-in c.args.self.now c.in_ok-rest.rest.now c.in_ok-order.order c.next.new.self (sym c.in_ok-rest.ensures.value) c.in_ok-order.ensures.some).grown

pub returns-clause-next : goal.returns-clause-next
returns-clause-next g c = let next = next-in c.args.self.now c.in_ok-rest.rest.now c.in_ok-order.order c.next.new.self (sym c.in_ok-rest.ensures.value) c.in_ok-order.ensures.some in (next.seat, next.number)

pub returns-clause-began : goal.returns-clause-began
returns-clause-began g c = (numbered c.args.self.now.seat (c.args.self.now.number + 1) c.next.new.self, (next-in c.args.self.now c.in_ok-rest.rest.now c.in_ok-order.order c.next.new.self (sym c.in_ok-rest.ensures.value) c.in_ok-order.ensures.some).history)
