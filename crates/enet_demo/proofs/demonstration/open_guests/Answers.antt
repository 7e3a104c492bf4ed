use Rattle.std.proofs.Common.{◌≡◌, ℕ, ◌++◌, ◌∷◌, [], subst, arith}
use Rattle.std.proofs.lemmas.Grind.{common_steps}
use Rattle.enet_codec.specs.declared.address.Addr.{Addr}
use Rattle.enet_demo.specs.Visits.{plan_of}
use Rattle.enet_demo.specs.Private.Playing.{IsGuest}
use Rattle.enet_demo.proofs.More.{one_guest_more}
use Rattle.enet_demo.proofs.demonstration.open_guests.Goals as goal

pub loop-number-preserved : goal.loop-number-preserved
loop-number-preserved g c =
    let more : c.push.new.self.items ≡ c.loop-number.guests.items ++ c.in_ok-guest.guest ∷ [] = grind (arith, common_steps, c.push.ensures.items, c.is_err.ensures.negation) in
    let placed : IsGuest (plan_of c.args.shown c.loop-number.number) c.from.result c.in_ok-guest.guest =
    subst (λ (a : Addr). IsGuest (record { number = c.loop-number.number; server = a; secret = c.args.shown.secret }) c.from.result c.in_ok-guest.guest) c.server_of.ensures c.in_ok-guest.ensures.guest in
    let guest : IsGuest (plan_of c.args.shown c.loop-number.number) c.args.shown.turns c.in_ok-guest.guest =
    subst (λ (n : ℕ). IsGuest (plan_of c.args.shown c.loop-number.number) n c.in_ok-guest.guest) c.from.ensures placed in
    one_guest_more c.args.shown _ _ _ _ more c.loop-number.invariant guest
