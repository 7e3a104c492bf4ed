use Rattle.std.proofs.Common.{◌≡◌, ◌∷◌, [], rules, length, sym, subst, arith}
use Rattle.std.proofs.lemmas.Grind.{common_steps}
use Rattle.enet_codec.specs.declared.event.Event.TheVariants as events
use Rattle.check_outcome.specs.Life.{IsSomeLife}
use Rattle.check_outcome.proofs.SomeLife.{is-empty, life_none, life_connect, connect_life, life_disconnect, disconnect_life}
use Rattle.check_outcome.proofs.life.is_life.Goals as goal

pub returns-in_default : goal.returns-in_default
returns-in_default c =
    let none : c.args.events.now ≡ [] = grind (arith, common_steps) in
    (λ h. subst IsSomeLife (sym none) life_none, λ h. search rules)

pub returns-in-Connect : goal.returns-in-Connect
returns-in-Connect c =
    let is : c.args.events.now ≡ events.Connect c.in-Connect.peer c.in-Connect.info ∷ c.in-Some.rest.now = grind (arith, common_steps) in
    (λ h. subst IsSomeLife (sym is) (life_connect _ _ _ (c.are_last_of.ensures.0 h)), λ h. c.are_last_of.ensures.1 (connect_life _ _ _ (subst IsSomeLife is h)))

pub returns-in-Disconnect : goal.returns-in-Disconnect
returns-in-Disconnect c =
    let is : c.args.events.now ≡ events.Disconnect c.in-Disconnect.peer c.in-Disconnect.info ∷ c.in-Some.rest.now = grind (arith, common_steps) in
    (λ h. subst IsSomeLife (sym is) (life_disconnect _ _ _ (let long : length c.in-Some.rest.now ≡ 0 = grind (arith, common_steps) in is-empty _ long)), λ h. let none = disconnect_life _ _ _ (subst IsSomeLife is h) in search rules)
