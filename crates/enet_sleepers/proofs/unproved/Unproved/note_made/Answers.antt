use Rattle.std.proofs.Common.{◌≡◌, ℕ, ◌-◌, ◌^◌, ◌<◌, None, Some, Option, slice_set, sym, ap, subst, ◌∙◌, arith}
use Rattle.std.specs.Option.{option_map}
use Rattle.enet_rtt.specs.Clock.{elapsed_time}
use Rattle.enet_slot.specs.Slotted.{shown, all_shown}
use Rattle.enet_slot.proofs.Shown.{get-shown}
use Rattle.enet_sleepers.specs.Unproved.{Waiting}
use Rattle.enet_sleepers.specs.Private.Unproved.{moment_made}
use Rattle.enet_sleepers.specs.contracts.unproved.Unproved.{the_view}
use Rattle.enet_sleepers.proofs.Making.{moment-there, set-as, low-there, none-there}
use Rattle.enet_sleepers.proofs.unproved.Unproved.note_made.Goals as goal

pub returns-in-Some-clause-anew : goal.returns-in-Some-clause-anew
returns-in-Some-clause-anew c = λ s there.
    let slots = c.args.slots.now in
    let n = c.args.number in
    let now = c.args.now in
    let v = the_view c.self.inside in
    let slot = c.index-slots-number.result in
    let here = get-shown slots n slot c.requires.within c.index-slots-number.is in
    let moment : moment_made v.clock now s.peer ≡ Some (v.clock - c.from.result) =
    moment-there v.clock now n c.made.result (all_shown slots) (shown slot) s here there c.made.ensures
    ∙ ap (λ (o : Option ℕ). option_map (λ (m : ℕ). v.clock - elapsed_time now m) o) c.in-Some.is ∙ ap (λ (m : ℕ). Some (v.clock - m)) (sym (c.from.ensures ∙ c.elapsed.ensures)) in
    subst (λ (w : Waiting). record v { since = c.set.new.self } ≡ record w { since = slice_set w.since n (moment_made w.clock now s.peer) }) c.self.view_is
    (set-as v n (Some (v.clock - c.from.result)) (moment_made v.clock now s.peer) c.set.new.self c.set.ensures moment)

pub returns-in-None-clause-anew : goal.returns-in-None-clause-anew
returns-in-None-clause-anew c = λ s there.
    let slots = c.args.slots.now in
    let n = c.args.number in
    let now = c.args.now in
    let v = the_view c.self.inside in
    let slot = c.index-slots-number.result in
    let here = get-shown slots n slot c.requires.within c.index-slots-number.is in
    let moment : moment_made v.clock now s.peer ≡ None =
    moment-there v.clock now n c.made.result (all_shown slots) (shown slot) s here there c.made.ensures
    ∙ ap (λ (o : Option ℕ). option_map (λ (m : ℕ). v.clock - elapsed_time now m) o) c.in-None.is in
    subst (λ (w : Waiting). record v { since = c.clear.new.self } ≡ record w { since = slice_set w.since n (moment_made w.clock now s.peer) }) c.self.view_is
    (set-as v n None (moment_made v.clock now s.peer) c.clear.new.self c.clear.ensures moment)

pub returns-in-Some-clause-low : goal.returns-in-Some-clause-low
returns-in-Some-clause-low c = λ s p there held.
    let slots = c.args.slots.now in
    let n = c.args.number in
    let slot = c.index-slots-number.result in
    let low : c.in-Some.made < 2 ^ 32 = omega arith in
    low-there n c.in-Some.made (all_shown slots) (shown slot) s p (get-shown slots n slot c.requires.within c.index-slots-number.is) there low (sym c.in-Some.is ∙ c.made.ensures) held

pub returns-in-None-clause-low : goal.returns-in-None-clause-low
returns-in-None-clause-low c = λ s p there held.
    let slots = c.args.slots.now in
    let n = c.args.number in
    let slot = c.index-slots-number.result in
    none-there n (all_shown slots) (shown slot) s p (get-shown slots n slot c.requires.within c.index-slots-number.is) there (sym c.in-None.is ∙ c.made.ensures) held
