use Rattle.std.proofs.Common.{◌≡◌, List, length, refl, sym, ap, ◌∙◌, arith}
use Rattle.enet_sender.specs.Due.{SendingEnd}
use Rattle.enet_senders.specs.Senders.{ends_in}
use Rattle.enet_senders.specs.Made.{all_ends}
use Rattle.enet_senders.proofs.Each.{ends-length}
use Rattle.enet_senders.proofs.Made.{all_begun, made_more, sets_made}
use Rattle.enet_senders.proofs.senders.MadeSenders.make_up_to.Goals.{After-make_up_to}
use Rattle.enet_senders.proofs.senders.MadeSenders.make_up_to.Goals as goal

pub returns-then-from-len : goal.returns-then-from-len
returns-then-from-len c = record {
  made = all_begun (length c.args.self.now) c.args.self.now refl;
  within = c.requires.within;
  done = λ _. let long = ends-length c.self.inside.pending.slab c.self.inside.channels.items in let same = ap (λ (es : List SendingEnd). length es) c.self.view_is in omega arith;
}

abbrev before : After-make_up_to → List SendingEnd
before c = ends_in c.self.inside.pending c.self.inside.channels.items

abbrev after : After-make_up_to → List SendingEnd
after c = ends_in c.self.inside.pending c.make_up_to.new.channels.items

made : (c : After-make_up_to) → after c ≡ all_ends (length (after c)) (before c)
made c = c.make_up_to.ensures.ends ∙ ap (λ n. all_ends n (before c)) (sym (ends-length c.self.inside.pending.slab c.make_up_to.new.channels.items))

pub invariant_of-self : goal.invariant_of-self
invariant_of-self c =
    let at = (goal.at.invariant_of-self c).After-make_up_to in record {
      kept = c.make_up_to.ensures.kept;
      sets = sets_made c.self.inside.ready c.self.inside.flying (length (after at)) (before at) (after at) (made at) (made_more (before at) (after at) (made at)) c.self.invariant.sets;
    }

pub returns : goal.returns
returns c =
    let at = (goal.at.returns c).After-make_up_to in
    let long = ends-length c.self.inside.pending.slab c.make_up_to.new.channels.items in record {
      made = made at ∙ ap (all_ends (length (after at))) c.self.view_is;
      within = let most = c.make_up_to.ensures.within in omega arith;
      done = λ yes. let low = c.make_up_to.ensures.done yes in omega arith;
    }
