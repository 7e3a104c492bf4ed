use Rattle.std.proofs.Common.{◌≡◌, ℕ, Bool, cond, Option, Some, None, sym, ap, ◌∙◌}
use Rattle.std.specs.Option.{option_map}
use Rattle.enet_seq.specs.Windows.{acknowledges}
use Rattle.enet_receiver.specs.Foresight.{ReceivingEnd, new_end}
use Rattle.enet_inbox.specs.Private.InboxParts.{new_at}
use Rattle.enet_inbox.proofs.Made.{made_of, there_made, there_new}
use Rattle.enet_inbox.proofs.inbox.Inbox.may_acknowledge.Goals as goal

abbrev may : ℕ → Option ReceivingEnd → Option Bool
may number o = option_map {T = ReceivingEnd} {U = Bool} (λ r. acknowledges r.receiver.front number) o

pub returns-in-Some : goal.returns-in-Some
returns-in-Some c =
    let i = c.self.inside in
    let look = c.in-Some.ensures.lookup in
    ap Some c.acknowledges.ensures
    ∙ ap (may c.args.head.number) (sym (there_made i.channels (made_of i) c.args.self.now c.deref.result.now c.args.head.channel c.in-Some.receiver.now c.self.view_is c.deref.ensures.value look.3.0 look.1))

pub returns-in-None : goal.returns-in-None
returns-in-None c =
    let i = c.self.inside in
    let new : new_at c.args.self.now c.args.head.channel ≡ Some (new_end c.args.head.channel c.args.self.now.max_packet) =
    ap (λ t. cond t (Some (new_end c.args.head.channel c.args.self.now.max_packet)) None) (sym c.has_channel.ensures ∙ c.if-has_channel.true) in
    ap Some c.acknowledges-in-None.ensures
    ∙ ap (may c.args.head.number) (sym (there_new i.channels (made_of i) c.args.self.now c.deref.result.now c.args.head.channel c.self.view_is c.deref.ensures.value c.self.invariant.within c.in-None.ensures.lookup.3 ∙ new))

pub returns-in-None-2 : goal.returns-in-None-2
returns-in-None-2 c =
    let i = c.self.inside in
    let new : new_at c.args.self.now c.args.head.channel ≡ None =
    ap (λ t. cond t (Some (new_end c.args.head.channel c.args.self.now.max_packet)) None) (sym c.has_channel.ensures ∙ c.if-has_channel.false) in
    ap (may c.args.head.number) (sym (there_new i.channels (made_of i) c.args.self.now c.deref.result.now c.args.head.channel c.self.view_is c.deref.ensures.value c.self.invariant.within c.in-None-2.ensures.lookup.3 ∙ new))
