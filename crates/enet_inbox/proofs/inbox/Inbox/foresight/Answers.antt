use Rattle.std.proofs.Common.{Ok, Some, sym, ap, ◌∙◌}
use Rattle.enet_receiver.specs.ArrivingData.{data_command}
use Rattle.enet_receiver.specs.Foresight.{foreseen}
use Rattle.enet_inbox.specs.InboxParts.{foresight_on, foresight_of}
use Rattle.enet_inbox.proofs.Made.{made_of, there_made, there_new}
use Rattle.enet_inbox.proofs.inbox.Inbox.foresight.Goals as goal

pub returns-in-Some-get : goal.returns-in-Some-get
returns-in-Some-get c =
    let i = c.self.inside in
    let b = c.args.self.now in
    let h = c.in-Some.arriving.head in
    let d = data_command c.in-Some.arriving in
    let r = c.in-Some-get.receiver.now in
    let look = c.in-Some-get.ensures.lookup in
    let there = there_made i.channels (made_of i) b c.deref.result.now h.channel r c.self.view_is c.deref.ensures.value look.3.0 look.1 in
    ap Ok (c.foresee_data.ensures ∙ ap (λ full. foreseen r (Some d) full) c.is_full_for.ensures)
    ∙ ap (foresight_on b d) (sym there)
    ∙ (λ j. foresight_of b (c.in-Some.ensures.head j).channel (c.in-Some.ensures.data j))

pub returns-in-None : goal.returns-in-None
returns-in-None c =
    let i = c.self.inside in
    let b = c.args.self.now in
    let h = c.in-Some.arriving.head in
    let d = data_command c.in-Some.arriving in
    let there = there_new i.channels (made_of i) b c.deref.result.now h.channel c.self.view_is c.deref.ensures.value c.self.invariant.within c.in-None.ensures.lookup.3 in
    c.foresight_anew.ensures
    ∙ ap (foresight_on b d) (sym there)
    ∙ (λ j. foresight_of b (c.in-Some.ensures.head j).channel (c.in-Some.ensures.data j))
