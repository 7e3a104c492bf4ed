use Rattle.std.proofs.Common.{◌≡◌, Ok, sym, ap, ◌∙◌}
use Rattle.enet_codec.specs.Message.{Message, view, send_unsequenced}
use Rattle.enet_inbox.specs.DataEffect.{arrival}
use Rattle.enet_inbox.specs.InboxParts.{foreseen}
use Rattle.enet_inbox.proofs.Foresights.{meets_unsequenced}
use Rattle.enet_inbox.proofs.inbox.Inbox.take_in_unsequenced.Goals as goal

pub returns-clause-taken : goal.returns-clause-taken
returns-clause-taken c = λ taken.
    let u = c.in-SendUnsequenced in
    let b = c.args.self.now in
    let m : Message = record { head = u.head; body = send_unsequenced u.group u.payload.now } in
    let is : view c.args.command.now ≡ m = ap view u.is in
    let told : foreseen b m ≡ Ok c.args.what = ap (foreseen b) (sym is) ∙ c.requires.foreseen in
    c.append.ensures.added taken
    ∙ (meets_unsequenced b u.head u.group u.payload.now c.args.what told c.requires.kept).after
    ∙ ap (λ (x : Message). (arrival b x).after) (sym is)
