use Rattle.std.proofs.Common.{◌≡◌, Bool, true, false, sym, ap, subst, ◌∙◌}
use Rattle.enet_codec.specs.Message.{view}
use Rattle.enet_inbox.specs.Inbox.{Inbox}
use Rattle.enet_inbox.specs.DataEffect.{is_waiting}
use Rattle.enet_inbox.specs.Private.Invariant.{HasFront}
use Rattle.enet_inbox.specs.InboxParts.{foreseen, plain_foreseen, told}
use Rattle.enet_inbox.proofs.Made.{made_of, all_front}
use Rattle.enet_inbox.proofs.Foresights.{told_is, if_kept, foreseen_plainly, foreseen_in_room, stopped_plainly}
use Rattle.enet_inbox.proofs.inbox.Inbox.foresee.Goals.{After-finds_no_room}
use Rattle.enet_inbox.proofs.inbox.Inbox.foresee.Goals as goal

front : (c : After-finds_no_room) → HasFront c.args.self.now (view c.args.command.now).head.channel
front c =
    let i = c.self.inside in
    subst (λ (x : Inbox). HasFront x (view c.args.command.now).head.channel) c.self.view_is (all_front i.channels (made_of i) i.waiting (view c.args.command.now).head.channel c.self.invariant.inbox c.self.invariant.within)

finds : (c : After-finds_no_room) (b : Bool) → c.finds_no_room.result ≡ b → is_waiting (told (plain_foreseen c.args.self.now (view c.args.command.now))) ≡ b
finds c b e = ap (λ r. is_waiting (told r)) (sym c.foresee_plainly-foreseen.ensures) ∙ sym c.finds_no_room.ensures ∙ e

pub foresee_room-requires : goal.foresee_room-requires
foresee_room-requires c =
    let at = (goal.at.foresee_room-requires c).After-finds_no_room in
    stopped_plainly c.args.self.now (view c.args.command.now) (front at) (finds at true c.if-finds_no_room.true)

pub returns-then-finds_no_room : goal.returns-then-finds_no_room
returns-then-finds_no_room c =
    let m = view c.args.command.now in
    let b = c.args.self.now in
    let at = (goal.at.returns-then-finds_no_room c).After-finds_no_room in
    let value : c.foresee_room.result ≡ foreseen b m = c.foresee_room.ensures ∙ sym (foreseen_in_room b m (front at) (finds at true c.if-finds_no_room.true)) in
    record { answer = ap told value ∙ told_is b m (front at); kept = if_kept b m c.foresee_room.result (front at) value; value = value }

pub returns : goal.returns
returns c =
    let m = view c.args.command.now in
    let b = c.args.self.now in
    let at = (goal.at.returns c).After-finds_no_room in
    let value : c.foresee_plainly-foreseen.result ≡ foreseen b m =
    c.foresee_plainly-foreseen.ensures ∙ sym (foreseen_plainly b m (front at) (finds at false c.if-finds_no_room.false)) in
    record { answer = ap told value ∙ told_is b m (front at); kept = if_kept b m c.foresee_plainly-foreseen.result (front at) value; value = value }
