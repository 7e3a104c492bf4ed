use Rattle.std.proofs.Common.{Some, sym, ap, subst, ◌∙◌}
use Rattle.enet_receiver.specs.ArrivingData.{data_command}
use Rattle.enet_inbox.specs.Inbox.{Inbox}
use Rattle.enet_inbox.specs.DataEffect.{sequenced}
use Rattle.enet_inbox.specs.InboxParts.{foreseen_sequenced}
use Rattle.enet_inbox.specs.Private.InboxParts.{met_by, FindsRoom}
use Rattle.enet_inbox.proofs.inbox.Inbox.take_in_sequenced.Goals as goal

pub take_in_made-requires : goal.take_in_made-requires
take_in_made-requires c =
    let channel = c.args.arriving.head.channel in
    let d = data_command c.args.arriving in record {
      plain = λ e. ap (λ (x : Inbox). foreseen_sequenced x channel (Some d)) c.make_receivers.ensures ∙ c.requires.plain e;
      room = λ e. subst (λ (x : Inbox). FindsRoom x channel (Some d)) (sym c.make_receivers.ensures) (c.requires.room e);
      not_told = c.requires.not_told;
      kept = c.requires.kept;
    }

pub returns-clause-taken : goal.returns-clause-taken
returns-clause-taken c = λ taken.
    c.take_in_made.ensures.taken taken
    ∙ ap (λ (x : Inbox). (sequenced (met_by c.args.what.makes_room x) c.args.arriving.head.channel (Some (data_command c.args.arriving))).after) c.make_receivers.ensures

pub returns-clause-unchanged : goal.returns-clause-unchanged
returns-clause-unchanged c = λ refused. c.take_in_made.ensures.unchanged refused ∙ c.make_receivers.ensures
