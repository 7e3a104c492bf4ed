use Rattle.std.proofs.Common.{◌∙◌}
use Rattle.enet_codec.specs.Message.{view}
use Rattle.enet_receiver.specs.ArrivingData.{data_command}
use Rattle.enet_inbox.proofs.Foresights.{MeetsAt, meets_sequenced}
use Rattle.enet_inbox.proofs.inbox.Inbox.take_in_foreseen.Goals.{In-Some}
use Rattle.enet_inbox.proofs.inbox.Inbox.take_in_foreseen.Goals as goal

meets : (c : In-Some) → MeetsAt c.args.self.now (view c.args.command.now) c.in-Some.arriving.head.channel (data_command c.in-Some.arriving) c.args.what
meets c = meets_sequenced c.args.self.now (view c.args.command.now) c.in-Some.arriving.head (data_command c.in-Some.arriving) c.args.what c.requires.foreseen c.in-Some.ensures.head c.in-Some.ensures.data

pub take_in_sequenced-requires : goal.take_in_sequenced-requires
take_in_sequenced-requires c =
    let k = meets (goal.at.take_in_sequenced-requires c).In-Some in
    record { plain = k.plain; room = k.room; not_told = k.not_told; kept = c.requires.kept }

pub returns-clause-taken : goal.returns-clause-taken
returns-clause-taken c = λ taken. c.take_in_sequenced.ensures.taken taken ∙ (meets (goal.at.returns-clause-taken c).In-Some).after
