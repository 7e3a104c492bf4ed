use Rattle.enet_outbox.proofs.outbox.Outbox.acknowledge.Goals as goal

pub returns-then-channel-ne-CONTROL_CHANNEL-clause-found : goal.returns-then-channel-ne-CONTROL_CHANNEL-clause-found
returns-then-channel-ne-CONTROL_CHANNEL-clause-found c = c.acknowledge_data.ensures.found

pub returns-then-channel-ne-CONTROL_CHANNEL-clause-outbox : goal.returns-then-channel-ne-CONTROL_CHANNEL-clause-outbox
returns-then-channel-ne-CONTROL_CHANNEL-clause-outbox c = c.acknowledge_data.ensures.outbox
