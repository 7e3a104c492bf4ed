use Rattle.std.proofs.Common.{Some, refl, subst, rules}
use Rattle.enet_wire.specs.Socket.{failures_of}
use Rattle.enet_service.specs.ServiceRuns.{HasTurned, IsCut, Standing}
use Rattle.enet_guard.specs.Journals.{told_of as told_at}
use Rattle.enet_serve.specs.Serving.{told_of}
use Rattle.enet_serve.specs.declared.threads.Carryover.{Carryover}
use Rattle.enet_serve.specs.Private.Threads.{IsBegun}
use Rattle.enet_serve.proofs.Room.{serves_beside, cut_beside, IsFirst}
use Rattle.enet_serve.proofs.server.ChatServer.run_turns.Goals as goal

pub returns-clause-serves : goal.returns-clause-serves
returns-clause-serves g c =
    let old = c.args.self.now in
    let from : Standing = record { service = old.bound.service; queue = c.args.shared.queue.now; drain = c.args.ends.drain; poster = c.args.ends.poster; told = Some (told_of old); faults = failures_of old.bound.wire.wire } in
    let to : Standing = record { service = c.beside_turns-relayed.new.bound.service; queue = c.args.shared.queue.now; drain = c.into_drain.result; poster = c.into_poster.result; told = Some (told_at c.beside_turns-relayed.new.bound.wire); faults = failures_of c.beside_turns-relayed.new.bound.wire.wire } in
    let turned : HasTurned c.args.run_length from to c.in-Ok.report = search rules in
    let begun : IsBegun old.kept c.new-sender.result c.new-receiver.result c.in_ok-relay.relay =
    subst (λ (kept : Carryover). IsBegun kept c.new-sender.result c.new-receiver.result c.in_ok-relay.relay) c.replace-kept.ensures.value c.in_ok-relay.ensures.begun in
    let first : IsFirst old.queue_capacity from c.new-sender.result c.new-receiver.result = record {
      none_asked = search rules;
      none_received = search rules;
      none_taken = c.requires.new.drain.1;
      none_posted = c.requires.new.poster.1;
      one_seat = search rules;
      places = search rules;
    } in
    let beside = c.beside_turns-relayed.ensures.other.met.1 in
    serves_beside old _ c.args.run_length c.in-Ok.report from to c.new-sender.result c.new-receiver.result c.in_ok-relay.relay _ _ _ c.into_parts.result
    turned refl refl refl refl refl refl beside.0 c.in_ok-relayed.was beside.1.0 first begun (record { peers = search rules; backlog = search rules; waits = search rules; asks = search rules; took = search rules }) c.in_ok-self.ensures.left refl

pub returns-in-Err-clause-cut_off : goal.returns-in-Err-clause-cut_off
returns-in-Err-clause-cut_off g c =
    let old = c.args.self.now in
    let from : Standing = record { service = old.bound.service; queue = c.args.shared.queue.now; drain = c.args.ends.drain; poster = c.args.ends.poster; told = Some (told_of old); faults = failures_of old.bound.wire.wire } in
    let to : Standing = record { service = c.beside_turns-relayed.new.bound.service; queue = c.args.shared.queue.now; drain = c.into_drain.result; poster = c.into_poster.result; told = Some (told_at c.beside_turns-relayed.new.bound.wire); faults = failures_of c.beside_turns-relayed.new.bound.wire.wire } in
    let cut : IsCut c.args.run_length from to = search rules in
    let begun : IsBegun old.kept c.new-sender.result c.new-receiver.result c.in_ok-relay.relay =
    subst (λ (kept : Carryover). IsBegun kept c.new-sender.result c.new-receiver.result c.in_ok-relay.relay) c.replace-kept.ensures.value c.in_ok-relay.ensures.begun in
    let first : IsFirst old.queue_capacity from c.new-sender.result c.new-receiver.result = record {
      none_asked = search rules;
      none_received = search rules;
      none_taken = c.requires.new.drain.1;
      none_posted = c.requires.new.poster.1;
      one_seat = search rules;
      places = search rules;
    } in
    let beside = c.beside_turns-relayed.ensures.other.met.1 in
    λ is. cut_beside old _ c.args.run_length from to c.new-sender.result c.new-receiver.result c.in_ok-relay.relay _ c.into_parts.result c.after_run-kept.result
    cut refl refl refl refl refl beside.0 first begun (record { peers = search rules; backlog = search rules; waits = search rules; asks = search rules; took = search rules }) c.after_run-kept.ensures.left c.after_run-kept.ensures.refused c.left_or_nothing.ensures.left c.left_or_nothing.ensures.nothing refl
