use Rattle.std.proofs.Common.{◌≡◌, ◌≤◌, ◌+◌, arith}
use Rattle.std.specs.FinMap.{insert, len}
use Rattle.enet_receiver.specs.ArrivingData.{data_command}
use Rattle.enet_receiver.specs.DataOutcome.{with_more, earlier_or_new}
use Rattle.std.specs.FinMap.{get}
use Rattle.enet_receiver.proofs.Bounds.{from_ok, len_inserted}
use Rattle.enet_receiver.proofs.storing.store.Goals as goal

pub returns-then-arriving-clause-room : goal.returns-then-arriving-clause-room
returns-then-arriving-clause-room c = λ t.
    let held = c.args.held.now in
    let number = c.args.number in
    let d = data_command c.args.arriving in
    let more = with_more (earlier_or_new (get held number) d) d in
    let is : c.hold.new.held ≡ insert c.args.held.now c.args.number (with_more (earlier_or_new (get c.args.held.now c.args.number) (data_command c.args.arriving)) (data_command c.args.arriving)) =
    from_ok c.hold.result c.is_ok.result c.is_ok.ensures.value t c.hold.ensures.ok in
    let few : len c.hold.new.held ≤ len c.args.held.now + 1 = rw is (len_inserted held number more) in
    omega arith
