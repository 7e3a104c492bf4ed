use Rattle.std.proofs.Common.{◌<◌, ◌^◌, subst, ◌∙◌, arith}
use Rattle.enet_receiver.specs.ArrivingData.{data_command}
use Rattle.enet_receiver.specs.Foresight.{ReceivingEnd}
use Rattle.enet_receiver.proofs.Taken.{IsOwn, own_command, kept_is}
use Rattle.enet_receiver.proofs.incoming.Incoming.take_in.Goals as goal

pub keep-requires-clause-short : goal.keep-requires-clause-short
keep-requires-clause-short c =
    let d = data_command c.args.arriving in
    let own : IsOwn c.args.self.now d c.own_place.result = own_command c.args.self.now d (c.requires.0) c.own_place.result
    (subst (λ (e : ReceivingEnd). e.receiver.front < 65536) c.self.view_is c.self.invariant.wire) (omega arith) c.own_place.ensures
    c.requires.1 in
    let short = own.short in
    let most : c.args.self.now.max_packet < 2 ^ 32 = subst (λ (e : ReceivingEnd). e.max_packet < 2 ^ 32) c.self.view_is c.self.invariant.packet in
    omega arith

pub keep-requires-clause-admitted : goal.keep-requires-clause-admitted
keep-requires-clause-admitted c =
    let d = data_command c.args.arriving in
    (own_command c.args.self.now d c.requires.0 c.own_place.result
    (subst (λ (e : ReceivingEnd). e.receiver.front < 65536) c.self.view_is c.self.invariant.wire) (omega arith) c.own_place.ensures
    c.requires.1).admitted

pub keep-requires-clause-inside : goal.keep-requires-clause-inside
keep-requires-clause-inside c =
    let d = data_command c.args.arriving in
    (own_command c.args.self.now d c.requires.0 c.own_place.result
    (subst (λ (e : ReceivingEnd). e.receiver.front < 65536) c.self.view_is c.self.invariant.wire) (omega arith) c.own_place.ensures
    c.requires.1).inside

pub returns-clause-taken : goal.returns-clause-taken
returns-clause-taken c = λ taken full held.
    let d = data_command c.args.arriving in
    let own : IsOwn c.args.self.now (data_command c.args.arriving) c.own_place.result = own_command c.args.self.now d full c.own_place.result
    (subst (λ (e : ReceivingEnd). e.receiver.front < 65536) c.self.view_is c.self.invariant.wire) (omega arith) c.own_place.ensures held in
    c.keep.ensures.kept taken ∙ kept_is c.args.self.now d full c.own_place.result held own
