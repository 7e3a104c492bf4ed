use Rattle.std.proofs.Common.{eqb, sym, ap, ◌∙◌}
use Rattle.enet_codec.specs.declared.command.Fragment.{Fragment}
use Rattle.enet_receiver.specs.ArrivingData.{data_command}
use Rattle.enet_fragment.specs.PartialPacket.{put_outcome}
use Rattle.enet_receiver.proofs.Foreseen.{completes_first, completes_last, completes_not}
use Rattle.enet_receiver.proofs.incoming.Incoming.completes.Goals as goal

pub returns-in-None : goal.returns-in-None
returns-in-None c =
    let e = c.args.self.now in
    ap (λ (f : Fragment). eqb f.count 1) c.piece.ensures
    ∙ sym (completes_first e.max_packet e.receiver (data_command c.args.arriving) c.args.place c.requires.admitted (sym c.in-None.ensures))

pub returns-in-Whole : goal.returns-in-Whole
returns-in-Whole c =
    let e = c.args.self.now in
    sym (completes_last e.max_packet e.receiver (data_command c.args.arriving) c.args.place c.in-Some.coming.now c.foresee.result c.requires.admitted (sym c.in-Some.ensures)
    (c.foresee.ensures ∙ ap (put_outcome c.in-Some.coming.now.making) c.place.ensures) c.in-Whole.is)

pub returns-in_default : goal.returns-in_default
returns-in_default c =
    let e = c.args.self.now in
    sym (completes_not e.max_packet e.receiver (data_command c.args.arriving) c.args.place c.in-Some.coming.now c.foresee.result c.requires.admitted (sym c.in-Some.ensures)
    (c.foresee.ensures ∙ ap (put_outcome c.in-Some.coming.now.making) c.place.ensures) c.in_default.not-Whole)
