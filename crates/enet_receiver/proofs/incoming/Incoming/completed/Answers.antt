use Rattle.std.proofs.Common.{refl, sym, ap, ◌∙◌}
use Rattle.enet_codec.specs.declared.command.Fragment.{Fragment}
use Rattle.enet_receiver.specs.ArrivingData.{data_command}
use Rattle.enet_receiver.proofs.Admission.{grown_count}
use Rattle.enet_receiver.proofs.incoming.Incoming.completed.Goals as goal

pub returns : goal.returns
returns c =
    let e = c.args.self.now in (
      sym c.completes.ensures ∙ c.if-not-completes.false,
      refl,
      refl,
      refl,
      ap (λ (f : Fragment). f.count) c.piece.ensures ∙ sym (grown_count e.max_packet e.receiver (data_command c.args.arriving) c.args.place c.requires.admitted),
    )
