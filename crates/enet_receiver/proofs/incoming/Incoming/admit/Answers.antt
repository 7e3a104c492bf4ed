use Rattle.std.proofs.Common.{◌≡◌, true, ◌∙◌, sym, ap}
use Rattle.std.specs.Option.{option_copied}
use Rattle.enet_fragment.specs.declared.data.DataCommand.{DataCommand}
use Rattle.enet_receiver.specs.ArrivingData.{data_command}
use Rattle.enet_receiver.specs.DataOutcome.{is_piece}
use Rattle.enet_receiver.specs.Foresight.{ReceivingEnd}
use Rattle.enet_receiver.proofs.Admission.{outcome-read}
use Rattle.enet_receiver.proofs.incoming.Incoming.admit.Goals as goal

pub returns-in_default-outcome_of : goal.returns-in_default-outcome_of
returns-in_default-outcome_of c =
    let e : ReceivingEnd = c.args.self.now in
    let d : DataCommand = data_command c.args.arriving in
    let piece : is_piece e.max_packet d ≡ true = ap (λ (q : ReceivingEnd). is_piece q.max_packet d) (sym c.self.view_is) ∙ sym c.if-not-is_piece.ensures.value in
    record {
      held = tt;
      inside = tt;
      short = tt;
      other = c.outcome_of.ensures.value
          ∙ sym (outcome-read e.max_packet e.receiver d c.args.full c.in-Some.place (option_copied c.came_before-earlier.result) piece c.came_before-earlier.ensures
          (sym c.if-not-agrees_with.ensures) (sym c.in-Some.ensures.value));
      known = (c.in_default-outcome_of.not-Held, c.outcome_of.ensures.known);
    }
