-- What is foreseen of a command.
use Rattle.std.proofs.Common.{◌≡◌, ◌≢◌, ℕ, ◌%◌, ◌&&◌, Bool, sym, Some}
use Rattle.enet_seq.specs.Numbering.{wire}
use Rattle.enet_seq.specs.Windows.{acknowledges}
use Rattle.enet_fragment.specs.declared.data.DataCommand.{DataCommand}
use Rattle.enet_receiver.specs.declared.took.Took.{Took}
use Rattle.enet_receiver.specs.declared.took.Took.TheVariants.{Held}
use Rattle.enet_receiver.specs.DataOutcome.{outcome, is_handled, dispatch_count}
use Rattle.enet_receiver.specs.Foresight.{ReceivingEnd, foreseen}
use Rattle.enet_receiver.specs.Private.ReceiverParts.{answered_with}
use Rattle.enet_receiver.proofs.Foreseen.{dispatches-none}

foreseen_is : (e : ReceivingEnd) (d : DataCommand) (full : Bool) (took : Took) (count : ℕ) → took ≡ outcome wire e.max_packet e.receiver d full → count ≡ dispatch_count wire e.max_packet e.receiver d full
    → answered_with e took d.number count ≡ foreseen e (Some d) full
foreseen_is e d full took count is many = λ i. record {
  took = is i;
  acknowledged = is_handled (is i) && acknowledges (e.receiver.front % 65536) d.number;
  dispatches = many i;
}

pub foreseen_held : (e : ReceivingEnd) (d : DataCommand) (full : Bool) (count : ℕ) → outcome wire e.max_packet e.receiver d full ≡ Held → count ≡ dispatch_count wire e.max_packet e.receiver d full
    → answered_with e Held d.number count ≡ foreseen e (Some d) full
foreseen_held e d full count held many = foreseen_is e d full Held count (sym held) many

pub foreseen_other : (e : ReceivingEnd) (d : DataCommand) (full : Bool) (took : Took) → took ≡ outcome wire e.max_packet e.receiver d full → took ≢ Held
    → answered_with e took d.number 0 ≡ foreseen e (Some d) full
foreseen_other e d full took is apart = foreseen_is e d full took 0 is (sym (dispatches-none e.max_packet e.receiver d full took (sym is) apart))
