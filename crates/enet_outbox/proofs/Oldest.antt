-- What waits longest goes first.
use Rattle.std.proofs.Common.{◌≡◌, ◌-◌, ◌≤◌, true, List, [], ◌∷◌, ◌++◌, drop, length, refl, sym, ap, subst, arith}
use Rattle.std.specs.List.{slice_get}
use Rattle.std.proofs.lemmas.Bool.{le-leb}
use Rattle.enet_codec.specs.Message.{Message}
use Rattle.enet_senders.specs.Controlling as controlling
use Rattle.enet_fragment.specs.DataCommand.{message_of}
use Rattle.enet_outbox.specs.declared.parts.Acknowledgement.{Acknowledgement}
use Rattle.enet_outbox.specs.declared.parts.Pace.{Pace}
use Rattle.enet_outbox.specs.Outbox.{Outbox}
use Rattle.enet_outbox.specs.Emission.{Filling, acknowledgement_of, empty_datagram, filled, fits, size_of, unsequenced_of, with_acknowledgements, with_command}
use Rattle.enet_outbox.proofs.Filled.{Keeps, by-acknowledgements, by-later}
use Rattle.enet_outbox.proofs.Stages.{acknowledgements-go, more_acknowledgements}

-- the datagram begins with this acknowledgement
abbrev BeginsWith : Acknowledgement → Filling → Type 0
BeginsWith a f = (more : List Message) × (f.messages ≡ acknowledgement_of a ∷ more)

more-goes : (a : Acknowledgement) (f : Filling) (m : Message) (o : Outbox) → BeginsWith a f → BeginsWith a (with_command f m o)
more-goes a f m o b = (b.0 ++ m ∷ [], ap (λ (ms : List Message). ms ++ m ∷ []) b.1)

keeps : (pace : Pace) (a : Acknowledgement) → Keeps pace (BeginsWith a)
keeps pace a = record {
  closes = λ f b. b;
  acknowledges = λ f x rest e b. more-goes a f (acknowledgement_of x) (record f.outbox { acknowledgements = rest }) b;
  controls = λ f n e b. more-goes a f (controlling.message_of n.command) (record f.outbox { control = n.commands }) b;
  puts_unsequenced = λ f u rest t e b. (b.0 ++ unsequenced_of u ∷ [], ap (λ (ms : List Message). ms ++ unsequenced_of u ∷ []) b.1);
  drops_unsequenced = λ f u rest t e b. b;
  puts_data = λ f k s n t there due b. (b.0 ++ message_of s.channel n.command ∷ [], ap (λ (ms : List Message). ms ++ message_of s.channel n.command ∷ []) b.1);
  drops_data = λ f k s n t there due kind b. b;
  keeps_room = λ f k s there wants b. b;
  gives_room = λ f k s n there due b. b;
}

pub oldest-first : (pace : Pace) (o : Outbox) (a : Acknowledgement) (rest : List Acknowledgement) → 12 ≤ pace.mtu → o.acknowledgements ≡ a ∷ rest
    → (more : List Message) × ((filled pace o).messages ≡ acknowledgement_of a ∷ more)
oldest-first pace o a rest long e =
    let f0 : Filling = empty_datagram pace o in
    let g : Filling = with_command f0 (acknowledgement_of a) (record o { acknowledgements = rest }) in
    let room : size_of (acknowledgement_of a) ≤ pace.mtu - 4 = omega arith in
    let fit : fits f0 (acknowledgement_of a) ≡ true = le-leb (size_of (acknowledgement_of a)) (pace.mtu - 4) room in
    let goes : with_acknowledgements f0 ≡ more_acknowledgements rest g =
    acknowledgements-go o.acknowledgements rest a f0 refl refl (ap (λ (xs : List Acknowledgement). slice_get xs 0) e) (sym (ap (λ (xs : List Acknowledgement). drop 1 xs) e)) fit in
    let begun : BeginsWith a g = ([], refl) in
    let first : BeginsWith a (more_acknowledgements rest g) = by-acknowledgements pace (BeginsWith a) (keeps pace a) (length rest) g begun in
    by-later pace o (BeginsWith a) (keeps pace a) (with_acknowledgements f0) (subst (BeginsWith a) (sym goes) first)
