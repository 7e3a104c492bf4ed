-- An empty unreliable packet tells what its number's window says.
use Rattle.std.proofs.Common.{◌≡◌, ℕ, ◌%◌, ◌<◌, Bool, true, false, cond, Option, Some, None, [], refl, ap, ◌∙◌, arith}
use Rattle.std.specs.Prelude.{◌&&◌, ◌||◌, nat_le}
use Rattle.std.proofs.lemmas.Bool.Decides.{nat_tests}
use Rattle.enet_seq.specs.Numbering.{wire}
use Rattle.enet_seq.specs.Windows.{acknowledges}
use Rattle.enet_fragment.specs.declared.data.DataCommand.{DataCommand}
use Rattle.enet_fragment.specs.DataCommand.{place_in_packet}
use Rattle.enet_fragment.specs.Place.{is_sound, is_even, is_of_piece_length, told_piece_len}
use Rattle.enet_packets.specs.declared.incoming_packet.IncomingPacket.{IncomingPacket}
use Rattle.enet_receiver.specs.declared.took.Took.TheVariants.{Held, Again, Bad}
use Rattle.enet_receiver.specs.Receiver.{Receiver}
use Rattle.enet_receiver.specs.DataOutcome.{outcome_at, outcome_of, place_read, came_at, came_before, is_piece, is_piece_of_its_packet, agrees_with, is_behind, is_handled, acknowledged}

abbrev stand_in : ℕ → DataCommand
stand_in number = record { reliable = false; number = number; unreliable = 0; fragment = None; body = [] }

at_least_none : (most : ℕ) → nat_le 0 most ≡ true
at_least_none most = grind (arith, nat_tests)

sound : (number : ℕ) → is_sound (place_in_packet (stand_in number)) ≡ true
unfolding is_sound is_even is_of_piece_length told_piece_len
sound number = refl

piece : (most number : ℕ) → is_piece most (stand_in number) ≡ true
piece most number = ap (λ b. b && nat_le 0 most && true) (sound number) ∙ ap (λ b. b && true) (at_least_none most)

agrees : (number : ℕ) (earlier : Option IncomingPacket) → agrees_with earlier (stand_in number) ≡ true
agrees number None = refl
agrees number (Some e) = refl

fits : (most : ℕ) (r : Receiver) (number : ℕ) → is_piece_of_its_packet wire most r (stand_in number) ≡ true
fits most r number = λ i. piece most number i && agrees number (came_before wire r (stand_in number)) i

again_or_held : (b : Bool) → is_handled (cond b Again Held) ≡ true
again_or_held true = refl
again_or_held false = refl

of_handled : (r : Receiver) (number place : ℕ) (earlier : Option IncomingPacket) → is_handled (outcome_of r (stand_in number) false place earlier) ≡ true
of_handled r number place None = again_or_held (is_behind r (stand_in number) place || false)
of_handled r number place (Some e) = again_or_held (is_behind r (stand_in number) place || true)

at_handled : (r : Receiver) (number : ℕ) (o : Option ℕ) → is_handled (outcome_at r (stand_in number) false o) ≡ true
at_handled r number None = refl
at_handled r number (Some place) = of_handled r number place (came_at r (stand_in number) place)

same_front : (front : ℕ) → front < 65536 → front % 65536 ≡ front
same_front front h = omega arith

pub told : (most : ℕ) (r : Receiver) (number : ℕ) → r.front < 65536 → acknowledged wire most r (stand_in number) false ≡ acknowledges r.front number
told most r number low =
    ap (λ b. is_handled (cond b (outcome_at r (stand_in number) false (place_read wire r (stand_in number))) Bad) && acknowledges (r.front % 65536) number) (fits most r number)
    ∙ ap (λ b. b && acknowledges (r.front % 65536) number) (at_handled r number (place_read wire r (stand_in number)))
    ∙ ap (λ n. acknowledges n number) (same_front r.front low)
