-- What a sender puts on the wire is read as itself.
use Rattle.std.proofs.Common.{◌≡◌, ℕ, ◌+◌, ◌%◌, Bool, true, false, cond, List, [], ◌∷◌, map, refl, sym, subst, inl, inr, Some, None}
use Rattle.std.specs.Option.{option_map}
use Rattle.std.specs.List.{range_with_len}
use Rattle.enet_seq.specs.Numbering.{unbounded}
use Rattle.enet_fragment.specs.Cutting.{piece_length}
use Rattle.enet_fragment.specs.DataCommand.{data_of, message_of}
use Rattle.enet_fragment.specs.declared.data.DataCommand.{DataCommand}
use Rattle.enet_sender.specs.CommandChoice.{ChosenPacket, is_long}
use Rattle.enet_sender.specs.Sender.{command_at, commands_of, fragment_at, piece_of_body}
use Rattle.law_connection.specs.Link.{wired, wired_fragment}
use Rattle.law_connection.specs.Meant.{IsPieceOf, IsReadAsItself}
use Rattle.law_connection.proofs.Lists.{Has}

-- command i of a packet on the wire, reliable or not, long or not
abbrev on_wire : ℕ → ℕ → ℕ → ChosenPacket → ℕ → Bool → Bool → DataCommand
on_wire mtu number count c i r l = record {
  reliable = r;
  number = cond r (number + (i + 1)) number % 65536;
  unreliable = cond r 0 (count + 1);
  fragment = option_map (wired_fragment r) (cond l (Some (fragment_at (piece_length mtu) c (cond r (number + 1) (count + 1)) i)) None);
  body = piece_of_body (piece_length mtu) c.packet.body i;
}

reads-command : (mtu number count : ℕ) (c : ChosenPacket) (i : ℕ) → IsReadAsItself (wired (command_at unbounded mtu (record { number = number; unreliable = count }) c i))
reads-command mtu number count c i channel = go c.reliable (is_long mtu c.packet)
  where
    go : (r l : Bool) → data_of (message_of channel (on_wire mtu number count c i r l)) ≡ Some (on_wire mtu number count c i r l)
    go true true = refl
    go true false = refl
    go false true = refl
    go false false = refl

-- each command of a packet
pub reads-commands : (mtu number count : ℕ) (c : ChosenPacket) (d : DataCommand) → Has (commands_of unbounded mtu number count c) d → IsReadAsItself (wired d)
reads-commands mtu number count c d h = go (range_with_len 0 c.pieces) h
  where
    go : (is : List ℕ) → Has (map (command_at unbounded mtu (record { number = number; unreliable = count }) c) is) d → IsReadAsItself (wired d)
    go [] h = absurd h
    go (i ∷ is) (inl e) = subst (λ (x : DataCommand). IsReadAsItself (wired x)) e (reads-command mtu number count c i)
    go (i ∷ is) (inr h) = go is h

pub reads-piece : (mtu : ℕ) (cs : List ChosenPacket) (d : DataCommand) → IsPieceOf mtu cs d → IsReadAsItself (wired d)
reads-piece mtu cs d p = subst (λ (x : DataCommand). IsReadAsItself (wired x)) (sym p.command) (reads-command mtu p.number p.count p.packet p.index)
