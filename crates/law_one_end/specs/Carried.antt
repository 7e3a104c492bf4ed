-- Packets that were carried by the commands that came.
use Rattle.std.specs.Prelude.{◌≡◌, ℕ, ◌+◌, ◌%◌, ◌≤◌, ◌==◌, ◌⊎◌, if◌then◌else◌, Bool, true, false, List, [], ◌∷◌, length, Some, slice_get}
use Rattle.std.specs.List.{concat}
use Rattle.enet_fragment.specs.DataCommand.{piece_of}
use Rattle.enet_packets.specs.declared.incoming_packet.Dispatched.{Dispatched}
use Rattle.enet_receiver.specs.Members.{Has}
use Rattle.law_one_end.specs.OneEnd.{Heard}

-- where a packet stands on its channel: a reliable one by the number of its first command, an unreliable one by the reliable number after
-- which it goes and by its own number
pub record Place : Type 0 where
  pub reliable : Bool
  pub number : ℕ
  pub unreliable : ℕ

-- a command that came on a channel is the piece of this index of a packet of so many pieces that stands there, and has these bytes
pub record Brings (channel : ℕ) (at : Place) (count index : ℕ) (bytes : List ℕ) (h : Heard) : Type 0 where
  pub channel_is : h.channel ≡ channel
  pub kind : h.command.reliable ≡ at.reliable
  -- on the wire, reliable numbers are modulo 65,536
  pub number : h.command.number ≡ (if at.reliable then at.number + index else at.number) % 65536
  pub unreliable : at.reliable ≡ false → h.command.unreliable ≡ at.unreliable
  pub count_is : (piece_of h.command).count ≡ count
  pub index_is : (piece_of h.command).number ≡ index
  pub bytes_are : h.command.body ≡ bytes

-- each piece of a packet was brought by a command that came, and its bytes are those of the pieces, one after another
pub record IsCarried (came : List Heard) (channel : ℕ) (at : Place) (count : ℕ) (body : List ℕ) : Type 0 where
  pub pieces : List (List ℕ)
  pub many : length pieces ≡ count
  pub some_piece : 1 ≤ count
  pub brought : (index : ℕ) (bytes : List ℕ) → slice_get pieces index ≡ Some bytes → (h : Heard) × Has came h × Brings channel at count index bytes h
  pub whole : concat pieces ≡ body

abbrev pub reliable_at : ℕ → Place
reliable_at number = record { reliable = true; number = number; unreliable = 0 }

abbrev pub unreliable_at : ℕ → ℕ → Place
unreliable_at number unreliable = record { reliable = false; number = number; unreliable = unreliable }

-- these packets of a channel, one after another, once reliable commands up to the number `front` are behind: each is the reliable one of
-- the very next number, which takes as many numbers as it has pieces; or an unreliable one that goes after `front`, whose own number is
-- `least` or above and above those before it. A reliable packet has the flags 1, and no other
abbrev pub AreCarried : List Heard → ℕ → ℕ → ℕ → List Dispatched → Type 0
AreCarried came channel front least [] = Unit {0}
AreCarried came channel front least (d ∷ ds) =
    ((count : ℕ) × IsCarried came channel (reliable_at (front + 1)) count d.body × ((d.flags == 1) ≡ true) × AreCarried came channel (front + count) 0 ds)
    ⊎ ((own count : ℕ) × (least ≤ own) × IsCarried came channel (unreliable_at front own) count d.body × ((d.flags == 1) ≡ false) × AreCarried came channel front (own + 1) ds)
