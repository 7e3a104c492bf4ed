-- The packets of a channel, among all.
use Rattle.std.proofs.Common.{◌≡◌, ◌≤◌, ℕ, zero, suc, inl, inr, ◌&&◌, ◌==◌, not, Bool, true, false, cond, List, [], ◌∷◌, length, refl, sym, ap, ◌∙◌, arith}
use Rattle.std.proofs.lemmas.Bool.Decides.{nat_tests}
use Rattle.enet_codec.specs.declared.packet.Packet.{Packet}
use Rattle.enet_sender.specs.CommandChoice as command_choice
use Rattle.enet_outbox.specs.Outbox.{is_unsequenced}
use Rattle.enet_packets.specs.declared.incoming_packet.Dispatched.{Dispatched}
use Rattle.law_connection.specs.LinkSteps.{Has}
use Rattle.law_connection.specs.Connection.{of_channel, in_sequence}
use Rattle.law_network.specs.Headline.{AreOn}
use Rattle.law_network.specs.Log.{ChannelPackets, no_packets, packets_at}
use Rattle.law_network.specs.Shown.{on_channel}

pub on-them : (channel : ℕ) (qs : List Packet) → AreOn channel (on_channel channel qs)
on-them channel [] x h = absurd h
on-them channel (q ∷ qs) x h = by (q.channel == channel) refl (on-them channel qs x) h
  where
    by : (b : Bool) → (q.channel == channel) ≡ b → (Has (on_channel channel qs) x → x.channel ≡ channel) → Has (cond b (q ∷ on_channel channel qs) (on_channel channel qs)) x → x.channel ≡ channel
    by true e rest (inl same) = ap (λ (y : Packet). y.channel) (sym same) ∙ (let y : q.channel ≡ channel = grind (arith, nat_tests) in y)
    by true e rest (inr more) = rest more
    by false e rest more = rest more

pub same-going : (mtu channel : ℕ) (qs : List Packet) → of_channel mtu channel (on_channel channel qs) ≡ of_channel mtu channel qs
same-going mtu channel [] = refl
same-going mtu channel (q ∷ qs) = by (q.channel == channel) refl (same-going mtu channel qs)
  where
    content : command_choice.Packet
    content = record { flags = q.flags; body = q.body }

    in_turn : Bool
    in_turn = not (is_unsequenced mtu content)

    by : (b : Bool) → (q.channel == channel) ≡ b → of_channel mtu channel (on_channel channel qs) ≡ of_channel mtu channel qs
        → of_channel mtu channel (cond b (q ∷ on_channel channel qs) (on_channel channel qs)) ≡ cond (b && in_turn) (content ∷ of_channel mtu channel qs) (of_channel mtu channel qs)
    by true e rest = (λ i. cond (e i && in_turn) (content ∷ rest i) (rest i))
    by false e rest = rest

pub same-come : (channel : ℕ) (qs : List Packet) → in_sequence channel (on_channel channel qs) ≡ in_sequence channel qs
same-come channel [] = refl
same-come channel (q ∷ qs) = by (q.channel == channel) refl (same-come channel qs)
  where
    content : Dispatched
    content = record { flags = q.flags; body = q.body }

    by : (b : Bool) → (q.channel == channel) ≡ b → in_sequence channel (on_channel channel qs) ≡ in_sequence channel qs
        → in_sequence channel (cond b (q ∷ on_channel channel qs) (on_channel channel qs)) ≡ cond (b && not (q.flags == 2)) (content ∷ in_sequence channel qs) (in_sequence channel qs)
    by true e rest = (λ i. cond (e i && not (q.flags == 2)) (content ∷ rest i) (rest i))
    by false e rest = rest

-- nothing is kept of other channels
pub kept-outside : (xs : List ChannelPackets) (i : ℕ) → length xs ≤ i → packets_at xs i ≡ no_packets
kept-outside [] i h = refl
kept-outside (x ∷ xs) zero h = absurd (omega arith)
kept-outside (x ∷ xs) (suc i) h = kept-outside xs i (omega arith)
