-- What a peer puts out: commands of channel 0xFF go on it alone.
use Rattle.std.proofs.Common.{◌≡◌, Bool, true, false, List, [], ◌∷◌, ◌++◌, refl, subst, inl, inr, Option, Some, None, ℕ}
use Rattle.enet_codec.specs.Message.{Message}
use Rattle.enet_codec.specs.declared.command.Fragment.{Fragment}
use Rattle.enet_senders.specs.Controlling as controlling
use Rattle.enet_fragment.specs.DataCommand.{message_of, wire_body}
use Rattle.enet_outbox.specs.declared.parts.Pace.{Pace}
use Rattle.enet_outbox.specs.Outbox.{Outbox}
use Rattle.enet_outbox.specs.Emission.{Filling, acknowledgement_of, unsequenced_of, filled}
use Rattle.law_connection.specs.LinkSteps.{Has}
use Rattle.law_connection.proofs.Lists.{Has-push_cases}
use Rattle.enet_outbox.proofs.Filled.{by-filling}
use Rattle.law_network.proofs.Counting.{is_control, IsPlain}

-- so far a datagram is plain
record ArePlain (f : Filling) : Type 0 where
  messages : (m : Message) → Has f.messages m → IsPlain m

more : (ms : List Message) (m : Message) → ((x : Message) → Has ms x → IsPlain x) → IsPlain m → (x : Message) → Has (ms ++ m ∷ []) x → IsPlain x
more ms m old new x h = elim (Has-push_cases ms m x h) [ inl k ↦ old x k | inr e ↦ subst (λ (y : Message). IsPlain y) e new ]

no-control : (r : Bool) (f : Option Fragment) (count : ℕ) (body : List ℕ) → is_control (wire_body r f count body) ≡ true → ⊥
no-control true None count body e = cc
no-control true (Some f) count body e = cc
no-control false None count body e = cc
no-control false (Some f) count body e = cc

pub plain-filled : (pace : Pace) (o : Outbox) (m : Message) → Has (filled pace o).messages m → IsPlain m
plain-filled pace o = let a = all in a.messages
  where
    all : ArePlain (filled pace o)
    all = by-filling pace o ArePlain (record {
      closes = λ f a. record { messages = a.messages };
      acknowledges = λ f x rest e a. record { messages = more f.messages (acknowledgement_of x) a.messages (λ t. absurd (let y : false ≡ true = t in cc)) };
      controls = λ f n e a. record { messages = more f.messages (controlling.message_of n.command) a.messages (λ t. refl) };
      puts_unsequenced = λ f u rest t e a. record { messages = more f.messages (unsequenced_of u) a.messages (λ t. absurd (let y : false ≡ true = t in cc)) };
      drops_unsequenced = λ f u rest t e a. record { messages = a.messages };
      puts_data = λ f k s n t there due a. record { messages = more f.messages (message_of s.channel n.command) a.messages (λ t. absurd (no-control n.command.reliable n.command.fragment n.command.unreliable n.command.body t)) };
      drops_data = λ f k s n t there due kind a. record { messages = a.messages };
      keeps_room = λ f i x there wants a. record { messages = a.messages };
      gives_room = λ f i x n there due a. record { messages = a.messages };
    }) (record { messages = λ m h. absurd h })
