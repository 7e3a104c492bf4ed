-- The text of what came of a datagram.
use Rattle.std.proofs.Common.{◌≡◌, ◌++◌, ℕ, List, Some, sym, ap, ◌∙◌}
use Rattle.std.specs.Prelude.{codes}
use Rattle.std.specs.Fmt.{decimal}
use Rattle.std.proofs.lemmas.List.{append_assoc}
use Rattle.enet_codec.specs.declared.event.Received.{Received}
use Rattle.enet_codec.specs.declared.stop.Stop.{Stop}
use Rattle.enet_codec.specs.Stop.{stop_number}
use Rattle.enet_text.specs.Texts.{handled_text, received_text}

regroup : (a b c d : List ℕ) → a ++ b ++ c ++ d ≡ a ++ (b ++ (c ++ d))
regroup a b c d = simp append_assoc

pub received_text-stopped : (received : Received) (stop : Stop) (number : ℕ) → received.stop ≡ Some stop → number ≡ stop_number stop
    → codes "handled " ++ (decimal received.handled ++ (codes " stop S" ++ decimal number)) ≡ received_text received
received_text-stopped received stop number stopped is =
    ap (λ n. codes "handled " ++ (decimal received.handled ++ (codes " stop S" ++ decimal n))) is
    ∙ sym (ap (handled_text received.handled) stopped ∙ regroup (codes "handled ") (decimal received.handled) (codes " stop S") (decimal (stop_number stop)))
