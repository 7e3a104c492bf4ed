-- The command at the front of bytes, by which a client may confirm its server's answer.
use Rattle.std.proofs.Common.{◌≡◌, ℕ, false, List, ◌++◌, length, take, drop, sym, subst, ◌∙◌}
use Rattle.std.proofs.lemmas.List.{take-append-drop}
use Rattle.enet_codec.specs.Message.{Message, Spells}
use Rattle.enet_peer.specs.Handling.{SpellsNone}
use Rattle.enet_peer.specs.Peering.{Peering}
use Rattle.enet_peer.specs.Refusing.{confirms}
use Rattle.enet_peer.specs.Private.Handling.{NoneConfirms}
use Rattle.enet_peer.proofs.Each.{split-once}

-- one by which it doesn't
pub none-confirms : (len : ℕ) (bytes : List ℕ) (m : Message) (p : Peering) → Spells (take len bytes) m → confirms p m ≡ false → NoneConfirms bytes p
none-confirms len bytes m p spelled not' = λ text rest n split spells.
    let one = split-once (take len bytes) (drop len bytes) text rest m n spelled spells (take-append-drop len bytes ∙ split) in
    subst (λ (k : Message). confirms p k ≡ false) one.0 not'

-- or none stands there
pub none-spelled : (bytes : List ℕ) (p : Peering) → SpellsNone bytes → NoneConfirms bytes p
none-spelled bytes p none = λ text rest n split spells. absurd (none n text rest split spells)
