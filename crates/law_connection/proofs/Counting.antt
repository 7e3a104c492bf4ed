-- The reliable commands of what was submitted are those that went and those that are queued.
use Rattle.std.proofs.Common.{◌≡◌, ℕ, ◌+◌, Bool, true, false, cond, List, [], ◌∷◌, map, refl, sym, ap, ◌∙◌, arith}
use Rattle.enet_seq.specs.Numbering.{unbounded}
use Rattle.enet_fragment.specs.declared.data.DataCommand.{DataCommand}
use Rattle.enet_sender.specs.CommandChoice.{ChosenPacket, carried}
use Rattle.enet_sender.specs.Sender.{commands_of}
use Rattle.law_connection.specs.Follows.{command_count}
use Rattle.law_connection.specs.Link.{wired}
use Rattle.law_connection.specs.WireLink.{WireLink}
use Rattle.law_connection.proofs.QueueLemmas.{reliable_count, reliable_count-append, reliable_count-range, all_from}
use Rattle.law_connection.proofs.Shown.{Sound}

-- on the wire a command is of the same kind
reliable_count-wired : (ds : List DataCommand) → reliable_count (map wired ds) ≡ reliable_count ds
reliable_count-wired [] = refl
reliable_count-wired (d ∷ ds) = ap (λ n. cond d.reliable (n + 1) n) (reliable_count-wired ds)

reliable_count-all : (mtu number count : ℕ) (cs : List ChosenPacket) → reliable_count (all_from mtu number count cs) ≡ command_count cs
reliable_count-all mtu number count [] = refl
reliable_count-all mtu number count (c ∷ cs) =
    let n : ℕ = cond c.reliable (number + c.pieces) number in
    let k : ℕ = cond c.reliable 0 (count + 1) in
    reliable_count-append (commands_of unbounded mtu number count c) (all_from mtu n k cs)
    ∙ (λ i. reliable_count-range mtu number count c 0 c.pieces i + reliable_count-all mtu n k cs i)
    ∙ sum c.reliable
  where
    sum : (r : Bool) → cond r c.pieces 0 + command_count cs ≡ cond r (command_count cs + c.pieces) (command_count cs)
    sum true = omega arith
    sum false = omega arith

pub counted : (mtu : ℕ) (v : WireLink) → Sound mtu v → v.is_sending ≡ true → command_count (carried mtu v.submitted) ≡ v.greatest + reliable_count v.outgoing.queued
counted mtu v s sending =
    let l = s.link in
    let h = s.shows in
    let q = h.queues sending in
    let all : command_count (carried mtu v.submitted) ≡ reliable_count q.gone + reliable_count q.left =
    ap command_count (sym h.carried) ∙ sym (reliable_count-all mtu 0 0 l.carried) ∙ ap reliable_count q.whole ∙ reliable_count-append q.gone q.left in
    let left : reliable_count v.outgoing.queued ≡ reliable_count q.left = ap reliable_count q.queued ∙ reliable_count-wired q.left in
    let gone : reliable_count q.gone ≡ v.greatest = q.count ∙ sym h.greatest in
    omega arith
