-- With which pieces a command of the log is compared.
use Rattle.std.proofs.Common.{◌≡◌, ℕ, ◌+◌, ◌-◌, ◌%◌, ◌<◌, ◌≤◌, true, false, cond, List, refl, sym, ap, ◌∙◌, inl, inr, ◌⊎◌, arith, Option, Some, None}
use Rattle.std.specs.FinMap.{get}
use Rattle.enet_seq.specs.Windows.{in_window, ahead}
use Rattle.enet_seq.proofs.WindowsLemmas.{ahead_true, ahead_behind}
use Rattle.enet_seq.specs.Numbering.{unbounded, number_read, start_read}
use Rattle.enet_fragment.specs.declared.data.DataCommand.{DataCommand}
use Rattle.enet_fragment.specs.DataCommand.{piece_of}
use Rattle.enet_packets.specs.declared.incoming_packet.IncomingPacket.{IncomingPacket}
use Rattle.enet_packets.specs.Packets.{line_at}
use Rattle.enet_receiver.specs.DataOutcome.{place_read, came_at, came_if, came_before}
use Rattle.enet_receiver.specs.Receiver.{Receiver}
use Rattle.enet_receiver.proofs.Admission.{came_before-read}
use Rattle.enet_sender.specs.CommandChoice.{ChosenPacket}
use Rattle.law_connection.specs.Link.{wired}
use Rattle.law_connection.proofs.ArrivalLemmas.{less_or_not, start_reads, place_as_meant}
use Rattle.law_connection.proofs.CarriageLemmas.{IsCut, Stands-has}
use Rattle.law_connection.proofs.ContentLemmas.{Ready}
use Rattle.law_connection.proofs.PieceLemmas.{IsPieceOf, says}
use Rattle.law_connection.proofs.ReceiverLemmas.{Within}

-- where a number stands is read as this one, or past all that was sent
start_alone : (front start sent : ℕ) → start ≤ front → front ≤ sent → sent ≤ start + 49151
    → (front + ahead (front % 65536) (start % 65536) ≡ start) ⊎ (sent < front + ahead (front % 65536) (start % 65536))
start_alone front start sent low high late = elim (less_or_not start front) [
  | inl behind ↦ inr (let a : ahead (front % 65536) (start % 65536) ≡ start + 65536 - front = ahead_behind front start behind (omega arith) in omega arith)
  | inr same ↦ inl (let a : ahead (front % 65536) (start % 65536) ≡ start - front = ahead_true front start same (omega arith) in omega arith)
]

-- past that nothing is held
nothing_held_past : (mtu : ℕ) (cs : List ChosenPacket) (sent n : ℕ) (r : Receiver) → Ready mtu cs r → Within sent r → sent < n → get r.held n ≡ None
nothing_held_past mtu cs sent n r k s past = go (get r.held n) refl
  where
    go : (o : Option IncomingPacket) → get r.held n ≡ o → o ≡ None
    go None e = refl
    go (Some x) e =
        let begun = (k.held n x e).begun in
        let near : n + begun.0 ≤ sent = (s.held n x e).1 begun.0 begun.1 in
        absurd (omega arith)

-- a command is compared with what came of its packet, or with nothing: a late fragment, of which the start alone could pass for one
-- ahead, would be read past all that was sent
pub compared_as_meant : (mtu : ℕ) (cs : List ChosenPacket) (sent : ℕ) (r : Receiver) (d : DataCommand) (p : IsPieceOf mtu cs d) → Ready mtu cs r → Within sent r → d.number ≤ sent → sent ≤ r.front + 24575 → sent ≤ d.number + 32768
    → (came_before unbounded r (wired d) ≡ None) ⊎ (came_before unbounded r (wired d) ≡ came_at r (wired d) (cond p.packet.reliable (p.number + 1) p.number))
compared_as_meant mtu cs sent r d p k s high span late =
    elim (place_as_meant mtu cs sent r d p k s.front high span late) [
      | inr read ↦ inr (came_before-read unbounded r (wired d) (cond p.packet.reliable (p.number + 1) p.number) read)
      | inl none ↦ elim d.reliable as (λ b. d.reliable ≡ b → (came_before unbounded r (wired d) ≡ None) ⊎ (came_before unbounded r (wired d) ≡ came_at r (wired d) (cond p.packet.reliable (p.number + 1) p.number))) [
        | true ↦ λ rel. reliable rel none
        | false ↦ λ rel. inl (unreliable rel none)
      ] refl
    ]
  where
    unreliable : d.reliable ≡ false → place_read unbounded r (wired d) ≡ None → came_before unbounded r (wired d) ≡ None
    unreliable rel none =
        ap (λ b. came_if r (wired d) (number_read unbounded r.front (cond b (piece_of (wired d)).start (d.number % 65536)))) rel
        ∙ ap (came_if r (wired d)) (sym (ap (λ b. cond b (start_read unbounded r.front (piece_of (wired d)).start (d.number % 65536)) (number_read unbounded r.front (d.number % 65536))) rel) ∙ none)

    reliable : d.reliable ≡ true → place_read unbounded r (wired d) ≡ None
        → (came_before unbounded r (wired d) ≡ None) ⊎ (came_before unbounded r (wired d) ≡ came_at r (wired d) (cond p.packet.reliable (p.number + 1) p.number))
    reliable rel none =
        let sd = says mtu cs d p in
        let cr : p.packet.reliable ≡ true = sym sd.reliable ∙ rel in
        let own : d.number ≡ p.number + (p.index + 1) = sd.own ∙ ap (λ b. cond b (p.number + (p.index + 1)) p.number) cr in
        let cut : IsCut mtu p.packet = k.cut p.packet (Stands-has cs p.number p.count p.packet p.stands) in
        let few = cut.few in
        let inside = p.inside in
        let front_low = s.front in
        let start = p.number + 1 in
        let before : came_before unbounded r (wired d) ≡ came_if r (wired d) (number_read unbounded r.front (start % 65536)) =
        ap (λ b. came_if r (wired d) (number_read unbounded r.front (cond b (piece_of (wired d)).start (d.number % 65536)))) rel
        ∙ ap (λ n. came_if r (wired d) (number_read unbounded r.front n)) (sd.start cr) in
        elim (start_reads r.front start d.number sent (omega arith) (omega arith) high span front_low late) [
          | inl w ↦
              let place : place_read unbounded r (wired d) ≡ Some start =
              ap (λ b. cond b (start_read unbounded r.front (piece_of (wired d)).start (d.number % 65536)) (number_read unbounded r.front (d.number % 65536))) rel
              ∙ ap (λ n. start_read unbounded r.front n (d.number % 65536)) (sd.start cr) ∙ w.0 in
              inr (came_before-read unbounded r (wired d) start place ∙ ap (λ b. came_at r (wired d) (cond b start p.number)) (sym cr))
          | inr w ↦ elim (in_window (r.front % 65536) (start % 65536)) as (λ b. came_before unbounded r (wired d) ≡ came_if r (wired d) (cond b (Some (r.front + ahead (r.front % 65536) (start % 65536))) None)
              → (came_before unbounded r (wired d) ≡ None) ⊎ (came_before unbounded r (wired d) ≡ came_at r (wired d) (cond p.packet.reliable start p.number))) [
                | false ↦ λ e. inl e
                | true ↦ λ e. elim (start_alone r.front start sent w.1 front_low (omega arith)) [
                  | inl same ↦ inr (e ∙ ap (came_at r (wired d)) same ∙ ap (λ b. came_at r (wired d) (cond b start p.number)) (sym cr))
                  | inr past ↦ inl (e ∙ held_at (r.front + ahead (r.front % 65536) (start % 65536)) past)
                ]
              ] before
        ]
      where
        held_at : (n : ℕ) → sent < n → came_at r (wired d) n ≡ None
        held_at n past = ap (λ b. cond b (get r.held n) (get (line_at r.waiting n) d.unreliable)) rel ∙ nothing_held_past mtu cs sent n r k s past
