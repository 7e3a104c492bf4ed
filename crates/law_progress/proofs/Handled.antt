-- A command that went, reliable or not, is handled wherever it comes in time, as long as there is room.
use Rattle.std.proofs.Common.{◌≡◌, ℕ, ◌+◌, ◌%◌, ◌<◌, ◌≤◌, ◌&&◌, ◌||◌, not, eqb, leb, Bool, true, false, cond, List, length, refl, sym, ap, subst, ◌∙◌, inl, inr, ◌⊎◌, arith, Some, None}
use Rattle.std.specs.FinMap.{get}
use Rattle.enet_seq.specs.Numbering.{wire, unbounded}
use Rattle.enet_fragment.specs.declared.data.DataCommand.{DataCommand}
use Rattle.enet_fragment.specs.DataCommand.{piece_of}
use Rattle.enet_packets.specs.declared.incoming_packet.IncomingPacket.{IncomingPacket}
use Rattle.enet_packets.specs.Packets.{line_at}
use Rattle.enet_receiver.specs.declared.took.Took.TheVariants.{Bad}
use Rattle.enet_receiver.specs.DataOutcome.{is_piece, agrees_with, came_at, came_before, is_piece_of_its_packet, outcome, outcome_at, place_read, is_handled}
use Rattle.enet_receiver.specs.Receiver.{Receiver}
use Rattle.enet_sender.specs.CommandChoice.{ChosenPacket}
use Rattle.law_connection.specs.Link.{PutOut, is_late, wired}
use Rattle.law_connection.specs.LinkSteps.{Has}
use Rattle.law_connection.specs.Meant.{Matches}
use Rattle.law_connection.specs.WireLink.{WireLink}
use Rattle.law_connection.proofs.CarriageLemmas.{IsCut, Stands, Stands-has}
use Rattle.law_connection.proofs.Compared.{compared_as_meant}
use Rattle.law_connection.proofs.ContentLemmas.{Ready}
use Rattle.law_connection.proofs.LinkLemmas.{in_time}
use Rattle.law_connection.proofs.PieceLemmas.{IsPieceOf, says, tells, same_unreliable}
use Rattle.law_connection.proofs.Shown.{Sound}
use Rattle.law_connection.proofs.WireReceiver.{Shows-received}
use Rattle.law_progress.specs.Links.{AreShort}
use Rattle.law_progress.proofs.Answered.{le-leb, packet-short, agrees-came, handled-at, handled-meant}

-- an unreliable command that was meant can be a piece of its packet
unreliable-piece : (mtu most : ℕ) (cs : List ChosenPacket) (d : DataCommand) (p : IsPieceOf mtu cs d) → IsCut mtu p.packet → length p.packet.packet.body ≤ most → d.reliable ≡ false → is_piece most (wired d) ≡ true
unreliable-piece mtu most cs d p cut short rel =
    let t = tells mtu cs d p cut in
    let total = t.total in
    let a = t.sound in
    let b : leb (piece_of (wired d)).total most ≡ true = le-leb _ most (omega arith) in
    (λ i. a i && b i && (not (rel i) || eqb (d.number % 65536) (((piece_of (wired d)).start + (piece_of (wired d)).number) % 65536)))

-- it agrees with what came of its packet
unreliable-agrees : (mtu : ℕ) (cs : List ChosenPacket) (r : Receiver) (d : DataCommand) (p : IsPieceOf mtu cs d) → Ready mtu cs r → d.reliable ≡ false
    → (came_before unbounded r (wired d) ≡ None) ⊎ (came_before unbounded r (wired d) ≡ came_at r (wired d) (cond p.packet.reliable (p.number + 1) p.number)) → agrees_with (came_before unbounded r (wired d)) (wired d) ≡ true
unreliable-agrees mtu cs r d p k rel (inl none) = ap (λ o. agrees_with o (wired d)) none
unreliable-agrees mtu cs r d p k rel (inr same) = ap (λ o. agrees_with o (wired d)) (same ∙ place) ∙ agrees-came mtu cs r d p k (get (line_at r.waiting p.number) d.unreliable) of_packet
  where
    cr : p.packet.reliable ≡ false
    cr = let sd = says mtu cs d p in sym sd.reliable ∙ rel

    count : d.unreliable ≡ p.count + 1
    count = let sd = says mtu cs d p in sd.unreliable ∙ ap (λ b. cond b 0 (p.count + 1)) cr

    place : came_at r (wired d) (cond p.packet.reliable (p.number + 1) p.number) ≡ get (line_at r.waiting p.number) d.unreliable
    place = ap (λ b. came_at r (wired d) (cond b (p.number + 1) p.number)) cr
        ∙ ap (λ b. cond b (get r.held p.number) (get (line_at r.waiting p.number) d.unreliable)) rel

    of_packet : (e : IncomingPacket) → get (line_at r.waiting p.number) d.unreliable ≡ Some e → Matches mtu e.making p.packet
    of_packet e t =
        let q = k.waiting p.number d.unreliable e t in
        let qp = q.place in
        let c = count in
        let z : q.count ≡ p.count = omega arith in
        let one : q.packet ≡ p.packet = same_unreliable mtu cs p.number p.count q.packet p.packet k.cut (subst (λ y. Stands cs p.number y q.packet) z q.stands) p.stands q.reliable cr in
        subst (λ y. Matches mtu e.making y) one q.matches

-- so it is handled where there is room
any-handled : (mtu most : ℕ) (cs : List ChosenPacket) (r : Receiver) (d : DataCommand) (p : IsPieceOf mtu cs d) → Ready mtu cs r → length p.packet.packet.body ≤ most
    → (came_before unbounded r (wired d) ≡ None) ⊎ (came_before unbounded r (wired d) ≡ came_at r (wired d) (cond p.packet.reliable (p.number + 1) p.number))
    → is_handled (outcome unbounded most r (wired d) false) ≡ true
any-handled mtu most cs r d p k short compared = by d.reliable refl
  where
    by : (b : Bool) → d.reliable ≡ b → is_handled (outcome unbounded most r (wired d) false) ≡ true
    by true rel = handled-meant mtu most cs r d p k rel short compared
    by false rel =
        let cut = k.cut p.packet (Stands-has cs p.number p.count p.packet p.stands) in
        let piece = unreliable-piece mtu most cs d p cut short rel in
        let agrees = unreliable-agrees mtu cs r d p k rel compared in
        let fits : is_piece_of_its_packet unbounded most r (wired d) ≡ true = (λ i. piece i && agrees i) in
        ap (λ b. is_handled (cond b (outcome_at r (wired d) false (place_read unbounded r (wired d))) Bad)) fits ∙ handled-at r (wired d) (place_read unbounded r (wired d))

pub handled : (mtu most : ℕ) (v : WireLink) → Sound mtu v → v.is_open ≡ true → AreShort most v.submitted → (e : PutOut) → Has v.commands e → is_late v.greatest e.sent_then e.command.number ≡ false
    → is_handled (outcome wire most v.incoming e.command false) ≡ true
handled mtu most v s up short e logged not_late =
    let l = s.link in
    let h = s.shows in
    let g = s.numbers in
    let o : l.is_open ≡ true = sym h.is_open ∙ up in
    let k = h.commands e logged in
    let d = k.meant in
    let f : PutOut = record { command = d; sent_then = e.sent_then } in
    let piece = h.pieces f k.there in
    let out = g.commands f k.there in
    let out1 = out.number in let out2 = out.sent_then in let out3 = out.span in
    let late : is_late l.sent e.sent_then (d.number % 65536) ≡ false = ap (λ z. is_late z e.sent_then (d.number % 65536)) (sym h.greatest) ∙ ap (λ (x : DataCommand). is_late v.greatest e.sent_then x.number) (sym k.command) ∙ not_late in
    let low = in_time l.sent d.number e.sent_then out.number (omega arith) late in
    let within = g.within o in
    let near = g.span o in
    let compared = compared_as_meant mtu l.carried l.sent l.receiver d piece s.ready within (omega arith) near low in
    let size : length piece.packet.packet.body ≤ most = packet-short mtu 0 most v.submitted piece.packet short (subst (λ cs. Has cs piece.packet) h.carried (Stands-has l.carried piece.number piece.count piece.packet piece.stands)) in
    let here = any-handled mtu most l.carried l.receiver d piece s.ready size compared in
    ap (λ x. is_handled (outcome wire most v.incoming x false)) k.command
    ∙ ap is_handled (Shows-received most v.incoming l.receiver (wired d) false (omega arith) (start mtu l.carried d piece) (h.incoming o)).0
    ∙ here
  where
    start : (mtu : ℕ) (cs : List ChosenPacket) (d : DataCommand) → IsPieceOf mtu cs d → (wired d).reliable ≡ true → (piece_of (wired d)).start < 65536
    start mtu cs d p t =
        let sd = says mtu cs d p in
        let e = sd.start (sym sd.reliable ∙ t) in
        omega arith
