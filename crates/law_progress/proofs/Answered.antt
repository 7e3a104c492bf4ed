-- A command that waits for its acknowledgement is acknowledged wherever it comes in time, as long as there is room.
use Rattle.std.proofs.Common.{◌≡◌, ℕ, ◌+◌, ◌%◌, ◌<◌, ◌≤◌, ◌&&◌, ◌||◌, not, eqb, leb, true, false, cond, List, [], ◌∷◌, length, map, refl, sym, ap, subst, ◌∙◌, inl, inr, ◌⊎◌, arith, Option, Some, None}
use Rattle.std.proofs.lemmas.Bool.Decides.{nat_tests}
use Rattle.std.specs.Option.{is_none, option_map}
use Rattle.std.specs.FinMap.{get}
use Rattle.enet_seq.specs.Windows.{acknowledges}
use Rattle.enet_seq.proofs.WindowsLemmas.{near_is_inside, inside_is_acknowledged, late_is_acknowledged, ahead_true, ahead_behind}
use Rattle.enet_seq.specs.Numbering.{wire, unbounded}
use Rattle.enet_fragment.specs.Cutting.{piece_length}
use Rattle.enet_fragment.specs.Place.{is_sound, told_piece_len}
use Rattle.enet_fragment.specs.declared.place.Place.{Place}
use Rattle.enet_fragment.specs.PartialPacket.{PartialPacket, count_of, belongs, is_same_cut}
use Rattle.enet_fragment.specs.declared.data.DataCommand.{DataCommand}
use Rattle.enet_fragment.specs.DataCommand.{piece_of, place_in_packet}
use Rattle.enet_packets.specs.declared.incoming_packet.IncomingPacket.{IncomingPacket}
use Rattle.enet_packets.specs.Packets.{line_at}
use Rattle.enet_receiver.specs.declared.took.Took.TheVariants.{Held, Again, Bad, Waiting}
use Rattle.enet_receiver.specs.DataOutcome.{is_piece, agrees_with, came, came_at, came_before, is_behind, is_piece_of_its_packet, outcome, outcome_at, place_read, is_handled, acknowledged}
use Rattle.enet_receiver.specs.Receiver.{Receiver}
use Rattle.enet_sender.specs.CommandChoice.{Packet, ChosenPacket, carried_from, goes_reliable, is_long}
use Rattle.enet_sender.specs.Sender.{fragment_at}
use Rattle.enet_sender.specs.declared.sent.Sent.{Sent}
use Rattle.law_connection.specs.Link.{PutOut, is_late, wired, wired_fragment}
use Rattle.law_connection.specs.LinkSteps.{Has}
use Rattle.law_connection.specs.Meant.{Matches}
use Rattle.law_connection.specs.WireLink.{WireLink}
use Rattle.law_connection.proofs.CarriageLemmas.{IsCut, Stands, Stands-has}
use Rattle.law_connection.proofs.Compared.{compared_as_meant}
use Rattle.law_connection.proofs.ContentLemmas.{Ready}
use Rattle.law_connection.proofs.LinkLemmas.{order, in_time}
use Rattle.law_connection.proofs.PieceLemmas.{IsPieceOf, says, tells, same_reliable}
use Rattle.law_connection.proofs.Shown.{Images, Sound}
use Rattle.law_connection.proofs.WireReceiver.{Shows-acknowledged}
use Rattle.law_progress.specs.Links.{Waits, AreShort}

pub is-eqb : (m n : ℕ) → m ≡ n → eqb m n ≡ true
is-eqb m n t = grind (arith, nat_tests)

pub le-leb : (m n : ℕ) → m ≤ n → leb m n ≡ true
le-leb m n t = grind (arith, nat_tests)

-- each packet that is carried was submitted
pub packet-short : (mtu count most : ℕ) (ps : List Packet) (c : ChosenPacket) → AreShort most ps → Has (carried_from mtu count ps) c → length c.packet.body ≤ most
packet-short mtu count most [] c s h = absurd h
packet-short mtu count most (p ∷ ps) c s (inl e) = subst (λ (x : ChosenPacket). length x.packet.body ≤ most) e (s p (inl refl))
packet-short mtu count most (p ∷ ps) c s (inr h) = packet-short mtu (cond (goes_reliable mtu count p) 0 (count + 1)) most ps c (λ q k. s q (inr k)) h

-- a reliable command that was meant can be a piece of its packet
is_piece-meant : (mtu most : ℕ) (cs : List ChosenPacket) (d : DataCommand) (p : IsPieceOf mtu cs d) → IsCut mtu p.packet → length p.packet.packet.body ≤ most → d.reliable ≡ true → is_piece most (wired d) ≡ true
is_piece-meant mtu most cs d p cut short rel =
    let sd = says mtu cs d p in
    let t = tells mtu cs d p cut in
    let cr : p.packet.reliable ≡ true = sym sd.reliable ∙ rel in
    let own : d.number ≡ p.number + (p.index + 1) = sd.own ∙ ap (λ b. cond b (p.number + (p.index + 1)) p.number) cr in
    let total = t.total in
    let start = sd.start cr in
    let index = sd.index_is in
    let a = t.sound in
    let b : leb (piece_of (wired d)).total most ≡ true = le-leb _ most (omega arith) in
    let c : eqb (d.number % 65536) (((piece_of (wired d)).start + (piece_of (wired d)).number) % 65536) ≡ true = is-eqb _ _ (omega arith) in
    (λ i. a i && b i && (not (rel i) || c i))

-- only a piece of a long packet tells of others
pub long-fragment : (mtu : ℕ) (cs : List ChosenPacket) (d : DataCommand) (p : IsPieceOf mtu cs d) → is_none (wired d).fragment ≡ false → is_long mtu p.packet.packet ≡ true
long-fragment mtu cs d p h =
    elim (is_long mtu p.packet.packet) as (λ b. is_none (option_map (wired_fragment p.packet.reliable) (cond b (Some (fragment_at (piece_length mtu) p.packet (cond p.packet.reliable (p.number + 1) (p.count + 1)) p.index)) None)) ≡ false → b ≡ true) [
      | true ↦ λ e. refl
      | false ↦ λ e. absurd (cc)
    ] (subst (λ (x : DataCommand). is_none (wired x).fragment ≡ false) p.command h)

pub belongs-by : (m : PartialPacket) (p : Place) → is_sound p ≡ true → p.count ≡ count_of m → p.total ≡ m.total → is_same_cut m.cut (told_piece_len p) ≡ true → belongs m p ≡ true
unfolding belongs
belongs-by m p a c t k =
    let x : eqb p.count (count_of m) ≡ true = is-eqb _ _ c in
    let y : eqb p.total m.total ≡ true = is-eqb _ _ t in
    (λ i. a i && (x i && y i) && k i)

pub same-cut : (o : Option ℕ) (told size : ℕ) → ((n : ℕ) → o ≡ Some n → n ≡ size) → told ≡ size → is_same_cut o told ≡ true
same-cut None told size h e = refl
same-cut (Some n) told size h e = is-eqb n told (h n refl ∙ sym e)

-- it agrees with what came, if that is of its packet
pub agrees-came : (mtu : ℕ) (cs : List ChosenPacket) (r : Receiver) (d : DataCommand) (p : IsPieceOf mtu cs d) → Ready mtu cs r → (o : Option IncomingPacket)
    → ((e : IncomingPacket) → o ≡ Some e → Matches mtu e.making p.packet) → agrees_with o (wired d) ≡ true
agrees-came mtu cs r d p k None of_packet = refl
agrees-came mtu cs r d p k (Some e) of_packet = elim (is_none (wired d).fragment) as (λ b. is_none (wired d).fragment ≡ b → (b || belongs e.making (place_in_packet (wired d))) ≡ true) [
  | true ↦ λ f. refl
  | false ↦ λ f.
      let long = long-fragment mtu cs d p f in
      let cut = k.cut p.packet (Stands-has cs p.number p.count p.packet p.stands) in
      let sd = says mtu cs d p in
      let tell = tells mtu cs d p cut in
      let m = of_packet e refl in
      belongs-by e.making (place_in_packet (wired d)) tell.sound (sd.pieces ∙ sym m.count) (tell.total ∙ sym m.total)
      (same-cut e.making.cut (told_piece_len (place_in_packet (wired d))) (piece_length mtu) (m.cut long) (tell.cut long))
] refl

-- it agrees with what came of its packet
agrees-meant : (mtu : ℕ) (cs : List ChosenPacket) (r : Receiver) (d : DataCommand) (p : IsPieceOf mtu cs d) → Ready mtu cs r → d.reliable ≡ true
    → (came_before unbounded r (wired d) ≡ None) ⊎ (came_before unbounded r (wired d) ≡ came_at r (wired d) (cond p.packet.reliable (p.number + 1) p.number)) → agrees_with (came_before unbounded r (wired d)) (wired d) ≡ true
agrees-meant mtu cs r d p k rel (inl none) = ap (λ o. agrees_with o (wired d)) none
agrees-meant mtu cs r d p k rel (inr same) = ap (λ o. agrees_with o (wired d)) (same ∙ place) ∙ agrees-came mtu cs r d p k (get r.held (p.number + 1)) of_packet
  where
    cr : p.packet.reliable ≡ true
    cr = let sd = says mtu cs d p in sym sd.reliable ∙ rel

    place : came_at r (wired d) (cond p.packet.reliable (p.number + 1) p.number) ≡ get r.held (p.number + 1)
    place = ap (λ b. came_at r (wired d) (cond b (p.number + 1) p.number)) cr
        ∙ ap (λ b. cond b (get r.held (p.number + 1)) (get (line_at r.waiting (p.number + 1)) d.unreliable)) rel

    of_packet : (e : IncomingPacket) → get r.held (p.number + 1) ≡ Some e → Matches mtu e.making p.packet
    of_packet e t =
        let q = k.held (p.number + 1) e t in
        let qp = q.place in
        let n : q.number ≡ p.number = omega arith in
        let qcut = k.cut q.packet (Stands-has cs q.number q.count q.packet q.stands) in
        let cut = k.cut p.packet (Stands-has cs p.number p.count p.packet p.stands) in
        let one : q.packet ≡ p.packet = same_reliable cs p.number q.count p.count q.packet p.packet (subst (λ z. Stands cs z q.count q.packet) n q.stands) p.stands q.reliable cr qcut.some' cut.some' in
        subst (λ y. Matches mtu e.making y) one q.matches

-- so it is handled where there is room
pub handled-at : (r : Receiver) (c : DataCommand) (o : Option ℕ) → is_handled (outcome_at r c false o) ≡ true
handled-at r c None = refl
handled-at r c (Some n) = elim (is_behind r c n || came (came_at r c n) c) as (λ b. is_handled (cond b Again (cond (false && is_none (came_at r c n)) Waiting Held)) ≡ true) [ true ↦ refl | false ↦ refl ]

pub handled-meant : (mtu most : ℕ) (cs : List ChosenPacket) (r : Receiver) (d : DataCommand) (p : IsPieceOf mtu cs d) → Ready mtu cs r → d.reliable ≡ true → length p.packet.packet.body ≤ most
    → (came_before unbounded r (wired d) ≡ None) ⊎ (came_before unbounded r (wired d) ≡ came_at r (wired d) (cond p.packet.reliable (p.number + 1) p.number))
    → is_handled (outcome unbounded most r (wired d) false) ≡ true
handled-meant mtu most cs r d p k rel short compared =
    let cut = k.cut p.packet (Stands-has cs p.number p.count p.packet p.stands) in
    let piece = is_piece-meant mtu most cs d p cut short rel in
    let agrees = agrees-meant mtu cs r d p k rel compared in
    let fits : is_piece_of_its_packet unbounded most r (wired d) ≡ true = (λ i. piece i && agrees i) in
    ap (λ b. is_handled (cond b (outcome_at r (wired d) false (place_read unbounded r (wired d))) Bad)) fits ∙ handled-at r (wired d) (place_read unbounded r (wired d))

-- and its window lets it be acknowledged
ack-near : (front n sent : ℕ) → n ≤ sent → sent < n + 8192 → front ≤ sent → sent ≤ front + 24575 → acknowledges (front % 65536) (n % 65536) ≡ true
ack-near front n sent high span low near = elim (order front n) [
  | inl up ↦
      let a = ahead_true front n up (omega arith) in
      let inside = near_is_inside (front % 65536) (n % 65536) (omega arith) (omega arith) (omega arith) in
      inside_is_acknowledged (front % 65536) (n % 65536) (omega arith) (omega arith) inside
  | inr behind ↦
      let a = ahead_behind front n behind (omega arith) in
      late_is_acknowledged (front % 65536) (n % 65536) (omega arith) (omega arith) (omega arith)
]

-- the numbers of what is sent, on the wire
pub numbers-sent : (mtu : ℕ) (cs : List ChosenPacket) (ns : List ℕ) (sent : List Sent) → Images mtu cs ns sent → map (λ (p : Sent). p.command.number) sent ≡ map (λ n. n % 65536) ns
numbers-sent mtu cs [] [] h = refl
numbers-sent mtu cs [] (p ∷ sent) h = absurd h
numbers-sent mtu cs (n ∷ ns) [] h = absurd h
numbers-sent mtu cs (n ∷ ns) (p ∷ sent) h =
    let im = h.0 in
    let number : p.command.number ≡ n % 65536 = ap (λ (x : DataCommand). x.number) im.command ∙ ap (λ x. x % 65536) im.number in
    (λ j. number j ∷ numbers-sent mtu cs ns sent h.1 j)

pub Has-mapped : (ns : List ℕ) (w : ℕ) → Has (map (λ n. n % 65536) ns) w → (n : ℕ) × Has ns n × (n % 65536 ≡ w)
Has-mapped [] w h = absurd h
Has-mapped (n ∷ ns) w (inl e) = (n, inl refl, e)
Has-mapped (n ∷ ns) w (inr h) = let k = Has-mapped ns w h in (k.0, inr k.1, k.2)

same-residue : (sent m n : ℕ) → m ≤ sent → sent < m + 8192 → n ≤ sent → sent ≤ n + 32768 → m % 65536 ≡ n % 65536 → m ≡ n
same-residue sent m n a b c d e = omega arith

pub answered : (mtu most : ℕ) (v : WireLink) → Sound mtu v → v.is_sending ≡ true → v.is_open ≡ true → AreShort most v.submitted → (e : PutOut) → Waits v e → acknowledged wire most v.incoming e.command false ≡ true
answered mtu most v s sending up short e w =
    let l = s.link in
    let h = s.shows in
    let g = s.numbers in
    let o : l.is_open ≡ true = sym h.is_open ∙ up in
    let k = h.commands e w.logged in
    let d = k.meant in
    let f : PutOut = record { command = d; sent_then = e.sent_then } in
    let piece = h.pieces f k.there in
    let out = g.commands f k.there in
    let out1 = out.number in let out2 = out.sent_then in let out3 = out.span in
    let late : is_late l.sent e.sent_then (d.number % 65536) ≡ false = ap (λ z. is_late z e.sent_then (d.number % 65536)) (sym h.greatest) ∙ ap (λ (x : DataCommand). is_late v.greatest e.sent_then x.number) (sym k.command) ∙ w.in_time in
    let low = in_time l.sent d.number e.sent_then out.number (omega arith) late in
    let rel : d.reliable ≡ true = ap (λ (x : DataCommand). x.reliable) (sym k.command) ∙ w.reliable in
    let u = Has-mapped l.unacked e.command.number (subst (λ ns. Has ns e.command.number) (numbers-sent mtu l.carried l.unacked v.outgoing.sent (h.images sending)) w.waits) in
    let nm = g.unacked u.0 u.1 in
    let nm1 = nm.1 in let nm2 = nm.2 in
    let number : u.0 % 65536 ≡ d.number % 65536 = u.2 ∙ ap (λ (x : DataCommand). x.number) k.command in
    let same : u.0 ≡ d.number = same-residue l.sent u.0 d.number nm.1 nm.2 (omega arith) low number in
    let within = g.within o in
    let front = within.front in
    let near = g.span o in
    let ack : acknowledges (l.receiver.front % 65536) (d.number % 65536) ≡ true = ack-near l.receiver.front d.number l.sent (omega arith) (omega arith) front near in
    let compared = compared_as_meant mtu l.carried l.sent l.receiver d piece s.ready within (omega arith) near low in
    let size : length piece.packet.packet.body ≤ most = packet-short mtu 0 most v.submitted piece.packet short (subst (λ cs. Has cs piece.packet) h.carried (Stands-has l.carried piece.number piece.count piece.packet piece.stands)) in
    let handled = handled-meant mtu most l.carried l.receiver d piece s.ready rel size compared in
    let here : acknowledged unbounded most l.receiver (wired d) false ≡ true = (λ i. handled i && ack i) in
    ap (λ x. acknowledged wire most v.incoming x false) k.command
    ∙ Shows-acknowledged most v.incoming l.receiver (wired d) false (omega arith) (start mtu l.carried d piece) (h.incoming o)
    ∙ here
  where
    start : (mtu : ℕ) (cs : List ChosenPacket) (d : DataCommand) → IsPieceOf mtu cs d → (wired d).reliable ≡ true → (piece_of (wired d)).start < 65536
    start mtu cs d p t =
        let sd = says mtu cs d p in
        let e = sd.start (sym sd.reliable ∙ t) in
        omega arith
