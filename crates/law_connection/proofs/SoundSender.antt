-- What the sending end of a link does keeps what holds of it.
use Rattle.std.proofs.Common.{◌≡◌, ℕ, ◌+◌, ◌-◌, ◌*◌, ◌/◌, ◌%◌, ◌<◌, ◌≤◌, Bool, true, false, not, cond, ◌==◌, ◌||◌, if◌then◌else◌, List, [], ◌∷◌, ◌++◌, length, map, refl, sym, ap, subst, ◌∙◌, inl, inr, ◌⊎◌, arith, Option, Some, None, zero, suc, append_assoc, div-mul-le_self}
use Rattle.std.proofs.lemmas.Bool.Decides.{nat_tests}
use Rattle.std.proofs.lemmas.List.{append-nil, map-append}
use Rattle.std.proofs.lemmas.Nat.{div_below}
use Rattle.std.specs.Prelude.{nat_lt, ◌&&◌, slice_get, slice_set}
use Rattle.std.specs.List.{position}
use Rattle.enet_seq.specs.Windows.{ahead}
use Rattle.enet_seq.proofs.WindowsLemmas.{ahead_true}
use Rattle.enet_seq.specs.Numbering.{wire, unbounded}
use Rattle.enet_rtt.specs.declared.transmission.Tick.{Tick}
use Rattle.enet_fragment.specs.Cutting.{piece_length, piece_count}
use Rattle.enet_fragment.proofs.Cuts.{piece_count-enough}
use Rattle.enet_fragment.specs.declared.data.DataCommand.{DataCommand}
use Rattle.enet_receiver.specs.Receiver.{Receiver}
use Rattle.enet_sender.specs.CommandChoice.{Packet, ChosenPacket, carried, carried_from, carried_as, goes_reliable}
use Rattle.enet_sender.specs.declared.outgoing.Occasion.{Occasion}
use Rattle.enet_sender.specs.Sender.{Sender, Next, commands_of, with_queued, again, begun, is_in_span, has_room, may_begin, may_go, resent, first_sent, next_queued, next_resent, next_of, next, is_more, skipped, with_skipped, marked}
use Rattle.enet_sender.specs.declared.sent.Sent.{Sent}
use Rattle.law_connection.specs.Follows.{command_count, count_after}
use Rattle.law_connection.specs.Link.{wired}
use Rattle.law_connection.specs.Private.Link.{Link, accept, send}
use Rattle.law_connection.specs.Greatest.{greatest_after}
use Rattle.law_connection.specs.WireLink.{WireLink, submits, sends, drops, marks}
use Rattle.law_connection.proofs.Lists.{Has, Has-push_cases, Has-push_left, Has-push, Has-slice_get}
use Rattle.law_connection.proofs.CarriageLemmas.{IsCut, Stands, command_count-append, count_after-append}
use Rattle.law_connection.proofs.ContentLemmas.{Ready}
use Rattle.law_connection.proofs.PieceLemmas.{IsPlain, IsPieceOf, IsPieceOf-more}
use Rattle.law_connection.proofs.LinkLemmas.{either, Numbers-accept, Numbers-send}
use Rattle.law_connection.proofs.QueueLemmas.{reliable_count, reliable_count-append, all_from, all-append, wired-commands, next_command}
use Rattle.law_connection.proofs.Rising.{IsRising-push}
use Rattle.law_connection.proofs.Shown.{Queues, ImageOf, Images, IsRising, Pending, Sound}

-- how a packet is cut

some_piece : (len mtu : ℕ) → 0 < piece_count len mtu
unfolding piece_count
some_piece len mtu = elim (len == 0) as (λ b. 0 < cond b 1 ((len - 1) / piece_length mtu + 1)) [ true ↦ omega arith | false ↦ omega arith ]

one_piece : (len mtu : ℕ) → nat_lt (piece_length mtu) len ≡ false → piece_count len mtu ≡ 1
unfolding piece_count
one_piece len mtu short =
    elim (len == 0) as (λ b. (len == 0) ≡ b → cond b 1 ((len - 1) / piece_length mtu + 1) ≡ 1) [
      | true ↦ λ e. refl
      | false ↦ λ e. fits (piece_length mtu) short (some_byte len e)
    ] refl
  where
    some_byte : (n : ℕ) → (n == 0) ≡ false → 0 < n
    some_byte n e = grind (arith, nat_tests)

    fits : (size : ℕ) → nat_lt size len ≡ false → 0 < len → (len - 1) / size + 1 ≡ 1
    fits size e some' =
        let low : len ≤ size = below size len e in
        let none : (len - 1) / size < 1 = div_below (len - 1) size 1 (omega arith) (omega arith) in
        omega arith
      where
        below : (m n : ℕ) → nat_lt m n ≡ false → n ≤ m
        below m n t = grind (arith, nat_tests)

-- fewer pieces of this length don't cover so many bytes
no_fewer : (len mtu : ℕ) → (piece_count len mtu - 1) * piece_length mtu ≤ len
unfolding piece_count
no_fewer len mtu =
    elim (len == 0) as (λ b. (cond b 1 ((len - 1) / piece_length mtu + 1) - 1) * piece_length mtu ≤ len) [
      | true ↦ omega arith
      | false ↦ (let down : (len - 1) / piece_length mtu * piece_length mtu ≤ len - 1 = div-mul-le_self (len - 1) (piece_length mtu) in
          let same : (len - 1) / piece_length mtu + 1 - 1 ≡ (len - 1) / piece_length mtu = omega arith in
          let e : ((len - 1) / piece_length mtu + 1 - 1) * piece_length mtu ≡ (len - 1) / piece_length mtu * piece_length mtu = ap (λ n. n * piece_length mtu) same in
          omega arith)
    ]

IsCut-carried : (mtu count : ℕ) (p : Packet) → 28 < mtu → (carried_as mtu count p).pieces ≤ 16384 → IsCut mtu (carried_as mtu count p)
IsCut-carried mtu count p big few = record { some' = some_piece (length p.body) mtu; few = few; covered = piece_count-enough (length p.body) mtu big; tight = no_fewer (length p.body) mtu }

pub IsPlain-carried : (mtu count : ℕ) (p : Packet) → IsPlain mtu (carried_as mtu count p)
IsPlain-carried mtu count p short = one_piece (length p.body) mtu short

pub carried-push : (mtu count : ℕ) (ps : List Packet) (p : Packet) → carried_from mtu count (ps ++ p ∷ []) ≡ carried_from mtu count ps ++ carried_as mtu (count_after count (carried_from mtu count ps)) p ∷ []
carried-push mtu count [] p = refl
carried-push mtu count (x ∷ ps) p = ap (λ (l : List ChosenPacket). carried_as mtu count x ∷ l) (carried-push mtu (cond (goes_reliable mtu count x) 0 (count + 1)) ps p)

-- a packet is submitted

Queues-submit : (mtu : ℕ) (cs : List ChosenPacket) (sent : ℕ) (o : Sender) (c : ChosenPacket) → Queues mtu cs sent o → Queues mtu (cs ++ c ∷ []) sent (with_queued wire mtu o c)
Queues-submit mtu cs sent o c q =
    let new : List DataCommand = commands_of unbounded mtu (command_count cs) (count_after 0 cs) c in
    let on : commands_of wire mtu o.number o.unreliable c ≡ map wired new = (λ i. commands_of wire mtu (q.number i) (q.unreliable i) c) ∙ wired-commands mtu (command_count cs) (count_after 0 cs) c in
    let count = command_count-append cs (c ∷ []) in
    let qn = q.number in
    let z : 0 + command_count cs ≡ command_count cs = omega arith in
    record {
      gone = q.gone;
      left = q.left ++ new;
      count = q.count;
      whole = all-append mtu 0 0 cs (c ∷ []) ∙ ap (λ n. all_from mtu 0 0 cs ++ all_from mtu n (count_after 0 cs) (c ∷ [])) z
          ∙ ap (λ l. all_from mtu 0 0 cs ++ l) (append-nil new)
          ∙ ap (λ l. l ++ new) q.whole ∙ append_assoc q.gone q.left new;
      queued = (λ i. q.queued i ++ on i) ∙ sym (map-append wired q.left new);
      number = ap (λ n. cond c.reliable ((n + c.pieces) % 65536) n) q.number ∙ ap (λ n. n) (last c.reliable) ∙ ap (λ n. n % 65536) (sym count);
      unreliable = ap (λ n. cond c.reliable 0 (n + 1)) q.unreliable ∙ sym (count_after-append 0 cs (c ∷ []));
    }
  where
    last : (r : Bool) → cond r ((command_count cs % 65536 + c.pieces) % 65536) (command_count cs % 65536) ≡ (command_count cs + cond r (0 + c.pieces) 0) % 65536
    last true = omega arith
    last false = omega arith

ImageOf-more : (mtu : ℕ) (cs : List ChosenPacket) (x : ChosenPacket) (n : ℕ) (p : Sent) → ImageOf mtu cs n p → ImageOf mtu (cs ++ x ∷ []) n p
ImageOf-more mtu cs x n p h = record { meant = h.meant; piece = IsPieceOf-more mtu cs x h.meant h.piece; reliable = h.reliable; number = h.number; command = h.command }

Images-more : (mtu : ℕ) (cs : List ChosenPacket) (x : ChosenPacket) (ns : List ℕ) (sent : List Sent) → Images mtu cs ns sent → Images mtu (cs ++ x ∷ []) ns sent
Images-more mtu cs x [] [] h = tt
Images-more mtu cs x [] (c ∷ sent) h = absurd h
Images-more mtu cs x (n ∷ ns) [] h = absurd h
Images-more mtu cs x (n ∷ ns) (c ∷ sent) h = (ImageOf-more mtu cs x n c h.0, Images-more mtu cs x ns sent h.1)

Ready-accept : (mtu : ℕ) (cs : List ChosenPacket) (x : ChosenPacket) (r : Receiver) → IsCut mtu x → Ready mtu cs r → Ready mtu (cs ++ x ∷ []) r
Ready-accept mtu cs x r cut k = record {
  cut = λ c h. elim (Has-push_cases cs x c h) [ inl old ↦ k.cut c old | inr is ↦ subst (λ y. IsCut mtu y) is cut ];
  held = λ n e t. let h = k.held n e t in record { packet = h.packet; number = h.number; count = h.count; place = h.place; stands = more h.number h.count h.packet h.stands; reliable = h.reliable; matches = h.matches; begun = h.begun };
  waiting = λ n q e t. let h = k.waiting n q e t in record { packet = h.packet; count = h.count; place = h.place; stands = more n h.count h.packet h.stands; reliable = h.reliable; matches = h.matches };
  passed = let p = k.passed in record { passed = p.passed; left = p.left ++ x ∷ []; whole = ap (λ l. l ++ x ∷ []) p.whole ∙ append_assoc p.passed p.left (x ∷ []); consumed = p.consumed; count = p.count; last = p.last };
}
  where
    more : (n k : ℕ) (c : ChosenPacket) → Stands cs n k c → Stands (cs ++ x ∷ []) n k c
    more n k c w = record { before = w.before; behind = w.behind ++ x ∷ []; number_is = w.number_is; count_is = w.count_is; whole = ap (λ l. l ++ x ∷ []) w.whole ∙ append_assoc w.before (c ∷ w.behind) (x ∷ []) }

Pending-more : (mtu : ℕ) (l : Link) (x : ChosenPacket) (c : DataCommand) → Pending mtu l c → Pending mtu (accept l x) c
Pending-more mtu l x c k = record { meant = k.meant; piece = IsPieceOf-more mtu l.carried x k.meant k.piece; command = k.command; reliable = k.reliable; unreliable = k.unreliable }

pub Sound-submits : (mtu : ℕ) (v : WireLink) (p : Packet) → 28 < mtu → Sound mtu v → v.is_sending ≡ true → (carried_as mtu v.outgoing.unreliable p).pieces ≤ 16384 → Sound mtu (submits mtu v p)
Sound-submits mtu v p big s sending few =
    let l = s.link in
    let h = s.shows in
    let q = h.queues sending in
    let c : ChosenPacket = carried_as mtu v.outgoing.unreliable p in
    record {
      link = accept l c;
      numbers = Numbers-accept l c s.numbers;
      ready = Ready-accept mtu l.carried c l.receiver (IsCut-carried mtu v.outgoing.unreliable p big few) s.ready;
      shows = record {
        carried = ap (λ (x : List ChosenPacket). x ++ c ∷ []) h.carried
            ∙ ap (λ n. carried mtu v.submitted ++ carried_as mtu n p ∷ []) (q.unreliable ∙ ap (count_after 0) h.carried)
            ∙ sym (carried-push mtu 0 v.submitted p);
        plain = λ x t. elim (Has-push_cases l.carried c x t) [ inl old ↦ h.plain x old | inr is ↦ subst (λ y. IsPlain mtu y) is (IsPlain-carried mtu v.outgoing.unreliable p) ];
        greatest = h.greatest;
        is_open = h.is_open;
        queues = λ k. Queues-submit mtu l.carried l.sent v.outgoing c q;
        images = λ k. Images-more mtu l.carried c l.unacked v.outgoing.sent (h.images sending);
        rising = h.rising;
        incoming = h.incoming;
        dispatched = h.dispatched;
        answers = h.answers;
        acks = h.acks;
        commands = λ e t. let k = h.commands e t in record { meant = k.meant; command = k.command; there = k.there };
        pieces = λ e t. IsPieceOf-more mtu l.carried c e.command (h.pieces e t);
        making = λ d t. Pending-more mtu l c d (h.making d t);
      };
    }

-- what is due next

-- a sent command goes again, or the head of the queue goes
pub record Resends (o : Sender) (now : ℕ) (n : Next) : Type 0 where
  pub place : ℕ
  pub which : Sent
  pub there : slice_get o.sent place ≡ Some which
  pub is : n ≡ resent now o place which

pub record Begins (o : Sender) (occasion : Occasion) (n : Next) : Type 0 where
  pub head : DataCommand
  pub rest : List DataCommand
  pub queued : o.queued ≡ head ∷ rest
  pub allowed : may_go wire o.sent occasion head ≡ true
  pub is : n ≡ first_sent occasion.now occasion.timeout o head rest

some_same : {X : Type 0} (x y : X) → Some x ≡ Some y → x ≡ y
some_same x y e = cc

pub next_cases : (occasion : Occasion) (o : Sender) (n : Next) → next wire occasion o ≡ Some n → Resends o occasion.now n ⊎ Begins o occasion n
next_cases occasion o n e = go (position (λ (p : Sent). p.transmission.due) o.sent) e
  where
    from_queue : (q : List DataCommand) → o.queued ≡ q → next_queued wire occasion o q ≡ Some n → Resends o occasion.now n ⊎ Begins o occasion n
    from_queue [] t k = absurd (cc)
    from_queue (c ∷ rest) t k =
        elim (may_go wire o.sent occasion c) as (λ b. may_go wire o.sent occasion c ≡ b → cond b (Some (first_sent occasion.now occasion.timeout o c rest)) None ≡ Some n → Resends o occasion.now n ⊎ Begins o occasion n) [
          | true ↦ λ m f. inr (record { head = c; rest = rest; queued = t; allowed = m; is = sym (some_same _ _ f) })
          | false ↦ λ m f. absurd (cc)
        ] refl k

    from_sent : (i : ℕ) (p : Option Sent) → slice_get o.sent i ≡ p → next_resent occasion o i p ≡ Some n → Resends o occasion.now n ⊎ Begins o occasion n
    from_sent i None t k = absurd (cc)
    from_sent i (Some p) t k =
        elim (has_room occasion p.command) as (λ b. cond b (Some (resent occasion.now o i p)) None ≡ Some n → Resends o occasion.now n ⊎ Begins o occasion n) [
          | true ↦ λ f. inl (record { place = i; which = p; there = t; is = sym (some_same _ _ f) })
          | false ↦ λ f. absurd (cc)
        ] k

    go : (w : Option ℕ) → next_of wire occasion o w ≡ Some n → Resends o occasion.now n ⊎ Begins o occasion n
    go None k = from_queue o.queued refl k
    go (Some i) k = from_sent i (slice_get o.sent i) refl k

-- the head of the queue is the next of all commands
record Heads (mtu : ℕ) (cs : List ChosenPacket) (sent : ℕ) (o : Sender) (c : DataCommand) (rest : List DataCommand) : Type 0 where
  meant : DataCommand
  gone : List DataCommand
  left : List DataCommand
  whole : all_from mtu 0 0 cs ≡ gone ++ meant ∷ left
  count : reliable_count gone ≡ sent
  command : c ≡ wired meant
  queued : rest ≡ map wired left
  piece : IsPieceOf mtu cs meant
  number : meant.number ≡ cond meant.reliable (sent + 1) sent
  last : o.number ≡ command_count cs % 65536
  unreliable : o.unreliable ≡ count_after 0 cs

Heads-from : (mtu : ℕ) (cs : List ChosenPacket) (sent : ℕ) (o : Sender) (c : DataCommand) (rest : List DataCommand) → ((x : ChosenPacket) → Has cs x → IsPlain mtu x) → o.queued ≡ c ∷ rest → Queues mtu cs sent o → Heads mtu cs sent o c rest
Heads-from mtu cs sent o c rest plain e q = go q.left q.whole (sym e ∙ q.queued)
  where
    go : (left : List DataCommand) → all_from mtu 0 0 cs ≡ q.gone ++ left → c ∷ rest ≡ map wired left → Heads mtu cs sent o c rest
    go [] w f = absurd (cc)
    go (d ∷ left) w f =
        let n = next_command mtu cs q.gone d left plain w in
        record {
          meant = d;
          gone = q.gone;
          left = left;
          whole = w;
          count = q.count;
          piece = n.piece;
          last = q.number;
          unreliable = q.unreliable;
          command = cc;
          queued = cc;
          number = n.number ∙ ap (λ k. cond d.reliable (k + 1) k) q.count;
        }

-- the queue after its head went
Queues-sent : (mtu : ℕ) (cs : List ChosenPacket) (sent : ℕ) (o : Sender) (c : DataCommand) (rest : List DataCommand) (sent' : List Sent) (h : Heads mtu cs sent o c rest)
    → Queues mtu cs (cond h.meant.reliable (sent + 1) sent) (record o { queued = rest; sent = sent' })
Queues-sent mtu cs sent o c rest sent' h = record {
  gone = h.gone ++ h.meant ∷ [];
  left = h.left;
  whole = h.whole ∙ sym (append_assoc h.gone (h.meant ∷ []) h.left);
  count = reliable_count-append h.gone (h.meant ∷ []) ∙ ap (λ k. k + reliable_count (h.meant ∷ [])) h.count ∙ last h.meant.reliable;
  queued = h.queued;
  number = h.last;
  unreliable = h.unreliable;
}
  where
    last : (r : Bool) → sent + cond r (0 + 1) 0 ≡ cond r (sent + 1) sent
    last true = omega arith
    last false = omega arith

Images-push : (mtu : ℕ) (cs : List ChosenPacket) (ns : List ℕ) (sent : List Sent) (n : ℕ) (p : Sent) → Images mtu cs ns sent → ImageOf mtu cs n p → Images mtu cs (ns ++ n ∷ []) (sent ++ p ∷ [])
Images-push mtu cs [] [] n p h i = (i, tt)
Images-push mtu cs [] (d ∷ sent) n p h i = absurd h
Images-push mtu cs (m ∷ ns) [] n p h i = absurd h
Images-push mtu cs (m ∷ ns) (d ∷ sent) n p h i = (h.0, Images-push mtu cs ns sent n p h.1 i)

-- the span's test of the oldest is that of all
room_from : (mtu : ℕ) (cs : List ChosenPacket) (ns : List ℕ) (sent : List Sent) (number last : ℕ) → Images mtu cs ns sent → IsRising ns → ((m : ℕ) → Has ns m → (m ≤ last) × (last < m + 8192)) → number ≡ (last + 1) % 65536 → is_in_span wire sent number ≡ true
    → (m : ℕ) → Has ns m → last + 1 < m + 8192
room_from mtu cs [] sent number last i r b e t m h = absurd h
room_from mtu cs (n ∷ ns) [] number last i r b e t m h = absurd i
room_from mtu cs (n ∷ ns) (p ∷ sent) number last i r b e t m h =
    let k = b n (inl refl) in
    let k0 = k.0 in
    let k1 = k.1 in
    let im = i.0 in
    let wired_number : p.command.number ≡ n % 65536 = ap (λ (x : DataCommand). x.number) im.command ∙ ap (λ x. x % 65536) im.number in
    let d = ahead_true n (last + 1) (omega arith) (omega arith) in
    let f : ahead p.command.number number ≡ ahead (n % 65536) ((last + 1) % 65536) = ap (λ z. ahead z number) wired_number ∙ ap (λ z. ahead (n % 65536) z) e in
    let g : ahead p.command.number number < 8192 = below (ahead p.command.number number) 8192 t in
    let low : n ≤ m = elim h [ inl is ↦ subst (λ z. n ≤ z) is (omega arith) | inr j ↦ (let z = r.0 m j in omega arith) ] in
    omega arith
  where
    below : (p q : ℕ) → nat_lt p q ≡ true → p < q
    below p q x = grind (arith, nat_tests)

Images-has : (mtu : ℕ) (cs : List ChosenPacket) (ns : List ℕ) (sent : List Sent) (p : Sent) → Images mtu cs ns sent → Has sent p → (n : ℕ) × Has ns n × ImageOf mtu cs n p
Images-has mtu cs [] [] p i h = absurd h
Images-has mtu cs [] (d ∷ sent) p i h = absurd i
Images-has mtu cs (n ∷ ns) [] p i h = absurd h
Images-has mtu cs (n ∷ ns) (d ∷ sent) p i (inl e) = subst (λ (x : Sent). (m : ℕ) × Has (n ∷ ns) m × ImageOf mtu cs m x) e (n, inl refl, i.0)
Images-has mtu cs (n ∷ ns) (d ∷ sent) p i (inr h) = let k = Images-has mtu cs ns sent p i.1 h in (k.0, inr k.1, k.2)

-- a sent command is replaced by one that says the same
Images-set : (mtu : ℕ) (cs : List ChosenPacket) (ns : List ℕ) (sent : List Sent) (i : ℕ) (p q : Sent) → Images mtu cs ns sent → slice_get sent i ≡ Some p → q.command ≡ p.command → Images mtu cs ns (slice_set sent i q)
Images-set mtu cs [] [] i p q h t e = absurd (cc)
Images-set mtu cs [] (d ∷ sent) i p q h t e = absurd h
Images-set mtu cs (n ∷ ns) [] i p q h t e = absurd h
Images-set mtu cs (n ∷ ns) (d ∷ sent) zero p q h t e =
    let same : d ≡ p = some_same d p t in
    let im = h.0 in
    (record { meant = im.meant; piece = im.piece; reliable = im.reliable; number = im.number; command = e ∙ ap (λ (x : Sent). x.command) (sym same) ∙ im.command }, h.1)
Images-set mtu cs (n ∷ ns) (d ∷ sent) (suc i) p q h t e = (h.0, Images-set mtu cs ns sent i p q h.1 t e)

Images-map : (mtu : ℕ) (cs : List ChosenPacket) (ns : List ℕ) (sent : List Sent) (f : Sent → Sent) → ((p : Sent) → (f p).command ≡ p.command) → Images mtu cs ns sent → Images mtu cs ns (map f sent)
Images-map mtu cs [] [] f e h = tt
Images-map mtu cs [] (p ∷ sent) f e h = absurd h
Images-map mtu cs (n ∷ ns) [] f e h = absurd h
Images-map mtu cs (n ∷ ns) (p ∷ sent) f e h =
    let im = h.0 in
    (record { meant = im.meant; piece = im.piece; reliable = im.reliable; number = im.number; command = e p ∙ im.command }, Images-map mtu cs ns sent f e h.1)

or_left : (a b : Bool) → (not a || b) ≡ true → a ≡ true → b ≡ true
or_left true b h t = h
or_left false b h t = absurd (cc)

and_left : (a b : Bool) → (a && b) ≡ true → a ≡ true
and_left true b h = refl
and_left false b h = absurd (cc)

-- the greatest number after a command
stays_by : (g d : ℕ) → (d ≡ 0) ⊎ (32768 ≤ d) → cond (nat_lt d 32768) (g + d) g ≡ g
stays_by g d (inl none) = ap (λ x. cond (nat_lt x 32768) (g + x) g) none ∙ (let e : g + 0 ≡ g = omega arith in e)
stays_by g d (inr far) = let t : nat_lt d 32768 ≡ false = (let h : 32768 ≤ d = far in grind (arith, nat_tests)) in ap (λ b. cond b (g + d) g) t

grows_for : (g n : ℕ) → n ≡ (g + 1) % 65536 → greatest_after g n ≡ g + 1
grows_for g n e = let d : ahead (g % 65536) n ≡ 1 = omega arith in ap (λ x. cond (nat_lt x 32768) (g + x) g) d

stays_for : (g m n : ℕ) → n ≡ m % 65536 → m ≤ g → g < m + 8192 → greatest_after g n ≡ g
stays_for g m n e low high = stays_by g (ahead (g % 65536) n) (by (ahead (g % 65536) n) refl)
  where
    by : (d : ℕ) → ahead (g % 65536) n ≡ d → (d ≡ 0) ⊎ (32768 ≤ d)
    by zero is = inl refl
    by (suc d) is = inr (omega arith)

-- a sent command goes again
Sound-resends : (mtu : ℕ) (v : WireLink) (now : ℕ) (n : Next) → Sound mtu v → v.is_sending ≡ true → Resends v.outgoing now n → Sound mtu (sends v n)
Sound-resends mtu v now n s sending r =
    let l = s.link in
    let h = s.shows in
    let q = h.queues sending in
    let p = r.which in
    let had = Images-has mtu l.carried l.unacked v.outgoing.sent p (h.images sending) (Has-slice_get v.outgoing.sent r.place p r.there) in
    let m = had.0 in
    let im = had.2 in
    let u = s.numbers.unacked m had.1 in
    let command : n.command ≡ wired im.meant = ap (λ (x : Next). x.command) r.is ∙ im.command in
    let number : n.command.number ≡ m % 65536 = ap (λ (x : DataCommand). x.number) command ∙ ap (λ x. x % 65536) im.number in
    let g = h.greatest in
    let u0 = u.0 in let u1 = u.1 in let u2 = u.2 in
    let stays : greatest_after v.greatest n.command.number ≡ v.greatest = stays_for v.greatest m n.command.number number (omega arith) (omega arith) in
    let out : n.sender ≡ (record v.outgoing { sent = slice_set v.outgoing.sent r.place (again now p) }) = ap (λ (x : Next). x.sender) r.is in
    record {
      link = l;
      numbers = s.numbers;
      ready = s.ready;
      shows = record {
        carried = h.carried;
        plain = h.plain;
        greatest = stays ∙ h.greatest;
        is_open = h.is_open;
        rising = h.rising;
        commands = h.commands;
        pieces = h.pieces;
        incoming = h.incoming;
        dispatched = h.dispatched;
        answers = h.answers;
        acks = h.acks;
        queues = λ j. subst (λ x. Queues mtu l.carried l.sent x) (sym out) (record { gone = q.gone; left = q.left; whole = q.whole; count = q.count; queued = q.queued; number = q.number; unreliable = q.unreliable });
        images = λ j. subst (λ (x : Sender). Images mtu l.carried l.unacked x.sent) (sym out) (Images-set mtu l.carried l.unacked v.outgoing.sent r.place p (again now p) (h.images sending) r.there refl);
        making = λ d t. elim (Has-push_cases v.making n.command d t) [
          | inl old ↦ h.making d old
          | inr is ↦ subst (λ x. Pending mtu l x) is (record {
            meant = im.meant;
            piece = im.piece;
            command = command;
            reliable = λ k. subst (λ x. Has l.unacked x) (sym im.number) had.1;
            unreliable = λ k. absurd (let f : true ≡ false = sym im.reliable ∙ k in cc);
          })
        ];
      };
    }

-- the head of the queue goes for the first time
Sound-begins_reliable : (mtu : ℕ) (v : WireLink) (occasion : Occasion) (n : Next) (s : Sound mtu v) → v.is_sending ≡ true → (b : Begins v.outgoing occasion n) → (k : Heads mtu s.link.carried s.link.sent v.outgoing b.head b.rest) → k.meant.reliable ≡ true → Sound mtu (sends v n)
Sound-begins_reliable mtu v occasion n s sending b k kind =
    let l = s.link in
    let h = s.shows in
    let c = b.head in
    let head_kind : c.reliable ≡ true = ap (λ (x : DataCommand). x.reliable) k.command ∙ kind in
    let meant_number : k.meant.number ≡ l.sent + 1 = k.number ∙ ap (λ r. cond r (l.sent + 1) l.sent) kind in
    let number : c.number ≡ (l.sent + 1) % 65536 = ap (λ (x : DataCommand). x.number) k.command ∙ ap (λ x. x % 65536) meant_number in
    let span : is_in_span wire v.outgoing.sent c.number ≡ true = and_left (is_in_span wire v.outgoing.sent c.number) (may_begin occasion c) (or_left c.reliable _ b.allowed head_kind) in
    let room = room_from mtu l.carried l.unacked v.outgoing.sent c.number l.sent (h.images sending) h.rising (λ m j. let u = s.numbers.unacked m j in (u.1, u.2)) number span in
    let command : n.command ≡ c = ap (λ (x : Next). x.command) b.is in
    let up : greatest_after v.greatest n.command.number ≡ v.greatest + 1 = ap (λ (x : DataCommand). greatest_after v.greatest x.number) command ∙ grows_for v.greatest c.number (number ∙ ap (λ g. (g + 1) % 65536) (sym h.greatest)) in
    let out : n.sender ≡ (record v.outgoing { queued = b.rest; sent = v.outgoing.sent ++ begun occasion.now occasion.timeout c ∷ [] }) =
    ap (λ (x : Next). x.sender) b.is ∙ ap (λ r. record v.outgoing { queued = b.rest; sent = if r then v.outgoing.sent ++ begun occasion.now occasion.timeout c ∷ [] else v.outgoing.sent }) head_kind in
    let image : ImageOf mtu l.carried (l.sent + 1) (begun occasion.now occasion.timeout c) = record { meant = k.meant; piece = k.piece; reliable = kind; number = meant_number; command = k.command } in
    record {
      link = send l;
      numbers = Numbers-send l s.numbers room;
      ready = s.ready;
      shows = record {
        carried = h.carried;
        plain = h.plain;
        is_open = h.is_open;
        pieces = h.pieces;
        incoming = h.incoming;
        dispatched = h.dispatched;
        answers = h.answers;
        acks = h.acks;
        greatest = up ∙ ap (λ g. g + 1) h.greatest;
        queues = λ j. subst (λ x. Queues mtu l.carried (l.sent + 1) x) (sym out) (subst (λ r. Queues mtu l.carried (cond r (l.sent + 1) l.sent) (record v.outgoing { queued = b.rest; sent = v.outgoing.sent ++ begun occasion.now occasion.timeout c ∷ [] })) kind
            (Queues-sent mtu l.carried l.sent v.outgoing c b.rest (v.outgoing.sent ++ begun occasion.now occasion.timeout c ∷ []) k));
        images = λ j. subst (λ (x : Sender). Images mtu l.carried (l.unacked ++ (l.sent + 1) ∷ []) x.sent) (sym out) (Images-push mtu l.carried l.unacked v.outgoing.sent (l.sent + 1) (begun occasion.now occasion.timeout c) (h.images sending) image);
        rising = IsRising-push l.unacked (l.sent + 1) h.rising (λ m j. let u = s.numbers.unacked m j in let u1 = u.1 in omega arith);
        commands = λ e t. let y = h.commands e t in record { meant = y.meant; command = y.command; there = y.there };
        making = λ d t. elim (Has-push_cases v.making n.command d t) [
          | inl old ↦ let p = h.making d old in record {
            meant = p.meant;
            piece = p.piece;
            command = p.command;
            reliable = λ z. Has-push_left l.unacked (l.sent + 1) p.meant.number (p.reliable z);
            unreliable = λ z. let a = p.unreliable z in let a0 = a.0 in (omega arith, elim a.1 [ inl same ↦ inr (subst (λ y. Has (l.unacked ++ (l.sent + 1) ∷ []) (y + 1)) same (Has-push l.unacked (l.sent + 1))) | inr u ↦ inr (Has-push_left l.unacked (l.sent + 1) (p.meant.number + 1) u) ]);
          }
          | inr is ↦ subst (λ x. Pending mtu (send l) x) is (record {
            meant = k.meant;
            piece = k.piece;
            command = command ∙ k.command;
            reliable = λ z. subst (λ x. Has (l.unacked ++ (l.sent + 1) ∷ []) x) (sym meant_number) (Has-push l.unacked (l.sent + 1));
            unreliable = λ z. absurd (let f : true ≡ false = sym kind ∙ z in cc);
          })
        ];
      };
    }

Sound-begins_unreliable : (mtu : ℕ) (v : WireLink) (occasion : Occasion) (n : Next) (s : Sound mtu v) → v.is_sending ≡ true → (b : Begins v.outgoing occasion n) → (k : Heads mtu s.link.carried s.link.sent v.outgoing b.head b.rest) → k.meant.reliable ≡ false → Sound mtu (sends v n)
Sound-begins_unreliable mtu v occasion n s sending b k kind =
    let l = s.link in
    let h = s.shows in
    let c = b.head in
    let head_kind : c.reliable ≡ false = ap (λ (x : DataCommand). x.reliable) k.command ∙ kind in
    let meant_number : k.meant.number ≡ l.sent = k.number ∙ ap (λ r. cond r (l.sent + 1) l.sent) kind in
    let command : n.command ≡ c = ap (λ (x : Next). x.command) b.is in
    let same : v.greatest ≡ l.sent = h.greatest in
    let stays : greatest_after v.greatest n.command.number ≡ v.greatest = ap (λ (x : DataCommand). greatest_after v.greatest x.number) command ∙ stays_for v.greatest l.sent c.number (ap (λ (x : DataCommand). x.number) k.command ∙ ap (λ x. x % 65536) meant_number) (omega arith) (omega arith) in
    let out : n.sender ≡ (record v.outgoing { queued = b.rest; sent = v.outgoing.sent }) =
    ap (λ (x : Next). x.sender) b.is ∙ ap (λ r. record v.outgoing { queued = b.rest; sent = if r then v.outgoing.sent ++ begun occasion.now occasion.timeout c ∷ [] else v.outgoing.sent }) head_kind in
    record {
      link = l;
      numbers = s.numbers;
      ready = s.ready;
      shows = record {
        carried = h.carried;
        plain = h.plain;
        is_open = h.is_open;
        rising = h.rising;
        commands = h.commands;
        pieces = h.pieces;
        incoming = h.incoming;
        dispatched = h.dispatched;
        answers = h.answers;
        acks = h.acks;
        greatest = stays ∙ h.greatest;
        queues = λ j. subst (λ x. Queues mtu l.carried l.sent x) (sym out) (subst (λ r. Queues mtu l.carried (cond r (l.sent + 1) l.sent) (record v.outgoing { queued = b.rest; sent = v.outgoing.sent })) kind
            (Queues-sent mtu l.carried l.sent v.outgoing c b.rest v.outgoing.sent k));
        images = λ j. subst (λ (x : Sender). Images mtu l.carried l.unacked x.sent) (sym out) (h.images sending);
        making = λ d t. elim (Has-push_cases v.making n.command d t) [
          | inl old ↦ h.making d old
          | inr is ↦ subst (λ x. Pending mtu l x) is (record {
            meant = k.meant;
            piece = k.piece;
            command = command ∙ k.command;
            reliable = λ z. absurd (let f : true ≡ false = sym z ∙ kind in cc);
            unreliable = λ z. (omega arith, inl (sym meant_number));
          })
        ];
      };
    }

pub Sound-sends : (mtu : ℕ) (v : WireLink) (occasion : Occasion) (n : Next) → Sound mtu v → v.is_sending ≡ true → next wire occasion v.outgoing ≡ Some n → Sound mtu (sends v n)
Sound-sends mtu v occasion n s sending e =
    elim (next_cases occasion v.outgoing n e) [
      | inl r ↦ Sound-resends mtu v occasion.now n s sending r
      | inr b ↦
          let k = Heads-from mtu s.link.carried s.link.sent v.outgoing b.head b.rest s.shows.plain b.queued (s.shows.queues sending) in
          elim (either k.meant.reliable) [
            | inl t ↦ Sound-begins_reliable mtu v occasion n s sending b k t
            | inr t ↦ Sound-begins_unreliable mtu v occasion n s sending b k t
          ]
    ]

-- the throttle drops the unreliable packet that was begun

record Skips (left : List DataCommand) : Type 0 where
  dropped : List DataCommand
  kept : List DataCommand
  whole : left ≡ dropped ++ kept
  none : reliable_count dropped ≡ 0
  is : skipped (map wired left) ≡ map wired kept

skips : (left : List DataCommand) → Skips left
skips [] = record { dropped = []; kept = []; whole = refl; none = refl; is = refl }
skips (d ∷ left) =
    let rest = skips left in
    elim (is_more (wired d)) as (λ b. is_more (wired d) ≡ b → Skips (d ∷ left)) [
      | true ↦ λ t.
          let kind : d.reliable ≡ false = not_reliable d.reliable _ t in
          record {
            dropped = d ∷ rest.dropped;
            kept = rest.kept;
            whole = ap (λ l. d ∷ l) rest.whole;
            none = ap (λ r. cond r (reliable_count rest.dropped + 1) (reliable_count rest.dropped)) kind ∙ rest.none;
            is = ap (λ b. cond b (skipped (map wired left)) (wired d ∷ map wired left)) t ∙ rest.is;
          }
      | false ↦ λ t. record { dropped = []; kept = d ∷ left; whole = refl; none = refl; is = ap (λ b. cond b (skipped (map wired left)) (wired d ∷ map wired left)) t }
    ] refl
  where
    not_reliable : (r m : Bool) → (not r && m) ≡ true → r ≡ false
    not_reliable true m h = absurd (cc)
    not_reliable false m h = refl

pub Sound-drops : (mtu : ℕ) (v : WireLink) (occasion : Occasion) (n : Next) → Sound mtu v → v.is_sending ≡ true → next wire occasion v.outgoing ≡ Some n → n.command.reliable ≡ false → Sound mtu (drops v n)
Sound-drops mtu v occasion n s sending e kind =
    elim (next_cases occasion v.outgoing n e) [
      | inl r ↦ absurd (not_resent r)
      | inr b ↦ begun_case b (Heads-from mtu s.link.carried s.link.sent v.outgoing b.head b.rest s.shows.plain b.queued (s.shows.queues sending))
    ]
  where
    not_resent : Resends v.outgoing occasion.now n → ⊥
    not_resent r =
        let had = Images-has mtu s.link.carried s.link.unacked v.outgoing.sent r.which (s.shows.images sending) (Has-slice_get v.outgoing.sent r.place r.which r.there) in
        let im = had.2 in
        let is : n.command.reliable ≡ true = ap (λ (x : Next). x.command.reliable) r.is ∙ ap (λ (x : DataCommand). x.reliable) im.command ∙ im.reliable in
        (let f : true ≡ false = sym is ∙ kind in cc)

    begun_case : (b : Begins v.outgoing occasion n) → Heads mtu s.link.carried s.link.sent v.outgoing b.head b.rest → Sound mtu (drops v n)
    begun_case b k =
        let l = s.link in
        let h = s.shows in
        let c = b.head in
        let head_kind : c.reliable ≡ false = ap (λ (x : Next). x.command.reliable) (sym b.is) ∙ kind in
        let meant_kind : k.meant.reliable ≡ false = ap (λ (x : DataCommand). x.reliable) (sym k.command) ∙ head_kind in
        let out : n.sender ≡ (record v.outgoing { queued = b.rest; sent = v.outgoing.sent }) =
        ap (λ (x : Next). x.sender) b.is ∙ ap (λ r. record v.outgoing { queued = b.rest; sent = if r then v.outgoing.sent ++ begun occasion.now occasion.timeout c ∷ [] else v.outgoing.sent }) head_kind in
        let q = Queues-sent mtu l.carried l.sent v.outgoing c b.rest v.outgoing.sent k in
        let sk = skips q.left in
        let count : reliable_count q.gone ≡ l.sent = q.count ∙ ap (λ r. cond r (l.sent + 1) l.sent) meant_kind in
        record {
          link = l;
          numbers = s.numbers;
          ready = s.ready;
          shows = record {
            carried = h.carried;
            plain = h.plain;
            greatest = h.greatest;
            is_open = h.is_open;
            rising = h.rising;
            commands = h.commands;
            pieces = h.pieces;
            making = h.making;
            incoming = h.incoming;
            dispatched = h.dispatched;
            answers = h.answers;
            acks = h.acks;
            queues = λ j. subst (λ x. Queues mtu l.carried l.sent (with_skipped x)) (sym out) (record {
              gone = q.gone ++ sk.dropped;
              left = sk.kept;
              whole = q.whole ∙ ap (λ z. q.gone ++ z) sk.whole ∙ sym (append_assoc q.gone sk.dropped sk.kept);
              count = reliable_count-append q.gone sk.dropped ∙ (let a = sk.none in omega arith);
              queued = ap skipped q.queued ∙ sk.is;
              number = q.number;
              unreliable = q.unreliable;
            });
            images = λ j. subst (λ (x : Sender). Images mtu l.carried l.unacked x.sent) (sym out) (h.images sending);
          };
        }

-- what waited too long is due to go again
pub Sound-marks : (mtu : ℕ) (v : WireLink) (tick : Tick) → Sound mtu v → v.is_sending ≡ true → Sound mtu (marks v tick)
Sound-marks mtu v tick s sending =
    let l = s.link in
    let h = s.shows in
    record {
      link = l;
      numbers = s.numbers;
      ready = s.ready;
      shows = record {
        carried = h.carried;
        plain = h.plain;
        greatest = h.greatest;
        is_open = h.is_open;
        rising = h.rising;
        commands = h.commands;
        pieces = h.pieces;
        making = h.making;
        incoming = h.incoming;
        dispatched = h.dispatched;
        answers = h.answers;
        acks = h.acks;
        queues = λ j. let q = h.queues sending in record { gone = q.gone; left = q.left; whole = q.whole; count = q.count; queued = q.queued; number = q.number; unreliable = q.unreliable };
        images = λ j. Images-map mtu l.carried l.unacked v.outgoing.sent (marked tick) (λ p. refl) (h.images sending);
      };
    }
