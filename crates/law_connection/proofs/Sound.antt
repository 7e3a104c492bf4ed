-- What the log, the receiving end and the acknowledgements do keeps what holds of a link.
use Rattle.std.proofs.Common.{◌≡◌, ◌≢◌, ℕ, ◌+◌, ◌%◌, ◌<◌, ◌≤◌, Bool, true, false, not, cond, ◌==◌, List, [], ◌∷◌, ◌++◌, map, refl, sym, ap, subst, ◌∙◌, inl, inr, arith, append_assoc}
use Rattle.std.proofs.lemmas.Bool.Decides.{nat_tests}
use Rattle.std.proofs.lemmas.List.{append-nil, map-append}
use Rattle.std.specs.List.{filter}
use Rattle.enet_seq.specs.Numbering.{wire, unbounded}
use Rattle.enet_fragment.specs.declared.data.DataCommand.{DataCommand}
use Rattle.enet_fragment.specs.DataCommand.{piece_of}
use Rattle.enet_packets.specs.declared.incoming_packet.Dispatched.{Dispatched}
use Rattle.enet_receiver.specs.Receiver.{Receiver}
use Rattle.enet_receiver.specs.DataOutcome.{received, outcome, is_handled}
use Rattle.enet_sender.specs.CommandChoice.{ChosenPacket}
use Rattle.enet_sender.specs.Sender.{Sender, position_of, without_place}
use Rattle.enet_sender.specs.declared.sent.Sent.{Sent}
use Rattle.law_connection.specs.Link.{PutOut, Answer, wired}
use Rattle.law_connection.specs.Private.Link.{Link, put_out, takes_in, queue_answer, put_answer, closed}
use Rattle.law_connection.specs.Link as link
use Rattle.law_connection.specs.Private.Link as private_link
use Rattle.law_connection.specs.WireLink.{WireLink, with_reach, puts_out, arrives, logs_answer, answered, gives_up, stops_sending, stops_receiving, drops_answers}
use Rattle.law_connection.proofs.Lists.{Has, Has-push_cases, Has-push_left, Has-push}
use Rattle.law_connection.proofs.WireReceiver.{ShowsReceiver, Shows-received, Shows-given_up}
use Rattle.law_connection.proofs.ContentLemmas.{Ready, Ready-given_up}
use Rattle.law_connection.proofs.PieceLemmas.{IsPieceOf, says}
use Rattle.law_connection.proofs.LinkLemmas.{either, Numbers-put_out, put_out-reliable, put_out-unreliable, Numbers-takes_in, known-takes_in, arrives as arrival, Numbers-queue_answer, Numbers-put_answer, Numbers-acknowledged, Numbers-gives_up, Numbers-closed}
use Rattle.law_connection.proofs.Rising.{IsRising-filter}
use Rattle.law_connection.proofs.Shown.{Images, IsRising, Pending, Logged, Shows, Sound}
use Rattle.law_connection.proofs.Firsts.{drop_first, without-first}

-- the datagram is put out

Pending-logged : (mtu : ℕ) (l : Link) (c x : DataCommand) → Pending mtu l x → Pending mtu (put_out l c) x
Pending-logged mtu l c x k = record { meant = k.meant; piece = k.piece; command = k.command; reliable = k.reliable; unreliable = k.unreliable }

Sound-puts_one : (mtu : ℕ) (v : WireLink) (c : DataCommand) (rest : List DataCommand) → Sound mtu v → v.making ≡ c ∷ rest → Sound mtu (record v { commands = v.commands ++ with_reach v.greatest c ∷ []; making = rest })
Sound-puts_one mtu v c rest s e =
    let l = s.link in
    let h = s.shows in
    let p = h.making c (subst (λ xs. Has xs c) (sym e) (inl refl)) in
    let d = p.meant in
    let new : PutOut = record { command = d; sent_then = l.sent } in
    record {
      link = put_out l d;
      numbers = Numbers-put_out l d s.numbers (elim (either d.reliable) [
        | inl t ↦ put_out-reliable l d s.numbers (p.reliable t)
        | inr t ↦ let a = p.unreliable t in put_out-unreliable l d t a.0 (elim a.1 [ inl same ↦ omega arith | inr u ↦ let k = s.numbers.unacked (d.number + 1) u in omega arith ])
      ]);
      ready = s.ready;
      shows = record {
        carried = h.carried;
        plain = h.plain;
        greatest = h.greatest;
        is_open = h.is_open;
        rising = h.rising;
        incoming = h.incoming;
        dispatched = h.dispatched;
        answers = h.answers;
        acks = h.acks;
        images = h.images;
        queues = λ j. let q = h.queues j in record { gone = q.gone; left = q.left; whole = q.whole; count = q.count; queued = q.queued; number = q.number; unreliable = q.unreliable };
        commands = λ x t. elim (Has-push_cases v.commands (with_reach v.greatest c) x t) [
          | inl old ↦ let y = h.commands x old in record { meant = y.meant; command = y.command; there = Has-push_left l.commands new (record { command = y.meant; sent_then = x.sent_then }) y.there }
          | inr is ↦ subst (λ y. Logged (put_out l d) y) is (record { meant = d; command = p.command; there = subst (λ z. Has (l.commands ++ new ∷ []) (record { command = d; sent_then = z })) (sym h.greatest) (Has-push l.commands new) })
        ];
        pieces = λ x t. elim (Has-push_cases l.commands new x t) [
          | inl old ↦ h.pieces x old
          | inr is ↦ subst (λ (y : PutOut). IsPieceOf mtu l.carried y.command) is p.piece
        ];
        making = λ x t. Pending-logged mtu l d x (h.making x (subst (λ xs. Has xs x) (sym e) (inr t)));
      };
    }

pub Sound-puts_out : (mtu : ℕ) (v : WireLink) → Sound mtu v → Sound mtu (puts_out v)
Sound-puts_out mtu v s = go v.making v s refl
  where
    go : (ms : List DataCommand) (v : WireLink) → Sound mtu v → v.making ≡ ms → Sound mtu (record v { commands = v.commands ++ map (with_reach v.greatest) ms; making = [] })
    go [] v s e = subst (λ (x : List PutOut). Sound mtu (record v { commands = x; making = [] })) (sym (append-nil v.commands)) (subst (λ (x : List DataCommand). Sound mtu (record v { making = x })) e s)
    go (c ∷ ms) v s e =
        let w : WireLink = record v { commands = v.commands ++ with_reach v.greatest c ∷ []; making = ms } in
        subst (λ (x : List PutOut). Sound mtu (record v { commands = x; making = [] })) (append_assoc v.commands (with_reach v.greatest c ∷ []) (map (with_reach v.greatest) ms))
        (go ms w (Sound-puts_one mtu v c ms s e) refl)

-- a command of the log comes

map_push : (as' : List Answer) (a : Answer) → map (λ (x : Answer). x.number % 65536) (as' ++ a ∷ []) ≡ map (λ (x : Answer). x.number % 65536) as' ++ (a.number % 65536) ∷ []
map_push as' a = map-append (λ (x : Answer). x.number % 65536) as' (a ∷ [])

wired-start : (mtu : ℕ) (cs : List ChosenPacket) (d : DataCommand) → IsPieceOf mtu cs d → (wired d).reliable ≡ true → (piece_of (wired d)).start < 65536
wired-start mtu cs d p t =
    let sd = says mtu cs d p in
    let e = sd.start (sym sd.reliable ∙ t) in
    omega arith

Shows-takes_in : (mtu most : ℕ) (v : WireLink) (l : Link) (c d : DataCommand) (full : Bool) → Shows mtu v l → IsPieceOf mtu l.carried d → c ≡ wired d → Shows mtu (arrives v most c full false) (takes_in l most d full)
Shows-takes_in mtu most v l c d full h piece is = record {
  carried = h.carried;
  plain = h.plain;
  greatest = h.greatest;
  is_open = h.is_open;
  queues = h.queues;
  images = h.images;
  rising = h.rising;
  pieces = h.pieces;
  answers = h.answers;
  acks = h.acks;
  commands = λ e t. let y = h.commands e t in record { meant = y.meant; command = y.command; there = y.there };
  making = λ x t. let y = h.making x t in record { meant = y.meant; piece = y.piece; command = y.command; reliable = y.reliable; unreliable = y.unreliable };
  incoming = λ o. subst (λ b. ShowsReceiver (cond b new v.incoming) (cond l.is_open meant_new l.receiver)) (sym (h.is_open ∙ o))
      (subst (λ b. ShowsReceiver new (cond b meant_new l.receiver)) (sym o) (shown o));
  dispatched = elim (either l.is_open) [
    | inl o ↦
        subst (λ b. (rest : List Dispatched) × ((cond l.is_open meant_new l.receiver).dispatched ≡ (cond b new v.incoming).dispatched ++ rest)) (sym (h.is_open ∙ o))
        (subst (λ b. (rest : List Dispatched) × ((cond b meant_new l.receiver).dispatched ≡ new.dispatched ++ rest)) (sym o) ([], (let x = shown o in sym x.dispatched ∙ sym (append-nil new.dispatched))))
    | inr o ↦
        subst (λ b. (rest : List Dispatched) × ((cond l.is_open meant_new l.receiver).dispatched ≡ (cond b new v.incoming).dispatched ++ rest)) (sym (h.is_open ∙ o))
        (subst (λ b. (rest : List Dispatched) × ((cond b meant_new l.receiver).dispatched ≡ v.incoming.dispatched ++ rest)) (sym o) h.dispatched)
  ];
}
  where
    new : Receiver
    new = received wire most v.incoming c full

    meant_new : Receiver
    meant_new = received unbounded most l.receiver (wired d) full

    shown : l.is_open ≡ true → ShowsReceiver new meant_new
    shown o = subst (λ x. ShowsReceiver (received wire most v.incoming x full) meant_new) (sym is)
        (Shows-received most v.incoming l.receiver (wired d) full (omega arith) (wired-start mtu l.carried d piece) (h.incoming o)).1

outcome_shown : (mtu most : ℕ) (v : WireLink) (l : Link) (c d : DataCommand) (full : Bool) → Shows mtu v l → IsPieceOf mtu l.carried d → c ≡ wired d → l.is_open ≡ true → outcome wire most v.incoming c full ≡ outcome unbounded most l.receiver (wired d) full
outcome_shown mtu most v l c d full h piece is o =
    ap (λ x. outcome wire most v.incoming x full) is ∙ (Shows-received most v.incoming l.receiver (wired d) full (omega arith) (wired-start mtu l.carried d piece) (h.incoming o)).0

pub Sound-arrives : (mtu most : ℕ) (v : WireLink) (e : PutOut) (full : Bool) → Sound mtu v → Has v.commands e → link.is_late v.greatest e.sent_then e.command.number ≡ false → Sound mtu (arrives v most e.command full false)
Sound-arrives mtu most v e full s there late =
    let l = s.link in
    let h = s.shows in
    let k = h.commands e there in
    let d = k.meant in
    let f : PutOut = record { command = d; sent_then = e.sent_then } in
    let piece = h.pieces f k.there in
    let t : link.is_late l.sent e.sent_then (d.number % 65536) ≡ false = ap (λ z. link.is_late z e.sent_then (d.number % 65536)) (sym h.greatest) ∙ ap (λ (x : DataCommand). link.is_late v.greatest e.sent_then x.number) (sym k.command) ∙ late in
    record {
      link = takes_in l most d full;
      numbers = Numbers-takes_in mtu most l f full s.numbers s.ready k.there piece t;
      ready = ready_after l d full s.ready (λ o. let a = arrival mtu most l f full s.numbers s.ready k.there piece t o in let st = a.settled in st.ready);
      shows = Shows-takes_in mtu most v l e.command d full h piece k.command;
    }
  where
    ready_after : (l : Link) (d : DataCommand) (full : Bool) → Ready mtu l.carried l.receiver → (l.is_open ≡ true → Ready mtu l.carried (received unbounded most l.receiver (wired d) full)) → Ready mtu l.carried (cond l.is_open (received unbounded most l.receiver (wired d) full) l.receiver)
    ready_after l d full old new = elim l.is_open as (λ b. l.is_open ≡ b → Ready mtu l.carried (cond b (received unbounded most l.receiver (wired d) full) l.receiver)) [ true ↦ λ o. new o | false ↦ λ o. old ] refl

pub Sound-arrives_answered : (mtu most : ℕ) (v : WireLink) (e : PutOut) (full : Bool) → Sound mtu v → Has v.commands e → link.is_late v.greatest e.sent_then e.command.number ≡ false → e.command.reliable ≡ true
    → (v.is_open ≡ true → is_handled (outcome wire most v.incoming e.command full) ≡ true) → Sound mtu (arrives v most e.command full true)
Sound-arrives_answered mtu most v e full s there late kind considered =
    let l = s.link in
    let h = s.shows in
    let k = h.commands e there in
    let d = k.meant in
    let f : PutOut = record { command = d; sent_then = e.sent_then } in
    let piece = h.pieces f k.there in
    let t : link.is_late l.sent e.sent_then (d.number % 65536) ≡ false = ap (λ z. link.is_late z e.sent_then (d.number % 65536)) (sym h.greatest) ∙ ap (λ (x : DataCommand). link.is_late v.greatest e.sent_then x.number) (sym k.command) ∙ late in
    let meant_kind : d.reliable ≡ true = ap (λ (x : DataCommand). x.reliable) (sym k.command) ∙ kind in
    let base = Sound-arrives mtu most v e full s there late in
    let shown = Shows-takes_in mtu most v l e.command d full h piece k.command in
    let known = known-takes_in mtu most l f full s.numbers s.ready k.there piece t meant_kind (λ o. ap is_handled (sym (outcome_shown mtu most v l e.command d full h piece k.command o)) ∙ considered (h.is_open ∙ o)) in
    record {
      link = queue_answer (takes_in l most d full) d.number;
      numbers = Numbers-queue_answer (takes_in l most d full) f (Numbers-takes_in mtu most l f full s.numbers s.ready k.there piece t) k.there t meant_kind known;
      ready = base_ready l d full s.ready (λ o. let a = arrival mtu most l f full s.numbers s.ready k.there piece t o in let st = a.settled in st.ready);
      shows = record {
        carried = shown.carried;
        plain = shown.plain;
        greatest = shown.greatest;
        is_open = shown.is_open;
        queues = shown.queues;
        images = shown.images;
        rising = shown.rising;
        pieces = shown.pieces;
        incoming = shown.incoming;
        dispatched = shown.dispatched;
        acks = shown.acks;
        commands = λ x j. let y = shown.commands x j in record { meant = y.meant; command = y.command; there = y.there };
        making = λ x j. let y = shown.making x j in record { meant = y.meant; piece = y.piece; command = y.command; reliable = y.reliable; unreliable = y.unreliable };
        answers = ap (λ (x : List ℕ). x ++ e.command.number ∷ []) h.answers ∙ ap (λ (z : DataCommand). map (λ (a : Answer). a.number % 65536) l.answers ++ z.number ∷ []) k.command
            ∙ sym (map_push l.answers (record { number = d.number; sent_then = l.sent }));
      };
    }
  where
    base_ready : (l : Link) (d : DataCommand) (full : Bool) → Ready mtu l.carried l.receiver → (l.is_open ≡ true → Ready mtu l.carried (received unbounded most l.receiver (wired d) full)) → Ready mtu l.carried (cond l.is_open (received unbounded most l.receiver (wired d) full) l.receiver)
    base_ready l d full old new = elim l.is_open as (λ b. l.is_open ≡ b → Ready mtu l.carried (cond b (received unbounded most l.receiver (wired d) full) l.receiver)) [ true ↦ λ o. new o | false ↦ λ o. old ] refl

-- a waiting acknowledgement goes into the log
pub Sound-logs_answer : (mtu : ℕ) (v : WireLink) (a : ℕ) (rest : List ℕ) → Sound mtu v → v.answers ≡ a ∷ rest → Sound mtu (logs_answer v a rest)
Sound-logs_answer mtu v a rest s e = go s.link.answers refl
  where
    go : (as' : List Answer) → s.link.answers ≡ as' → Sound mtu (logs_answer v a rest)
    go [] f = absurd (let g : a ∷ rest ≡ [] = sym e ∙ s.shows.answers ∙ ap (map (λ (x : Answer). x.number % 65536)) f in cc)
    go (b ∷ more) f =
        let g : a ∷ rest ≡ (b.number % 65536) ∷ map (λ (x : Answer). x.number % 65536) more = sym e ∙ s.shows.answers ∙ ap (map (λ (x : Answer). x.number % 65536)) f in
        let g0 : a ≡ b.number % 65536 = cc in
        let g1 : rest ≡ map (λ (x : Answer). x.number % 65536) more = cc in
        let l = s.link in
        let h = s.shows in
        let new : Answer = record { number = b.number; sent_then = l.sent } in
        record {
          link = put_answer l b more;
          numbers = Numbers-put_answer l b more f s.numbers;
          ready = s.ready;
          shows = record {
            carried = h.carried;
            plain = h.plain;
            greatest = h.greatest;
            is_open = h.is_open;
            queues = h.queues;
            images = h.images;
            rising = h.rising;
            pieces = h.pieces;
            commands = λ x j. let y = h.commands x j in record { meant = y.meant; command = y.command; there = y.there };
            making = λ x j. let y = h.making x j in record { meant = y.meant; piece = y.piece; command = y.command; reliable = y.reliable; unreliable = y.unreliable };
            incoming = h.incoming;
            dispatched = h.dispatched;
            answers = g1;
            acks = λ x j. elim (Has-push_cases v.acks (record { number = a; sent_then = v.greatest }) x j) [
              | inl old ↦ let w = h.acks x old in (w.0, w.1, Has-push_left l.acks new (record { number = w.0; sent_then = x.sent_then }) w.2)
              | inr is ↦ subst (λ (y : Answer). (n : ℕ) × (y.number ≡ n % 65536) × Has (l.acks ++ new ∷ []) (record { number = n; sent_then = y.sent_then })) is
                  (b.number, g0, subst (λ z. Has (l.acks ++ new ∷ []) (record { number = b.number; sent_then = z })) (sym h.greatest) (Has-push l.acks new))
            ];
          };
        }

-- an acknowledgement of the log comes
filter_all : (test : ℕ → Bool) (ns : List ℕ) → ((m : ℕ) → Has ns m → test m ≡ true) → filter test ns ≡ ns
filter_all test [] h = refl
filter_all test (n ∷ ns) h = rw (h n (inl refl)) (ap (λ l. n ∷ l) (filter_all test ns (λ m k. h m (inr k))))

-- numbers within the span, of which no two are one number on the wire
abbrev Near : ℕ → List ℕ → Type 0
Near last ns = (m : ℕ) → Has ns m → (m ≤ last) × (last < m + 8192)

-- the one sent command of a wire number goes
Images-without : (mtu last : ℕ) (cs : List ChosenPacket) (ns : List ℕ) (sent : List Sent) (w : ℕ) → IsRising ns → Near last ns → Images mtu cs ns sent → Images mtu cs (filter (λ m. not (m % 65536 == w)) ns) (drop_first (λ (p : Sent). p.command.number == w) sent)
Images-without mtu last cs [] [] w r near i = tt
Images-without mtu last cs [] (c ∷ sent) w r near i = absurd i
Images-without mtu last cs (n ∷ ns) [] w r near i = absurd i
Images-without mtu last cs (n ∷ ns) (p ∷ sent) w r near i =
    let rest = Images-without mtu last cs ns sent w r.1 (λ m h. near m (inr h)) i.1 in
    let im = i.0 in
    let number : p.command.number ≡ n % 65536 = ap (λ (x : DataCommand). x.number) im.command ∙ ap (λ x. x % 65536) im.number in
    subst (λ z. Images mtu cs (filter (λ m. not (m % 65536 == w)) (n ∷ ns)) (cond (z == w) sent (p ∷ drop_first (λ (d : Sent). d.command.number == w) sent))) (sym number)
    (elim (n % 65536 == w) as (λ b. (n % 65536 == w) ≡ b → Images mtu cs (cond (not b) (n ∷ filter (λ m. not (m % 65536 == w)) ns) (filter (λ m. not (m % 65536 == w)) ns)) (cond b sent (p ∷ drop_first (λ (d : Sent). d.command.number == w) sent))) [
      | true ↦ λ t. subst (λ l. Images mtu cs l sent) (sym (filter_all (λ m. not (m % 65536 == w)) ns (λ m h. stays m h t))) i.1
      | false ↦ λ t. (i.0, rest)
    ] refl)
  where
    stays : (m : ℕ) → Has ns m → (n % 65536 == w) ≡ true → not (m % 65536 == w) ≡ true
    stays m h t =
        let above = r.0 m h in
        let here = near m (inr h) in
        let low = near n (inl refl) in
        other m (equal (n % 65536) t) above here.0 low.1
      where
        equal : (k : ℕ) → (k == w) ≡ true → k ≡ w
        equal k e = grind (arith, nat_tests)

        unlike : (k : ℕ) → k ≢ w → not (k == w) ≡ true
        unlike k apart = grind (arith, nat_tests)

        other : (m : ℕ) → n % 65536 ≡ w → n < m → m ≤ last → last < n + 8192 → not (m % 65536 == w) ≡ true
        other m e above high low = unlike (m % 65536) (λ f. omega arith)

pub Sound-answered : (mtu : ℕ) (v : WireLink) (a : Answer) → Sound mtu v → v.making ≡ [] → Has v.acks a → link.is_late v.greatest a.sent_then a.number ≡ false → Sound mtu (answered v a)
Sound-answered mtu v a s nothing there late =
    let l = s.link in
    let h = s.shows in
    let k = h.acks a there in
    let b : Answer = record { number = k.0; sent_then = a.sent_then } in
    let t : link.is_late l.sent b.sent_then (b.number % 65536) ≡ false = ap (λ z. link.is_late z a.sent_then (k.0 % 65536)) (sym h.greatest) ∙ ap (λ z. link.is_late v.greatest a.sent_then z) (sym k.1) ∙ late in
    record {
      link = private_link.after_acknowledgement l b;
      numbers = Numbers-acknowledged l b s.numbers k.2 t;
      ready = s.ready;
      shows = record {
        carried = h.carried;
        plain = h.plain;
        greatest = h.greatest;
        is_open = h.is_open;
        pieces = h.pieces;
        queues = λ j. let q = h.queues j in record { gone = q.gone; left = q.left; whole = q.whole; count = q.count; queued = q.queued; number = q.number; unreliable = q.unreliable };
        images = λ j. subst (λ z. Images mtu l.carried (filter (λ m. not (m % 65536 == k.0 % 65536)) l.unacked) (without_place v.outgoing.sent (position_of z v.outgoing.sent))) (sym k.1)
            (subst (λ x. Images mtu l.carried (filter (λ m. not (m % 65536 == k.0 % 65536)) l.unacked) x) (sym (without-first (λ (p : Sent). p.command.number == k.0 % 65536) v.outgoing.sent))
            (Images-without mtu l.sent l.carried l.unacked v.outgoing.sent (k.0 % 65536) h.rising (λ m x. let u = s.numbers.unacked m x in (u.1, u.2)) (h.images j)));
        rising = IsRising-filter (λ m. not (m % 65536 == k.0 % 65536)) l.unacked h.rising;
        making = λ d x. absurd (subst (λ (y : List DataCommand). Has y d) nothing x);
        commands = λ x j. let y = h.commands x j in record { meant = y.meant; command = y.command; there = y.there };
        incoming = h.incoming;
        dispatched = h.dispatched;
        answers = h.answers;
        acks = h.acks;
      };
    }

-- what waits is given up
pub Sound-gives_up : (mtu : ℕ) (v : WireLink) → Sound mtu v → Sound mtu (gives_up v)
Sound-gives_up mtu v s =
    let l = s.link in
    let h = s.shows in
    record {
      link = private_link.gives_up l;
      numbers = Numbers-gives_up l s.numbers;
      ready = Ready-given_up mtu l.carried l.receiver s.ready;
      shows = record {
        carried = h.carried;
        plain = h.plain;
        greatest = h.greatest;
        is_open = h.is_open;
        queues = h.queues;
        images = h.images;
        rising = h.rising;
        pieces = h.pieces;
        making = λ x j. let y = h.making x j in record { meant = y.meant; piece = y.piece; command = y.command; reliable = y.reliable; unreliable = y.unreliable };
        commands = λ x j. let y = h.commands x j in record { meant = y.meant; command = y.command; there = y.there };
        incoming = λ o. Shows-given_up v.incoming l.receiver (h.incoming o);
        dispatched = h.dispatched;
        answers = h.answers;
        acks = h.acks;
      };
    }

-- the ends of a channel
pub Sound-stops_sending : (mtu : ℕ) (v : WireLink) (o : Sender) → Sound mtu v → v.making ≡ [] → Sound mtu (stops_sending v o)
Sound-stops_sending mtu v o s nothing =
    let h = s.shows in
    record {
      link = s.link;
      numbers = s.numbers;
      ready = s.ready;
      shows = record {
        carried = h.carried;
        plain = h.plain;
        greatest = h.greatest;
        is_open = h.is_open;
        queues = λ j. absurd (cc);
        images = λ j. absurd (cc);
        making = λ d j. absurd (subst (λ (y : List DataCommand). Has y d) nothing j);
        rising = h.rising;
        pieces = h.pieces;
        commands = h.commands;
        incoming = h.incoming;
        dispatched = h.dispatched;
        answers = h.answers;
        acks = h.acks;
      };
    }

pub Sound-stops_receiving : (mtu : ℕ) (v : WireLink) (r : Receiver) (kept gone : List Dispatched) → Sound mtu v → v.incoming.dispatched ≡ kept ++ gone → Sound mtu (stops_receiving v r kept)
Sound-stops_receiving mtu v r kept gone s e =
    let h = s.shows in
    let d = h.dispatched in
    record {
      link = closed s.link;
      numbers = Numbers-closed s.link s.numbers;
      ready = s.ready;
      shows = record {
        carried = h.carried;
        plain = h.plain;
        greatest = h.greatest;
        is_open = refl;
        queues = h.queues;
        images = h.images;
        rising = h.rising;
        pieces = h.pieces;
        making = λ x j. let y = h.making x j in record { meant = y.meant; piece = y.piece; command = y.command; reliable = y.reliable; unreliable = y.unreliable };
        commands = λ x j. let y = h.commands x j in record { meant = y.meant; command = y.command; there = y.there };
        incoming = λ o. absurd (cc);
        dispatched = (gone ++ d.0, d.1 ∙ ap (λ z. z ++ d.0) e ∙ append_assoc kept gone d.0);
        answers = h.answers;
        acks = h.acks;
      };
    }

pub Sound-drops_answers : (mtu : ℕ) (v : WireLink) → Sound mtu v → Sound mtu (drops_answers v)
Sound-drops_answers mtu v s =
    let h = s.shows in
    let g = s.numbers in
    record {
      link = record s.link { answers = [] };
      numbers = record {
        unacked = g.unacked;
        removed = g.removed;
        span = g.span;
        within = g.within;
        gap = g.gap;
        commands = λ x j. let k = g.commands x j in record { positive = k.positive; number = k.number; sent_then = k.sent_then; span = k.span };
        answers = λ a j. absurd j;
        rises = tt;
        acks = λ b j. let k = g.acks b j in record { positive = k.positive; number = k.number; sent_then = k.sent_then; in_time = k.in_time; known = k.known };
      };
      ready = s.ready;
      shows = record {
        carried = h.carried;
        plain = h.plain;
        greatest = h.greatest;
        is_open = h.is_open;
        queues = h.queues;
        images = h.images;
        rising = h.rising;
        pieces = h.pieces;
        making = λ x j. let y = h.making x j in record { meant = y.meant; piece = y.piece; command = y.command; reliable = y.reliable; unreliable = y.unreliable };
        commands = λ x j. let y = h.commands x j in record { meant = y.meant; command = y.command; there = y.there };
        incoming = h.incoming;
        dispatched = h.dispatched;
        answers = refl;
        acks = h.acks;
      };
    }
