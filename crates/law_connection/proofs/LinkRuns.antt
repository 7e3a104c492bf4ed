-- Every run of a link keeps what holds of it.
use Rattle.std.proofs.Common.{◌≡◌, ℕ, ◌+◌, ◌%◌, ◌<◌, ◌≤◌, Bool, true, false, List, [], ◌∷◌, map, refl, sym, ap, subst, ◌∙◌, inl, inr, arith, Some, None}
use Rattle.std.specs.Prelude.{◌&&◌}
use Rattle.std.specs.Ordering.{nat_cmp}
use Rattle.std.specs.FinMap.{empty, get, get-empty}
use Rattle.enet_seq.specs.Numbering.{wire, unbounded}
use Rattle.enet_fragment.specs.declared.data.DataCommand.{DataCommand}
use Rattle.enet_packets.specs.declared.incoming_packet.IncomingPacket.{IncomingPacket}
use Rattle.enet_receiver.specs.Receiver.{nothing_received, next_whole}
use Rattle.enet_receiver.specs.DataOutcome.{outcome, is_handled, place_read, came_at, came_before}
use Rattle.enet_sender.specs.CommandChoice.{ChosenPacket}
use Rattle.enet_sender.specs.declared.sent.Sent.{Sent}
use Rattle.law_connection.specs.Link.{PutOut, is_late, number_below}
use Rattle.law_connection.specs.WireLink.{WireLink}
use Rattle.law_connection.specs.LinkSteps.{Has, Event, Submit, Send, Drop, Mark, PutsOut, Arrive, ArriveAnswered, PutsAnswer, Acknowledge, GivesUp, StopSending, StopReceiving, DropAnswers, Happens, Runs, fresh_link, bodies_of}
use Rattle.law_connection.specs.Keeps.{Keeps}
use Rattle.law_connection.specs.Meant.{OfReliable, OfUnreliable, place_meant, IsReadAsMeant, IsReadAsItself}
use Rattle.law_connection.proofs.ArrivalLemmas.{place_as_meant}
use Rattle.law_connection.proofs.Compared.{compared_as_meant}
use Rattle.law_connection.proofs.ContentLemmas.{none-wait}
use Rattle.law_connection.proofs.WireReceiver.{Shows-nothing}
use Rattle.law_connection.proofs.LinkLemmas.{in_time, number_below_true, order}
use Rattle.law_connection.proofs.Reading.{reads-piece}
use Rattle.law_connection.proofs.Counting.{counted}
use Rattle.law_connection.proofs.Shown.{Sound, Images, Sound-follows}
use Rattle.law_connection.proofs.SoundSender.{Sound-submits, Sound-sends, Sound-drops, Sound-marks}
use Rattle.law_connection.proofs.Sound.{Sound-puts_out, Sound-arrives, Sound-arrives_answered, Sound-logs_answer, Sound-answered, Sound-gives_up, Sound-stops_sending, Sound-stops_receiving, Sound-drops_answers}
use Rattle.law_connection.specs.Follows.{Follows}

nothing_at : (n : ℕ) → get (empty {X = IncomingPacket} {R = nat_cmp}) n ≡ None
nothing_at n = get-empty nat_cmp n

pub Sound-fresh : (mtu : ℕ) → Sound mtu fresh_link
Sound-fresh mtu = record {
  link = record { carried = []; sent = 0; unacked = []; commands = []; receiver = nothing_received; is_open = true; answers = []; acks = [] };
  numbers = record {
    unacked = λ m h. absurd h;
    removed = λ m low high. absurd (omega arith);
    span = λ o. omega arith;
    within = λ o. record { front = omega arith; held = λ n e h. absurd (let f = nothing_at n in cc) };
    gap = λ o. (1, omega arith, omega arith, elim [ inl low ↦ omega arith | inr w ↦ (let f = nothing_at w.0 in let g = w.2 in cc) ], ap next_whole (nothing_at 1));
    commands = λ e h. absurd h;
    answers = λ a h. absurd h;
    rises = tt;
    acks = λ a h. absurd h;
  };
  ready = record {
    cut = λ c h. absurd h;
    held = λ n e h. absurd (let f = nothing_at n in cc);
    waiting = λ n k e h. absurd (let x : Some e ≡ None = sym h ∙ none-wait n k in cc);
    passed = record { passed = []; left = []; whole = refl; consumed = refl; count = refl; last = refl };
  };
  shows = record {
    carried = refl;
    plain = λ c h. absurd h;
    greatest = refl;
    is_open = refl;
    queues = λ j. record { gone = []; left = []; whole = refl; count = refl; queued = refl; number = refl; unreliable = refl };
    images = λ j. tt;
    rising = tt;
    commands = λ e h. absurd h;
    pieces = λ e h. absurd h;
    making = λ c h. absurd h;
    incoming = λ o. Shows-nothing;
    dispatched = ([], refl);
    answers = refl;
    acks = λ a h. absurd h;
  };
}

-- one event keeps it
pub Sound-happens : (mtu : ℕ) (e : Event) (v w : WireLink) → 28 < mtu → Sound mtu v → Happens mtu e v w → Sound mtu w
Sound-happens mtu (Submit packet) v w big s h = subst (λ x. Sound mtu x) (sym h.after) (Sound-submits mtu v packet big s h.sending h.few)
Sound-happens mtu (Send occasion) v w big s h = subst (λ x. Sound mtu x) (sym h.after) (Sound-sends mtu v occasion h.due s h.sending h.is_due)
Sound-happens mtu (Drop occasion) v w big s h = subst (λ x. Sound mtu x) (sym h.after) (Sound-drops mtu v occasion h.due s h.sending h.is_due h.unreliable)
Sound-happens mtu (Mark tick) v w big s h = subst (λ x. Sound mtu x) (sym h.after) (Sound-marks mtu v tick s h.sending)
Sound-happens mtu PutsOut v w big s h = subst (λ x. Sound mtu x) (sym h) (Sound-puts_out mtu v s)
Sound-happens mtu (Arrive command most full) v w big s h = subst (λ x. Sound mtu x) (sym h.after) (Sound-arrives mtu most v command full s (h.comes).logged (h.comes).in_time)
Sound-happens mtu (ArriveAnswered command most full) v w big s h =
    subst (λ x. Sound mtu x) (sym h.after) (Sound-arrives_answered mtu most v command full s (h.comes).logged (h.comes).in_time h.reliable (λ o. handled (is_handled (outcome wire most v.incoming command.command full)) _ (h.rule o)))
  where
    handled : (a b : Bool) → (a && b) ≡ true → a ≡ true
    handled true b t = refl
    handled false b t = absurd (cc)
Sound-happens mtu (PutsAnswer number rest) v w big s h = subst (λ x. Sound mtu x) (sym h.after) (Sound-logs_answer mtu v number rest s h.oldest)
Sound-happens mtu (Acknowledge answer) v w big s h = subst (λ x. Sound mtu x) (sym h.after) (Sound-answered mtu v answer s h.between h.logged h.in_time)
Sound-happens mtu GivesUp v w big s h = subst (λ x. Sound mtu x) (sym h) (Sound-gives_up mtu v s)
Sound-happens mtu (StopSending left) v w big s h = subst (λ x. Sound mtu x) (sym h.after) (Sound-stops_sending mtu v left s h.between)
Sound-happens mtu (StopReceiving left kept gone) v w big s h = subst (λ x. Sound mtu x) (sym h.after) (Sound-stops_receiving mtu v left kept gone s h.dispatched)
Sound-happens mtu DropAnswers v w big s h = subst (λ x. Sound mtu x) (sym h) (Sound-drops_answers mtu v s)

pub Sound-runs : (mtu : ℕ) (es : List Event) (v w : WireLink) → 28 < mtu → Sound mtu v → Runs mtu es v w → Sound mtu w
Sound-runs mtu [] v w big s h = subst (λ x. Sound mtu x) h s
Sound-runs mtu (e ∷ es) v w big s h = Sound-runs mtu es h.0 w big (Sound-happens mtu e v h.0 big s h.1) h.2

-- the numbers of what is sent
sent_numbers : (mtu : ℕ) (cs : List ChosenPacket) (ns : List ℕ) (sent : List Sent) → Images mtu cs ns sent → map (λ (p : Sent). p.command.number) sent ≡ map (λ n. n % 65536) ns
sent_numbers mtu cs [] [] h = refl
sent_numbers mtu cs [] (p ∷ sent) h = absurd h
sent_numbers mtu cs (n ∷ ns) [] h = absurd h
sent_numbers mtu cs (n ∷ ns) (p ∷ sent) h =
    let im = h.0 in
    let number : p.command.number ≡ n % 65536 = ap (λ (x : DataCommand). x.number) im.command ∙ ap (λ x. x % 65536) im.number in
    (λ j. number j ∷ sent_numbers mtu cs ns sent h.1 j)

Keeps-sound : (mtu : ℕ) (v : WireLink) → Sound mtu v → Keeps mtu v
Keeps-sound mtu v s =
    let l = s.link in
    let h = s.shows in
    let g = s.numbers in
    let same = h.greatest in
    record {
      receiver = l.receiver;
      waiting = l.unacked;
      shows = λ o. h.incoming (sym h.is_open ∙ o);
      behind = λ o. let w = g.within (sym h.is_open ∙ o) in let f = w.front in omega arith;
      lines = λ o n k e t. subst (λ cs. OfUnreliable mtu cs n k e.making) h.carried (s.ready.waiting n k e t);
      counted = counted mtu v s;
      sent = λ k. sent_numbers mtu l.carried l.unacked v.outgoing.sent (h.images k);
      removed = λ m low high. elim (g.removed m low (omega arith)) [ inl u ↦ inl u | inr k ↦ inr (λ o. k (sym h.is_open ∙ o)) ];
      span = λ m u. let k = g.unacked m u in let a = k.1 in let b = k.2 in (k.0, omega arith, omega arith);
      oldest = λ o u high low. oldest (sym h.is_open ∙ o) u (omega arith) low;
      marks = λ c t. (let y = h.commands c t in let k = g.commands (record { command = y.meant; sent_then = c.sent_then }) y.there in let m = k.sent_then in omega arith);
      near = λ o. let k = g.span (sym h.is_open ∙ o) in omega arith;
      held = λ o n e t. subst (λ cs. OfReliable mtu cs n e.making) h.carried (s.ready.held n e t);
      read = λ o c t late. subst (λ cs. (m : IsReadAsMeant mtu cs l.receiver c.command) × (m.meant.number ≡ number_below c.sent_then c.command.number)) h.carried (as_meant (sym h.is_open ∙ o) c t late);
    }
  where
    -- the number that the receiver lacks waits, or did not go yet
    oldest : s.link.is_open ≡ true → (u : ℕ) → u ≤ s.link.sent + 1 → ((m : ℕ) → Has s.link.unacked m → u ≤ m) → u ≤ s.link.receiver.front + 16384
    oldest o u high low =
        let g = s.numbers in
        let w = g.gap o in
        let below = w.1 in
        let near = w.2 in
        elim (order w.0 s.link.sent) [
          | inl went ↦ elim (g.removed w.0 (omega arith) went) [
            | inl h ↦ let k = low w.0 h in omega arith
            | inr k ↦ absurd (w.3 (k o))
          ]
          | inr beyond ↦ omega arith
        ]

    as_meant : s.link.is_open ≡ true → (c : PutOut) → Has v.commands c → is_late v.greatest c.sent_then c.command.number ≡ false → (m : IsReadAsMeant mtu s.link.carried s.link.receiver c.command) × (m.meant.number ≡ number_below c.sent_then c.command.number)
    as_meant o c t late =
        let l = s.link in
        let h = s.shows in
        let g = s.numbers in
        let y = h.commands c t in
        let d = y.meant in
        let f : PutOut = record { command = d; sent_then = c.sent_then } in
        let p = h.pieces f y.there in
        let out = g.commands f y.there in
        let a = out.number in let b = out.sent_then in let e = out.span in
        let w = g.within o in
        let now : is_late l.sent c.sent_then (d.number % 65536) ≡ false = ap (λ z. is_late z c.sent_then (d.number % 65536)) (sym h.greatest) ∙ ap (λ (x : DataCommand). is_late v.greatest c.sent_then x.number) (sym y.command) ∙ late in
        let low = in_time l.sent d.number c.sent_then out.number (omega arith) now in
        let place = place_as_meant mtu l.carried l.sent l.receiver d p s.ready w.front (omega arith) (g.span o) low in
        let compared = compared_as_meant mtu l.carried l.sent l.receiver d p s.ready w (omega arith) (g.span o) low in (
          record {
            meant = d;
            piece = p;
            command = y.command;
            read = elim place [
              | inl none ↦ inl (ap (place_read unbounded l.receiver) y.command ∙ none)
              | inr some' ↦ inr (ap (place_read unbounded l.receiver) y.command ∙ some')
            ];
            compared = elim compared [
              | inl none ↦ inl (ap (came_before unbounded l.receiver) y.command ∙ none)
              | inr same ↦ inr (ap (came_before unbounded l.receiver) y.command ∙ same ∙ ap (λ (x : DataCommand). came_at l.receiver x (place_meant p)) (sym y.command))
            ];
          },
          sym (number_below_true d.number c.sent_then out.number (omega arith)) ∙ sym (ap (λ (x : DataCommand). number_below c.sent_then x.number) y.command),
        )

pub follows : (mtu : ℕ) (events : List Event) (w : WireLink) → 28 < mtu → Runs mtu events fresh_link w → Follows mtu w.submitted (bodies_of w.incoming.dispatched)
follows mtu events w big h = Sound-follows mtu w (Sound-runs mtu events fresh_link w big (Sound-fresh mtu) h)

pub keeps : (mtu : ℕ) (events : List Event) (w : WireLink) → 28 < mtu → Runs mtu events fresh_link w → Keeps mtu w
keeps mtu events w big h = Keeps-sound mtu w (Sound-runs mtu events fresh_link w big (Sound-fresh mtu) h)

pub reads : (mtu : ℕ) (events : List Event) (w : WireLink) → 28 < mtu → Runs mtu events fresh_link w → (c : PutOut) → Has w.commands c → IsReadAsItself c.command
reads mtu events w big h c k =
    let s = Sound-runs mtu events fresh_link w big (Sound-fresh mtu) h in
    let shows = s.shows in
    let y = shows.commands c k in
    subst (λ (x : DataCommand). IsReadAsItself x) (sym y.command) (reads-piece mtu s.link.carried y.meant (shows.pieces (record { command = y.meant; sent_then = c.sent_then }) y.there))
