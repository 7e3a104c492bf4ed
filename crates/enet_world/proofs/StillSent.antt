-- What was sent and isn't acknowledged stays so while datagrams are filled and time goes on, and a reliable command of channel 0xFF that is
-- queued goes: at a peer to which nothing comes.
use Rattle.std.proofs.Common.{◌≡◌, ℕ, zero, suc, ◌==◌, ◌⊎◌, inl, inr, Bool, true, false, cond, List, [], ◌∷◌, ◌++◌, length, refl, sym, ap, subst, ◌∙◌, arith, Option, Some, None}
use Rattle.std.proofs.lemmas.Bool.Decides.{nat_tests}
use Rattle.std.specs.List.{position, slice_get, slice_set}
use Rattle.enet_seq.specs.Numbering.{wire}
use Rattle.enet_rtt.specs.Transmission as transmission
use Rattle.enet_rtt.specs.declared.transmission.Tick.{Tick}
use Rattle.enet_rtt.specs.declared.transmission.Transmission.{Transmission}
use Rattle.enet_senders.specs.Controlling as controlling
use Rattle.enet_senders.specs.Controlling.{Commands}
use Rattle.enet_senders.specs.declared.control.Control.{Control}
use Rattle.enet_senders.specs.declared.control.Numbered.{Numbered}
use Rattle.enet_senders.specs.declared.control.SentControl.{SentControl}
use Rattle.law_connection.specs.LinkSteps.{Has}
use Rattle.enet_sender.specs.declared.sent.Sent.{Sent}
use Rattle.enet_sender.specs.declared.outgoing.Occasion.{Occasion}
use Rattle.enet_sender.specs.Sender as sender
use Rattle.enet_sender.specs.Sender.{Sender, Next, next, with_skipped}
use Rattle.enet_sender.specs.Due.{SendingEnd}
use Rattle.enet_outbox.specs.declared.parts.Pace.{Pace}
use Rattle.enet_outbox.specs.Outbox.{Outbox, marked_sender}
use Rattle.enet_outbox.specs.Outbox as outbox
use Rattle.enet_outbox.specs.Emission.{filled}
use Rattle.enet_outbox.proofs.Filled.{by-filling}
use Rattle.law_connection.proofs.Runs.{and-left, and-right}
use Rattle.law_connection.proofs.Lists.{Has-push}
use Rattle.law_connection.proofs.CarriageLemmas.{Has-append_left}
use Rattle.law_progress.proofs.PutsOut.{found-passes}
use Rattle.law_progress.proofs.Spent.{Goes, First, Again, goes-of}
use Rattle.law_progress.proofs.Trips.{Has-map}
use Rattle.law_progress.proofs.Waiting.{Each}
use Rattle.law_network.proofs.Submitting.{same-some}

-- ---- lists that changed in one place
set-keeps : {X : Type 0} (xs : List X) (i : ℕ) (y x : X) → Has xs x → Has (slice_set xs i y) x ⊎ (slice_get xs i ≡ Some x)
set-keeps [] i y x h = absurd h
set-keeps (z ∷ zs) zero y x (inl e) = inr (ap Some e)
set-keeps (z ∷ zs) zero y x (inr h) = inl (inr h)
set-keeps (z ∷ zs) (suc i) y x (inl e) = inl (inl e)
set-keeps (z ∷ zs) (suc i) y x (inr h) = elim (set-keeps zs i y x h) [ inl k ↦ inl (inr k) | inr k ↦ inr k ]

set-has : {X : Type 0} (xs : List X) (i : ℕ) (y x : X) → slice_get xs i ≡ Some x → Has (slice_set xs i y) y
set-has [] i y x e = absurd (cc)
set-has (z ∷ zs) zero y x e = inl refl
set-has (z ∷ zs) (suc i) y x e = inr (set-has zs i y x e)

pushed-if : {X : Type 0} (b : Bool) (xs : List X) (y x : X) → Has xs x → Has (cond b (xs ++ y ∷ []) xs) x
pushed-if true xs y x h = Has-append_left xs (y ∷ []) x h
pushed-if false xs y x h = h

-- ---- something that was sent waits, of which this holds
abbrev SomeControl : (Transmission → Type 0) → List SentControl → Type 0
SomeControl R sent = (t : SentControl) × Has sent t × R t.transmission

abbrev SomeData : (Transmission → Type 0) → List Sent → Type 0
SomeData R sent = (t : Sent) × Has sent t × R t.transmission

abbrev SomeEnd : (Transmission → Type 0) → List SendingEnd → Type 0
SomeEnd R senders = (s : SendingEnd) × Has senders s × SomeData R s.sender.sent

abbrev pub StillWaits : (Transmission → Type 0) → Outbox → Type 0
StillWaits R o = SomeControl R o.control.sent ⊎ SomeEnd R o.senders

-- what goes again at a moment keeps it
abbrev pub GoesAgain : (Transmission → Type 0) → ℕ → Type 0
GoesAgain R now = (t : Transmission) → R t → t.due ≡ true → R (transmission.again now t)

control-next : (R : Transmission → Type 0) (now wait : ℕ) (c : Commands) (n : controlling.Next) → GoesAgain R now → controlling.next now wait c ≡ Some n → SomeControl R c.sent → SomeControl R n.commands.sent
control-next R now wait c n again e (t, h, r) = go (position (λ (p : SentControl). p.transmission.due) c.sent) refl e
  where
    after : (u : controlling.Next) → ◌≡◌ {A = Option controlling.Next} (Some u) (Some n) → SomeControl R u.commands.sent → SomeControl R n.commands.sent
    after u k x = subst (λ (v : controlling.Next). SomeControl R v.commands.sent) (same-some u n k) x

    from_queue : (q : List Numbered) → controlling.next_queued now wait c q ≡ Some n → SomeControl R n.commands.sent
    from_queue [] k = absurd (cc)
    from_queue (x ∷ rest) k = by (controlling.is_in_span c.sent x.number) k
      where
        u : controlling.Next
        u = record { command = x; commands = record c { queued = rest; sent = cond (controlling.is_reliable x.control) (c.sent ++ controlling.begun now wait x ∷ []) c.sent } }

        by : (b : Bool) → cond b (Some u) None ≡ Some n → SomeControl R n.commands.sent
        by true k = after u k (t, pushed-if (controlling.is_reliable x.control) c.sent (controlling.begun now wait x) t h, r)
        by false k = absurd (cc)

    from_sent : (i : ℕ) → position (λ (p : SentControl). p.transmission.due) c.sent ≡ Some i → (p : Option SentControl) → slice_get c.sent i ≡ p → controlling.next_resent now c i p ≡ Some n → SomeControl R n.commands.sent
    from_sent i w None there k = absurd (cc)
    from_sent i w (Some p) there k = after (record { command = p.command; commands = record c { sent = slice_set c.sent i (controlling.again now p) } }) k
        (elim (set-keeps c.sent i (controlling.again now p) t h) [
          | inl kept ↦ (t, kept, r)
          | inr here ↦ (
            controlling.again now p,
            set-has c.sent i (controlling.again now p) p there,
            again p.transmission (subst (λ (y : SentControl). R y.transmission) (same-some t p (sym here ∙ there)) r) (found-passes (λ (q : SentControl). q.transmission.due) c.sent i p w there),
          )
        ])

    go : (w : Option ℕ) → position (λ (p : SentControl). p.transmission.due) c.sent ≡ w → controlling.next_of now wait c w ≡ Some n → SomeControl R n.commands.sent
    go None w k = from_queue c.queued k
    go (Some i) w k = from_sent i w (slice_get c.sent i) refl k

data-next : (R : Transmission → Type 0) (o : Occasion) (s : Sender) (n : Next) → GoesAgain R o.now → next wire o s ≡ Some n → SomeData R s.sent → SomeData R n.sender.sent
data-next R o s n again e (t, h, r) = by (goes-of o s n e)
  where
    by : Goes o s n → SomeData R n.sender.sent
    by (First c rest q may is) = subst (λ (x : Next). SomeData R x.sender.sent) is (t, pushed-if c.reliable s.sent (sender.begun o.now o.timeout c) t h, r)
    by (Again i p there due is) = subst (λ (x : Next). SomeData R x.sender.sent) is (elim (set-keeps s.sent i (sender.again o.now p) t h) [
      | inl kept ↦ (t, kept, r)
      | inr here ↦ (sender.again o.now p, set-has s.sent i (sender.again o.now p) p there, again p.transmission (subst (λ (y : Sent). R y.transmission) (same-some t p (sym here ∙ there)) r) due)
    ])

end-set : (R : Transmission → Type 0) (xs : List SendingEnd) (k : ℕ) (s : SendingEnd) (new : Sender) → slice_get xs k ≡ Some s → (SomeData R s.sender.sent → SomeData R new.sent) → SomeEnd R xs → SomeEnd R (slice_set xs k (record s { sender = new }))
end-set R xs k s new there own (x, h, some) = elim (set-keeps xs k (record s { sender = new }) x h) [
  | inl kept ↦ (x, kept, some)
  | inr here ↦ (record s { sender = new }, set-has xs k (record s { sender = new }) s there, own (subst (λ (y : SendingEnd). SomeData R y.sender.sent) (same-some x s (sym here ∙ there)) some))
]

-- a datagram is filled
pub still-filled : (R : Transmission → Type 0) (pace : Pace) (o : Outbox) → GoesAgain R pace.now → StillWaits R o → StillWaits R (filled pace o).outbox
still-filled R pace o again some = by-filling pace o (λ f. StillWaits R f.outbox) (record {
  closes = λ f h. h;
  acknowledges = λ f a rest e h. h;
  controls = λ f n e h. elim h [ inl c ↦ inl (control-next R pace.now pace.timeout f.outbox.control n again e c) | inr d ↦ inr d ];
  puts_unsequenced = λ f u rest t e h. h;
  drops_unsequenced = λ f u rest t e h. h;
  puts_data = λ f k s n t there due h. elim h [ inl c ↦ inl c | inr d ↦ inr (end-set R f.outbox.senders k s n.sender there (data-next R _ s.sender n again due) d) ];
  drops_data = λ f k s n t there due kind h. elim h [ inl c ↦ inl c | inr d ↦ inr (end-set R f.outbox.senders k s (with_skipped n.sender) there (data-next R _ s.sender n again due) d) ];
  keeps_room = λ f i x there wants h. h;
  gives_room = λ f i x n there due h. h;
}) some

-- time goes on
pub still-marked : (R Q : Transmission → Type 0) (tick : Tick) (o : Outbox) → ((t : Transmission) → R t → Q (transmission.marked tick t)) → StillWaits R o → StillWaits Q (outbox.marked o tick)
still-marked R Q tick o goes (inl (t, h, r)) = inl (controlling.marked tick t, Has-map (controlling.marked tick) o.control.sent t h, goes t.transmission r)
still-marked R Q tick o goes (inr (s, k, (t, h, r))) =
    inr (marked_sender tick s, Has-map (marked_sender tick) o.senders s k, (sender.marked tick t, Has-map (sender.marked tick) s.sender.sent t h, goes t.transmission r))

-- what is known of some, and of all
pub still-so : (R Q : Transmission → Type 0) (o : Outbox) → ((t : Transmission) → R t → Q t) → StillWaits R o → StillWaits Q o
still-so R Q o more (inl (t, h, r)) = inl (t, h, more t.transmission r)
still-so R Q o more (inr (s, k, (t, h, r))) = inr (s, k, (t, h, more t.transmission r))

pub still-with : (R S : Transmission → Type 0) (o : Outbox) → Each S o.control.sent o.senders → StillWaits R o → StillWaits (λ t. R t × S t) o
still-with R S o all (inl (t, h, r)) = inl (t, h, (r, all.0 t h))
still-with R S o all (inr (s, k, (t, h, r))) = inr (s, k, (t, h, (r, all.1 s k t h)))

pub none-waits : (R : Transmission → Type 0) (o : Outbox) → ((t : Transmission) → R t → ⊥) → StillWaits R o → ⊥
none-waits R o never (inl (t, h, r)) = never t.transmission r
none-waits R o never (inr (s, k, (t, h, r))) = never t.transmission r

-- ---- a reliable command of channel 0xFF is queued, or one was sent
abbrev pub HasControl : Commands → Type 0
HasControl c = ((n : Numbered) × Has c.queued n × (controlling.is_reliable n.control ≡ true)) ⊎ ((t : SentControl) × Has c.sent t)

pub has-queued : (c : Commands) (what : Control) → controlling.is_reliable what ≡ true → HasControl (controlling.with_queued c what)
has-queued c what reliable = inl (record { number = (controlling.with_queued c what).number; control = what }, Has-push c.queued (record { number = (controlling.with_queued c what).number; control = what }), reliable)

stays-controlled : (now wait : ℕ) (c : Commands) (n : controlling.Next) → controlling.next now wait c ≡ Some n → HasControl c → HasControl n.commands
stays-controlled now wait c n e has = go (position (λ (p : SentControl). p.transmission.due) c.sent) e
  where
    after : (u : controlling.Next) → ◌≡◌ {A = Option controlling.Next} (Some u) (Some n) → HasControl u.commands → HasControl n.commands
    after u k x = subst (λ (v : controlling.Next). HasControl v.commands) (same-some u n k) x

    from_queue : (q : List Numbered) → c.queued ≡ q → controlling.next_queued now wait c q ≡ Some n → HasControl n.commands
    from_queue [] is k = absurd (cc)
    from_queue (x ∷ rest) is k = by (controlling.is_in_span c.sent x.number) k
      where
        u : controlling.Next
        u = record { command = x; commands = record c { queued = rest; sent = cond (controlling.is_reliable x.control) (c.sent ++ controlling.begun now wait x ∷ []) c.sent } }

        goes : (b : Bool) → b ≡ true → Has (cond b (c.sent ++ controlling.begun now wait x ∷ []) c.sent) (controlling.begun now wait x)
        goes true r = Has-push c.sent (controlling.begun now wait x)
        goes false r = absurd (cc)

        left : (m : Numbered) → controlling.is_reliable m.control ≡ true → Has (x ∷ rest) m → HasControl u.commands
        left m reliable (inl same) = inr (controlling.begun now wait x, goes (controlling.is_reliable x.control) (ap (λ (y : Numbered). controlling.is_reliable y.control) same ∙ reliable))
        left m reliable (inr h) = inl (m, h, reliable)

        kept : HasControl c → HasControl u.commands
        kept (inl (m, h, reliable)) = left m reliable (subst (λ (l : List Numbered). Has l m) is h)
        kept (inr (t, h)) = inr (t, pushed-if (controlling.is_reliable x.control) c.sent (controlling.begun now wait x) t h)

        by : (b : Bool) → cond b (Some u) None ≡ Some n → HasControl n.commands
        by true k = after u k (kept has)
        by false k = absurd (cc)

    from_sent : (i : ℕ) (p : Option SentControl) → slice_get c.sent i ≡ p → controlling.next_resent now c i p ≡ Some n → HasControl n.commands
    from_sent i None there k = absurd (cc)
    from_sent i (Some p) there k =
        after (record { command = p.command; commands = record c { sent = slice_set c.sent i (controlling.again now p) } }) k (inr (controlling.again now p, set-has c.sent i (controlling.again now p) p there))

    go : (w : Option ℕ) → controlling.next_of now wait c w ≡ Some n → HasControl n.commands
    go None k = from_queue c.queued refl k
    go (Some i) k = from_sent i (slice_get c.sent i) refl k

pub controlled-filled : (pace : Pace) (o : Outbox) → HasControl o.control → HasControl (filled pace o).outbox.control
controlled-filled pace o has = by-filling pace o (λ f. HasControl f.outbox.control) (record {
  closes = λ f h. h;
  acknowledges = λ f a rest e h. h;
  controls = λ f n e h. stays-controlled pace.now pace.timeout f.outbox.control n e h;
  puts_unsequenced = λ f u rest t e h. h;
  drops_unsequenced = λ f u rest t e h. h;
  puts_data = λ f k s n t there due h. h;
  drops_data = λ f k s n t there due kind h. h;
  keeps_room = λ f i x there wants h. h;
  gives_room = λ f i x n there due h. h;
}) has

none-of : {X : Type 0} (xs : List X) (x : X) → (length xs == 0) ≡ true → Has xs x → ⊥
none-of [] x e h = h
none-of (y ∷ xs) x e h = never (length xs) e
  where
    never : (n : ℕ) → (suc n == 0) ≡ true → ⊥
    never n e = grind (arith, nat_tests)

pub not-idle : (c : Commands) → HasControl c → controlling.is_idle c ≡ true → ⊥
not-idle c (inl (n, h, r)) e = none-of c.queued n (and-left (length c.queued == 0) (length c.sent == 0) e) h
not-idle c (inr (t, h)) e = none-of c.sent t (and-right (length c.queued == 0) (length c.sent == 0) e) h
