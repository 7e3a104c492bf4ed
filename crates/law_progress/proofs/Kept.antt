-- No reliable command is lost on its way into a datagram: what leaves a queue, and what ceases to be due, is put in.
use Rattle.std.proofs.Common.{◌≡◌, ℕ, zero, suc, Bool, true, false, cond, List, [], ◌∷◌, ◌++◌, refl, sym, ap, subst, ◌∙◌, inl, inr, ◌⊎◌, Some}
use Rattle.std.specs.List.{slice_get, slice_set}
use Rattle.enet_codec.specs.Message.{Message}
use Rattle.enet_senders.specs.Controlling as controlling
use Rattle.enet_senders.specs.Controlling.{Commands}
use Rattle.enet_senders.specs.declared.control.Numbered.{Numbered}
use Rattle.enet_senders.specs.declared.control.SentControl.{SentControl}
use Rattle.enet_fragment.specs.declared.data.DataCommand.{DataCommand}
use Rattle.enet_fragment.specs.DataCommand.{message_of}
use Rattle.enet_sender.specs.declared.sent.Sent.{Sent}
use Rattle.enet_sender.specs.Sender as sender
use Rattle.enet_sender.specs.declared.outgoing.Occasion.{Occasion}
use Rattle.enet_sender.specs.Sender.{Sender, Next, with_skipped}
use Rattle.enet_sender.specs.Due.{SendingEnd}
use Rattle.enet_outbox.specs.declared.parts.Acknowledgement.{Acknowledgement}
use Rattle.enet_outbox.specs.declared.parts.Pace.{Pace}
use Rattle.enet_outbox.specs.Outbox.{Outbox}
use Rattle.enet_outbox.specs.Emission.{Filling, acknowledgement_of, filled}
use Rattle.enet_outbox.proofs.Filled.{by-filling}
use Rattle.enet_receiver.specs.Members.{Has}
use Rattle.law_connection.proofs.Lists.{Has-push, Has-push_left}
use Rattle.law_progress.specs.Outboxes.{GoOrStay}
use Rattle.law_progress.proofs.Controls.{GoesControl, Heads, Repeats, goes-control}
use Rattle.law_progress.proofs.SomethingGoes.{get-set, set-other, set-same, same-number, skips-unreliable}
use Rattle.law_progress.proofs.Spent.{Goes, First, Again, goes-of}

-- a member stays where another place is set
pub stays-set : {X : Type 0} (xs : List X) (i : ℕ) (p x y : X) → slice_get xs i ≡ Some p → Has xs x → Has (slice_set xs i y) x ⊎ (p ≡ x)
stays-set [] i p x y e h = absurd h
stays-set (z ∷ zs) zero p x y e (inl same) = (let it : z ≡ p = cc in inr (sym it ∙ same))
stays-set (z ∷ zs) zero p x y e (inr h) = inl (inr h)
stays-set (z ∷ zs) (suc i) p x y e (inl same) = inl (inl same)
stays-set (z ∷ zs) (suc i) p x y e (inr h) = elim (stays-set zs i p x y e h) [ inl k ↦ inl (inr k) | inr k ↦ inr k ]

-- channel 0xFF
queued-control : (now wait : ℕ) (c : Commands) (n : controlling.Next) (x : Numbered) → GoesControl now wait c n → Has c.queued x → Has n.commands.queued x ⊎ (n.command ≡ x)
queued-control now wait c n x (Heads y rest q is) h = elim (subst (λ (l : List Numbered). Has l x) q h) [
  | inl same ↦ inr (ap (λ (k : controlling.Next). k.command) (sym is) ∙ same)
  | inr old ↦ inl (subst (λ (k : controlling.Next). Has k.commands.queued x) is old)
]
queued-control now wait c n x (Repeats i p there due is) h = inl (subst (λ (k : controlling.Next). Has k.commands.queued x) is h)

sent-control : (now wait : ℕ) (c : Commands) (n : controlling.Next) (t : SentControl) → GoesControl now wait c n → Has c.sent t → Has n.commands.sent t ⊎ (n.command ≡ t.command)
sent-control now wait c n t (Heads y rest q is) h = inl (subst (λ (k : controlling.Next). Has k.commands.sent t) is (by (controlling.is_reliable y.control)))
  where
    by : (b : Bool) → Has (cond b (c.sent ++ controlling.begun now wait y ∷ []) c.sent) t
    by true = Has-push_left c.sent (controlling.begun now wait y) t h
    by false = h
sent-control now wait c n t (Repeats i p there due is) h = elim (stays-set c.sent i p t (controlling.again now p) there h) [
  | inl stays ↦ inl (subst (λ (k : controlling.Next). Has k.commands.sent t) is stays)
  | inr same ↦ inr (ap (λ (k : controlling.Next). k.command) (sym is) ∙ ap (λ (y : SentControl). y.command) same)
]

-- a channel
queued-data : (o : Occasion) (s : Sender) (n : Next) (x : DataCommand) → Goes o s n → Has s.queued x → Has n.sender.queued x ⊎ (n.command ≡ x)
queued-data o s n x (First c rest q may is) h = elim (subst (λ (l : List DataCommand). Has l x) q h) [
  | inl same ↦ inr (ap (λ (k : Next). k.command) (sym is) ∙ same)
  | inr old ↦ inl (subst (λ (k : Next). Has k.sender.queued x) is old)
]
queued-data o s n x (Again i p there due is) h = inl (subst (λ (k : Next). Has k.sender.queued x) is h)

sent-data : (o : Occasion) (s : Sender) (n : Next) (t : Sent) → Goes o s n → Has s.sent t → Has n.sender.sent t ⊎ (n.command ≡ t.command)
sent-data o s n t (First c rest q may is) h = inl (subst (λ (k : Next). Has k.sender.sent t) is (by c.reliable))
  where
    by : (b : Bool) → Has (cond b (s.sent ++ sender.begun o.now o.timeout c ∷ []) s.sent) t
    by true = Has-push_left s.sent (sender.begun o.now o.timeout c) t h
    by false = h
sent-data o s n t (Again i p there due is) h = elim (stays-set s.sent i p t (sender.again o.now p) there h) [
  | inl stays ↦ inl (subst (λ (k : Next). Has k.sender.sent t) is stays)
  | inr same ↦ inr (ap (λ (k : Next). k.command) (sym is) ∙ ap (λ (y : Sent). y.command) same)
]

-- what a channel still has, or what was put in
record Stays (at : ℕ) (channel : ℕ) (c : DataCommand) (has : Sender → Type 0) (f : Filling) : Type 0 where
  stays : (t : SendingEnd) → slice_get f.outbox.senders at ≡ Some t → (t.channel ≡ channel) × (has t.sender ⊎ Has f.messages (message_of channel c))

-- a reliable command of a channel, in a list that is left only by what goes
stays-kept : (pace : Pace) (o : Outbox) (at : ℕ) (s : SendingEnd) (c : DataCommand) (has : Sender → Type 0) → slice_get o.senders at ≡ Some s → c.reliable ≡ true
    → ((u : Occasion) (a : Sender) (n : Next) → Goes u a n → has a → has n.sender ⊎ (n.command ≡ c)) → ((a : Sender) → has a → has (with_skipped a)) → has s.sender → Stays at s.channel c has (filled pace o)
stays-kept pace o at s c has there reliable goes skips h = by-filling pace o (Stays at s.channel c has) (record {
  closes = λ f g. record { stays = g.stays };
  acknowledges = λ f a rest e g. record { stays = λ t w. (let k = g.stays t w in (k.0, later f _ k.1)) };
  controls = λ f n e g. record { stays = λ t w. (let k = g.stays t w in (k.0, later f _ k.1)) };
  puts_unsequenced = λ f u rest t e g. record { stays = λ x w. (let k = g.stays x w in (k.0, later f _ k.1)) };
  drops_unsequenced = λ f u rest t e g. record { stays = g.stays };
  puts_data = λ f k y n t on due g. record {
    stays = λ x w. elim (get-set f.outbox.senders k at (record y { sender = n.sender }) x w) [
      | inl m ↦
          let old = g.stays y (subst (λ j. slice_get f.outbox.senders j ≡ Some y) m.0 on) in
          let same : s.channel ≡ y.channel = sym old.0 in
          (subst (λ (z : SendingEnd). z.channel ≡ s.channel) m.1 old.0, put f y n (goes-of _ y.sender n due) same x m.1 old.1)
      | inr m ↦ let k = g.stays x m.1 in (k.0, later f _ k.1)
    ];
  };
  drops_data = λ f k y n t on due kind g. record {
    stays = λ x w. elim (get-set f.outbox.senders k at (record y { sender = with_skipped n.sender }) x w) [
      | inl m ↦
          let old = g.stays y (subst (λ j. slice_get f.outbox.senders j ≡ Some y) m.0 on) in
          (subst (λ (z : SendingEnd). z.channel ≡ s.channel) m.1 old.0, drop f y n (goes-of _ y.sender n due) kind x m.1 old.1)
      | inr m ↦ g.stays x m.1
    ];
  };
  keeps_room = λ f i x there wants g. record { stays = g.stays };
  gives_room = λ f i x n there due g. record { stays = g.stays };
}) (record { stays = λ t w. (let one : Some s ≡ Some t = sym there ∙ w in let it : s ≡ t = cc in (ap (λ (z : SendingEnd). z.channel) (sym it), inl (subst (λ (z : SendingEnd). has z.sender) it h))) })
  where
    later : {X : Type 0} (f : Filling) (m : Message) → X ⊎ Has f.messages (message_of s.channel c) → X ⊎ Has (f.messages ++ m ∷ []) (message_of s.channel c)
    later f m (inl x) = inl x
    later f m (inr h) = inr (Has-push_left f.messages m (message_of s.channel c) h)

    put : {u : Occasion} (f : Filling) (y : SendingEnd) (n : Next) → Goes u y.sender n → s.channel ≡ y.channel → (x : SendingEnd) → ◌≡◌ {A = SendingEnd} (record y { sender = n.sender }) x → has y.sender ⊎ Has f.messages (message_of s.channel c)
        → has x.sender ⊎ Has (f.messages ++ message_of y.channel n.command ∷ []) (message_of s.channel c)
    put {u} f y n g same x is (inr h) = inr (Has-push_left f.messages (message_of y.channel n.command) (message_of s.channel c) h)
    put {u} f y n g same x is (inl h) = elim (goes u y.sender n g h) [
      | inl stays ↦ inl (subst (λ (z : SendingEnd). has z.sender) is stays)
      | inr now ↦ inr (subst (λ m. Has (f.messages ++ message_of y.channel n.command ∷ []) m) (ap (λ j. message_of j n.command) (sym same) ∙ ap (message_of s.channel) now) (Has-push f.messages (message_of y.channel n.command)))
    ]

    drop : {u : Occasion} (f : Filling) (y : SendingEnd) (n : Next) → Goes u y.sender n → n.command.reliable ≡ false → (x : SendingEnd) → ◌≡◌ {A = SendingEnd} (record y { sender = with_skipped n.sender }) x → has y.sender ⊎ Has f.messages (message_of s.channel c)
        → has x.sender ⊎ Has f.messages (message_of s.channel c)
    drop {u} f y n g kind x is (inr h) = inr h
    drop {u} f y n g kind x is (inl h) = elim (goes u y.sender n g h) [
      | inl stays ↦ inl (subst (λ (z : SendingEnd). has z.sender) is (skips n.sender stays))
      | inr now ↦ absurd (let z : true ≡ false = sym reliable ∙ ap (λ (d : DataCommand). d.reliable) (sym now) ∙ kind in cc)
    ]

-- a channel stays, where one changed
abbrev Still : ℕ → ℕ → List SendingEnd → Type 0
Still i channel xs = (t : SendingEnd) × (slice_get xs i ≡ Some t) × (t.channel ≡ channel)

still : (i channel : ℕ) (xs : List SendingEnd) (k : ℕ) (y new : SendingEnd) → slice_get xs k ≡ Some y → new.channel ≡ y.channel → Still i channel xs → Still i channel (slice_set xs k new)
still i channel xs k y new there same (t, at, on) = elim (same-number k i) [
  | inl is ↦
      let one : Some y ≡ Some t = sym there ∙ ap (slice_get xs) is ∙ at in
      let it : y ≡ t = cc in
      (new, subst (λ j. slice_get (slice_set xs k new) j ≡ Some new) is (set-same xs k new y there), same ∙ ap (λ (z : SendingEnd). z.channel) it ∙ on)
  | inr apart ↦ (t, set-other xs k i new t apart at, on)
]

pub go-or-stay : (pace : Pace) (o : Outbox) → GoOrStay o (filled pace o)
go-or-stay pace o = record {
  queued = λ i s t there here c h reliable. (let k = stays-kept pace o i s c (λ a. Has a.queued c) there reliable (λ u a n g j. queued-data u a n c g j) (λ a j. skips-unreliable a.queued c j reliable) h in let z = k.stays t here in z.1);
  acknowledgements = λ a h. by-filling pace o (λ f. Has f.outbox.acknowledgements a ⊎ Has f.messages (acknowledgement_of a)) (record {
    closes = λ f g. g;
    acknowledges = λ f x rest e g. elim g [
      | inr j ↦ inr (Has-push_left f.messages _ (acknowledgement_of a) j)
      | inl j ↦ elim (subst (λ (l : List Acknowledgement). Has l a) e j) [
        | inl now ↦ inr (subst (λ m. Has (f.messages ++ acknowledgement_of x ∷ []) m) (ap acknowledgement_of now) (Has-push f.messages (acknowledgement_of x)))
        | inr stays ↦ inl stays
      ]
    ];
    controls = λ f n e g. later f (acknowledgement_of a) _ g;
    puts_unsequenced = λ f u rest t e g. later f (acknowledgement_of a) _ g;
    drops_unsequenced = λ f u rest t e g. g;
    puts_data = λ f k s x t there due g. later f (acknowledgement_of a) _ g;
    drops_data = λ f k s x t there due kind g. g;
    keeps_room = λ f i x there wants g. g;
    gives_room = λ f i x n there due g. g;
  }) (inl h);
  there = λ i s e. by-filling pace o (λ f. Still i s.channel f.outbox.senders) (record {
    closes = λ f g. g;
    acknowledges = λ f a rest e g. g;
    controls = λ f n e g. g;
    puts_unsequenced = λ f u rest t e g. g;
    drops_unsequenced = λ f u rest t e g. g;
    puts_data = λ f k y n t there due g. still i s.channel f.outbox.senders k y (record y { sender = n.sender }) there refl g;
    drops_data = λ f k y n t there due kind g. still i s.channel f.outbox.senders k y (record y { sender = with_skipped n.sender }) there refl g;
    keeps_room = λ f i x there wants g. g;
    gives_room = λ f i x n there due g. g;
  }) (s, e, refl);
  due = λ i s t there here p h reliable. (let k = stays-kept pace o i s p.command (λ a. Has a.sent p) there reliable (λ u a n g j. sent-data u a n p g j) (λ a j. j) h in let z = k.stays t here in z.1);
  controls = λ n h. by-filling pace o (λ f. Has f.outbox.control.queued n ⊎ Has f.messages (controlling.message_of n)) (record {
    closes = λ f g. g;
    acknowledges = λ f a rest e g. later f (controlling.message_of n) _ g;
    controls = λ f x e g. elim g [
      | inr j ↦ inr (Has-push_left f.messages _ (controlling.message_of n) j)
      | inl j ↦ elim (queued-control _ _ f.outbox.control x n (goes-control _ _ f.outbox.control x e) j) [
        | inl stays ↦ inl stays
        | inr now ↦ inr (subst (λ m. Has (f.messages ++ controlling.message_of x.command ∷ []) m) (ap controlling.message_of now) (Has-push f.messages (controlling.message_of x.command)))
      ]
    ];
    puts_unsequenced = λ f u rest t e g. later f (controlling.message_of n) _ g;
    drops_unsequenced = λ f u rest t e g. g;
    puts_data = λ f k s x t there due g. later f (controlling.message_of n) _ g;
    drops_data = λ f k s x t there due kind g. g;
    keeps_room = λ f i x there wants g. g;
    gives_room = λ f i x n there due g. g;
  }) (inl h);
  due_controls = λ p h. by-filling pace o (λ f. Has f.outbox.control.sent p ⊎ Has f.messages (controlling.message_of p.command)) (record {
    closes = λ f g. g;
    acknowledges = λ f a rest e g. later f (controlling.message_of p.command) _ g;
    controls = λ f x e g. elim g [
      | inr j ↦ inr (Has-push_left f.messages _ (controlling.message_of p.command) j)
      | inl j ↦ elim (sent-control _ _ f.outbox.control x p (goes-control _ _ f.outbox.control x e) j) [
        | inl stays ↦ inl stays
        | inr now ↦ inr (subst (λ m. Has (f.messages ++ controlling.message_of x.command ∷ []) m) (ap controlling.message_of now) (Has-push f.messages (controlling.message_of x.command)))
      ]
    ];
    puts_unsequenced = λ f u rest t e g. later f (controlling.message_of p.command) _ g;
    drops_unsequenced = λ f u rest t e g. g;
    puts_data = λ f k s x t there due g. later f (controlling.message_of p.command) _ g;
    drops_data = λ f k s x t there due kind g. g;
    keeps_room = λ f i x there wants g. g;
    gives_room = λ f i x n there due g. g;
  }) (inl h);
}
  where
    later : {X : Type 0} (f : Filling) (m k : Message) → X ⊎ Has f.messages m → X ⊎ Has (f.messages ++ k ∷ []) m
    later f m k (inl x) = inl x
    later f m k (inr h) = inr (Has-push_left f.messages k m h)
