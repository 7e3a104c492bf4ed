-- What filling a datagram makes of the channels: fewer commands are outstanding, or a reliable one is put in and waits, or nothing went.
use Rattle.std.proofs.Common.{◌≡◌, ℕ, zero, suc, ◌+◌, ◌<◌, ◌≤◌, Bool, true, false, cond, List, [], ◌∷◌, ◌++◌, length, refl, sym, ap, subst, ◌∙◌, inl, inr, ◌⊎◌, arith, Some}
use Rattle.std.specs.List.{slice_get, slice_set}
use Rattle.enet_codec.specs.Message.{Message}
use Rattle.enet_fragment.specs.declared.data.DataCommand.{DataCommand}
use Rattle.enet_fragment.specs.DataCommand.{message_of}
use Rattle.enet_sender.specs.declared.outgoing.Occasion.{Occasion}
use Rattle.enet_sender.specs.Sender.{Sender, Next, again, begun, with_skipped}
use Rattle.enet_sender.specs.declared.sent.Sent.{Sent}
use Rattle.enet_sender.specs.Due.{SendingEnd}
use Rattle.enet_outbox.specs.declared.parts.Pace.{Pace}
use Rattle.enet_outbox.specs.Outbox.{Outbox}
use Rattle.enet_outbox.specs.Emission.{filled}
use Rattle.enet_outbox.proofs.Filled.{by-filling}
use Rattle.enet_receiver.specs.Members.{Has}
use Rattle.law_connection.proofs.Lists.{Has-push, Has-push_left}
use Rattle.law_progress.specs.Links.{outstanding_at}
use Rattle.law_progress.specs.Exchanges.{outstanding_over, HasSent}
use Rattle.law_progress.proofs.Carried.{nums, set-nums, set-length, Has-more}
use Rattle.law_progress.proofs.SomethingGoes.{get-set, set-other, set-same, same-number, skipped-length}
use Rattle.law_progress.proofs.Spent.{Goes, First, Again, goes-of}
use Rattle.law_progress.proofs.Waiting.{Has-at, Has-set, Has-pushed}

-- how many are outstanding, where one channel changed
pub over-set : (xs : List SendingEnd) (k : ℕ) (x y : SendingEnd) → slice_get xs k ≡ Some x → outstanding_over (slice_set xs k y) + outstanding_at x.sender ≡ outstanding_over xs + outstanding_at y.sender
over-set [] k x y t = absurd (cc)
over-set (z ∷ zs) zero x y t =
    let it : z ≡ x = cc in
    let same : outstanding_at z.sender ≡ outstanding_at x.sender = ap (λ (s : SendingEnd). outstanding_at s.sender) it in
    omega arith
over-set (z ∷ zs) (suc k) x y t = let rest = over-set zs k x y t in omega arith

abbrev pub AreReliable : List Sent → Type 0
AreReliable sent = (t : Sent) → Has sent t → t.command.reliable ≡ true

-- a sender puts out what is due next: fewer are outstanding, or a reliable command went, and waits
record Stepped (now : ℕ) (s : Sender) (n : Next) : Type 0 where
  least : outstanding_at n.sender ≤ outstanding_at s
  how : (outstanding_at n.sender < outstanding_at s) ⊎ ((n.command.reliable ≡ true) × (t : Sent) × Has n.sender.sent t × (t.command.number ≡ n.command.number) × (t.transmission.last ≡ now))
  kept : (x : ℕ) → Has (nums s.sent) x → Has (nums n.sender.sent) x
  reliable : AreReliable n.sender.sent
  unreliable : n.command.reliable ≡ false → outstanding_at n.sender < outstanding_at s
  from : (t : Sent) → Has n.sender.sent t → Has s.sent t ⊎ ((n.command.reliable ≡ true) × (n.command.number ≡ t.command.number) × (t.transmission.last ≡ now))

stepped : (o : Occasion) (s : Sender) (n : Next) → AreReliable s.sent → Goes o s n → Stepped o.now s n
stepped o s n all (First c rest q may is) = subst (λ (x : Next). Stepped o.now s x) is (by c.reliable refl)
  where
    p : Sent
    p = begun o.now o.timeout c

    fewer : length s.queued ≡ suc (length rest)
    fewer = ap (λ (l : List DataCommand). length l) q

    longer : (xs : List Sent) → length (xs ++ p ∷ []) ≡ length xs + 1
    longer [] = refl
    longer (x ∷ xs) = let k = longer xs in omega arith

    first : Bool → Next
    first b = record { command = c; added = cond b (length c.body) 0; price = cond b (length c.body + 28) 0; is_resend = false; sender = record s { queued = rest; sent = cond b (s.sent ++ p ∷ []) s.sent } }

    by : (b : Bool) → c.reliable ≡ b → Stepped o.now s (first c.reliable)
    by true e = subst (λ b. Stepped o.now s (first b)) (sym e) (record {
      least = (let k : length (s.sent ++ p ∷ []) ≡ length s.sent + 1 = longer s.sent in let f : length s.queued ≡ suc (length rest) = fewer in omega arith);
      how = inr (e, p, Has-push s.sent p, refl, refl);
      kept = λ x h. Has-more s.sent (p ∷ []) x h;
      reliable = λ t h. elim (Has-pushed s.sent p t h) [ inl same ↦ subst (λ (y : Sent). y.command.reliable ≡ true) same e | inr old ↦ all t old ];
      unreliable = λ f. absurd (let z : true ≡ false = sym e ∙ f in cc);
      from = λ t h. elim (Has-pushed s.sent p t h) [ inl same ↦ inr (e, ap (λ (y : Sent). y.command.number) same, ap (λ (y : Sent). y.transmission.last) (sym same)) | inr old ↦ inl old ];
    })
    by false e = subst (λ b. Stepped o.now s (first b)) (sym e) (record {
      least = (let k : length (cond false (s.sent ++ p ∷ []) s.sent) ≡ length s.sent = refl in let f : length s.queued ≡ suc (length rest) = fewer in omega arith);
      how = inl (let k : length (cond false (s.sent ++ p ∷ []) s.sent) ≡ length s.sent = refl in let f : length s.queued ≡ suc (length rest) = fewer in omega arith);
      kept = λ x h. h;
      reliable = all;
      unreliable = λ z. (let k : length (cond false (s.sent ++ p ∷ []) s.sent) ≡ length s.sent = refl in let f : length s.queued ≡ suc (length rest) = fewer in omega arith);
      from = λ t h. inl h;
    })
stepped o s n all (Again i p there due is) = subst (λ (x : Next). Stepped o.now s x) is (record {
  least = (let k = set-length s.sent i (again o.now p) in omega arith);
  how = inr (all p has, again o.now p, Has-at (slice_set s.sent i (again o.now p)) i (again o.now p) (set-same s.sent i (again o.now p) p there), refl, refl);
  kept = λ x h. subst (λ (l : List ℕ). Has l x) (sym same) h;
  reliable = λ t h. elim (Has-set s.sent i (again o.now p) t h) [ inl now ↦ subst (λ (y : Sent). y.command.reliable ≡ true) now (all p has) | inr old ↦ all t old ];
  unreliable = λ f. absurd (let z : true ≡ false = sym (all p has) ∙ f in cc);
  from = λ t h. elim (Has-set s.sent i (again o.now p) t h) [ inl now ↦ inr (all p has, ap (λ (y : Sent). y.command.number) now, ap (λ (y : Sent). y.transmission.last) (sym now)) | inr old ↦ inl old ];
})
  where
    has : Has s.sent p
    has = Has-at s.sent i p there

    same : nums (slice_set s.sent i (again o.now p)) ≡ nums s.sent
    same = set-nums s.sent i o.now p there

-- a reliable command of a channel was put in at this moment, and waits
pub record Went (now : ℕ) (ms : List Message) (ys : List SendingEnd) : Type 0 where
  pub channel : ℕ
  pub end : SendingEnd
  pub there : slice_get ys channel ≡ Some end
  pub command : DataCommand
  pub reliable : command.reliable ≡ true
  pub put : Has ms (message_of channel command)
  pub sent : Sent
  pub waits : Has end.sender.sent sent
  pub number : sent.command.number ≡ command.number
  pub last : sent.transmission.last ≡ now

-- each sender has the channel of its place, and what waits is reliable
abbrev pub AreSound : List SendingEnd → Type 0
AreSound senders = (k : ℕ) (s : SendingEnd) → slice_get senders k ≡ Some s → (s.channel ≡ k) × AreReliable s.sender.sent

-- the channels were xs, and are ys since these messages were put in
pub record Emitted (now : ℕ) (xs : List SendingEnd) (ms : List Message) (ys : List SendingEnd) : Type 0 where
  pub least : outstanding_over ys ≤ outstanding_over xs
  pub sound : AreSound ys
  pub how : (ys ≡ xs) ⊎ ((outstanding_over ys < outstanding_over xs) ⊎ Went now ms ys)

-- nothing of a channel went
more : (now : ℕ) (xs : List SendingEnd) (ms : List Message) (ys : List SendingEnd) (m : Message) → Emitted now xs ms ys → Emitted now xs (ms ++ m ∷ []) ys
more now xs ms ys m e = record {
  least = e.least;
  sound = e.sound;
  how = elim e.how [
    | inl same ↦ inl same
    | inr b ↦ elim b [
      | inl less ↦ inr (inl less)
      | inr w ↦ inr (inr (record { channel = w.channel; end = w.end; there = w.there; command = w.command; reliable = w.reliable; put = Has-push_left ms m (message_of w.channel w.command) w.put; sent = w.sent; waits = w.waits; number = w.number; last = w.last }))
    ]
  ];
}

sound-set : (xs : List SendingEnd) (k : ℕ) (s new : SendingEnd) → slice_get xs k ≡ Some s → new.channel ≡ s.channel → AreReliable new.sender.sent → AreSound xs → AreSound (slice_set xs k new)
sound-set xs k s new there same reliable all j y e = elim (get-set xs k j new y e) [
  | inl w ↦ (subst (λ (z : SendingEnd). z.channel ≡ j) w.1 (same ∙ (all k s there).0 ∙ w.0), subst (λ (z : SendingEnd). AreReliable z.sender.sent) w.1 reliable)
  | inr w ↦ all j y w.1
]

puts : (now : ℕ) (xs : List SendingEnd) (ms : List Message) (ys : List SendingEnd) (k : ℕ) (s : SendingEnd) (n : Next) → slice_get ys k ≡ Some s → Emitted now xs ms ys → Stepped now s.sender n
    → Emitted now xs (ms ++ message_of s.channel n.command ∷ []) (slice_set ys k (record s { sender = n.sender }))
puts now xs ms ys k s n there e p = record {
  least = (let a = total in let b = e.least in let c = p.least in omega arith);
  sound = sound-set ys k s new there refl p.reliable e.sound;
  how = elim p.how [
    | inl less ↦ inr (inl (let a = total in let b = e.least in omega arith))
    | inr w ↦ inr (inr (record {
      channel = k;
      end = new;
      there = set-same ys k new s there;
      command = n.command;
      reliable = w.0;
      put = subst (λ j. Has (ms ++ message_of s.channel n.command ∷ []) (message_of j n.command)) (e.sound k s there).0 (Has-push ms (message_of s.channel n.command));
      sent = w.1;
      waits = w.2;
      number = w.3;
      last = w.4;
    }))
  ];
}
  where
    new : SendingEnd
    new = record s { sender = n.sender }

    total : outstanding_over (slice_set ys k new) + outstanding_at s.sender ≡ outstanding_over ys + outstanding_at n.sender
    total = over-set ys k s new there

drops : (now : ℕ) (xs : List SendingEnd) (ms : List Message) (ys : List SendingEnd) (k : ℕ) (s : SendingEnd) (n : Next) → slice_get ys k ≡ Some s → n.command.reliable ≡ false → Emitted now xs ms ys → Stepped now s.sender n
    → Emitted now xs ms (slice_set ys k (record s { sender = with_skipped n.sender }))
drops now xs ms ys k s n there kind e p = record {
  least = (let a = total in let b = e.least in let c = p.unreliable kind in let d = skipped-length n.sender.queued in omega arith);
  sound = sound-set ys k s new there refl p.reliable e.sound;
  how = inr (inl (let a = total in let b = e.least in let c = p.unreliable kind in let d = skipped-length n.sender.queued in omega arith));
}
  where
    new : SendingEnd
    new = record s { sender = with_skipped n.sender }

    total : outstanding_over (slice_set ys k new) + outstanding_at s.sender ≡ outstanding_over ys + outstanding_at (with_skipped n.sender)
    total = over-set ys k s new there

pub emitted : (pace : Pace) (o : Outbox) → AreSound o.senders → Emitted pace.now o.senders (filled pace o).messages (filled pace o).outbox.senders
emitted pace o all = by-filling pace o (λ f. Emitted pace.now o.senders f.messages f.outbox.senders) (record {
  closes = λ f e. e;
  acknowledges = λ f a rest t e. more pace.now o.senders f.messages f.outbox.senders _ e;
  controls = λ f n t e. more pace.now o.senders f.messages f.outbox.senders _ e;
  puts_unsequenced = λ f u rest t is e. more pace.now o.senders f.messages f.outbox.senders _ e;
  drops_unsequenced = λ f u rest t is e. e;
  puts_data = λ f k s n t there due e. puts pace.now o.senders f.messages f.outbox.senders k s n there e (stepped _ s.sender n (e.sound k s there).1 (goes-of _ s.sender n due));
  drops_data = λ f k s n t there due kind e. drops pace.now o.senders f.messages f.outbox.senders k s n there kind e (stepped _ s.sender n (e.sound k s there).1 (goes-of _ s.sender n due));
  keeps_room = λ f i x there wants e. e;
  gives_room = λ f i x n there due e. e;
}) (record { least = omega arith; sound = all; how = inl refl })

-- what waits on a channel
abbrev pub Waits : List SendingEnd → ℕ → ℕ → Type 0
Waits senders channel number = (s : SendingEnd) × (slice_get senders channel ≡ Some s) × Has (nums s.sender.sent) number

waits-set : (xs : List SendingEnd) (k : ℕ) (s new : SendingEnd) (channel number : ℕ) → slice_get xs k ≡ Some s → ((x : ℕ) → Has (nums s.sender.sent) x → Has (nums new.sender.sent) x) → Waits xs channel number → Waits (slice_set xs k new) channel number
waits-set xs k s new channel number there kept w = elim (same-number k channel) [
  | inl is ↦
      let one : Some s ≡ Some w.0 = sym there ∙ ap (slice_get xs) is ∙ w.1 in
      let it : s ≡ w.0 = cc in
      (new, subst (λ j. slice_get (slice_set xs k new) j ≡ Some new) is (set-same xs k new s there), kept number (subst (λ (y : SendingEnd). Has (nums y.sender.sent) number) (sym it) w.2))
  | inr apart ↦ (w.0, set-other xs k channel new w.0 apart w.1, w.2)
]

-- what waits goes on to wait while datagrams are filled
pub emitted-waits : (pace : Pace) (o : Outbox) (channel number : ℕ) → AreSound o.senders → Waits o.senders channel number → Waits (filled pace o).outbox.senders channel number
emitted-waits pace o channel number all w = (by-filling pace o (λ f. Emitted pace.now o.senders f.messages f.outbox.senders × Waits f.outbox.senders channel number) (record {
  closes = λ f e. e;
  acknowledges = λ f a rest t e. (more pace.now o.senders f.messages f.outbox.senders _ e.0, e.1);
  controls = λ f n t e. (more pace.now o.senders f.messages f.outbox.senders _ e.0, e.1);
  puts_unsequenced = λ f u rest t is e. (more pace.now o.senders f.messages f.outbox.senders _ e.0, e.1);
  drops_unsequenced = λ f u rest t is e. e;
  puts_data = λ f k s n t there due e. (let p = stepped _ s.sender n (e.0.sound k s there).1 (goes-of _ s.sender n due) in
      (puts pace.now o.senders f.messages f.outbox.senders k s n there e.0 p, waits-set f.outbox.senders k s (record s { sender = n.sender }) channel number there p.kept e.1));
  drops_data = λ f k s n t there due kind e. (let p = stepped _ s.sender n (e.0.sound k s there).1 (goes-of _ s.sender n due) in
      (drops pace.now o.senders f.messages f.outbox.senders k s n there kind e.0 p, waits-set f.outbox.senders k s (record s { sender = with_skipped n.sender }) channel number there p.kept e.1));
  keeps_room = λ f i x there wants e. e;
  gives_room = λ f i x n there due e. e;
}) (record { least = omega arith; sound = all; how = inl refl }, w)).1

-- this reliable command was put in at this moment
abbrev pub PutIn : ℕ → List Message → ℕ → Sent → Type 0
PutIn now ms channel t = (c : DataCommand) × (c.reliable ≡ true) × (c.number ≡ t.command.number) × Has ms (message_of channel c) × (t.transmission.last ≡ now)

-- all that waits waited before, or was put in
abbrev AllFrom : ℕ → List SendingEnd → List Message → List SendingEnd → Type 0
AllFrom now xs ms ys = (channel : ℕ) (t : Sent) → HasSent ys channel t → HasSent xs channel t ⊎ PutIn now ms channel t

more-from : (now : ℕ) (xs : List SendingEnd) (ms : List Message) (ys : List SendingEnd) (m : Message) → AllFrom now xs ms ys → AllFrom now xs (ms ++ m ∷ []) ys
more-from now xs ms ys m all channel t h = elim (all channel t h) [ inl old ↦ inl old | inr w ↦ inr (w.0, w.1, w.2, Has-push_left ms m (message_of channel w.0) w.3, w.4) ]

set-from : (now : ℕ) (xs : List SendingEnd) (ms : List Message) (ys : List SendingEnd) (k : ℕ) (s new : SendingEnd) (more : List Message) → slice_get ys k ≡ Some s → AllFrom now xs ms ys → ((m : Message) → Has ms m → Has more m)
    → ((t : Sent) → Has new.sender.sent t → Has s.sender.sent t ⊎ PutIn now more k t) → AllFrom now xs more (slice_set ys k new)
set-from now xs ms ys k s new more there all grows from channel t h = elim (get-set ys k channel new h.0 h.1) [
  | inl w ↦ elim (from t (subst (λ (y : SendingEnd). Has y.sender.sent t) (sym w.1) h.2)) [
    | inl old ↦ was (all channel t (s, subst (λ j. slice_get ys j ≡ Some s) w.0 there, old))
    | inr put ↦ inr (subst (λ j. PutIn now more j t) w.0 put)
  ]
  | inr w ↦ was (all channel t (h.0, w.1, h.2))
]
  where
    was : HasSent xs channel t ⊎ PutIn now ms channel t → HasSent xs channel t ⊎ PutIn now more channel t
    was (inl old) = inl old
    was (inr w) = inr (w.0, w.1, w.2, grows (message_of channel w.0) w.3, w.4)

pub emitted-from : (pace : Pace) (o : Outbox) → AreSound o.senders → AllFrom pace.now o.senders (filled pace o).messages (filled pace o).outbox.senders
emitted-from pace o all = (by-filling pace o (λ f. Emitted pace.now o.senders f.messages f.outbox.senders × AllFrom pace.now o.senders f.messages f.outbox.senders) (record {
  closes = λ f e. e;
  acknowledges = λ f a rest t e. (more pace.now o.senders f.messages f.outbox.senders _ e.0, more-from pace.now o.senders f.messages f.outbox.senders _ e.1);
  controls = λ f n t e. (more pace.now o.senders f.messages f.outbox.senders _ e.0, more-from pace.now o.senders f.messages f.outbox.senders _ e.1);
  puts_unsequenced = λ f u rest t is e. (more pace.now o.senders f.messages f.outbox.senders _ e.0, more-from pace.now o.senders f.messages f.outbox.senders _ e.1);
  drops_unsequenced = λ f u rest t is e. e;
  puts_data = λ f k s n t there due e. (let p = stepped _ s.sender n (e.0.sound k s there).1 (goes-of _ s.sender n due) in (
    puts pace.now o.senders f.messages f.outbox.senders k s n there e.0 p,
    set-from pace.now o.senders f.messages f.outbox.senders k s (record s { sender = n.sender }) (f.messages ++ message_of s.channel n.command ∷ []) there e.1 (λ m h. Has-push_left f.messages (message_of s.channel n.command) m h)
        (λ x h. elim (p.from x h) [
          | inl old ↦ inl old
          | inr w ↦ inr (n.command, w.0, w.1, subst (λ j. Has (f.messages ++ message_of s.channel n.command ∷ []) (message_of j n.command)) (e.0.sound k s there).0 (Has-push f.messages (message_of s.channel n.command)), w.2)
        ]),
  ));
  drops_data = λ f k s n t there due kind e. (let p = stepped _ s.sender n (e.0.sound k s there).1 (goes-of _ s.sender n due) in (
    drops pace.now o.senders f.messages f.outbox.senders k s n there kind e.0 p,
    set-from pace.now o.senders f.messages f.outbox.senders k s (record s { sender = with_skipped n.sender }) f.messages there e.1 (λ m h. h)
        (λ x h. elim (p.from x h) [ inl old ↦ inl old | inr w ↦ absurd (let z : true ≡ false = sym w.0 ∙ kind in cc) ]),
  ));
  keeps_room = λ f i x there wants e. e;
  gives_room = λ f i x n there due e. e;
}) (record { least = omega arith; sound = all; how = inl refl }, λ channel t h. inl h)).1
