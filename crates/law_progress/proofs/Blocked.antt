-- Where nothing may go, all has gone, or something waits for its acknowledgement.
use Rattle.std.proofs.Common.{◌≡◌, ℕ, zero, suc, ◌&&◌, ◌||◌, not, eqb, ltb, Bool, true, false, cond, List, [], ◌∷◌, ◌++◌, length, refl, sym, ap, subst, ◌∙◌, inl, inr, ◌⊎◌, Option, Some, None, is_some}
use Rattle.std.specs.List.{position, slice_get, list_all}
use Rattle.std.proofs.lemmas.Bool.{eq-eqb}
use Rattle.enet_codec.specs.Message.{Message}
use Rattle.enet_senders.specs.Controlling as controlling
use Rattle.enet_senders.specs.Controlling.{Commands}
use Rattle.enet_senders.specs.declared.control.Numbered.{Numbered}
use Rattle.enet_senders.specs.declared.control.SentControl.{SentControl}
use Rattle.enet_fragment.specs.declared.data.DataCommand.{DataCommand}
use Rattle.enet_fragment.specs.DataCommand.{message_of}
use Rattle.enet_sender.specs.declared.outgoing.Occasion.{Occasion}
use Rattle.enet_sender.specs.declared.sent.Sent.{Sent}
use Rattle.enet_sender.specs.Sender.{Next, awaits_room_with, begun, with_skipped}
use Rattle.enet_sender.specs.Due.{SendingEnd}
use Rattle.enet_outbox.specs.declared.parts.Pace.{Pace}
use Rattle.enet_outbox.specs.Outbox.{Outbox, has_no_packet, has_no_reliable, is_done}
use Rattle.enet_outbox.specs.Emission.{Filling, acknowledgement_of, filled, is_barred, occasion, unsequenced_of, with_sender}
use Rattle.enet_outbox.specs.Room.{AwaitsRoom, RoomIsAwaited}
use Rattle.enet_outbox.proofs.Filled.{by-filling}
use Rattle.enet_receiver.specs.Members.{Has}
use Rattle.law_progress.specs.Outboxes.{AreFit, AllFit, AreQuiet, AreSome, HasNew, NothingMayGo, IsInTransit, WaitsForSome}
use Rattle.law_progress.proofs.Attempts.{AreEmpty}
use Rattle.law_progress.proofs.SomethingGoes.{AreDue, AllDue, room-alone, first-due, get-set, head-due, quiet-due}
use Rattle.law_progress.proofs.Found.{controls-rest}
use Rattle.law_progress.proofs.Filling.{filled-with}
use Rattle.law_progress.proofs.Kept.{go-or-stay}
use Rattle.law_progress.proofs.Spent.{Goes, First, Again, goes-of, nothing-may-go, filled-fits}

-- all that was sent on a channel is due to go again, or something isn't
pub due-or-not : (sent : List Sent) → AreDue sent ⊎ ((t : Sent) × Has sent t × (t.transmission.due ≡ false))
due-or-not [] = inl (λ t h. absurd h)
due-or-not (x ∷ xs) = by x.transmission.due refl (due-or-not xs)
  where
    both : x.transmission.due ≡ true → AreDue xs → AreDue (x ∷ xs)
    both own others t (inl is) = ap (λ (y : Sent). y.transmission.due) (sym is) ∙ own
    both own others t (inr h) = others t h

    by : (b : Bool) → x.transmission.due ≡ b → AreDue xs ⊎ ((t : Sent) × Has xs t × (t.transmission.due ≡ false)) → AreDue (x ∷ xs) ⊎ ((t : Sent) × Has (x ∷ xs) t × (t.transmission.due ≡ false))
    by false e rest = inr (x, inl refl, e)
    by true e (inl all) = inl (both e all)
    by true e (inr h) = inr (h.0, inr h.1, h.2)

-- on all channels, or something is in transit
pub some-in-transit : (xs : List SendingEnd) → AllDue xs ⊎ IsInTransit xs
some-in-transit [] = inl (λ i s e. absurd (cc))
some-in-transit (x ∷ xs) = by (due-or-not x.sender.sent) (some-in-transit xs)
  where
    both : AreDue x.sender.sent → AllDue xs → AllDue (x ∷ xs)
    both own others zero s e = let it : x ≡ s = cc in subst (λ (y : SendingEnd). AreDue y.sender.sent) it own
    both own others (suc i) s e = others i s e

    by : AreDue x.sender.sent ⊎ ((t : Sent) × Has x.sender.sent t × (t.transmission.due ≡ false)) → AllDue xs ⊎ IsInTransit xs → AllDue (x ∷ xs) ⊎ IsInTransit (x ∷ xs)
    by (inr h) rest = inr (x, inl refl, h.0, h.1, h.2)
    by (inl own) (inl others) = inl (both own others)
    by (inl own) (inr h) = inr (h.0, inr h.1, h.2, h.3, h.4)

-- where nothing was sent, what may go next is the head of a queue
pub idle-controls : (now wait : ℕ) (c : Commands) → c.sent ≡ [] → controlling.next now wait c ≡ None → c.queued ≡ []
idle-controls now wait c none rests = by c.queued refl
  where
    by : (q : List Numbered) → c.queued ≡ q → c.queued ≡ []
    by [] e = e
    by (x ∷ rest) e =
        let goes : controlling.next now wait c ≡ Some (record { command = x; commands = record c { queued = rest; sent = cond (controlling.is_reliable x.control) (c.sent ++ controlling.begun now wait x ∷ []) c.sent } }) =
        ap (λ (l : List SentControl). controlling.next_of now wait c (position (λ (p : SentControl). p.transmission.due) l)) none
        ∙ ap (controlling.next_queued now wait c) e
        ∙ ap (λ (l : List SentControl). cond (controlling.is_in_span l x.number) (Some (record { command = x; commands = record c { queued = rest; sent = cond (controlling.is_reliable x.control) (c.sent ++ controlling.begun now wait x ∷ []) c.sent } })) None) none in
        absurd (let f : None ≡ Some _ = sym rests ∙ goes in cc)

-- where all that was sent is due, and nothing may go, nothing is sent
pub none-sent : (pace : Pace) (o : Outbox) → AllFit pace o → AllDue o.senders → NothingMayGo pace o → (i : ℕ) (s : SendingEnd) → slice_get o.senders i ≡ Some s → s.sender.sent ≡ []
none-sent pace o all due rests i s there = by s.sender.sent refl
  where
    by : (l : List Sent) → s.sender.sent ≡ l → s.sender.sent ≡ []
    by [] e = e
    by (p ∷ ps) e =
        let has : Has s.sender.sent p = subst (λ (l : List Sent). Has l p) (sym e) (inl refl) in
        let goes = first-due (occasion pace i o) s.sender p ps e (due i s there p has) (room-alone pace i o p.command due (all.sent i s there p has)) in
        absurd (let f : None ≡ Some _ = sym (rests.channels i s there) ∙ goes in cc)

-- nor queued: the room is kept for no channel then, of which the head would go
pub idle-senders : (pace : Pace) (o : Outbox) → AllFit pace o → AllDue o.senders → NothingMayGo pace o → (i : ℕ) (s : SendingEnd) → slice_get o.senders i ≡ Some s → (s.sender.queued ≡ []) × (s.sender.sent ≡ [])
idle-senders pace o all due rests i s there = (by-kept o.kept refl awaited.awaits, none-sent pace o all due rests i s there)
  where
    fit : AreFit pace o
    fit = all.fit

    awaited : RoomIsAwaited o
    awaited = all.awaited

    -- of a channel for which it isn't barred, the head goes
    queued : (k : ℕ) (t : SendingEnd) → slice_get o.senders k ≡ Some t → is_barred o.kept k ≡ false → (q : List DataCommand) → t.sender.queued ≡ q → t.sender.queued ≡ []
    queued k t at open' [] e = e
    queued k t at open' (c ∷ rest) e =
        let short = fit.queued k t at c (subst (λ (l : List DataCommand). Has l c) (sym e) (inl refl)) in
        let goes = head-due (occasion pace k o) t.sender c rest (none-sent pace o all due rests k t at) e open' (room-alone pace k o c due short) in
        absurd (let f : None ≡ Some _ = sym (rests.channels k t at) ∙ goes in cc)

    -- the channel that it is kept for has nothing sent, so its queue would begin with a command
    waits : (sent : List Sent) (q : List DataCommand) → sent ≡ [] → q ≡ [] → awaits_room_with sent q ≡ true → ⊥
    waits [] [] none empty w = cc
    waits [] (c ∷ rest) none empty w = cc
    waits (p ∷ ps) q none empty w = cc

    by-kept : (kept : Option ℕ) → o.kept ≡ kept → AwaitsRoom o.senders kept → s.sender.queued ≡ []
    by-kept None is w = queued i s there (ap (λ (c : Option ℕ). is_barred c i) is) s.sender.queued refl
    by-kept (Some k) is w =
        let own : is_barred o.kept k ≡ false = ap (λ (c : Option ℕ). is_barred c k) is ∙ ap not (eq-eqb k k refl) in
        absurd (waits w.0.sender.sent w.0.sender.queued (none-sent pace o all due rests k w.0 w.1) (queued k w.0 w.1 own w.0.sender.queued refl) w.2)

empty-all : (xs : List SendingEnd) → ((i : ℕ) (s : SendingEnd) → slice_get xs i ≡ Some s → (s.sender.queued ≡ []) × (s.sender.sent ≡ [])) → AreEmpty xs
empty-all [] h = tt
empty-all (x ∷ xs) h = (let own = h 0 x refl in (own.0, own.1, empty-all xs (λ i s e. h (suc i) s e)))

-- of what is empty nothing is left
no-reliable : (xs : List SendingEnd) → AreEmpty xs → list_all has_no_reliable xs ≡ true
no-reliable [] e = refl
no-reliable (x ∷ xs) e = λ i. not (is_some (position (λ (c : DataCommand). c.reliable) (e.0 i)) || ltb 0 (length (e.1 i))) && no-reliable xs e.2 i

no-packets : (xs : List SendingEnd) → AreEmpty xs → list_all has_no_packet xs ≡ true
no-packets [] e = refl
no-packets (x ∷ xs) e = λ i. not (ltb 0 (length (e.0 i))) && no-packets xs e.2 i

done-of : (o : Outbox) → o.control.queued ≡ [] → o.control.sent ≡ [] → AreEmpty o.senders → o.unsequenced ≡ [] → is_done o ≡ true
done-of o queued sent empty unsequenced =
    λ i. (((eqb (length (queued i)) 0 && eqb (length (sent i)) 0) && no-reliable o.senders empty i) && no-packets o.senders empty i) && eqb (length (unsequenced i)) 0

pub done-or-waits : (pace : Pace) (o : Outbox) → AllFit pace o → (filled pace o).messages ≡ [] → (is_done (filled pace o).outbox ≡ true) ⊎ WaitsForSome (filled pace o).outbox
done-or-waits pace o fit none = by u.control.sent refl (some-in-transit u.senders)
  where
    u : Outbox
    u = (filled pace o).outbox

    rests : NothingMayGo pace u
    rests = nothing-may-go pace o fit none

    all : AllFit pace u
    all = filled-fits pace o fit

    by : (l : List SentControl) → u.control.sent ≡ l → AllDue u.senders ⊎ IsInTransit u.senders → (is_done u ≡ true) ⊎ WaitsForSome u
    by (t ∷ l) e rest = (let has : Has u.control.sent t = subst (λ (y : List SentControl). Has y t) (sym e) (inl refl) in inr (inl (t, has, controls-rest pace.now pace.timeout u.control rests.controls t has)))
    by [] e (inr h) = inr (inr h)
    by [] e (inl due) = inl (done-of u (idle-controls pace.now pace.timeout u.control e rests.controls) e (empty-all u.senders (idle-senders pace u all due rests)) rests.unsequenced)

-- ---- where a reliable command is queued and nothing waits for its acknowledgement, a datagram goes: no limit holds it back

-- nothing is sent on any channel, or a command went
abbrev QuietOrGoes : Filling → Type 0
QuietOrGoes f = AreSome f.messages ⊎ AreQuiet f.outbox.senders

quiet-filled : (pace : Pace) (o : Outbox) → AreQuiet o.senders → QuietOrGoes (filled pace o)
quiet-filled pace o quiet = by-filling pace o QuietOrGoes (record {
  closes = λ f g. g;
  acknowledges = λ f a rest e g. inl (filled-with f (acknowledgement_of a) (record f.outbox { acknowledgements = rest }));
  controls = λ f n e g. inl (filled-with f (controlling.message_of n.command) (record f.outbox { control = n.commands }));
  puts_unsequenced = λ f u rest t e g. inl (filled-with f (unsequenced_of u) (record f.outbox { throttle = t; unsequenced = rest; last = Some u.channel }));
  drops_unsequenced = λ f u rest t e g. g;
  puts_data = λ f k s n t there due g. inl (filled-with f (message_of s.channel n.command) (record (with_sender (record f.outbox { throttle = t }) k (record s { sender = n.sender })) { last = Some k }));
  drops_data = λ f k s n t there due unreliable g. elim g [
    | inl went ↦ inl went
    | inr quiet ↦ inr (λ j y at. elim (get-set f.outbox.senders k j (record s { sender = with_skipped n.sender }) y at) [
      | inl w ↦ ap (λ (z : SendingEnd). z.sender.sent) (sym w.1) ∙ still s n (quiet k s there) unreliable (goes-of _ s.sender n due)
      | inr w ↦ quiet j y w.1
    ])
  ];
  keeps_room = λ f k s there wants g. g;
  gives_room = λ f k s n there due g. g;
}) (inr quiet)
  where
    still : (s : SendingEnd) (n : Next) {x : Occasion} → s.sender.sent ≡ [] → n.command.reliable ≡ false → Goes x s.sender n → n.sender.sent ≡ []
    still s n {x} none unreliable (First c rest q may is) =
        let plain : c.reliable ≡ false = ap (λ (y : Next). y.command.reliable) is ∙ unreliable in
        ap (λ (y : Next). y.sender.sent) (sym is) ∙ ap (λ (b : Bool). cond b (s.sender.sent ++ begun x.now x.timeout c ∷ []) s.sender.sent) plain ∙ none
    still s n {x} none unreliable (Again i p there due is) = absurd (let z : None ≡ Some p = ap (λ (l : List Sent). slice_get l i) (sym none) ∙ there in cc)

pub something-goes : (pace : Pace) (o : Outbox) (k : ℕ) → AllFit pace o → AreQuiet o.senders → HasNew o.senders k → AreSome (filled pace o).messages
something-goes pace o k fit quiet new = by (filled pace o).messages refl (quiet-filled pace o quiet)
  where
    u : Outbox
    u = (filled pace o).outbox

    nothing : (q : List DataCommand) (c : DataCommand) → q ≡ [] → Has q c → ⊥
    nothing q c none h = subst (λ (l : List DataCommand). Has l c) none h

    by : (ms : List Message) → (filled pace o).messages ≡ ms → QuietOrGoes (filled pace o) → AreSome (filled pace o).messages
    by ms e (inl some) = some
    by (m ∷ ms) e (inr still) = (m, subst (λ (l : List Message). Has l m) (sym e) (inl refl))
    by [] e (inr still) =
        let all : AllFit pace u = filled-fits pace o fit in
        let g = go-or-stay pace o in
        let t = g.there k new.end new.there in
        let empty = idle-senders pace u all (quiet-due u.senders still) (nothing-may-go pace o fit e) k t.0 t.1 in
        elim (g.queued k new.end t.0 new.there t.1 new.command new.queued new.reliable) [
          | inl stays ↦ absurd (nothing t.0.sender.queued new.command empty.0 stays)
          | inr went ↦ (message_of new.end.channel new.command, went)
        ]
