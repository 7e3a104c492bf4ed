-- An outbox with nothing to send puts nothing out, and has nothing that is late.
use Rattle.std.proofs.Common.{All, subst, ◌≡◌, ℕ, zero, suc, Bool, true, false, ◌||◌, ◌&&◌, not, nat_lt, ◌==◌, List, [], ◌∷◌, length, refl, sym, ap, ◌∙◌, arith, Option, Some, None, is_some}
use Rattle.std.proofs.lemmas.Bool.Decides.{nat_tests}
use Rattle.std.specs.List.{slice_get, list_all, list_any, position}
use Rattle.enet_senders.specs.Controlling.{Commands}
use Rattle.enet_senders.specs.Controlling as controlling
use Rattle.enet_senders.specs.declared.control.Numbered.{Numbered}
use Rattle.enet_senders.specs.declared.control.SentControl.{SentControl}
use Rattle.enet_fragment.specs.declared.data.DataCommand.{DataCommand}
use Rattle.enet_seq.specs.Numbering.{wire}
use Rattle.enet_sender.specs.declared.sent.Sent.{Sent}
use Rattle.enet_sender.specs.declared.outgoing.Occasion.{Occasion}
use Rattle.enet_sender.specs.Sender.{next, wants_room}
use Rattle.enet_sender.specs.Due.{SendingEnd}
use Rattle.enet_outbox.specs.declared.parts.Pace.{Pace}
use Rattle.enet_outbox.specs.Outbox.{Outbox, has_no_packet, has_no_reliable}
use Rattle.enet_outbox.specs.Emission.{Filling, filled, occasion}
use Rattle.enet_outbox.specs.Invariant.{HasNothing}
use Rattle.enet_outbox.specs.Resting.{IsAtRest}
use Rattle.enet_senders.proofs.Sets.{next-none, some-long, wants-none}
use Rattle.std.proofs.lemmas.List.Elements.{All-nil}
use Rattle.enet_outbox.proofs.Filled.{Keeps, by-filling}

none-left : {X : Type 0} (xs : List X) → length xs ≡ 0 → xs ≡ []
none-left [] e = refl
none-left (x ∷ xs) e = absurd (cc)

some-one : {X Y : Type 0} (xs : List X) (x : X) (rest : List X) → length xs ≡ 0 → xs ≡ x ∷ rest → Y
some-one xs x rest e f = absurd (let y : ◌≡◌ {A = List _} [] (x ∷ rest) = sym (none-left xs e) ∙ f in cc)

not-none : {X : Type 0} (x : X) (xs : List X) → (length (x ∷ xs) == 0) ≡ false
not-none x xs = by (length (x ∷ xs)) refl
  where
    by : (n : ℕ) → n ≡ suc (length xs) → (n == 0) ≡ false
    by n e = grind (arith, nat_tests)

none-queued : (xs : List DataCommand) → not (nat_lt 0 (length xs)) ≡ true → xs ≡ []
none-queued [] e = refl
none-queued (x ∷ xs) e = absurd (let y : false ≡ true = ap not (sym (some-long x xs)) ∙ e in cc)

none-sent : (b : Bool) (xs : List Sent) → not (b || nat_lt 0 (length xs)) ≡ true → xs ≡ []
none-sent b [] e = refl
none-sent true (x ∷ xs) e = absurd (let y : false ≡ true = e in cc)
none-sent false (x ∷ xs) e = absurd (let y : false ≡ true = ap (λ (b : Bool). not (false || b)) (sym (some-long x xs)) ∙ e in cc)

sent-none : (s : SendingEnd) → has_no_reliable s ≡ true → s.sender.sent ≡ []
sent-none s e = none-sent _ s.sender.sent e

-- what holds of all holds at each place
all-left : (a b : Bool) → (a && b) ≡ true → a ≡ true
all-left true b e = refl
all-left false b e = absurd (cc)

all-right : (a b : Bool) → (a && b) ≡ true → b ≡ true
all-right true b e = e
all-right false b e = absurd (cc)

all-at : {X : Type 0} (p : X → Bool) (xs : List X) (i : ℕ) (x : X) → list_all p xs ≡ true → slice_get xs i ≡ Some x → p x ≡ true
all-at p [] i x e there = absurd (cc)
all-at p (y ∷ xs) zero x e there = let same : y ≡ x = cc in ap p (sym same) ∙ all-left (p y) (list_all p xs) e
all-at p (y ∷ xs) (suc i) x e there = all-at p xs i x (all-right (p y) (list_all p xs) e) there

-- no channel's sent commands pass a test
pub none_passes : (p : Sent → Bool) (senders : List SendingEnd) → list_all has_no_reliable senders ≡ true → list_any (λ (s : SendingEnd). list_any p s.sender.sent) senders ≡ false
none_passes p [] e = refl
none_passes p (s ∷ rest) e =
    ap (λ (xs : List Sent). list_any p xs || list_any (λ (t : SendingEnd). list_any p t.sender.sent) rest) (sent-none s (all-left (has_no_reliable s) (list_all has_no_reliable rest) e))
    ∙ none_passes p rest (all-right (has_no_reliable s) (list_all has_no_reliable rest) e)

empty : {X : Type 0} (xs : List X) → (length xs == 0) ≡ true → xs ≡ []
empty [] e = refl
empty (x ∷ xs) e = absurd (let y : false ≡ true = sym (not-none x xs) ∙ e in cc)

abbrev due_place : List SentControl → Option ℕ
due_place sent = position (λ (p : SentControl). p.transmission.due) sent

-- channel 0xFF, where nothing is queued and nothing is due to go again
control-none : (now timeout : ℕ) (c : Commands) → controlling.is_at_rest c ≡ true → controlling.next now timeout c ≡ None
control-none now timeout c e =
    ap (λ (o : Option ℕ). controlling.next_of now timeout c o) (nowhere (due_place c.sent) (all-right (length c.queued == 0) (not (is_some (due_place c.sent))) e))
    ∙ ap (λ (xs : List Numbered). controlling.next_queued now timeout c xs) (empty c.queued (all-left (length c.queued == 0) (not (is_some (due_place c.sent))) e))
  where
    nowhere : (o : Option ℕ) → not (is_some o) ≡ true → o ≡ None
    nowhere None e = refl
    nowhere (Some i) e = absurd (cc)

-- an idle channel 0xFF is still
idle-still : (c : Commands) → controlling.is_idle c ≡ true → controlling.is_at_rest c ≡ true
idle-still c e =
    ap (λ (b : Bool). b && not (is_some (due_place c.sent))) (all-left (length c.queued == 0) (length c.sent == 0) e)
    ∙ ap (λ (xs : List SentControl). not (is_some (due_place xs))) (empty c.sent (all-right (length c.queued == 0) (length c.sent == 0) e))

-- a datagram that stays empty
abbrev StaysEmpty : Outbox → Filling → Type 0
StaysEmpty o f = (f.messages ≡ []) × (f.outbox ≡ o)

-- what has nothing at all is at rest
pub rests : (o : Outbox) → HasNothing o → IsAtRest o
rests o h = record {
  acknowledgements = h.acknowledgements;
  control = idle-still o.control h.control;
  unsequenced = h.unsequenced;
  still = λ i e there. record {
    queued = none-queued e.sender.queued (all-at has_no_packet o.senders i e h.packets there);
    sent = subst (λ (xs : List Sent). All (λ (p : Sent). p.transmission.due ≡ false) xs) (sym (sent-none e (all-at has_no_reliable o.senders i e h.reliable there))) (All-nil (λ (p : Sent). p.transmission.due ≡ false));
  };
}

rest-next : (o : Outbox) (told : Occasion) (s : SendingEnd) (i : ℕ) → IsAtRest o → slice_get o.senders i ≡ Some s → next wire told s.sender ≡ None
rest-next o told s i h there =
    next-none wire told s.sender (h.still i s there)

rest-wants : (o : Outbox) (told : Occasion) (s : SendingEnd) (i : ℕ) → IsAtRest o → slice_get o.senders i ≡ Some s → wants_room told s.sender ≡ false
rest-wants o told s i h there = wants-none told s.sender (h.still i s there)

none-some : {X Y : Type 0} (o : Option X) (x : X) → o ≡ None → o ≡ Some x → Y
none-some o x e f = absurd (let y : ◌≡◌ {A = Option _} None (Some x) = sym e ∙ f in cc)

stays-empty : (pace : Pace) (o : Outbox) → IsAtRest o → Keeps pace (StaysEmpty o)
stays-empty pace o h = record {
  closes = λ f e. e;
  acknowledges = λ f a rest at e. some-one o.acknowledgements a rest h.acknowledgements (ap (λ (x : Outbox). x.acknowledgements) (sym e.1) ∙ at);
  controls = λ f n at e. none-some _ n (ap (λ (x : Outbox). controlling.next pace.now pace.timeout x.control) e.1 ∙ control-none pace.now pace.timeout o.control h.control) at;
  puts_unsequenced = λ f u rest t at e. some-one o.unsequenced u rest h.unsequenced (ap (λ (x : Outbox). x.unsequenced) (sym e.1) ∙ at);
  drops_unsequenced = λ f u rest t at e. some-one o.unsequenced u rest h.unsequenced (ap (λ (x : Outbox). x.unsequenced) (sym e.1) ∙ at);
  puts_data = λ f k s n t there at e. none-some _ n (rest-next o (occasion pace k f.outbox) s k h (ap (λ (x : Outbox). slice_get x.senders k) (sym e.1) ∙ there)) at;
  drops_data = λ f k s n t there at unreliable e. none-some _ n (rest-next o (occasion pace k f.outbox) s k h (ap (λ (x : Outbox). slice_get x.senders k) (sym e.1) ∙ there)) at;
  keeps_room = λ f k s there wants e. absurd (let none = rest-wants o (occasion pace k f.outbox) s k h (ap (λ (x : Outbox). slice_get x.senders k) (sym e.1) ∙ there) in let y : false ≡ true = sym none ∙ wants in cc);
  gives_room = λ f k s n there at e. none-some _ n (rest-next o (occasion pace k f.outbox) s k h (ap (λ (x : Outbox). slice_get x.senders k) (sym e.1) ∙ there)) at;
}

pub rest-goes : (pace : Pace) (o : Outbox) → IsAtRest o → ((filled pace o).messages ≡ []) × (o ≡ (filled pace o).outbox)
rest-goes pace o h = let e : StaysEmpty o (filled pace o) = by-filling pace o (StaysEmpty o) (stays-empty pace o h) (refl, refl) in (e.0, sym e.1)

pub nothing-goes : (pace : Pace) (o : Outbox) → HasNothing o → ((filled pace o).messages ≡ []) × (o ≡ (filled pace o).outbox)
nothing-goes pace o h = rest-goes pace o (rests o h)
