-- What a receiver's foresight means for a datagram.
use Rattle.std.proofs.Common.{◌≡◌, ◌≢◌, ℕ, ◌%◌, ◌<◌, Bool, true, false, cond, Option, Some, None, Result, Ok, Err, refl, sym, ap, subst, ◌∙◌, arith}
use Rattle.std.specs.Prelude.{◌&&◌, ◌||◌, slice_get}
use Rattle.std.specs.Option.{is_none}
use Rattle.enet_codec.specs.declared.stop.Stop.{Stop}
use Rattle.enet_seq.specs.Numbering.{wire}
use Rattle.enet_seq.specs.Windows.{acknowledges}
use Rattle.enet_fragment.specs.declared.data.DataCommand.{DataCommand}
use Rattle.enet_packets.specs.declared.incoming_packet.IncomingPacket.{IncomingPacket}
use Rattle.enet_receiver.specs.declared.took.Took.{Took}
use Rattle.enet_receiver.specs.declared.took.Took.TheVariants.{Held, Again, Outside, Bad, Waiting, Memory}
use Rattle.enet_receiver.specs.declared.took.Foresight.{Foresight}
use Rattle.enet_receiver.specs.Receiver.{Receiver}
use Rattle.enet_receiver.specs.DataOutcome.{outcome, outcome_at, outcome_of, place_read, came_at, is_piece_of_its_packet, is_behind, came, is_handled}
use Rattle.enet_receiver.specs.Foresight.{ReceivingEnd, foreseen as foreseen_by, outcome_for, after_command}
use Rattle.enet_inbox.specs.Inbox.{Inbox, is_full_for}
use Rattle.enet_inbox.specs.DataEffect.{is_kept_as, is_kept_on, is_kept_sequenced, sequenced, sequenced_on, by_took, handed_over}
use Rattle.enet_inbox.specs.Private.Invariant.{HasFront}
use Rattle.enet_inbox.specs.InboxParts.{foresight_on, foresight_of, seen_by, seen_of, foreseen_sequenced, told}
use Rattle.enet_inbox.specs.Private.InboxParts.{answer_by, answer_of}
use Rattle.enet_inbox.specs.declared.arriving.Foreseen.{Foreseen}

one_of : (b : Bool) (x y : Took) → x ≢ Memory → y ≢ Memory → cond b x y ≢ Memory
one_of true x y p q = p
one_of false x y p q = q

of_known : (r : Receiver) (c : DataCommand) (full : Bool) (place : ℕ) (earlier : Option IncomingPacket) → outcome_of r c full place earlier ≢ Memory
of_known r c full place earlier =
    one_of (is_behind r c place || came earlier c) Again _ (λ e. cc) (one_of (full && is_none earlier) Waiting Held (λ e. cc) (λ e. cc))

at_known : (r : Receiver) (c : DataCommand) (full : Bool) (o : Option ℕ) → outcome_at r c full o ≢ Memory
at_known r c full None = λ e. cc
at_known r c full (Some place) = of_known r c full place (came_at r c place)

-- with ample memory no outcome is want of memory
pub outcome_known : (most : ℕ) (r : Receiver) (c : DataCommand) (full : Bool) → outcome wire most r c full ≢ Memory
outcome_known most r c full = one_of (is_piece_of_its_packet wire most r c) _ Bad (at_known r c full (place_read wire r c)) (λ e. cc)

by_answer : (t : Took) (may : Bool) (b : Inbox) (channel : ℕ) (r : ReceivingEnd) (c : DataCommand) → may ≡ acknowledges r.receiver.front c.number
    → answer_by t (is_handled t && may) ≡ (by_took t b channel r c).answer
by_answer Held may b channel r c e = ap Ok e
by_answer Again may b channel r c e = ap Ok e
by_answer Outside may b channel r c e = ap Ok e
by_answer Bad may b channel r c e = refl
by_answer Waiting may b channel r c e = refl
by_answer Memory may b channel r c e = refl

same_front : (front number : ℕ) → front < 65536 → acknowledges (front % 65536) number ≡ acknowledges front number
same_front front number h = let e : front % 65536 ≡ front = omega arith in ap (λ n. acknowledges n number) e

on_answer : (b : Inbox) (channel : ℕ) (c : DataCommand) (o : Option ReceivingEnd) (f : Foresight) → ((r : ReceivingEnd) → o ≡ Some r → r.receiver.front < 65536)
    → foresight_on b c o ≡ Ok f → answer_of f ≡ (sequenced_on b channel c o).answer
on_answer b channel c None f h e = absurd (cc)
on_answer b channel c (Some r) f h e =
    let same : foreseen_by r (Some c) (is_full_for b r c) ≡ f = cc in
    ap (λ (x : Foresight). answer_of x) (sym same) ∙ by_answer (outcome_for r (Some c) (is_full_for b r c)) _ b channel r c (same_front r.receiver.front c.number (h r refl))

-- the answer is that of the foresight
pub answer_is : (b : Inbox) (channel : ℕ) (o : Option DataCommand) (f : Foresight) → HasFront b channel → foresight_of b channel o ≡ Ok f → answer_of f ≡ (sequenced b channel o).answer
answer_is b channel None f h e = absurd (cc)
answer_is b channel (Some c) f h e = on_answer b channel c (slice_get b.receivers channel) f h e

on_foreseen : (b : Inbox) (channel : ℕ) (c : DataCommand) (o : Option ReceivingEnd) (why : Stop) → foresight_on b c o ≡ Err why → (sequenced_on b channel c o).answer ≡ Err why
on_foreseen b channel c None why e = cc
on_foreseen b channel c (Some r) why e = absurd (cc)

pub stop_foreseen : (b : Inbox) (channel : ℕ) (o : Option DataCommand) (why : Stop) → foresight_of b channel o ≡ Err why → (sequenced b channel o).answer ≡ Err why
stop_foreseen b channel None why e = cc
stop_foreseen b channel (Some c) why e = on_foreseen b channel c (slice_get b.receivers channel) why e

told_seen : (t : Took) (f : Foresight) → told (seen_by t f) ≡ answer_by t f.acknowledged
told_seen Held f = refl
told_seen Again f = refl
told_seen Outside f = refl
told_seen Bad f = refl
told_seen Waiting f = refl
told_seen Memory f = refl

told_by : (b : Inbox) (channel : ℕ) (o : Option DataCommand) (r : Result Foresight Stop) → HasFront b channel → foresight_of b channel o ≡ r → told (seen_of r) ≡ (sequenced b channel o).answer
told_by b channel o (Err why) h e = sym (stop_foreseen b channel o why e)
told_by b channel o (Ok f) h e = told_seen f.took f ∙ answer_is b channel o f h e

-- the answer is what is foreseen of a sequenced command
pub told_sequenced : (b : Inbox) (channel : ℕ) (o : Option DataCommand) → HasFront b channel → told (foreseen_sequenced b channel o) ≡ (sequenced b channel o).answer
told_sequenced b channel o h = told_by b channel o (foresight_of b channel o) h refl

-- of a command that is kept this was foreseen
abbrev pub foresight_in : Foreseen → Foresight
foresight_in s = record { took = Held; acknowledged = s.acknowledged; dispatches = s.dispatches }

seen_held : (t : Took) (acknowledged : Bool) (dispatches : ℕ) (s : Foreseen) → seen_by t (record { took = t; acknowledged = acknowledged; dispatches = dispatches }) ≡ Ok s → s.kept ≡ true
    → ◌≡◌ {A = Foresight} (record { took = t; acknowledged = acknowledged; dispatches = dispatches }) (foresight_in s)
seen_held Held acknowledged dispatches s e k =
    let same : record { acknowledged = acknowledged; kept = true; makes_room = false; dispatches = dispatches } ≡ s = cc in
    ap foresight_in same
seen_held Again acknowledged dispatches s e k = absurd (let same : record { acknowledged = acknowledged; kept = false; makes_room = false; dispatches = dispatches } ≡ s = cc in let no' : false ≡ s.kept = ap (λ (x : Foreseen). x.kept) same in cc)
seen_held Outside acknowledged dispatches s e k = absurd (let same : record { acknowledged = acknowledged; kept = false; makes_room = false; dispatches = dispatches } ≡ s = cc in let no' : false ≡ s.kept = ap (λ (x : Foreseen). x.kept) same in cc)
seen_held Bad acknowledged dispatches s e k = absurd (cc)
seen_held Waiting acknowledged dispatches s e k = absurd (cc)
seen_held Memory acknowledged dispatches s e k = absurd (cc)

held_by : (r : Result Foresight Stop) (s : Foreseen) → seen_of r ≡ Ok s → s.kept ≡ true → r ≡ Ok (foresight_in s)
held_by (Err why) s e k = absurd (cc)
held_by (Ok f) s e k = ap Ok (seen_held f.took f.acknowledged f.dispatches s e k)

pub foresight_is : (b : Inbox) (channel : ℕ) (o : Option DataCommand) (s : Foreseen) → foreseen_sequenced b channel o ≡ Ok s → s.kept ≡ true → foresight_of b channel o ≡ Ok (foresight_in s)
foresight_is b channel o s e k = held_by (foresight_of b channel o) s e k

seen_kept : (t : Took) (f : Foresight) (s : Foreseen) → seen_by t f ≡ Ok s → s.kept ≡ is_kept_as t
seen_kept Held f s e = let same : record { acknowledged = f.acknowledged; kept = true; makes_room = false; dispatches = f.dispatches } ≡ s = cc in ap (λ (x : Foreseen). x.kept) (sym same)
seen_kept Again f s e = let same : record { acknowledged = f.acknowledged; kept = false; makes_room = false; dispatches = f.dispatches } ≡ s = cc in ap (λ (x : Foreseen). x.kept) (sym same)
seen_kept Outside f s e = let same : record { acknowledged = f.acknowledged; kept = false; makes_room = false; dispatches = f.dispatches } ≡ s = cc in ap (λ (x : Foreseen). x.kept) (sym same)
seen_kept Bad f s e = absurd (cc)
seen_kept Waiting f s e = absurd (cc)
seen_kept Memory f s e = absurd (cc)

kept_on : (b : Inbox) (c : DataCommand) (o : Option ReceivingEnd) (s : Foreseen) → seen_of (foresight_on b c o) ≡ Ok s → s.kept ≡ is_kept_on b c o
kept_on b c None s e = absurd (cc)
kept_on b c (Some r) s e = seen_kept (outcome_for r (Some c) (is_full_for b r c)) (foreseen_by r (Some c) (is_full_for b r c)) s e

-- what is kept of a sequenced command
pub kept_sequenced : (b : Inbox) (channel : ℕ) (o : Option DataCommand) (s : Foreseen) → foreseen_sequenced b channel o ≡ Ok s → s.kept ≡ is_kept_sequenced b channel o
kept_sequenced b channel None s e = absurd (cc)
kept_sequenced b channel (Some c) s e = kept_on b c (slice_get b.receivers channel) s e

-- what is known where a receiver takes a command in
pub record Taken (b : Inbox) (channel : ℕ) (o : Option DataCommand) (f : Foresight) (d : ReceivingEnd) (full : Bool) : Type 0 where
  pub outcome : outcome_for d o full ≡ Held
  pub dispatches : f.dispatches ≡ (foreseen_by d o full).dispatches
  pub after : (sequenced b channel o).after ≡ handed_over b channel (after_command d o full)

taken_full : (b : Inbox) (channel : ℕ) (c : DataCommand) (f : Foresight) (d : ReceivingEnd) → foresight_of b channel (Some c) ≡ Ok f → f.took ≡ Held → slice_get b.receivers channel ≡ Some d
    → Taken b channel (Some c) f d (is_full_for b d c)
taken_full b channel c f d e held at =
    let there : foresight_on b c (Some d) ≡ Ok f = ap (foresight_on b c) (sym at) ∙ e in
    let is : foreseen_by d (Some c) (is_full_for b d c) ≡ f = cc in
    let took : outcome_for d (Some c) (is_full_for b d c) ≡ Held = ap (λ (x : Foresight). x.took) is ∙ held in
    record {
      outcome = took;
      dispatches = ap (λ (x : Foresight). x.dispatches) (sym is);
      after = ap (λ x. (sequenced_on b channel c x).after) at ∙ ap (λ t. (by_took t b channel d c).after) took;
    }

pub taken : (b : Inbox) (channel : ℕ) (c : DataCommand) (f : Foresight) (d : ReceivingEnd) (full : Bool) → foresight_of b channel (Some c) ≡ Ok f → f.took ≡ Held → slice_get b.receivers channel ≡ Some d → full ≡ is_full_for b d c
    → Taken b channel (Some c) f d full
taken b channel c f d full e held at same = subst (λ x. Taken b channel (Some c) f d x) (sym same) (taken_full b channel c f d e held at)
