-- A data command comes to an inbox that has room for it, if need be once the unreliable packets that wait give way.
use Rattle.std.proofs.Common.{◌≡◌, ℕ, ◌&&◌, ◌||◌, Bool, true, false, cond, List, [], ◌∷◌, map, refl, ap, ◌∙◌, inl, inr, ◌⊎◌, zero, suc, Option, Some, None, Result, Ok, Err}
use Rattle.std.specs.List.{slice_get}
use Rattle.std.specs.Option.{is_none}
use Rattle.std.specs.Prelude.{is_ok}
use Rattle.enet_codec.specs.declared.stop.Stop.{Stop}
use Rattle.enet_codec.specs.Message.{Message}
use Rattle.enet_seq.specs.Numbering.{wire}
use Rattle.enet_fragment.specs.declared.data.DataCommand.{DataCommand}
use Rattle.enet_receiver.specs.declared.took.Took.{Took}
use Rattle.enet_receiver.specs.declared.took.Took.TheVariants.{Held, Again, Outside, Bad, Waiting, Memory}
use Rattle.enet_receiver.specs.DataOutcome.{outcome, outcome_at, is_handled, is_piece_of_its_packet, place_read, came, came_at, is_behind}
use Rattle.enet_receiver.specs.Receiver.{Receiver, without_waiting}
use Rattle.enet_receiver.specs.Foresight.{ReceivingEnd}
use Rattle.enet_inbox.specs.Inbox.{Inbox, is_full_for, given_way_receiver, given_way}
use Rattle.enet_inbox.specs.DataEffect.{DataEffect, plain_arrival, is_waiting, makes_room, arrival, sequenced_on, by_took}

-- a command that is handled where there is room is stopped for want of room alone
but-for-room : (most : ℕ) (r : Receiver) (c : DataCommand) (full : Bool) → is_handled (outcome wire most r c false) ≡ true → (is_handled (outcome wire most r c full) ≡ true) ⊎ (outcome wire most r c full ≡ Waiting)
but-for-room most r c full ok = by (is_piece_of_its_packet wire most r c) ok
  where
    at : (o : Option ℕ) → (is_handled (outcome_at r c full o) ≡ true) ⊎ (outcome_at r c full o ≡ Waiting)
    at None = inl refl
    at (Some place) = if_behind (is_behind r c place || came (came_at r c place) c) (full && is_none (came_at r c place))
      where
        if_behind : (behind wants : Bool) → (is_handled (cond behind Again (cond wants Waiting Held)) ≡ true) ⊎ (cond behind Again (cond wants Waiting Held) ≡ Waiting)
        if_behind true wants = inl refl
        if_behind false true = inr refl
        if_behind false false = inl refl

    by : (piece : Bool) → is_handled (cond piece (outcome_at r c false (place_read wire r c)) Bad) ≡ true
        → (is_handled (cond piece (outcome_at r c full (place_read wire r c)) Bad) ≡ true) ⊎ (cond piece (outcome_at r c full (place_read wire r c)) Bad ≡ Waiting)
    by true e = at (place_read wire r c)
    by false e = absurd (cc)

-- the receivers once unreliable packets gave way
pub given_way-there : (rs : List ReceivingEnd) (i : ℕ) (r : ReceivingEnd) → slice_get rs i ≡ Some r → slice_get (map given_way_receiver rs) i ≡ Some (given_way_receiver r)
given_way-there [] i r e = absurd (cc)
given_way-there (x ∷ rs) zero r e = let it : x ≡ r = cc in ap (λ (y : ReceivingEnd). Some (given_way_receiver y)) it
given_way-there (x ∷ rs) (suc i) r e = given_way-there rs i r e

-- a data command of a channel, whose receiver handles it where there is room, also where the unreliable packets gave way
pub record Coming (b : Inbox) (channel : ℕ) (c : DataCommand) (r : ReceivingEnd) (m : Message) : Type 0 where
  pub plain : (x : Inbox) → plain_arrival x m ≡ sequenced_on x channel c (slice_get x.receivers channel)
  pub there : slice_get b.receivers channel ≡ Some r
  pub handled : is_handled (outcome wire r.max_packet r.receiver c false) ≡ true
  pub handled_alone : is_handled (outcome wire r.max_packet (without_waiting r.receiver) c false) ≡ true
  pub room : is_full_for (given_way b) (given_way_receiver r) c ≡ false

-- the inbox that handles it: the one that is there, or that in which the unreliable packets gave way
pub record Met (b : Inbox) (channel : ℕ) (c : DataCommand) (r : ReceivingEnd) (m : Message) : Type 0 where
  pub inbox : Inbox
  pub end : ReceivingEnd
  pub took : Took
  pub handled : is_handled took ≡ true
  pub front : end.receiver.front ≡ r.receiver.front
  pub is : arrival b m ≡ by_took took inbox channel end c

pub took-ok : (t : Took) (b : Inbox) (channel : ℕ) (e : ReceivingEnd) (c : DataCommand) → is_handled t ≡ true → is_ok (by_took t b channel e c).answer ≡ true
took-ok Held b channel e c h = refl
took-ok Again b channel e c h = refl
took-ok Outside b channel e c h = refl
took-ok Bad b channel e c h = absurd (cc)
took-ok Waiting b channel e c h = absurd (cc)
took-ok Memory b channel e c h = absurd (cc)

not-waiting : (r : Result Bool Stop) → is_ok r ≡ true → is_waiting r ≡ false
not-waiting (Ok may) e = refl
not-waiting (Err why) e = absurd (cc)

pub meets : (b : Inbox) (channel : ℕ) (c : DataCommand) (r : ReceivingEnd) (m : Message) → Coming b channel c r m → Met b channel c r m
meets b channel c r m k = elim (but-for-room r.max_packet r.receiver c full k.handled) [
  | inl handled ↦
      let waits : is_waiting (plain_arrival b m).answer ≡ false = ap (λ (a : DataEffect). is_waiting a.answer) plain ∙ not-waiting (by_took took b channel r c).answer (took-ok took b channel r c handled) in
      let stays : makes_room b m ≡ false = ap (λ w. w && is_ok (plain_arrival way m).answer) waits in
      record { inbox = b; end = r; took = took; handled = handled; front = refl; is = ap (λ w. plain_arrival (cond w way b) m) stays ∙ plain }
  | inr full' ↦
      let waits : is_waiting (plain_arrival b m).answer ≡ true = ap (λ (a : DataEffect). is_waiting a.answer) plain ∙ ap (λ t. is_waiting (by_took t b channel r c).answer) full' in
      let goes : is_ok (plain_arrival way m).answer ≡ true = ap (λ (a : DataEffect). is_ok a.answer) plain-way ∙ took-ok took-way way channel alone c handled-way in
      let gives : makes_room b m ≡ true = (λ i. waits i && goes i) in
      record { inbox = way; end = alone; took = took-way; handled = handled-way; front = refl; is = ap (λ w. plain_arrival (cond w way b) m) gives ∙ plain-way }
]
  where
    way : Inbox
    way = given_way b

    alone : ReceivingEnd
    alone = given_way_receiver r

    full : Bool
    full = is_full_for b r c

    took : Took
    took = outcome wire r.max_packet r.receiver c full

    took-way : Took
    took-way = outcome wire r.max_packet (without_waiting r.receiver) c (is_full_for way alone c)

    plain : plain_arrival b m ≡ by_took took b channel r c
    plain = k.plain b ∙ ap (sequenced_on b channel c) k.there

    plain-way : plain_arrival way m ≡ by_took took-way way channel alone c
    plain-way = k.plain way ∙ ap (sequenced_on way channel c) (given_way-there b.receivers channel r k.there)

    handled-way : is_handled took-way ≡ true
    handled-way = ap (λ f. is_handled (outcome wire r.max_packet (without_waiting r.receiver) c f)) k.room ∙ k.handled_alone
