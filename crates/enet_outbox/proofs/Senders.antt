-- The channels' senders, and what they have in transit.
use Rattle.std.proofs.Common.{◌≡◌, ℕ, zero, suc, ◌+◌, ◌<◌, ◌≤◌, List, [], ◌∷◌, length, map, set, get_or, take, refl, sym, ap, subst, ◌∙◌, arith, Option, Some, None, ◌==◌, Bool, true, false, cond, Result, Ok, Err, OnOk, OnErr}
use Rattle.std.specs.List.{range_with_len, slice_get, sum_by}
use Rattle.std.proofs.lemmas.List.{set-get_or, length-set, length-map, length-take, get_or_default}
use Rattle.std.proofs.lemmas.Option.{slice_get-get_or, get_or_from_slice_get}
use Rattle.std.proofs.lemmas.List.Sums.{sum_by-cons, sum_by-set, sum_by-take-le, get_or-le-sum_by}
use Rattle.enet_rtt.specs.declared.transmission.Tick.{Tick}
use Rattle.enet_fragment.specs.declared.data.DataCommand.{DataCommand}
use Rattle.enet_sender.specs.declared.lateness.Late.{Late}
use Rattle.enet_sender.specs.declared.outgoing.Acknowledged.{Acknowledged}
use Rattle.enet_sender.specs.declared.sent.Sent.{Sent}
use Rattle.enet_sender.specs.Sender.{bytes_in_transit, prices_in_transit, transit_bytes, transit_price, bytes_of, price_of, bytes_leaving, price_leaving, late_bytes, late_price, lost_price, after_acknowledgement, after_match, acknowledged}
use Rattle.enet_sender.specs.Due.{SendingEnd, new_end, with_submitted}
use Rattle.enet_sender.proofs.Transit.{transit-acknowledged, prices-acknowledged, transit-marked, prices-marked, prices-lost}
use Rattle.enet_senders.specs.Controlling as controlling
use Rattle.enet_senders.proofs.Sets.{get-set}
use Rattle.enet_senders.specs.Senders.{IsLateOver, sum_over}
use Rattle.enet_outbox.specs.declared.parts.Matched.TheVariants as matched
use Rattle.enet_outbox.specs.Allowance as allowance
use Rattle.enet_outbox.specs.Traffic.{with_acknowledged}
use Rattle.enet_outbox.specs.Outbox.{Outbox, acknowledged_on, as_control, as_data, cleared_sender, marked_sender, prices_lost, still_kept, told_on, told_by, with_growth}
use Rattle.enet_outbox.specs.Outbox as outbox
use Rattle.enet_outbox.specs.Invariant.{KeepsOutbox, transit_over, prices_over, with_accepted}

abbrev transit_at : SendingEnd → ℕ
transit_at s = bytes_in_transit s.sender

abbrev price_at : SendingEnd → ℕ
price_at s = prices_in_transit s.sender

-- a sender changes, and a sum over all with it
sum-changed : (u : SendingEnd → ℕ) (total after : ℕ) (senders : List SendingEnd) (i : ℕ) (s t : SendingEnd) → i < length senders → s ≡ get_or senders i s
    → after + u s ≡ total + u t → total ≡ sum_by u senders → after ≡ sum_by u (set senders i t)
sum-changed u total after senders i s t inside is change counted =
    let e : sum_by u (set senders i t) + u (get_or senders i s) ≡ sum_by u senders + u t = sum_by-set u senders i t s inside in
    let same : u s ≡ u (get_or senders i s) = ap u is in
    omega arith

pub keeps-set : (transit after prices priced : ℕ) (senders : List SendingEnd) (i : ℕ) (s t : SendingEnd) → i < length senders → s ≡ get_or senders i s
    → after + transit_at s ≡ transit + transit_at t → priced + price_at s ≡ prices + price_at t → KeepsOutbox transit prices senders → KeepsOutbox after priced (set senders i t)
keeps-set transit after prices priced senders i s t inside is change costs keeps = record {
  few = let e = length-set senders i t in let few = keeps.few in omega arith;
  counted = sum-changed transit_at transit after senders i s t inside is change keeps.counted;
  priced = sum-changed price_at prices priced senders i s t inside is costs keeps.priced;
}

-- a packet is submitted to a sender, or refused
pub keeps-submitted : {E U : Type 0} (transit prices channel mtu flags : ℕ) (body left : List ℕ) (senders new : List SendingEnd) (result : Result U E) → channel < length senders
    → ((s : SendingEnd) → slice_get senders channel ≡ Some s → OnOk result (new ≡ set senders channel (with_submitted mtu s flags body)))
    → OnErr result ((new ≡ senders) × (left ≡ body)) → KeepsOutbox transit prices senders → KeepsOutbox transit prices new
keeps-submitted transit prices channel mtu flags body left senders new (Ok x) inside queued refused keeps =
    let s : SendingEnd = get_or senders channel (new_end 0) in
    let there : slice_get senders channel ≡ Some s = slice_get-get_or senders channel (new_end 0) inside in
    let is : s ≡ get_or senders channel s = get_or_default senders channel (new_end 0) s inside in
    subst (λ (ss : List SendingEnd). KeepsOutbox transit prices ss) (sym (queued s there))
    (keeps-set transit transit prices prices senders channel s (with_submitted mtu s flags body) inside is refl refl keeps)
keeps-submitted transit prices channel mtu flags body left senders new (Err e) inside queued refused keeps = subst (λ (ss : List SendingEnd). KeepsOutbox transit prices ss) (sym refused.0) keeps

-- all that is late leaves the transit
sum-marked : (u : SendingEnd → ℕ) (w : Sent → ℕ) (f : SendingEnd → SendingEnd) → ((s : SendingEnd) → u (f s) + sum_by w s.sender.sent ≡ u s) → (senders : List SendingEnd)
    → sum_by u (map f senders) + sum_over w senders ≡ sum_by u senders
sum-marked u w f each [] = refl
sum-marked u w f each (s ∷ senders) =
    let e = sum_by-cons u (f s) (map f senders) in
    let d = sum_by-cons u s senders in
    let l = sum_by-cons (λ (x : SendingEnd). sum_by w x.sender.sent) s senders in
    let h = sum-marked u w f each senders in
    let k = each s in
    omega arith

lost-over : (tick : Tick) (senders : List SendingEnd) → sum_over (lost_price tick) senders ≤ sum_over (late_price tick) senders
lost-over tick [] = omega arith
lost-over tick (s ∷ senders) =
    let e = sum_by-cons (λ (x : SendingEnd). sum_by (lost_price tick) x.sender.sent) s senders in
    let d = sum_by-cons (λ (x : SendingEnd). sum_by (late_price tick) x.sender.sent) s senders in
    let h = lost-over tick senders in
    let k = prices-lost tick s.sender in
    omega arith

-- what a moment does to the senders: none of its sums has stopped at the greatest number
pub record Marks (transit costs : ℕ) (tick : Tick) (senders : List SendingEnd) (late : Late) : Type 0 where
  pub lost : late.lost ≡ prices_lost tick senders
  pub bytes : late.bytes ≤ transit
  pub prices : late.prices ≤ costs
  pub kept : (after priced : ℕ) → after + late.bytes ≡ transit → priced + late.prices ≡ costs → KeepsOutbox after priced (map (marked_sender tick) senders)

pub marks : (transit prices : ℕ) (tick : Tick) (senders : List SendingEnd) (late : Late) → transit < 4294967296 → prices < 4294967296 → KeepsOutbox transit prices senders → IsLateOver tick senders late
    → Marks transit prices tick senders late
marks transit prices tick senders late low small keeps is =
    let bytes : sum_by transit_at (map (marked_sender tick) senders) + sum_over (late_bytes tick) senders ≡ sum_by transit_at senders =
    sum-marked transit_at (late_bytes tick) (marked_sender tick) (λ s. transit-marked tick s.sender) senders in
    let costs : sum_by price_at (map (marked_sender tick) senders) + sum_over (late_price tick) senders ≡ sum_by price_at senders =
    sum-marked price_at (late_price tick) (marked_sender tick) (λ s. prices-marked tick s.sender) senders in
    let lost = lost-over tick senders in
    let counted = keeps.counted in
    let priced_is = keeps.priced in
    let b = is.bytes in
    let p = is.prices in
    let l = is.lost in
    record {
      lost = omega arith;
      bytes = omega arith;
      prices = omega arith;
      kept = λ after priced less fewer. record {
        few = let e = length-map senders (marked_sender tick) in let few = keeps.few in omega arith;
        counted = omega arith;
        priced = omega arith;
      };
    }

-- nothing is in transit where all senders have nothing sent
none-cleared : (u : SendingEnd → ℕ) → ((s : SendingEnd) → u (cleared_sender s) ≡ 0) → (senders : List SendingEnd) → sum_by u (map cleared_sender senders) ≡ 0
none-cleared u none [] = refl
none-cleared u none (s ∷ senders) =
    let e = sum_by-cons u (cleared_sender s) (map cleared_sender senders) in
    let h = none-cleared u none senders in
    let k = none s in
    omega arith

pub keeps-cleared : (transit prices : ℕ) (senders : List SendingEnd) → KeepsOutbox transit prices senders → KeepsOutbox 0 0 (map cleared_sender senders)
keeps-cleared transit prices senders keeps = record {
  few = let e = length-map senders cleared_sender in let few = keeps.few in omega arith;
  counted = sym (none-cleared transit_at (λ s. refl) senders);
  priced = sym (none-cleared price_at (λ s. refl) senders);
}

none-open : (u : SendingEnd → ℕ) → ((k : ℕ) → u (new_end k) ≡ 0) → (a n : ℕ) → sum_by u (map new_end (range_with_len a n)) ≡ 0
none-open u none a zero = refl
none-open u none a (suc n) =
    let e = sum_by-cons u (new_end a) (map new_end (range_with_len (a + 1) n)) in
    let h = none-open u none (a + 1) n in
    let k = none a in
    omega arith

length-open : (a n : ℕ) → length (map new_end (range_with_len a n)) ≡ n
length-open a zero = refl
length-open a (suc n) = let h = length-open (a + 1) n in omega arith

pub keeps-open : (channels : ℕ) → channels ≤ 255 → KeepsOutbox 0 0 (map new_end (range_with_len 0 channels))
keeps-open channels few = record {
  few = let e = length-open 0 channels in omega arith;
  counted = sym (none-open transit_at (λ k. refl) 0 channels);
  priced = sym (none-open price_at (λ k. refl) 0 channels);
}

-- payloads are no more than prices
bytes-le : (c : DataCommand) → bytes_of c ≤ price_of c
bytes-le c = by c.reliable
  where
    by : (b : Bool) → cond b (length c.body) 0 ≤ cond b (length c.body + 28) 0
    by true = omega arith
    by false = omega arith

sent-le : (sent : List Sent) → sum_by transit_bytes sent ≤ sum_by transit_price sent
sent-le [] = omega arith
sent-le (p ∷ sent) =
    let e = sum_by-cons transit_bytes p sent in
    let d = sum_by-cons transit_price p sent in
    let h = sent-le sent in
    let k = by p.transmission.due in
    omega arith
  where
    by : (b : Bool) → cond b 0 (bytes_of p.command) ≤ cond b 0 (price_of p.command)
    by true = omega arith
    by false = bytes-le p.command

transit-le : (senders : List SendingEnd) → transit_over senders ≤ prices_over senders
transit-le [] = omega arith
transit-le (s ∷ senders) =
    let e = sum_by-cons transit_at s senders in
    let d = sum_by-cons price_at s senders in
    let h = transit-le senders in
    let k : transit_at s ≤ price_at s = sent-le s.sender.sent in
    omega arith

-- nothing is in transit, and only the first senders stay
pub keeps-take : (transit prices channels : ℕ) (senders : List SendingEnd) → prices_over senders ≡ 0 → KeepsOutbox transit prices senders → KeepsOutbox transit prices (take channels senders)
keeps-take transit prices channels senders none keeps = record {
  few = let e = length-take channels senders in let few = keeps.few in omega arith;
  counted = let e = sum_by-take-le transit_at senders channels in let less = transit-le senders in let counted = keeps.counted in omega arith;
  priced = let e = sum_by-take-le price_at senders channels in let priced = keeps.priced in omega arith;
}

-- what an acknowledgement matches is of what is in transit
taken-le : (u : SendingEnd → ℕ) (total taken : ℕ) (senders : List SendingEnd) (i : ℕ) (s t : SendingEnd) → i < length senders → s ≡ get_or senders i s
    → u t + taken ≡ u s → total ≡ sum_by u senders → taken ≤ total
taken-le u total taken senders i s t inside is gone counted =
    let e : u (get_or senders i s) ≤ sum_by u senders = get_or-le-sum_by u senders i s inside in
    let same : u s ≡ u (get_or senders i s) = ap u is in
    omega arith

-- what an acknowledgement does to the senders, where there is its channel
pub record Accepts (transit costs channel number time : ℕ) (senders new : List SendingEnd) (told : Option Acknowledged) : Type 0 where
  pub found : told ≡ told_on (slice_get senders channel) number time
  pub accepted : new ≡ with_accepted senders channel number time (slice_get senders channel)
  pub bytes : bytes_leaving told ≤ transit
  pub prices : price_leaving told ≤ costs
  pub kept : (after priced : ℕ) → after + bytes_leaving told ≡ transit → priced + price_leaving told ≡ costs → KeepsOutbox after priced new

pub accepts : (transit prices channel number time : ℕ) (senders new : List SendingEnd) (told : Option Acknowledged) → channel < length senders → KeepsOutbox transit prices senders
    → ((s : SendingEnd) → slice_get senders channel ≡ Some s → told ≡ acknowledged s.sender number time)
    → ((s : SendingEnd) → slice_get senders channel ≡ Some s → new ≡ set senders channel (record s { sender = after_match s.sender number told })) → Accepts transit prices channel number time senders new told
accepts transit prices channel number time senders new told inside keeps found ends =
    let s : SendingEnd = get_or senders channel (new_end 0) in
    let there : slice_get senders channel ≡ Some s = slice_get-get_or senders channel (new_end 0) inside in
    let is : s ≡ get_or senders channel s = get_or_default senders channel (new_end 0) s inside in
    let one : told ≡ acknowledged s.sender number time = found s there in
    let t : SendingEnd = record s { sender = after_match s.sender number told } in
    let Leaves : Option Acknowledged → Type 0 = λ o. bytes_in_transit (after_match s.sender number o) + bytes_leaving o ≡ bytes_in_transit s.sender in
    let Costs : Option Acknowledged → Type 0 = λ o. prices_in_transit (after_match s.sender number o) + price_leaving o ≡ prices_in_transit s.sender in
    let gone : transit_at t + bytes_leaving told ≡ transit_at s = subst Leaves (sym one) (transit-acknowledged s.sender number time) in
    let cost : price_at t + price_leaving told ≡ price_at s = subst Costs (sym one) (prices-acknowledged s.sender number time) in
    let ends_so : new ≡ set senders channel t = ends s there in
    record {
      found = one ∙ sym (ap (λ (o : Option SendingEnd). told_on o number time) there);
      accepted = ends_so ∙ ap (λ (o : Option Acknowledged). set senders channel (record s { sender = after_match s.sender number o })) one ∙ sym (ap (with_accepted senders channel number time) there);
      bytes = taken-le transit_at transit (bytes_leaving told) senders channel s t inside is gone keeps.counted;
      prices = taken-le price_at prices (price_leaving told) senders channel s t inside is cost keeps.priced;
      kept = λ after priced less fewer.
          subst (λ (ss : List SendingEnd). KeepsOutbox after priced ss) (sym ends_so) (keeps-set transit after prices priced senders channel s t inside is (omega arith) (omega arith) keeps);
    }

-- what it matches is told by the channel
pub found-by : (o : Outbox) (channel number time : ℕ) (told : Option Acknowledged) → (channel == 0xFF) ≡ false → told ≡ told_on (slice_get o.senders channel) number time
    → as_data told ≡ outbox.matched_by o channel number time
found-by o channel number time told apart is =
    ap as_data is
    ∙ sym (ap (λ b. cond b (as_control (controlling.acknowledged_control o.control number time)) (as_data (told_on (slice_get o.senders channel) number time))) apart)

-- where it matches nothing, the senders stay
pub accepted-none : (senders : List SendingEnd) (channel number time : ℕ) → told_on (slice_get senders channel) number time ≡ None → with_accepted senders channel number time (slice_get senders channel) ≡ senders
accepted-none senders channel number time none = by (slice_get senders channel) refl none
  where
    by : (o : Option SendingEnd) → slice_get senders channel ≡ o → told_on o number time ≡ None → with_accepted senders channel number time o ≡ senders
    by None there e = refl
    by (Some s) there e =
        ap (λ (x : Option Acknowledged). set senders channel (record s { sender = after_match s.sender number x })) e
        ∙ ap (λ (t : SendingEnd). set senders channel t) (sym (get_or_from_slice_get senders channel s s there)) ∙ set-get_or senders channel s

-- and where it matches a command, the outbox is so
pub accepted-some : (o : Outbox) (channel number time : ℕ) (told : Acknowledged) (kept : Option ℕ) → (channel == 0xFF) ≡ false → told_on (slice_get o.senders channel) number time ≡ Some told
    → ((s : SendingEnd) → slice_get (with_accepted o.senders channel number time (slice_get o.senders channel)) channel ≡ Some s → kept ≡ still_kept o.kept channel s.sender)
    → record o { senders = with_accepted o.senders channel number time (slice_get o.senders channel); allowance = allowance.after_acknowledgement o.allowance told; kept = kept; traffic = with_acknowledged o.traffic }
    ≡ outbox.after_match matched.Data o channel number time
accepted-some o channel number time told kept apart found stays = by (slice_get o.senders channel) refl found ∙ sym (ap (λ (x : Option Acknowledged). with_growth (outbox.after_acknowledgement o channel number) x) tells)
  where
    gone : outbox.after_acknowledgement o channel number ≡ acknowledged_on o channel number (slice_get o.senders channel)
    gone = ap (λ b. cond b (record o { control = controlling.after_acknowledgement o.control number }) (acknowledged_on o channel number (slice_get o.senders channel))) apart

    tells : told_by o channel number time ≡ Some told
    tells = let none : Option Acknowledged = None in ap (λ b. cond b none (told_on (slice_get o.senders channel) number time)) apart ∙ found

    by : (x : Option SendingEnd) → slice_get o.senders channel ≡ x → told_on x number time ≡ Some told
        → record o { senders = with_accepted o.senders channel number time x; allowance = allowance.after_acknowledgement o.allowance told; kept = kept; traffic = with_acknowledged o.traffic } ≡ with_growth (outbox.after_acknowledgement o channel number) (Some told)
    by None there e = cc
    by (Some s) there e =
        let t : SendingEnd = record s { sender = after_match s.sender number (acknowledged s.sender number time) } in
        let here : slice_get (with_accepted o.senders channel number time (slice_get o.senders channel)) channel ≡ Some t =
        ap (λ (x : Option SendingEnd). slice_get (with_accepted o.senders channel number time x) channel) there ∙ get-set o.senders channel s t there in
        let is : kept ≡ still_kept o.kept channel (after_acknowledgement s.sender number) =
        stays t here ∙ ap (λ (m : Option Acknowledged). still_kept o.kept channel (after_match s.sender number m)) e in
        (λ i. record o { senders = set o.senders channel (record s { sender = after_match s.sender number (e i) }); allowance = allowance.after_acknowledgement o.allowance told; kept = is i; traffic = with_acknowledged o.traffic })
        ∙ ap (λ (x : Option SendingEnd). with_growth (acknowledged_on o channel number x) (Some told)) (sym there)
        ∙ ap (λ (x : Outbox). with_growth x (Some told)) (sym gone)
