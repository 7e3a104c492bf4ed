-- The stages together, and the datagram that they make.
use Rattle.std.proofs.Common.{◌≡◌, ℕ, ◌+◌, ◌-◌, ◌<◌, ◌≤◌, ◌%◌, List, [], ◌∷◌, ◌++◌, length, take, map, flat_map, refl, sym, ap, ◌∙◌, subst, arith, false, Option, Some, None, slice_range, unwrap_or, option_map}
use Rattle.std.specs.List.{range_with_len, list_any}
use Rattle.std.proofs.lemmas.List.{length-append, length-take, take-append-le}
use Rattle.enet_codec.specs.declared.header.Header.{Header}
use Rattle.enet_codec.specs.Header.{header_text}
use Rattle.enet_codec.specs.Message.{Message, canonical}
use Rattle.enet_throttle.specs.Throttle.{Throttling}
use Rattle.enet_senders.specs.Controlling.{Commands}
use Rattle.enet_sender.specs.Due.{SendingEnd}
use Rattle.enet_outbox.specs.declared.parts.Acknowledgement.{Acknowledgement}
use Rattle.enet_outbox.specs.declared.parts.Unsequenced.{Unsequenced}
use Rattle.enet_outbox.specs.declared.parts.Pace.{Pace}
use Rattle.enet_outbox.specs.declared.parts.Destination.{Destination}
use Rattle.enet_outbox.specs.declared.packing.Progress.{Progress}
use Rattle.enet_outbox.specs.declared.packing.Flow.{Flow}
use Rattle.enet_outbox.specs.Allowance.{limit}
use Rattle.enet_outbox.specs.Outbox.{Outbox, transit_of, prices_of}
use Rattle.enet_outbox.specs.Emission.{Filling, empty_datagram, with_acknowledgements, with_controls, with_unsequenced, with_channels, turn_order, filled, asks, datagram, Emits}
use Rattle.enet_outbox.specs.Private.Packing.{Holds, Leads, with_flow, Counts, Shares, Page, PacksAcknowledgements, PacksControls, PacksUnsequenced, PacksChannels, turns, header_asking}

-- an empty datagram
abbrev pub start : Progress
start = record { at = 4; commands = 32; closed = false; asks = false }

holds-start : (pace : Pace) (o : Outbox) (buf : List ℕ) → 4 ≤ pace.mtu → length buf ≡ pace.mtu → Holds (empty_datagram pace o) start buf
holds-start pace o buf long whole = record {
  begins = omega arith;
  within = omega arith;
  text = refl;
  free = ap (λ (n : ℕ). n - 4) (sym whole);
  more = refl;
  is_closed = refl;
  is_asking = refl;
  messages = tt;
  few = omega arith;
}

turns-all : (o : Outbox) (first : ℕ) → first ≡ unwrap_or (option_map (λ channel. channel + 1) o.last) 0 → turns first (length o.senders) 0 ≡ turn_order o
turns-all o first e =
    let n : length o.senders - 0 ≡ length o.senders = omega arith in
    ap (λ (k : ℕ). map (λ turn. (first + turn) % length o.senders) (range_with_len 0 k)) n
    ∙ ap (λ (k : ℕ). map (λ turn. (k + turn) % length o.senders) (range_with_len 0 (length o.senders))) e

-- the outbox after the stages
abbrev pub left_by : Outbox → List Acknowledgement → Commands → List Unsequenced → List SendingEnd → Flow → Outbox
left_by o acknowledgements control unsequenced senders w = record o {
  acknowledgements = acknowledgements;
  control = control;
  unsequenced = unsequenced;
  senders = senders;
  throttle = w.throttle;
  kept = w.kept;
  last = w.last;
  traffic = w.traffic;
}

-- one stage after another
pub filled-leads : (pace : Pace) (o : Outbox) (first transit prices dearest : ℕ) (b0 : List ℕ) (d1 d2 d3 d4 : Page) (acknowledgements : List Acknowledgement) (control : Commands)
    (unsequenced : List Unsequenced) (throttle : Throttling) (last : Option ℕ) (senders : List SendingEnd) (w : Flow) →
    4 ≤ pace.mtu → length b0 ≡ pace.mtu → first ≡ unwrap_or (option_map (λ channel. channel + 1) o.last) 0 → transit_of o ≡ transit → prices_of o ≡ prices → limit o.allowance ≡ dearest →
    PacksAcknowledgements o.acknowledgements acknowledgements (record { progress = start; buf = b0 }) d1 → PacksControls pace o.control control d1 d2 →
    PacksUnsequenced (record { packets = o.unsequenced; throttle = o.throttle; last = o.last }) (record { packets = unsequenced; throttle = throttle; last = last }) d2 d3 →
    PacksChannels pace (record { first = first; senders = o.senders; flow = record { throttle = throttle; transit = transit; prices = prices; dearest = dearest; kept = o.kept; last = last; traffic = o.traffic } }) (record { first = first; senders = senders; flow = w }) d3 d4 →
    Leads (filled pace o) (left_by o acknowledgements control unsequenced senders w) d4.progress d4.buf × Counts (left_by o acknowledgements control unsequenced senders w) w
filled-leads pace o first transit prices dearest b0 d1 d2 d3 d4 acknowledgements control unsequenced throttle last senders w long whole is counted priced dear pa pc pu ps =
    let f0 : Filling = empty_datagram pace o in
    let l1 = pa f0 (holds-start pace o b0 long whole) refl refl in
    let f1 : Filling = with_acknowledgements f0 in
    let l2 = pc f1 l1.holds (ap (λ (o : Outbox). o.control) l1.outbox) in
    let f2 : Filling = with_controls pace f1 in
    let o2 : f2.outbox ≡ record o { acknowledgements = acknowledgements; control = control } = l2.outbox ∙ ap (λ (o : Outbox). record o { control = control }) l1.outbox in
    let l3 = pu f2 l2.holds (ap (λ (o : Outbox). o.unsequenced) o2) (ap (λ (o : Outbox). o.throttle) o2) (ap (λ (o : Outbox). o.last) o2) in
    let f3 : Filling = with_unsequenced f2 in
    let o3 : f3.outbox ≡ record o { acknowledgements = acknowledgements; control = control; unsequenced = unsequenced; throttle = throttle; last = last } =
    l3.outbox ∙ ap (λ (o : Outbox). record o { unsequenced = unsequenced; throttle = throttle; last = last }) o2 in
    let v : Flow = record { throttle = throttle; transit = transit; prices = prices; dearest = dearest; kept = o.kept; last = last; traffic = o.traffic } in
    let shares : Shares f3.outbox v = (ap (λ (o : Outbox). o.throttle) o3, ap (λ (o : Outbox). o.last) o3, record { transit = ap transit_of o3 ∙ counted; prices = ap prices_of o3 ∙ priced; dearest = ap (λ (o : Outbox). limit o.allowance) o3 ∙ dear; kept = ap (λ (o : Outbox). o.kept) o3; traffic = ap (λ (o : Outbox). o.traffic) o3 }) in
    let l4 = ps f3 l3.holds (ap (λ (o : Outbox). o.senders) o3) shares in
    let all : with_channels pace (turns first (length o.senders) 0) f3 ≡ filled pace o = ap (λ (order : List ℕ). with_channels pace order f3) (turns-all o first is) in
    let o4 : with_flow f3.outbox senders w ≡ left_by o acknowledgements control unsequenced senders w = ap (λ (o : Outbox). with_flow o senders w) o3 in (
      record {
        holds = let P : Filling → Type 0 = λ f. Holds f d4.progress d4.buf in subst P all l4.0.holds;
        outbox = ap (λ (f : Filling). f.outbox) (sym all) ∙ l4.0.outbox ∙ o4;
      },
      subst (λ (o : Outbox). Counts o w) o4 l4.1,
    )

-- where nothing stands behind the header's place, no command goes
none-from : (ms : List Message) → [] ≡ flat_map canonical ms → ms ≡ []
none-from [] e = refl
none-from (m ∷ ms) e = absurd (let l = ap (λ (xs : List ℕ). length xs) e in omega arith)

pub emits-none : (pace : Pace) (to : Destination) (old new : Outbox) (p : Progress) (buf : List ℕ) → Leads (filled pace old) new p buf → p.at ≡ 4 → Emits pace to old None buf
emits-none pace to old new p buf l e =
    none-from (filled pace old).messages (ap (slice_range buf 4) (sym e) ∙ l.holds.text)

some-from : (ms : List Message) → 0 < length (flat_map canonical ms) → 0 < length ms
some-from [] h = absurd (omega arith)
some-from (m ∷ ms) h = omega arith

-- the header and the commands are the datagram
pub emits-some : (pace : Pace) (to : Destination) (old new : Outbox) (p : Progress) (buf after : List ℕ) (len : ℕ) (header : Header) → Leads (filled pace old) new p buf → (p.at ≡ 4 → ⊥) →
    header ≡ header_asking pace.now to p.asks → take len after ≡ header_text header ++ slice_range buf 4 p.at → len ≡ length (header_text header) + (p.at - 4) → Emits pace to old (Some len) after
emits-some pace to old new p buf after len header l more is text ends =
    let ms : List Message = (filled pace old).messages in
    let h = l.holds in
    let begins = h.begins in
    let within = h.within in
    let size : length (slice_range buf 4 p.at) ≡ p.at - 4 = length-range buf 4 p.at begins within in
    let same : length (flat_map canonical ms) ≡ p.at - 4 = ap (λ (xs : List ℕ). length xs) (sym h.text) ∙ size in
    let made : header ≡ header_asking pace.now to (list_any asks ms) = is ∙ ap (header_asking pace.now to) (sym h.is_asking) in
    let bytes : header_text header ++ slice_range buf 4 p.at ≡ datagram pace.now to ms = ap (λ (xs : List ℕ). header_text header ++ xs) h.text ∙ ap (λ (h : Header). header_text h ++ flat_map canonical ms) made in
    let count : len ≡ length (header_text header ++ slice_range buf 4 p.at) = omega (arith, length-append (header_text header) (slice_range buf 4 p.at)) in
    record { some = some-from ms (omega arith); few = omega (arith, h.few); ranges = h.messages; ends = count ∙ ap (λ (xs : List ℕ). length xs) bytes; text = text ∙ bytes }
  where
    length-range : (xs : List ℕ) (from to : ℕ) → from ≤ to → to ≤ length xs → length (slice_range xs from to) ≡ to - from
    length-range xs from to low high = omega (arith, length-take (to - from) (Rattle.std.proofs.Common.drop from xs), Rattle.std.proofs.lemmas.List.length-drop from xs)

-- what stands behind the written front is none of it
pub emits-longer : (pace : Pace) (to : Destination) (old : Outbox) (r : Option ℕ) (buf rest : List ℕ) → Emits pace to old r buf → Emits pace to old r (buf ++ rest)
emits-longer pace to old None buf rest d = d
emits-longer pace to old (Some len) buf rest d =
    let fits : len ≤ length buf = omega (arith, d.ends, ap (λ (xs : List ℕ). length xs) d.text, length-take len buf) in
    record { some = d.some; few = d.few; ranges = d.ranges; ends = d.ends; text = take-append-le len buf rest fits ∙ d.text }
