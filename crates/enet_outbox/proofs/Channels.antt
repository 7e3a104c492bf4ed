-- The channels, one after another.
use Rattle.std.proofs.Common.{◌≡◌, ℕ, zero, suc, ◌+◌, ◌-◌, ◌<◌, ◌≤◌, ◌%◌, List, [], ◌∷◌, map, refl, sym, ap, subst, ◌∙◌, arith, true, false, Option, Some, slice_set}
use Rattle.std.specs.List.{slice_get, range_with_len}
use Rattle.enet_throttle.specs.Throttle.{Throttling}
use Rattle.enet_sender.specs.Due.{SendingEnd}
use Rattle.enet_outbox.specs.declared.parts.Pace.{Pace}
use Rattle.enet_outbox.specs.declared.packing.Progress.{Progress}
use Rattle.enet_outbox.specs.declared.packing.Flow.{Flow}
use Rattle.enet_outbox.specs.declared.traffic.Traffic.{Traffic}
use Rattle.enet_outbox.specs.Outbox.{Outbox}
use Rattle.enet_outbox.specs.Emission.{Filling, with_channel, with_channels}
use Rattle.enet_outbox.specs.Private.Packing.{Holds, Leads, with_flow, Counts, Shares, PacksChannel, turns}
use Rattle.enet_outbox.proofs.Fillings.{leads-by}
use Rattle.enet_outbox.proofs.Repeats.{channels-closed}

pub turns-more : (first n k : ℕ) → k < n → turns first n k ≡ (first + k) % n ∷ turns first n (k + 1)
turns-more first n k h =
    let e : n - k ≡ suc (n - (k + 1)) = omega arith in
    ap (λ (m : ℕ). map (λ j. (first + j) % n) (range_with_len k m)) e

turns-none : (first n k : ℕ) → n ≤ k → turns first n k ≡ []
turns-none first n k h =
    let e : n - k ≡ zero = omega arith in
    ap (λ (m : ℕ). map (λ j. (first + j) % n) (range_with_len k m)) e

-- the stage has come as far as turn k
pub record ChannelsAt (pace : Pace) (first n k : ℕ) (f : Filling) (senders : List SendingEnd) (w : Flow) (p : Progress) (buf : List ℕ) : Type 0 where
  pub g : Filling
  pub holds : Holds g p buf
  pub outbox : g.outbox ≡ with_flow f.outbox senders w
  pub stage : with_channels pace (turns first n 0) f ≡ with_channels pace (turns first n k) g
  pub counts : Counts g.outbox w

pub channels-begin : {pace : Pace} {first n : ℕ} {f : Filling} {senders : List SendingEnd} {w : Flow} {p : Progress} {buf : List ℕ} → Holds f p buf → f.outbox.senders ≡ senders → Shares f.outbox w → ChannelsAt pace first n 0 f senders w p buf
channels-begin {pace} {first} {n} {f} {senders} {w} {p} {buf} h is e = record {
  g = f;
  holds = h;
  outbox = ap (λ (ss : List SendingEnd). record f.outbox { senders = ss }) is
      ∙ ap (λ (t : Throttling). record f.outbox { senders = senders; throttle = t }) e.0
      ∙ ap (λ (c : Option ℕ). record f.outbox { senders = senders; throttle = w.throttle; kept = c }) e.2.kept
      ∙ ap (λ (l : Option ℕ). record f.outbox { senders = senders; throttle = w.throttle; kept = w.kept; last = l }) e.1
      ∙ ap (λ (x : Traffic). record f.outbox { senders = senders; throttle = w.throttle; kept = w.kept; last = w.last; traffic = x }) e.2.traffic;
  stage = refl;
  counts = e.2;
}

pub channels-turn : {pace : Pace} {first n k : ℕ} {f : Filling} {senders : List SendingEnd} {w v : Flow} {p q : Progress} {from to : List ℕ} (i : ℕ) (s t : SendingEnd) → ChannelsAt pace first n k f senders w p from →
    k < n → i ≡ (first + k) % n → slice_get senders i ≡ Some s → p.closed ≡ false → PacksChannel pace (record { channel = i; sender = s; flow = w }) (record { channel = i; sender = t; flow = v }) (record { progress = p; buf = from }) (record { progress = q; buf = to }) → ChannelsAt pace first n (k + 1) f (slice_set senders i t) v q to
channels-turn {pace} {first} {n} {k} {f} {senders} {w} {v} {p} {q} {from} {to} i s t a low is there opened packs =
    let g2 : Filling = with_channel pace a.g i in
    let at : slice_get a.g.outbox.senders i ≡ Some s = ap (λ (o : Outbox). slice_get o.senders i) a.outbox ∙ there in
    let shares : Shares a.g.outbox w = (ap (λ (o : Outbox). o.throttle) a.outbox, ap (λ (o : Outbox). o.last) a.outbox, a.counts) in
    let r = packs a.g a.holds (a.holds.is_closed ∙ opened) at shares in
    let G : Outbox → Outbox = λ o. with_flow o (slice_set o.senders i t) v in
    record {
      g = g2;
      holds = r.0.holds;
      outbox = r.0.outbox ∙ ap G a.outbox;
      stage = a.stage ∙ ap (λ (order : List ℕ). with_channels pace order a.g) (turns-more first n k low)
          ∙ ap (λ (j : ℕ). with_channels pace (j ∷ turns first n (k + 1)) a.g) (sym is);
      counts = subst (λ (o : Outbox). Counts o v) (sym r.0.outbox) r.1;
    }

pub channels-end : {pace : Pace} {first n k : ℕ} {f : Filling} {senders : List SendingEnd} {w : Flow} {p : Progress} {buf : List ℕ} → ChannelsAt pace first n k f senders w p buf → n ≤ k →
    Leads (with_channels pace (turns first n 0) f) (with_flow f.outbox senders w) p buf × Counts (with_flow f.outbox senders w) w
channels-end {pace} {first} {n} {k} {f} {senders} {w} {p} {buf} a past =
    (leads-by (a.stage ∙ ap (λ (order : List ℕ). with_channels pace order a.g) (turns-none first n k past)) a.holds a.outbox, subst (λ (o : Outbox). Counts o w) a.outbox a.counts)

pub channels-shut : {pace : Pace} {first n k : ℕ} {f : Filling} {senders : List SendingEnd} {w : Flow} {p : Progress} {buf : List ℕ} → ChannelsAt pace first n k f senders w p buf → p.closed ≡ true →
    Leads (with_channels pace (turns first n 0) f) (with_flow f.outbox senders w) p buf × Counts (with_flow f.outbox senders w) w
channels-shut {pace} {first} {n} {k} {f} {senders} {w} {p} {buf} a closed =
    (leads-by (a.stage ∙ channels-closed pace (turns first n k) a.g (a.holds.is_closed ∙ closed)) a.holds a.outbox, subst (λ (o : Outbox). Counts o w) a.outbox a.counts)
