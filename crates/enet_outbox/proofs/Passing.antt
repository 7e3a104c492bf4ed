-- Channels that are passed over, since they are still.
use Rattle.std.proofs.Common.{◌≡◌, ℕ, zero, suc, ◌+◌, ◌<◌, ◌≤◌, ◌%◌, Bool, true, false, List, refl, sym, ap, subst, ◌∙◌, arith, Option, Some, None}
use Rattle.std.specs.List.{slice_get}
use Rattle.std.proofs.Math.Nat.{add-mod, mod-eq_of_lt}
use Rattle.enet_seq.specs.Numbering.{wire}
use Rattle.enet_sender.specs.Sender.{Next}
use Rattle.enet_sender.specs.Due.{SendingEnd}
use Rattle.enet_senders.specs.Senders.{IsStill}
use Rattle.enet_senders.proofs.Sets.{next-none, wants-none}
use Rattle.enet_outbox.specs.declared.parts.Pace.{Pace}
use Rattle.enet_outbox.specs.declared.packing.Progress.{Progress}
use Rattle.enet_outbox.specs.declared.packing.Flow.{Flow}
use Rattle.enet_outbox.specs.Outbox.{Outbox}
use Rattle.enet_outbox.specs.Emission.{Filling, channel_step, due_step, occasion, wants_room_on, with_channel, with_channels}
use Rattle.enet_outbox.specs.Private.Packing.{turns}
use Rattle.enet_outbox.proofs.Repeats.{turn-closed, turn-idle}
use Rattle.enet_outbox.proofs.Channels.{ChannelsAt, turns-more}

-- a place further on in the same round
pub turned : (a d n : ℕ) → a % n + d < n → (a + d) % n ≡ a % n + d
turned a d n low =
    let e : d % n ≡ d = mod-eq_of_lt (omega arith) in
    add-mod a d n ∙ ap (λ m. (a % n + m) % n) e ∙ mod-eq_of_lt low

-- a still channel has nothing due
pub step-still : (pace : Pace) (channel : ℕ) (f : Filling) (o : Option SendingEnd) → ((e : SendingEnd) → o ≡ Some e → IsStill e.sender) → channel_step pace channel f o ≡ f
step-still pace channel f None still = refl
step-still pace channel f (Some s) still = ap (λ (n : Option Next). due_step f channel s n) (next-none wire (occasion pace channel f.outbox) s.sender (still s refl))

-- and wants no room
wants-still : (pace : Pace) (channel : ℕ) (f : Filling) (o : Option SendingEnd) → ((e : SendingEnd) → o ≡ Some e → IsStill e.sender) → wants_room_on pace channel f.outbox o ≡ false
wants-still pace channel f None still = refl
wants-still pace channel f (Some s) still = wants-none (occasion pace channel f.outbox) s.sender (still s refl)

pub channel-still : (pace : Pace) (f : Filling) (channel : ℕ) → ((e : SendingEnd) → slice_get f.outbox.senders channel ≡ Some e → IsStill e.sender) → with_channel pace f channel ≡ f
channel-still pace f channel still = by f.closed refl
  where
    by : (b : Bool) → f.closed ≡ b → with_channel pace f channel ≡ f
    by true e = turn-closed pace channel f e
    by false e =
        turn-idle pace channel f e (step-still pace channel f (slice_get f.outbox.senders channel) still) (wants-still pace channel f (slice_get f.outbox.senders channel) still)

-- the stage goes past so many still channels
pub channels-pass : {pace : Pace} {first n : ℕ} {f : Filling} {senders : List SendingEnd} {w : Flow} {p : Progress} {buf : List ℕ} (d k j : ℕ) → k + d ≡ j → j ≤ n
    → ((i : ℕ) (e : SendingEnd) → k ≤ i → i < j → slice_get senders ((first + i) % n) ≡ Some e → IsStill e.sender)
    → ChannelsAt pace first n k f senders w p buf → ChannelsAt pace first n j f senders w p buf
channels-pass {pace} {first} {n} {f} {senders} {w} {p} {buf} zero k j is within still a =
    let same : k ≡ j = omega arith in
    subst (λ m. ChannelsAt pace first n m f senders w p buf) same a
channels-pass {pace} {first} {n} {f} {senders} {w} {p} {buf} (suc d) k j is within still a =
    let low : k < n = omega arith in
    let i = (first + k) % n in
    let here : with_channel pace a.g i ≡ a.g =
    channel-still pace a.g i (λ e there. still k e (omega arith) (omega arith) (ap (λ (o : Outbox). slice_get o.senders i) (sym a.outbox) ∙ there)) in
    channels-pass d (k + 1) j (omega arith) within (λ m e at less there. still m e (omega arith) less there) (record {
      g = a.g;
      holds = a.holds;
      outbox = a.outbox;
      stage = a.stage ∙ ap (λ (order : List ℕ). with_channels pace order a.g) (turns-more first n k low) ∙ ap (λ (g : Filling). with_channels pace (turns first n (k + 1)) g) here;
      counts = a.counts;
    })
