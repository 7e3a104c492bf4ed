-- What is kept of a host at first.
use Rattle.std.proofs.Common.{◌≡◌, ℕ, zero, suc, ◌+◌, ◌*◌, ◌^◌, ◌<◌, List, [], ◌∷◌, ◌++◌, length, replicate, Some, None, Option, refl, sym, ap, subst, ◌∙◌, inl, inr, arith}
use Rattle.enet_codec.specs.declared.event.PeerRef.{PeerRef}
use Rattle.law_connection.specs.LinkSteps.{Has}
use Rattle.law_network.specs.Log.{Logged, ChannelPackets, no_packets, fresh_channels, fresh_greatest, joined_greatest, greatest_at}
use Rattle.law_network.specs.Network.{HostEnd, fresh_end}
use Rattle.law_network.specs.World.{joined_end}
use Rattle.enet_site.specs.Records.{AreBelow, AreApart}
use Rattle.enet_site.specs.RecordsPrivate.Records.{first_numbers, IsKept, AreKept}

pub channels-of : (n : ℕ) (all : List ChannelPackets) → n ≡ 256 → all ≡ replicate n no_packets → all ≡ fresh_channels
unfolding fresh_channels
channels-of n all count fresh = subst (λ (m : ℕ). all ≡ replicate m no_packets) count fresh

pub numbers-of : (n control : ℕ) (first all : List ℕ) → n ≡ 255 → first ≡ replicate n 0 → all ≡ first ++ control ∷ [] → all ≡ first_numbers control
unfolding first_numbers
numbers-of n control first all count fresh whole =
    let general : all ≡ replicate n 0 ++ control ∷ [] = cc in
    subst (λ (m : ℕ). all ≡ replicate m 0 ++ control ∷ []) count general

pub fresh-numbers : first_numbers 0 ≡ fresh_greatest
unfolding first_numbers fresh_greatest
fresh-numbers = refl

pub joined-numbers : first_numbers 1 ≡ joined_greatest
unfolding first_numbers joined_greatest
joined-numbers = refl

first-low : (n i control : ℕ) → control < 2 → greatest_at (replicate n 0 ++ control ∷ []) i < 2
first-low zero zero control h = h
first-low zero (suc i) control h = omega arith
first-low (suc n) zero control h = omega arith
first-low (suc n) (suc i) control h = first-low n i control h

numbers-low : (control : ℕ) → control < 2 → AreBelow 2 (first_numbers control)
unfolding first_numbers
numbers-low control h = λ i. first-low 255 i control h

numbers-long : (control : ℕ) → length (first_numbers control) ≡ 256
unfolding first_numbers
numbers-long control = refl

channels-long : length fresh_channels ≡ 256
unfolding fresh_channels
channels-long = refl

-- all that is kept at first

first-kept : (n control : ℕ) (e : HostEnd) → control < 2 → e.channels ≡ fresh_channels → e.greatest ≡ first_numbers control → IsKept n e
first-kept n control e low channels numbers = record {
  channels = ap length channels ∙ channels-long;
  numbers = ap length numbers ∙ numbers-long control;
  below = subst (AreBelow (2 + 2 ^ 20 * n)) (sym numbers) (λ i. (let b = numbers-low control low i in omega arith));
}

pub fresh-kept : (n x : ℕ) (name : PeerRef) → IsKept n (fresh_end x name)
fresh-kept n x name = first-kept n 0 (fresh_end x name) (omega arith) refl (sym fresh-numbers)

joined-kept : IsKept 0 joined_end
joined-kept = first-kept 0 1 joined_end (omega arith) refl (sym joined-numbers)

one-kept : AreKept [] (joined_end ∷ [])
one-kept = record { each = each; apart = apart }
  where
    each : (e : HostEnd) → Has (joined_end ∷ []) e → IsKept 0 e
    each e (inl is) = subst (IsKept 0) is joined-kept
    each e (inr h) = absurd h

    apart : AreApart (joined_end ∷ [])
    apart zero zero e f there also same = refl
    apart zero (suc j) e f there also same = absurd (let z : ◌≡◌ {A = Option HostEnd} None (Some f) = also in cc)
    apart (suc i) j e f there also same = absurd (let z : ◌≡◌ {A = Option HostEnd} None (Some e) = there in cc)

-- by the equations of a call

pub kept-by : (log : List Logged) (before ends : List HostEnd) (e : HostEnd) → log ≡ [] → ends ≡ before ++ e ∷ [] → before ≡ [] → e ≡ joined_end → AreKept log ends
kept-by log before ends e none grown empty is =
    subst (λ (l : List Logged). AreKept l ends) (sym none)
    (subst (AreKept []) (sym (grown ∙ ap (λ (l : List HostEnd). l ++ e ∷ []) empty ∙ ap (λ (x : HostEnd). x ∷ []) is)) one-kept)
