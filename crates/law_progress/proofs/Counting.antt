-- The last send of a command of channel 0xFF counts.
use Rattle.std.proofs.Common.{◌≡◌, ℕ, zero, suc, ◌+◌, ◌%◌, ◌^◌, ◌<◌, ◌||◌, ◌==◌, min, Bool, true, false, cond, List, [], ◌∷◌, length, refl, sym, ap, subst, ◌∙◌, arith, take, slice_set}
use Rattle.std.specs.List.{list_any}
use Rattle.std.proofs.lemmas.Bool.{eq-eqb}
use Rattle.enet_codec.specs.declared.command.Verify.{Verify}
use Rattle.enet_rtt.specs.Transmission as transmission
use Rattle.enet_rtt.specs.SendTimes.{no_sends, with_send, has_time}
use Rattle.enet_rtt.specs.declared.send_times.SendTimes.{SendTimes}
use Rattle.enet_rtt.specs.Clock.{told_time, meant_time}
use Rattle.enet_rtt.specs.declared.transmission.Tick.{Tick}
use Rattle.enet_senders.specs.Controlling as controlling
use Rattle.enet_senders.specs.declared.control.Control.{Control}
use Rattle.enet_senders.specs.declared.control.Control.TheVariants as control
use Rattle.enet_senders.specs.declared.control.Numbered.{Numbered}
use Rattle.enet_senders.specs.declared.control.SentControl.{SentControl}
use Rattle.law_progress.specs.Counts.{LastCounts, CountsAsBefore}
use Rattle.law_progress.proofs.BothRounds.{went-last}

-- a told time stands for the moment at which it was told
meant-told : (now offset : ℕ) → meant_time (told_time now offset) (offset % 2 ^ 16) ≡ now % 2 ^ 16
meant-told now offset = omega arith

-- what was set is among the first of a list
any-set : (m n : ℕ) (xs : List ℕ) → n < length xs → list_any (λ (t : ℕ). t == m) (take (suc n) (slice_set xs n m)) ≡ true
any-set m zero [] h = absurd (omega arith)
any-set m (suc n) [] h = absurd (omega arith)
any-set m zero (x ∷ xs) h = ap (λ b. b || list_any (λ (t : ℕ). t == m) (take 0 xs)) (eq-eqb m m refl)
any-set m (suc n) (x ∷ xs) h = (let rest = any-set m n xs (omega arith) in or-right (x == m) (list_any (λ (t : ℕ). t == m) (take (suc n) (slice_set xs n m))) rest)
  where
    or-right : (a b : Bool) → b ≡ true → (a || b) ≡ true
    or-right true b e = refl
    or-right false b e = e

length-set : (n m : ℕ) (xs : List ℕ) → length (slice_set xs n m) ≡ length xs
length-set n m [] = refl
length-set zero m (x ∷ xs) = refl
length-set (suc n) m (x ∷ xs) = let rest = length-set n m xs in omega arith

has-last : (now : ℕ) (s : SendTimes) → length s.times ≡ 8 → has_time (now % 2 ^ 16) (with_send now s) ≡ true
has-last now s size =
    subst (λ k. list_any (λ (t : ℕ). t == now % 2 ^ 16) (take k (slice_set s.times (min s.count 7) (now % 2 ^ 16))) ≡ true) (let e : suc (min s.count 7) ≡ min s.count 7 + 1 = omega arith in e)
    (any-set (now % 2 ^ 16) (min s.count 7) s.times (omega arith))

-- it went at a moment that both its last send and its list of sends have
went : (now : ℕ) (what : Control) (t : SentControl) → t.transmission.last ≡ now → has_time (now % 2 ^ 16) t.times ≡ true → controlling.went_as what (now % 2 ^ 16) t ≡ true
went now (control.VerifyConnect verify) t last has = has
went now (control.Connect offer) t last has = went-last t.transmission now last
went now (control.Disconnect info) t last has = went-last t.transmission now last
went now (control.DisconnectNow info) t last has = went-last t.transmission now last
went now control.Ping t last has = went-last t.transmission now last
went now (control.BandwidthLimit incoming outgoing) t last has = went-last t.transmission now last
went now (control.ThrottleConfigure interval acceleration deceleration) t last has = went-last t.transmission now last

counted : (now offset : ℕ) (s : SendTimes) (t : SentControl) → t.transmission.last ≡ now → t.times ≡ with_send now s → length s.times ≡ 8 → LastCounts now offset t
counted now offset s t last is size = record {
  places = ap (λ (x : SendTimes). length x.times) is ∙ length-set (min s.count 7) (now % 2 ^ 16) s.times ∙ size;
  counts = ap (λ time. controlling.went_at time t) (meant-told now offset)
      ∙ went now t.command.control t last (subst (λ (x : SendTimes). has_time (now % 2 ^ 16) x ≡ true) (sym is) (has-last now s size));
}

pub first-counts : (now offset timeout : ℕ) (n : Numbered) → LastCounts now offset (controlling.begun now timeout n)
first-counts now offset timeout n = counted now offset no_sends (controlling.begun now timeout n) refl refl refl

pub again-counts : (now offset : ℕ) (t : SentControl) → length t.times.times ≡ 8 → LastCounts now offset (controlling.again now t)
again-counts now offset t size = counted now offset t.times (controlling.again now t) refl refl size

-- what is held back didn't go: its list of sends stays
went-verify : (time : ℕ) (t : SentControl) (verify : Verify) → t.command.control ≡ control.VerifyConnect verify → controlling.went_at time t ≡ has_time time t.times
went-verify time t verify is = ap (λ (what : Control). controlling.went_as what time t) is

pub held-counts : (tick : Tick) (t : SentControl) → CountsAsBefore t (controlling.held_back tick t)
held-counts tick t = elim (transmission.is_late tick.now t.transmission) as (λ b. CountsAsBefore t (cond b tried t)) [
  | true ↦ record { command = refl; places = refl; counts = λ verify time is. went-verify time tried verify is ∙ sym (went-verify time t verify is) }
  | false ↦ record { command = refl; places = refl; counts = λ verify time is. refl }
]
  where
    tried : SentControl
    tried = record t { transmission = transmission.again tick.now (transmission.marked tick t.transmission) }
