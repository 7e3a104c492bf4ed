-- What channel 0xFF puts out next.
use Rattle.std.proofs.Common.{◌≡◌, ℕ, Bool, true, false, cond, List, [], ◌∷◌, ◌++◌, refl, Option, Some, None}
use Rattle.std.specs.List.{position, slice_get, slice_set}
use Rattle.enet_senders.specs.Controlling as controlling
use Rattle.enet_senders.specs.Controlling.{Commands}
use Rattle.enet_senders.specs.declared.control.Numbered.{Numbered}
use Rattle.enet_senders.specs.declared.control.SentControl.{SentControl}
use Rattle.law_progress.proofs.PutsOut.{found-passes}

-- what channel 0xFF puts out next: the head of its queue, or a sent command that is due to go again
pub data GoesControl (now wait : ℕ) (c : Commands) (n : controlling.Next) : Type 0 where
  Heads : (x : Numbered) (rest : List Numbered) → c.queued ≡ x ∷ rest
      → ◌≡◌ {A = controlling.Next} (record { command = x; commands = record c { queued = rest; sent = cond (controlling.is_reliable x.control) (c.sent ++ controlling.begun now wait x ∷ []) c.sent } }) n → GoesControl now wait c n
  Repeats : (i : ℕ) (p : SentControl) → slice_get c.sent i ≡ Some p → p.transmission.due ≡ true
      → ◌≡◌ {A = controlling.Next} (record { command = p.command; commands = record c { sent = slice_set c.sent i (controlling.again now p) } }) n → GoesControl now wait c n

pub some-is : {X : Type 0} {u v : X} → Some u ≡ Some v → u ≡ v
some-is {X} {u} {v} e = cc

pub goes-control : (now wait : ℕ) (c : Commands) (n : controlling.Next) → controlling.next now wait c ≡ Some n → GoesControl now wait c n
goes-control now wait c n e = go (position (λ (p : SentControl). p.transmission.due) c.sent) refl e
  where
    head : (q : List Numbered) → c.queued ≡ q → controlling.next_queued now wait c q ≡ Some n → GoesControl now wait c n
    head [] t k = absurd (cc)
    head (x ∷ rest) t k = by (controlling.is_in_span c.sent x.number) k
      where
        u : controlling.Next
        u = record { command = x; commands = record c { queued = rest; sent = cond (controlling.is_reliable x.control) (c.sent ++ controlling.begun now wait x ∷ []) c.sent } }

        by : (b : Bool) → cond b (Some u) None ≡ Some n → GoesControl now wait c n
        by true h = Heads x rest t (some-is h)
        by false h = absurd (cc)

    sent : (i : ℕ) → position (λ (p : SentControl). p.transmission.due) c.sent ≡ Some i → (p : Option SentControl) → slice_get c.sent i ≡ p → controlling.next_resent now c i p ≡ Some n → GoesControl now wait c n
    sent i w None t k = absurd (cc)
    sent i w (Some p) t k = Repeats i p t (found-passes (λ (q : SentControl). q.transmission.due) c.sent i p w t) (some-is k)

    go : (w : Option ℕ) → position (λ (p : SentControl). p.transmission.due) c.sent ≡ w → controlling.next_of now wait c w ≡ Some n → GoesControl now wait c n
    go None w k = head c.queued refl k
    go (Some i) w k = sent i w (slice_get c.sent i) refl k
