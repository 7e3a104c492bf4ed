-- What is due next, where the head of the queue may go.
use Rattle.std.proofs.Common.{◌≡◌, ℕ, ◌<◌, true, cond, List, [], ◌∷◌, ◌++◌, length, get_or, drop, sym, ap, ◌∙◌, arith, Option, Some, None}
use Rattle.enet_senders.specs.declared.control.Numbered.{Numbered}
use Rattle.enet_senders.specs.Controlling.{Commands, Next, next_queued, is_in_span, is_reliable, begun}

-- a list by its head
pub by_head : {X : Type 0} (xs : List X) (x : X) → 0 < length xs → x ≡ get_or xs 0 x → xs ≡ x ∷ drop 1 xs
by_head [] x low is = absurd (omega arith)
by_head (y ∷ xs) x low is = ap (λ z. z ∷ xs) (sym is)

-- the head goes, with the channel after it
abbrev pub head_gone : ℕ → ℕ → Commands → Numbered → Next
head_gone now timeout c n = record {
  command = n;
  commands = record c { queued = drop 1 c.queued; sent = cond (is_reliable n.control) (c.sent ++ begun now timeout n ∷ []) c.sent };
}

pub next_queued-goes : (now timeout : ℕ) (c : Commands) (n : Numbered) → c.queued ≡ n ∷ drop 1 c.queued → is_in_span c.sent n.number ≡ true
    → next_queued now timeout c c.queued ≡ Some (head_gone now timeout c n)
next_queued-goes now timeout c n is goes =
    let next : Option Next = Some (head_gone now timeout c n) in
    let none : Option Next = None in
    ap (next_queued now timeout c) is ∙ ap (λ b. cond b next none) goes
