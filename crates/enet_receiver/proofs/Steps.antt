-- The walk over the packets just past the front, turn by turn.
use Rattle.std.proofs.Common.{◌≡◌, ℕ, zero, suc, ◌+◌, refl, ap, ◌∙◌, arith, Option, Some, None}
use Rattle.std.specs.Ordering.{nat_cmp}
use Rattle.std.specs.FinMap.{FinMap}
use Rattle.enet_seq.specs.Windows.{after}
use Rattle.enet_packets.specs.declared.incoming_packet.IncomingPacket.{IncomingPacket}
use Rattle.enet_packets.specs.Packets.{Lines}
use Rattle.enet_receiver.specs.declared.foreseeing.Completed.{Completed}
use Rattle.enet_receiver.specs.Private.Walk.{pieces_at, fresh_at, walk_with, walk}

pub walk-on : (k n : ℕ) (o : Option Completed) (held : FinMap nat_cmp IncomingPacket) (lines : Lines) (front pieces : ℕ) → k ≡ n + 1 → pieces_at o held (after front 1) ≡ Some pieces
    → walk k o held lines front ≡ 1 + fresh_at o lines (after front pieces) 0 + walk n o held lines (after front pieces)
unfolding walk
walk-on zero n o held lines front pieces e f = absurd (omega arith)
walk-on (suc k) n o held lines front pieces e f =
    let same : k ≡ n = omega arith in
    ap (walk_with (walk k o held lines) o lines front) f
    ∙ ap (λ x. 1 + fresh_at o lines (after front pieces) 0 + walk x o held lines (after front pieces)) same

pub walk-off : (k : ℕ) (o : Option Completed) (held : FinMap nat_cmp IncomingPacket) (lines : Lines) (front : ℕ) → pieces_at o held (after front 1) ≡ None → walk k o held lines front ≡ 0
unfolding walk
walk-off zero o held lines front f = refl
walk-off (suc k) o held lines front f = ap (walk_with (walk k o held lines) o lines front) f

pub walk-end : (k : ℕ) (o : Option Completed) (held : FinMap nat_cmp IncomingPacket) (lines : Lines) (front : ℕ) → k ≡ 0 → walk k o held lines front ≡ 0
unfolding walk
walk-end zero o held lines front e = refl
walk-end (suc k) o held lines front e = absurd (omega arith)
