-- A sequenced command that is taken in at once, while there is room.
use Rattle.std.proofs.Common.{◌≡◌, ℕ, ◌≤◌, ◌++◌, leb, Bool, true, false, cond, ◌||◌, List, length, map, set, refl, sym, ap, ◌∙◌, arith, Some}
use Rattle.std.specs.Prelude.{slice_get}
use Rattle.std.proofs.lemmas.Bool.Decides.{nat_tests}
use Rattle.enet_codec.specs.declared.packet.Packet.{Packet}
use Rattle.enet_seq.specs.Windows.{acknowledges}
use Rattle.enet_fragment.specs.declared.data.DataCommand.{DataCommand}
use Rattle.enet_receiver.specs.declared.took.Took.TheVariants.{Held}
use Rattle.enet_receiver.specs.Foresight.{ReceivingEnd, outcome_for, after_command}
use Rattle.enet_receiver.specs.DataOutcome.{is_next}
use Rattle.enet_inbox.specs.Inbox.{Inbox, waiting_of, untaken_of, places_of, place_limit, is_full, is_full_of_untaken, is_full_for}
use Rattle.enet_inbox.specs.DataEffect.{handled, packet_of, emptied, handed_over, by_took, sequenced_on, sequenced}

-- what is known of the receiver of its channel, and of what comes of the command there
pub record GoesThrough (b : Inbox) (channel : ℕ) (c : DataCommand) (d : ReceivingEnd) : Type 0 where
  pub there : slice_get b.receivers channel ≡ Some d
  pub own : d.channel ≡ channel
  pub room : is_full_for b d c ≡ false
  pub held : outcome_for d (Some c) false ≡ Held
  pub acknowledged : acknowledges d.receiver.front c.number ≡ true

-- where so little waits that any packet may begin, each may
neither : (a b : Bool) → (a || b) ≡ false → (a ≡ false) × (b ≡ false)
neither true b e = absurd (cc)
neither false b e = (refl, e)

below : (limit n less : ℕ) → less ≤ n → leb limit n ≡ false → leb limit less ≡ false
below limit n less fewer e = grind (arith, nat_tests)

by-next : (next untaken all : Bool) → untaken ≡ false → all ≡ false → cond next untaken all ≡ false
by-next true untaken all u a = u
by-next false untaken all u a = a

pub none_full : (b : Inbox) (r : ReceivingEnd) (c : DataCommand) → is_full b ≡ false → is_full_for b r c ≡ false
none_full b r c little =
    let parts = neither (leb b.max_waiting (waiting_of b)) (leb (place_limit b.max_waiting) (places_of b)) little in
    let bytes = below b.max_waiting (waiting_of b) (untaken_of b) (omega arith) parts.0 in
    let packets = below (place_limit b.max_waiting) (places_of b) (length b.untaken) (omega arith) parts.1 in
    by-next (is_next r.receiver c) (is_full_of_untaken b) (is_full b) (λ i. bytes i || packets i) little

handled_over : (b : Inbox) (channel : ℕ) (c : DataCommand) (d : ReceivingEnd) → GoesThrough b channel c d → sequenced b channel (Some c) ≡ handled (handed_over b channel (after_command d (Some c) false)) true
handled_over b channel c d k =
    ap (sequenced_on b channel c) k.there
    ∙ ap (λ full. by_took (outcome_for d (Some c) full) b channel d c) k.room
    ∙ ap (λ t. by_took t b channel d c) k.held
    ∙ (λ i. handled (handed_over b channel (after_command d (Some c) (k.room i))) (k.acknowledged i))

-- the inbox after it
pub taken_at_once : (b : Inbox) (channel : ℕ) (c : DataCommand) (d new : ReceivingEnd) (qs : List Packet) → GoesThrough b channel c d → new ≡ emptied (after_command d (Some c) false)
    → qs ≡ b.untaken ++ map (packet_of d.channel) (after_command d (Some c) false).receiver.dispatched
    → sequenced b channel (Some c) ≡ handled (record b { receivers = set b.receivers channel new; untaken = qs }) true
taken_at_once b channel c d new qs k is all =
    handled_over b channel c d k
    ∙ ap (λ n. handled (record b { receivers = set b.receivers channel (emptied (after_command d (Some c) false)); untaken = b.untaken ++ map (packet_of n) (after_command d (Some c) false).receiver.dispatched }) true) (sym k.own)
    ∙ (λ i. handled (record b { receivers = set b.receivers channel (sym is i); untaken = sym all i }) true)
