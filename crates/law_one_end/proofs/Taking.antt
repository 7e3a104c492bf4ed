-- What a receiver of unbounded numbers takes in, and what is kept by it.
use Rattle.std.proofs.Common.{◌≡◌, ℕ, ◌+◌, Bool, true, false, cond, ◌&&◌, ◌||◌, if◌then◌else◌, refl, sym, ap, subst, ◌∙◌, Option, Some, None}
use Rattle.std.specs.Option.{is_none}
use Rattle.std.specs.FinMap.{get, insert, len}
use Rattle.std.proofs.lemmas.Bool.{and_parts}
use Rattle.enet_seq.specs.Numbering.{unbounded}
use Rattle.enet_fragment.specs.Whole.{is_whole}
use Rattle.enet_fragment.specs.declared.data.DataCommand.{DataCommand}
use Rattle.enet_packets.specs.declared.incoming_packet.IncomingPacket.{IncomingPacket}
use Rattle.enet_packets.specs.Packets.{line_at, with_line}
use Rattle.enet_receiver.specs.declared.took.Took.{Took}
use Rattle.enet_receiver.specs.declared.took.Took.TheVariants.{Held, Again, Outside, Bad, Waiting, Memory}
use Rattle.enet_receiver.specs.Receiver.{Receiver, flushed, with_dispatched, released, all_released}
use Rattle.enet_receiver.specs.DataOutcome.{place_read, came_at, came_before, is_piece, agrees_with, came, is_behind, is_piece_of_its_packet, outcome_at, outcome, earlier_or_new, with_more, with_added, added_at, received_with, received}
use Rattle.enet_receiver.proofs.Admission.{came_before-read}
use Rattle.law_connection.proofs.ReceiverLemmas.{released-keeps}

-- what is known of a command that is taken in
pub record IsTaken (most : ℕ) (r : Receiver) (c : DataCommand) (place : ℕ) : Type 0 where
  pub piece : is_piece most c ≡ true
  pub read : place_read unbounded r c ≡ Some place
  pub agrees : agrees_with (came_at r c place) c ≡ true
  pub not_behind : is_behind r c place ≡ false
  pub missing : came (came_at r c place) c ≡ false

held_when : (b c w : Bool) → cond (b || c) Again (cond w Waiting Held) ≡ Held → (b ≡ false) × (c ≡ false)
held_when true c w e = absurd (cc)
held_when false true w e = absurd (cc)
held_when false false w e = (refl, refl)

is-taken : (most : ℕ) (r : Receiver) (c : DataCommand) (full : Bool) → outcome unbounded most r c full ≡ Held → (place : ℕ) × IsTaken most r c place
is-taken most r c full held = go (is_piece_of_its_packet unbounded most r c) refl held
  where
    at : is_piece_of_its_packet unbounded most r c ≡ true → (o : Option ℕ) → place_read unbounded r c ≡ o → outcome_at r c full o ≡ Held → (place : ℕ) × IsTaken most r c place
    at t None e h = absurd (cc)
    at t (Some place) e h =
        let both = and_parts (is_piece most c) (agrees_with (came_before unbounded r c) c) t in
        let parts = held_when (is_behind r c place) (came (came_at r c place) c) (full && is_none (came_at r c place)) h in
        (place, record { piece = both.0; read = e; agrees = ap (λ o. agrees_with o c) (sym (came_before-read unbounded r c place e)) ∙ both.1; not_behind = parts.0; missing = parts.1 })

    go : (b : Bool) → is_piece_of_its_packet unbounded most r c ≡ b → cond b (outcome_at r c full (place_read unbounded r c)) Bad ≡ Held → (place : ℕ) × IsTaken most r c place
    go true t e = at t (place_read unbounded r c) refl e
    go false t e = absurd (cc)

-- the packet with the piece that came
abbrev pub grown : Receiver → DataCommand → ℕ → IncomingPacket
grown r c place = with_more (earlier_or_new (came_at r c place) c) c

-- what adding a command, dispatching a packet and flushing keep
pub received-keeps : (P : Receiver → Type 0)
    → ((r : Receiver) (c : IncomingPacket) → get r.held (r.front + 1) ≡ Some c → is_whole c.making ≡ true → P r → P (with_dispatched unbounded r c))
    → ((r : Receiver) → P r → P (flushed r))
    → (most : ℕ) (r : Receiver) (c : DataCommand) (full : Bool) → P r → ((place : ℕ) → IsTaken most r c place → P (with_added r c place (grown r c place)))
    → P (received unbounded most r c full)
received-keeps P step flush most r c full h add = go (outcome unbounded most r c full) refl
  where
    held : outcome unbounded most r c full ≡ Held → P (added_at unbounded r c (place_read unbounded r c))
    held e =
        let t = is-taken most r c full e in
        let at = t.1 in
        let mid : Receiver = with_added r c t.0 (grown r c t.0) in
        let after : P (all_released unbounded mid) = flush (released unbounded (len mid.held) mid) (released-keeps P step (len mid.held) mid (add t.0 t.1)) in
        subst (λ o. P (added_at unbounded r c o)) (sym at.read) after

    go : (t : Took) → outcome unbounded most r c full ≡ t → P (received_with t unbounded r c)
    go Held e = held e
    go Again e = h
    go Outside e = h
    go Bad e = h
    go Waiting e = h
    go Memory e = h

-- a piece of a reliable packet, and of an unreliable one
pub added-reliable : (r : Receiver) (c : DataCommand) (place : ℕ) (e : IncomingPacket) → c.reliable ≡ true → with_added r c place e ≡ record r { held = insert r.held place e }
added-reliable r c place e rel = λ i. record r {
  held = if rel i then insert r.held place e else r.held;
  waiting = if rel i then r.waiting else with_line r.waiting place (insert (line_at r.waiting place) c.unreliable e);
}

pub added-unreliable : (r : Receiver) (c : DataCommand) (place : ℕ) (e : IncomingPacket) → c.reliable ≡ false
    → with_added r c place e ≡ record r { waiting = with_line r.waiting place (insert (line_at r.waiting place) c.unreliable e) }
added-unreliable r c place e rel = λ i. record r {
  held = if rel i then insert r.held place e else r.held;
  waiting = if rel i then r.waiting else with_line r.waiting place (insert (line_at r.waiting place) c.unreliable e);
}
