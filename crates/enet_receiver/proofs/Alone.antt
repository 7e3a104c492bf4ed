-- What becomes of a command where the unreliable packets that wait are given up.
use Rattle.std.proofs.Common.{◌≡◌, ℕ, Bool, true, false, cond, Option, Some, None, is_none, refl, ap, ◌∙◌, ◌⊎◌, inl, inr}
use Rattle.std.specs.Prelude.{◌&&◌, ◌||◌}
use Rattle.std.specs.Ordering.{nat_cmp}
use Rattle.std.specs.FinMap.{get, get-empty, empty}
use Rattle.enet_seq.specs.Numbering.{wire, number_read}
use Rattle.enet_fragment.specs.declared.data.DataCommand.{DataCommand}
use Rattle.enet_packets.specs.declared.incoming_packet.IncomingPacket.{IncomingPacket}
use Rattle.enet_packets.specs.Packets.{line_at}
use Rattle.enet_receiver.specs.declared.took.Took.{Took}
use Rattle.enet_receiver.specs.declared.took.Took.TheVariants.{Held, Again, Bad, Waiting}
use Rattle.enet_receiver.specs.Receiver.{Receiver, without_waiting}
use Rattle.enet_receiver.specs.DataOutcome.{outcome, outcome_at, outcome_of, place_read, came_at, came_if, came_before, own_place, is_piece, is_piece_of_its_packet, agrees_with, came, is_behind}
use Rattle.enet_receiver.proofs.LineLemmas.{Line}

-- nothing waits for a number
none-waits : (place k : ℕ) → get (line_at empty place) k ≡ None
none-waits place k =
    let line = get-empty {X = Line} nat_cmp place in
    let packet = get-empty {X = IncomingPacket} nat_cmp k in
    rw line packet

same-or-none : {X : Type 0} (b : Bool) (x y z : Option X) → y ≡ None → (cond b x y ≡ cond b x z) ⊎ (cond b x y ≡ None)
same-or-none true x y z e = inl refl
same-or-none false x y z e = inr e

came-alone : (r : Receiver) (c : DataCommand) (place : ℕ) → (came_at (without_waiting r) c place ≡ came_at r c place) ⊎ (came_at (without_waiting r) c place ≡ None)
came-alone r c place = same-or-none c.reliable (get r.held place) _ _ (none-waits place c.unreliable)

came-before : (r : Receiver) (c : DataCommand) (o : Option ℕ) → (came_if (without_waiting r) c o ≡ came_if r c o) ⊎ (came_if (without_waiting r) c o ≡ None)
came-before r c None = inl refl
came-before r c (Some place) = came-alone r c place

agrees : (c : DataCommand) (x y : Option IncomingPacket) → (x ≡ y) ⊎ (x ≡ None) → agrees_with y c ≡ true → agrees_with x c ≡ true
agrees c x y (inl e) h = ap (λ (z : Option IncomingPacket). agrees_with z c) e ∙ h
agrees c x y (inr e) h = ap (λ (z : Option IncomingPacket). agrees_with z c) e

is-none : (x : Option IncomingPacket) → is_none x ≡ true → x ≡ None
is-none None h = refl
is-none (Some y) h = absurd (cc)

none-too : (x y : Option IncomingPacket) → (x ≡ y) ⊎ (x ≡ None) → y ≡ None → x ≡ None
none-too x y (inl e) h = e ∙ h
none-too x y (inr e) h = e

both : (a b : Bool) → (a && b) ≡ true → (a ≡ true) × (b ≡ true)
both true true h = (refl, refl)
both true false h = absurd (cc)
both false b h = absurd (cc)

-- of a command that finds no room
record Begins (most : ℕ) (r : Receiver) (c : DataCommand) (full : Bool) (place : ℕ) : Type 0 where
  piece : is_piece most c ≡ true
  agrees : agrees_with (came_before wire r c) c ≡ true
  read : place_read wire r c ≡ Some place
  not_behind : is_behind r c place ≡ false
  none_came : came_at r c place ≡ None
  is_full : full ≡ true

as-piece : (t : Bool) (o : Took) → cond t o Bad ≡ Waiting → (t ≡ true) × (o ≡ Waiting)
as-piece true o e = (refl, e)
as-piece false o e = absurd (cc)

as-begun : (behind came full none : Bool) → cond (behind || came) Again (cond (full && none) Waiting Held) ≡ Waiting → (behind ≡ false) × (full ≡ true) × (none ≡ true)
as-begun true came full none e = absurd (cc)
as-begun false true full none e = absurd (cc)
as-begun false false true true e = (refl, refl, refl)
as-begun false false true false e = absurd (cc)
as-begun false false false none e = absurd (cc)

as-read : (r : Receiver) (c : DataCommand) (full : Bool) (o : Option ℕ) → outcome_at r c full o ≡ Waiting → (place : ℕ) × (o ≡ Some place) × (outcome_of r c full place (came_at r c place) ≡ Waiting)
as-read r c full None e = absurd (cc)
as-read r c full (Some place) e = (place, refl, e)

begins : (most : ℕ) (r : Receiver) (c : DataCommand) (full : Bool) → outcome wire most r c full ≡ Waiting → (place : ℕ) × Begins most r c full place
begins most r c full e =
    let tested = as-piece (is_piece_of_its_packet wire most r c) (outcome_at r c full (place_read wire r c)) e in
    let fits = both (is_piece most c) (agrees_with (came_before wire r c) c) tested.0 in
    let at = as-read r c full (place_read wire r c) tested.1 in
    let begun = as-begun (is_behind r c at.0) (came (came_at r c at.0) c) full (is_none (came_at r c at.0)) at.2 in (
      at.0,
      record {
        piece = fits.0;
        agrees = fits.1;
        read = at.1;
        not_behind = begun.0;
        none_came = is-none (came_at r c at.0) begun.2;
        is_full = begun.1;
      },
    )

-- only where all is full does a command find no room
pub full_where_waiting : (most : ℕ) (r : Receiver) (c : DataCommand) (full : Bool) → outcome wire most r c full ≡ Waiting → full ≡ true
full_where_waiting most r c full e = (begins most r c full e).1.is_full

begun : (r : Receiver) (c : DataCommand) (full : Bool) (place : ℕ) (behind : Bool) (earlier : Option IncomingPacket) → behind ≡ false → earlier ≡ None
    → cond (behind || came earlier c) Again (cond (full && is_none earlier) Waiting Held) ≡ cond full Waiting Held
begun r c full place true earlier b e = absurd (cc)
begun r c true place false None b e = refl
begun r c false place false None b e = refl
begun r c full place false (Some x) b e = absurd (cc)

-- without what waits it finds none either, or is taken in
pub outcome_alone : (most : ℕ) (r : Receiver) (c : DataCommand) (full now : Bool) → outcome wire most r c full ≡ Waiting → outcome wire most (without_waiting r) c now ≡ cond now Waiting Held
outcome_alone most r c full now e =
    let at = begins most r c full e in
    let place = at.0 in
    let k = at.1 in
    let s = without_waiting r in
    let none : came_at s c place ≡ None = none-too (came_at s c place) (came_at r c place) (came-alone r c place) k.none_came in
    let fits : agrees_with (came_before wire s c) c ≡ true = agrees c (came_before wire s c) (came_before wire r c) (came-before r c (number_read wire r.front (own_place c))) k.agrees in
    ap (λ b. cond (b && agrees_with (came_before wire s c) c) (outcome_at s c now (place_read wire s c)) Bad) k.piece
    ∙ ap (λ b. cond (true && b) (outcome_at s c now (place_read wire s c)) Bad) fits
    ∙ ap (λ o. outcome_at s c now o) k.read
    ∙ begun s c now place (is_behind s c place) (came_at s c place) k.not_behind none
