-- One command more of a datagram.
use Rattle.std.proofs.Common.{◌≡◌, ◌≢◌, ℕ, ◌≤◌, Bool, true, false, IsTrue, IfSome, if◌then◌else◌, Option, List, [], ◌++◌, length, take, drop, Some, None, Ok, Err, refl, sym, ap, subst, ◌∙◌, arith}
use Rattle.std.specs.Bool.{then_some}
use Rattle.std.proofs.lemmas.List.{take-append-drop}
use Rattle.enet_codec.specs.declared.stop.Stop.{Stop}
use Rattle.enet_codec.specs.declared.stop.Stop.TheVariants as stop
use Rattle.enet_codec.specs.Message.{Message, Spells}
use Rattle.enet_codec.specs.declared.event.Received.{Received}
use Rattle.enet_peer.specs.Peering.{Peering}
use Rattle.enet_peer.specs.CommandEffect.{Outcome, obeyed, wants_memory, Obeys}
use Rattle.enet_peer.specs.Handling.{Arrival, Handles, SpellsNone, nothing_left, no_command, stops, goes_on, counted}
use Rattle.enet_peer.specs.Refusing.{confirms, heeded, turned_away}
use Rattle.enet_peer.specs.Private.Handling.{ConfirmsBy, GoesOn, GoesOnPlainly, IsPlain, StopsAt}

pub ends : (arrival : Arrival) (handled : ℕ) (bytes : List ℕ) (p : Peering) → bytes ≡ []
    → Handles arrival (record { handled = handled; peer = p }) bytes (record { handled = handled; stop = None }) p
ends arrival handled bytes p e =
    subst (λ (bs : List ℕ). Handles arrival (record { handled = handled; peer = p }) bs (record { handled = handled; stop = None }) p) (sym e) (nothing_left (record { handled = handled; peer = p }))

-- what stands before a place and after it is all
whole : (arrival : Arrival) (handled len : ℕ) (bytes : List ℕ) (p q : Peering) (answer : Received)
    → Handles arrival (record { handled = handled; peer = p }) (take len bytes ++ drop len bytes) answer q → Handles arrival (record { handled = handled; peer = p }) bytes answer q
whole arrival handled len bytes p q answer h = subst (λ (bs : List ℕ). Handles arrival (record { handled = handled; peer = p }) bs answer q) (take-append-drop len bytes) h

pub none-at : (arrival : Arrival) (bytes : List ℕ) (p : Peering) → 1 ≤ length bytes → SpellsNone bytes → StopsAt arrival bytes p p stop.BadCommand
none-at arrival bytes p some none = λ handled.
    let left : bytes ≢ [] = λ e. absurd (omega (arith, some, ap length e)) in
    no_command (record { handled = handled; peer = p }) bytes left none

-- a command by which no client confirms, or that comes to a host that isn't full, is obeyed
plain-obeyed : (full : Bool) (p : Peering) (now : ℕ) (sent : Option ℕ) (m : Message) → (full ≡ true → confirms p m ≡ false) → heeded full p now sent m ≡ obeyed p now sent m
plain-obeyed false p now sent m plain = refl
plain-obeyed true p now sent m plain = ap (λ (b : Bool). if b then record { stop = None; after = turned_away p } else obeyed p now sent m) (plain refl)

plain-at : (full : Bool) (len : ℕ) (bytes : List ℕ) (m : Message) (p : Peering) → IsPlain full bytes p → Spells (take len bytes) m → full ≡ true → confirms p m ≡ false
plain-at full len bytes m p plain spelled is = plain is (take len bytes) (drop len bytes) m (sym (take-append-drop len bytes)) spelled

pub stops-at : (arrival : Arrival) (len : ℕ) (bytes : List ℕ) (m : Message) (why : Stop) (p q : Peering) → IsPlain arrival.full bytes p
    → Spells (take len bytes) m → Obeys {T = Unit {0}} (Err why) (wants_memory p arrival.now arrival.sent m) (obeyed p arrival.now arrival.sent m) p q → StopsAt arrival bytes p q why
stops-at arrival len bytes m why p q plain spelled obeys = λ handled.
    whole arrival handled len bytes p q (record { handled = counted handled why; stop = Some why })
    (stops (record { handled = handled; peer = p }) (take len bytes) (drop len bytes) m why q spelled
    (subst (λ (o : Outcome). Obeys {T = Unit {0}} (Err why) (wants_memory p arrival.now arrival.sent m) o p q)
    (sym (plain-obeyed arrival.full p arrival.now arrival.sent m (plain-at arrival.full len bytes m p plain spelled))) obeys))

goes-on-by : (arrival : Arrival) (len : ℕ) (bytes : List ℕ) (m : Message) (p q : Peering) → 1 ≤ len → len ≤ length bytes
    → Spells (take len bytes) m → Obeys {T = Unit {0}} (Ok tt) (wants_memory p arrival.now arrival.sent m) (heeded arrival.full p arrival.now arrival.sent m) p q → GoesOn arrival bytes p q len
goes-on-by arrival len bytes m p q some within spelled obeys = (
  some,
  within,
  λ handled answer last later.
      whole arrival handled len bytes p last answer (goes_on (record { handled = handled; peer = p }) (take len bytes) (drop len bytes) m answer q last spelled obeys later),
)

pub goes-on-at : (arrival : Arrival) (len : ℕ) (bytes : List ℕ) (m : Message) (p q : Peering) → IsPlain arrival.full bytes p → 1 ≤ len → len ≤ length bytes
    → Spells (take len bytes) m → Obeys {T = Unit {0}} (Ok tt) (wants_memory p arrival.now arrival.sent m) (obeyed p arrival.now arrival.sent m) p q → GoesOn arrival bytes p q len
goes-on-at arrival len bytes m p q plain some within spelled obeys =
    goes-on-by arrival len bytes m p q some within spelled
    (subst (λ (o : Outcome). Obeys {T = Unit {0}} (Ok tt) (wants_memory p arrival.now arrival.sent m) o p q)
    (sym (plain-obeyed arrival.full p arrival.now arrival.sent m (plain-at arrival.full len bytes m p plain spelled))) obeys)

-- the client confirms, and the host is full
pub refused-at : (now : ℕ) (sent : Option ℕ) (len : ℕ) (bytes : List ℕ) (p q : Peering) → ConfirmsBy bytes p len → q ≡ turned_away p
    → GoesOn (record { now = now; sent = sent; full = true }) bytes p q len
refused-at now sent len bytes p q by is =
    let e : heeded true p now sent by.message ≡ record { stop = None; after = turned_away p } =
    ap (λ (b : Bool). if b then record { stop = None; after = turned_away p } else obeyed p now sent by.message) by.confirms in
    goes-on-by (record { now = now; sent = sent; full = true }) len bytes by.message p q by.some by.within by.spelled
    (ap (λ (o : Outcome). o.stop) e, is ∙ sym (ap (λ (o : Outcome). o.after) e))

-- the same where the command was taken in without a stop
pub taken-at : (arrival : Arrival) (len : ℕ) (bytes : List ℕ) (m : Message) (p q : Peering) → IsPlain arrival.full bytes p → 1 ≤ len → len ≤ length bytes
    → Spells (take len bytes) m → obeyed p arrival.now arrival.sent m ≡ record { stop = None; after = q } → GoesOn arrival bytes p q len
taken-at arrival len bytes m p q plain some within spelled e =
    goes-on-at arrival len bytes m p q plain some within spelled (ap (λ (o : Outcome). o.stop) e, sym (ap (λ (o : Outcome). o.after) e))

-- the same of a call that says whether it took the command in
pub taken-if : (now : ℕ) (sent : Option ℕ) (len : ℕ) (bytes : List ℕ) (m : Message) (p q : Peering) (is_taken : Bool) → 1 ≤ len → len ≤ length bytes → Spells (take len bytes) m
    → (IsTrue is_taken → obeyed p now sent m ≡ record { stop = None; after = q }) → IfSome (then_some is_taken len) (GoesOnPlainly now sent bytes p q)
taken-if now sent len bytes m p q true some within spelled done = λ full plain. taken-at (record { now = now; sent = sent; full = full }) len bytes m p q plain some within spelled (done refl)
taken-if now sent len bytes m p q false some within spelled done = tt
