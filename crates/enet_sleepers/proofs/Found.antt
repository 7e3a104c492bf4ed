-- Which slot holds a connection, and how slots are noted.
use Rattle.std.proofs.Common.{◌≡◌, ◌≢◌, ℕ, ◌+◌, ◌*◌, ◌%◌, ◌<◌, ◌≤◌, ◌⊎◌, inl, inr, Bool, true, false, ◌==◌, ◌&&◌, not, Option, Some, None, IfNone, List, length, slice_get, slice_set, get_or, refl, sym, ap, ap₂, subst, ◌∙◌, arith}
use Rattle.std.specs.List.{list_any}
use Rattle.std.proofs.lemmas.Bool.{cases_eq, cases_lt}
use Rattle.std.proofs.lemmas.Bool.Decides.{nat_tests}
use Rattle.std.proofs.lemmas.List.{get_or_default, get_or-set_other, get_or-set_same, length-set}
use Rattle.std.proofs.lemmas.List.Folds.{list_any_none}
use Rattle.std.proofs.lemmas.Nat.{mod-mul-add, mul-add-lt}
use Rattle.std.proofs.lemmas.Option.{slice_get-get_or, slice_get_within}
use Rattle.enet_codec.specs.declared.address.Addr.{Addr}
use Rattle.enet_peer.specs.Peering.{Peering}
use Rattle.enet_slot.specs.Giving.{unused_slot}
use Rattle.enet_slot.specs.Receiving.{is_connection, is_connection_in, is_same_address, is_deaf}
use Rattle.enet_slot.specs.Slot.{SlotState}
use Rattle.enet_sleepers.specs.declared.key.Key.{Key}
use Rattle.enet_sleepers.specs.Places.{first_cell, row_of}
use Rattle.enet_sleepers.specs.Seating.{Seating, IsPlaced, IsInRow, IsFound, KeepsSeats, HoldNobody, Enters}
use Rattle.enet_sleepers.specs.Private.Seating.{Leaves, Moves, KnownInNone, KnownNowhere}
use Rattle.enet_sleepers.proofs.Dueness.{in-or-out}

-- ---- what is looked for

-- a slot that holds the connection of an offer has its address and its connect id
pub same-number : (a b : ℕ) → (a == b) ≡ true → a ≡ b
same-number a b e = grind (arith, nat_tests, e)

pub both : (x y : Bool) → (x && y) ≡ true → (x ≡ true) × (y ≡ true)
both true true e = (refl, refl)
both true false e = absurd (cc)
both false y e = absurd (cc)

same-address : (a b : Addr) → is_same_address a b ≡ true → a ≡ b
same-address a b e =
    let parts = both (a.ip == b.ip) (a.port == b.port) e in
    ap₂ (λ (i p : ℕ). record { ip = i; port = p }) (same-number a.ip b.ip parts.0) (same-number a.port b.port parts.1)

is-of : (from : Addr) (word : ℕ) (s : SlotState) (p : Peering) → s.peer ≡ Some p → is_connection from word s ≡ true → (s.address ≡ from) × (p.terms.connect_id ≡ word)
is-of from word s p held is =
    let said : is_connection_in s from word (Some p) ≡ true = subst (λ (o : Option Peering). is_connection_in s from word o ≡ true) held is in
    let rest = (both (not (is_deaf p.state)) (is_same_address s.address from && p.terms.connect_id == word) said).1 in
    let parts = both (is_same_address s.address from) (p.terms.connect_id == word) rest in
    (same-address s.address from parts.0, same-number p.terms.connect_id word parts.1)

-- where neither a cell of the place nor another slot holds it, none does
not-found : (v : Seating) (from : Addr) (word : ℕ) (slots : List SlotState) (i : ℕ) → KnownInNone from word slots v.cells (first_cell v.key (length v.cells) from word) (first_cell v.key (length v.cells) from word + 8)
    → KnownNowhere from word slots v.others → IsPlaced v i from word → is_connection from word (get_or slots i unused_slot) ≡ false
not-found v from word slots i cells others (inl other) = others i other
not-found v from word slots i cells others (inr among) =
    subst (λ (j : ℕ). is_connection from word (get_or slots j unused_slot) ≡ false) among.here (cells among.cell among.from among.near)

pub known-nowhere : (from : Addr) (word first : ℕ) (v : Seating) (slots : List SlotState) → KeepsSeats v slots → first ≡ first_cell v.key (length v.cells) from word → KnownInNone from word slots v.cells first (first + 8)
    → KnownNowhere from word slots v.others → list_any (is_connection from word) slots ≡ false
known-nowhere from word first v slots k is cells others =
    list_any_none (is_connection from word) slots (λ i d inside.
    ap (is_connection from word) (get_or_default slots i d unused_slot inside) ∙ by i inside (in-or-out (is_connection from word (get_or slots i unused_slot))))
  where
    none : (i : ℕ) → IsPlaced v i from word → is_connection from word (get_or slots i unused_slot) ≡ false
    none i found = not-found v from word slots i (subst (λ (f : ℕ). KnownInNone from word slots v.cells f (f + 8)) is cells) others found

    held : (i : ℕ) → i < length slots → is_connection from word (get_or slots i unused_slot) ≡ true → (o : Option Peering) → (get_or slots i unused_slot).peer ≡ o → is_connection from word (get_or slots i unused_slot) ≡ false
    held i inside yes_it_is None e = ap (λ (o : Option Peering). is_connection_in (get_or slots i unused_slot) from word o) e
    held i inside yes_it_is (Some p) e =
        let s : SlotState = get_or slots i unused_slot in
        let of = is-of from word s p e yes_it_is in
        let found = (k.seated i s p (slice_get-get_or slots i unused_slot inside) e).found in
        none i (subst (λ (a : Addr). IsPlaced v i a word) of.0 (subst (λ (w : ℕ). IsPlaced v i s.address w) of.1 found.0))

    by : (i : ℕ) → i < length slots → (is_connection from word (get_or slots i unused_slot) ≡ true) ⊎ (is_connection from word (get_or slots i unused_slot) ≡ false)
        → is_connection from word (get_or slots i unused_slot) ≡ false
    by i inside (inl yes_it_is) = held i inside yes_it_is (get_or slots i unused_slot).peer refl
    by i inside (inr not_it) = not_it

-- what a search that found nothing says
pub none-then : {X P Q : Type 0} (r : Option X) → (P → Q) → IfNone r P → IfNone r Q
none-then None then none = then none
none-then (Some x) then none = tt

-- none of the cells up to one more does
pub in-none-first : (from : Addr) (word first : ℕ) (slots : List SlotState) (cells : List ℕ) → KnownInNone from word slots cells first first
in-none-first from word first slots cells = λ k past low. absurd (omega (arith, past, low))

pub in-none-more : (from : Addr) (word first cell : ℕ) (slots : List SlotState) (cells : List ℕ) → is_connection from word (get_or slots (get_or cells cell 65535) unused_slot) ≡ false → KnownInNone from word slots cells first cell
    → KnownInNone from word slots cells first (cell + 1)
in-none-more from word first cell slots cells other none = λ k past low. elim (cases_lt k cell) [
  | inl less ↦ none k past less
  | inr reached ↦
      let same : k ≡ cell = omega (arith, low, reached) in
      subst (λ (j : ℕ). is_connection from word (get_or slots (get_or cells j 65535) unused_slot) ≡ false) (sym same) other
]

-- ---- a slot leaves its cell

pub leaves-set : (v : Seating) (n : ℕ) → Leaves v n (record v { others = slice_set v.others n false })
leaves-set v n = record {
  key = refl;
  count = length-set v.others n false;
  size = refl;
  rows = refl;
  others = λ i other is. get_or-set_other v.others n i false false other ∙ is;
  cells = λ k i inside other at. at;
}

pub leaves-cell : (v : Seating) (n cell : ℕ) → get_or v.cells cell 65535 ≡ n → Leaves v n (record v { others = slice_set v.others n false; cells = slice_set v.cells cell 65535 })
leaves-cell v n cell held = record {
  key = refl;
  count = length-set v.others n false;
  size = length-set v.cells cell 65535;
  rows = refl;
  others = λ i other is. get_or-set_other v.others n i false false other ∙ is;
  cells = λ k i inside other at. elim (cases_eq k cell) [
    | inl same ↦ absurd (other (sym at ∙ ap (λ (j : ℕ). get_or v.cells j 65535) same ∙ held))
    | inr apart ↦ get_or-set_other v.cells cell k 65535 65535 apart ∙ at
  ];
}

-- ---- and its row for another one

-- a place of a table is in one column
same-column : (a b c i n : ℕ) → i < c → n < c → a * c + i ≡ b * c + n → i ≡ n
same-column a b c i n low inside e = sym (mod-mul-add a c i low) ∙ ap (λ (m : ℕ). m % c) e ∙ mod-mul-add b c n inside

pub moves : (v : Seating) (rows : List Bool) (n ip left row p q : ℕ) → length v.rows ≡ length v.others * 256 → n < length v.others → row ≡ row_of v.key ip → row < 256 → p ≡ left * length v.others + n → q ≡ row * length v.others + n
    → rows ≡ slice_set (slice_set v.rows p false) q true → Moves v n ip (record v { rows = rows })
moves v rows n ip left row p q size inside is low at-p at-q e = record {
  key = refl;
  cells = refl;
  set = refl;
  here = subst (λ (x : ℕ). get_or rows (x * length v.others + n) false ≡ true) is (subst (λ (x : ℕ). get_or rows x false ≡ true) at-q came);
  others = λ i other few apart was. stays (row_of v.key other * length v.others + i) (λ same. apart (same-column (row_of v.key other) left (length v.others) i n few inside (same ∙ at-p)))
      (λ same. apart (same-column (row_of v.key other) row (length v.others) i n few inside (same ∙ at-q))) was;
}
  where
    without : List Bool
    without = slice_set v.rows p false

    within : q < length without
    within = subst (λ (m : ℕ). q < m) (sym (length-set v.rows p false ∙ size)) (subst (λ (x : ℕ). x < length v.others * 256) (sym at-q) (mul-add-lt row (length v.others) n 256 low inside))

    came : get_or rows q false ≡ true
    came = ap (λ (xs : List Bool). get_or xs q false) e ∙ get_or-set_same without q true false within

    stays : (x : ℕ) → x ≢ p → x ≢ q → get_or v.rows x false ≡ true → get_or rows x false ≡ true
    stays x not-p not-q was = ap (λ (xs : List Bool). get_or xs x false) e ∙ get_or-set_other without q x true false not-q ∙ get_or-set_other v.rows p x false false not-p ∙ was

-- ---- and is noted at another place

moved-first : (v w : Seating) (n : ℕ) (a : Addr) (word : ℕ) → Leaves v n w → first_cell w.key (length w.cells) a word ≡ first_cell v.key (length v.cells) a word
moved-first v w n a word l = ap₂ (λ key size. first_cell key size a word) l.key l.size

moved-placed : (v u : Seating) (n ip i : ℕ) (a : Addr) (word : ℕ) → Moves v n ip u → IsPlaced v i a word → IsPlaced u i a word
moved-placed v u n ip i a word m is =
    subst (λ (set : List Bool). IsPlaced (record u { others = set }) i a word) (sym m.set)
    (subst (λ (xs : List ℕ). IsPlaced (record u { others = v.others; cells = xs }) i a word) (sym m.cells)
    (subst (λ (key : Key). IsPlaced (record u { others = v.others; cells = v.cells; key = key }) i a word) (sym m.key) is))

left-placed : (v w : Seating) (n i : ℕ) (a : Addr) (word : ℕ) → Leaves v n w → i < length v.others → i ≢ n → IsPlaced v i a word → IsPlaced w i a word
left-placed v w n i a word l inside other (inl is) = inl (l.others i other is)
left-placed v w n i a word l inside other (inr among) =
    let first = moved-first v w n a word l in
    inr (record {
      cell = among.cell;
      from = subst (λ (f : ℕ). f ≤ among.cell) (sym first) among.from;
      near = subst (λ (f : ℕ). among.cell < f + 8) (sym first) among.near;
      here = l.cells among.cell i inside other among.here;
    })

-- a place of a row is in the set
abbrev InRowAt : Key → ℕ → List Bool → ℕ → ℕ → Type 0
InRowAt key count rows ip i = get_or rows (row_of key ip * count + i) false ≡ true

left-row : (v w : Seating) (n i ip : ℕ) → Leaves v n w → IsInRow v i ip → IsInRow w i ip
left-row v w n i ip l is =
    subst (λ (rows : List Bool). InRowAt w.key (length w.others) rows ip i) (sym l.rows)
    (subst (λ (count : ℕ). InRowAt w.key count v.rows ip i) (sym l.count)
    (subst (λ (key : Key). InRowAt key (length v.others) v.rows ip i) (sym l.key) is))

-- it takes an empty cell
set-first : (v : Seating) (cell n : ℕ) (a : Addr) (word : ℕ) → first_cell v.key (length (slice_set v.cells cell n)) a word ≡ first_cell v.key (length v.cells) a word
set-first v cell n a word = ap (λ (size : ℕ). first_cell v.key size a word) (length-set v.cells cell n)

cell-placed : (v : Seating) (cell n i : ℕ) (a : Addr) (word : ℕ) → get_or v.cells cell 65535 ≡ 65535 → i < 65535 → IsPlaced v i a word → IsPlaced (record v { cells = slice_set v.cells cell n }) i a word
cell-placed v cell n i a word empty low (inl is) = inl is
cell-placed v cell n i a word empty low (inr among) =
    let first = set-first v cell n a word in
    inr (record {
      cell = among.cell;
      from = subst (λ (f : ℕ). f ≤ among.cell) (sym first) among.from;
      near = subst (λ (f : ℕ). among.cell < f + 8) (sym first) among.near;
      here = elim (cases_eq among.cell cell) [
        | inl same ↦
            let full : i ≡ 65535 = sym among.here ∙ ap (λ (j : ℕ). get_or v.cells j 65535) same ∙ empty in
            absurd (omega (arith, full, low))
        | inr apart ↦ get_or-set_other v.cells cell among.cell n 65535 apart ∙ among.here
      ];
    })

-- the other slots are found as before it moved to another row, and left its cell
still-placed : (v u w : Seating) (n i : ℕ) (a b : Addr) (word : ℕ) → Moves v n a.ip u → Leaves u n w → i < length v.others → i ≢ n → IsPlaced v i b word → IsPlaced w i b word
still-placed v u w n i a b word m l low other is =
    left-placed u w n i b word l (subst (λ (set : List Bool). i < length set) (sym m.set) low) other (moved-placed v u n a.ip i b word m is)

still-row : (v u w : Seating) (n i : ℕ) (a b : Addr) → Moves v n a.ip u → Leaves u n w → i < length v.others → i ≢ n → IsInRow v i b.ip → IsInRow w i b.ip
still-row v u w n i a b m l low other is = left-row u w n i b.ip l (m.others i b.ip low other is)

same-count : (v u w : Seating) (n ip : ℕ) → Moves v n ip u → Leaves u n w → length w.others ≡ length v.others
same-count v u w n ip m l = l.count ∙ ap (λ (set : List Bool). length set) m.set

pub enters-cell : (v u w : Seating) (n first cell : ℕ) (a : Addr) (word : ℕ) → length v.others ≤ 65535 → Moves v n a.ip u → Leaves u n w → first ≡ first_cell w.key (length w.cells) a word
    → first ≤ cell → cell < first + 8 → cell < length w.cells → get_or w.cells cell 65535 ≡ 65535 → Enters v n a word (record w { cells = slice_set w.cells cell n })
enters-cell v u w n first cell a word few m l is from near inside empty =
    let at : first_cell w.key (length (slice_set w.cells cell n)) a word ≡ first = set-first w cell n a word ∙ sym is in
    record {
      count = same-count v u w n a.ip m l;
      here = (
        inr (record {
          cell = cell;
          from = subst (λ (f : ℕ). f ≤ cell) (sym at) from;
          near = subst (λ (f : ℕ). cell < f + 8) (sym at) near;
          here = get_or-set_same w.cells cell n 65535 inside;
        }),
        left-row u w n n a.ip l m.here,
      );
      others = λ i b id low other found. (
        cell-placed w cell n i b id empty (omega (arith, low, few)) (still-placed v u w n i a b id m l low other found.0),
        still-row v u w n i a b m l low other found.1,
      );
    }

-- or is one of the others
pub enters-others : (v u w : Seating) (n : ℕ) (a : Addr) (word : ℕ) → n < length v.others → Moves v n a.ip u → Leaves u n w → Enters v n a word (record w { others = slice_set w.others n true })
enters-others v u w n a word inside m l = record {
  count = length-set w.others n true ∙ same-count v u w n a.ip m l;
  here = (inl (get_or-set_same w.others n true false (omega (arith, inside, same-count v u w n a.ip m l))), recounted n a.ip (left-row u w n n a.ip l m.here));
  others = λ i b id low other found. (
    listed i b id other (still-placed v u w n i a b id m l low other found.0),
    recounted i b.ip (still-row v u w n i a b m l low other found.1),
  );
}
  where
    listed : (i : ℕ) (b : Addr) (id : ℕ) → i ≢ n → IsPlaced w i b id → IsPlaced (record w { others = slice_set w.others n true }) i b id
    listed i b id other (inl is) = inl (get_or-set_other w.others n i true false other ∙ is)
    listed i b id other (inr among) = inr among

    recounted : (i ip : ℕ) → IsInRow w i ip → IsInRow (record w { others = slice_set w.others n true }) i ip
    recounted i ip is = subst (λ (count : ℕ). InRowAt w.key count w.rows ip i) (sym (length-set w.others n true)) is

-- ---- all slots

-- no slot holds a peer
pub seats-nobody : (v : Seating) (slots : List SlotState) → length v.others ≡ length slots → HoldNobody slots → KeepsSeats v slots
seats-nobody v slots count nobody = record {
  count = count;
  seated = λ i s p there held. (let x : ◌≡◌ {A = Option Peering} None (Some p) = sym (nobody i s there) ∙ held in absurd (cc));
}

-- the first slots were noted anew
abbrev pub AreFound : Seating → List SlotState → ℕ → Type 0
AreFound v slots n = (i : ℕ) (s : SlotState) (p : Peering) → i < n → slice_get slots i ≡ Some s → s.peer ≡ Some p → IsFound v i s.address p.terms.connect_id

pub found-more : (v w : Seating) (slots : List SlotState) (n : ℕ) → length v.others ≡ length slots
    → ((s : SlotState) (p : Peering) → slice_get slots n ≡ Some s → s.peer ≡ Some p → IsFound w n s.address p.terms.connect_id)
    → ((i : ℕ) (b : Addr) (id : ℕ) → i < length v.others → i ≢ n → IsFound v i b id → IsFound w i b id) → AreFound v slots n → AreFound w slots (n + 1)
found-more v w slots n count here others found = λ i s p low there held. elim (cases_eq i n) [
  | inl same ↦
      subst (λ (j : ℕ). IsFound w j s.address p.terms.connect_id) (sym same) (here s p (subst (λ (j : ℕ). slice_get slots j ≡ Some s) same there) held)
  | inr other ↦
      others i s.address p.terms.connect_id (omega (arith, slice_get_within slots i s there, count)) other (found i s p (omega (arith, low, other)) there held)
]

pub seats-anew : (v w : Seating) (slots : List SlotState) (n : ℕ) → KeepsSeats v slots → length w.others ≡ length slots → length slots ≤ n → AreFound w slots n → KeepsSeats w slots
seats-anew v w slots n k count all found = record {
  count = count;
  seated = λ i s p there held. record {
    found = found i s p (omega (arith, slice_get_within slots i s there, all)) there held;
    asked = (k.seated i s p there held).asked;
  };
}
