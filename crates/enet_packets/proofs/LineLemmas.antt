-- What a tree of lines keeps.
use Rattle.std.proofs.Common.{◌≡◌, ℕ, ◌+◌, ◌-◌, ◌*◌, ◌^◌, ◌<◌, ◌≤◌, true, false, cond, List, [], sum_by, refl, sym, ap, subst, ◌∙◌, arith, Option, Some, None, Result, Ok, Err, OnOk, OnErr, All, inl, inr, ◌⊎◌}
use Rattle.std.specs.Prelude.{◌==◌, nat_lt, IsTrue}
use Rattle.std.specs.Ordering.{nat_cmp}
use Rattle.std.specs.Cmp.{nat_cmp_total}
use Rattle.std.specs.Option.{is_some, IfSome, IsSomeAnd, option_map, unwrap_or}
use Rattle.std.specs.List.Sorted.{IsStrictlySortedBy}
use Rattle.std.specs.Map.{lookup, keys_of, values_of, remove_entry, set_value}
use Rattle.std.specs.BTreeMap.{is_at, insert_entry}
use Rattle.std.specs.FinMap.{FinMap, get, insert, remove, len, empty, entries, from_entries, len-empty, empty_of_len, get-empty}
use Rattle.std.proofs.lemmas.Bool.Decides.{nat_tests}
use Rattle.std.proofs.lemmas.Map.{keys-set_value}
use Rattle.std.proofs.lemmas.Map.Entries.{sum_by-insert_entry, sum_by-remove_entry, sum_by-set_value}
use Rattle.std.proofs.lemmas.Map.Views.{IfSome-lookup_from_All, All-keys-insert_entry, All-values-insert_entry, All-map-remove_entry, All-values-set_value}
use Rattle.enet_codec.specs.declared.refusal.Refusal.{Refusal}
use Rattle.enet_fragment.specs.declared.place.Place.{Place}
use Rattle.enet_fragment.specs.PartialPacket.{with_piece, belongs, piece_at}
use Rattle.enet_packets.specs.declared.incoming_packet.IncomingPacket.{IncomingPacket}
use Rattle.enet_packets.specs.Invariant.{KeepsLine, KeepsLines, KeepsWaiting, total_of}
use Rattle.enet_packets.specs.Private.Invariant.{Settles, line_in}
use Rattle.enet_packets.specs.Packets.{Lines, bytes_of, line_at, with_line, fresh, last_fresh, still_ahead}
use Rattle.enet_packets.proofs.Maps.{get-from, entries-empty, sum_bounded, sum-over, len-over, get-insert_same, inserted_entry, remove-insert, len-new, sum-new, remove-absent, retained-empty}

abbrev pub Line : Type 0
Line = FinMap nat_cmp IncomingPacket

abbrev pub LineEntries : Type 0
LineEntries = List (ℕ × Line)

abbrev low_number : ℕ → Type 0
low_number n = n < 65536

abbrev kept_line : Line → Type 0
kept_line line = KeepsLine line

-- the line of a number, in the tree and in the map
pub line-is : (es : LineEntries) (number : ℕ) → line_at (from_entries es) number ≡ line_in es number
line-is es number = ap (λ (o : Option Line). unwrap_or o empty) (get-from es number)

pub line_there : (es : LineEntries) (number : ℕ) (line : Line) → lookup (is_at (nat_cmp number)) es ≡ Some line → line_in es number ≡ line
line_there es number line e = ap (λ (o : Option Line). unwrap_or o empty) e

pub line_absent : (es : LineEntries) (number : ℕ) → lookup (is_at (nat_cmp number)) es ≡ None → line_in es number ≡ empty
line_absent es number e = ap (λ (o : Option Line). unwrap_or o empty) e

pub len_nothing : len (empty {X = IncomingPacket} {R = nat_cmp}) ≡ 0
len_nothing = len-empty nat_cmp IncomingPacket

pub bytes_nothing : bytes_of empty ≡ 0
bytes_nothing = ap (λ (es : List (ℕ × IncomingPacket)). sum_by total_of (values_of es)) entries-empty

weigh : (f : Line → ℕ) → f empty ≡ 0 → (o : Option Line) → unwrap_or (option_map f o) 0 ≡ f (unwrap_or o empty)
weigh f z None = sym z
weigh f z (Some line) = refl

-- what all lines weigh, once the line of a number is another one
pub sum_line : (f : Line → ℕ) → f empty ≡ 0 → (es fs : LineEntries) (number : ℕ) (line : Line) → IsStrictlySortedBy nat_cmp (keys_of es)
    → fs ≡ insert_entry nat_cmp es number line → sum_by f (values_of fs) + f (line_in es number) ≡ sum_by f (values_of es) + f line
sum_line f z es fs number line sorted is =
    let sum = sum_by-insert_entry f nat_cmp_total es number line sorted in
    let old = weigh f z (lookup (is_at (nat_cmp number)) es) in
    let new : sum_by f (values_of fs) ≡ sum_by f (values_of (insert_entry nat_cmp es number line)) = ap (λ (xs : LineEntries). sum_by f (values_of xs)) is in
    omega arith

-- and once it is gone
pub sum_without : (f : Line → ℕ) → f empty ≡ 0 → (es fs : LineEntries) (number : ℕ)
    → fs ≡ remove_entry (is_at (nat_cmp number)) es → sum_by f (values_of fs) + f (line_in es number) ≡ sum_by f (values_of es)
sum_without f z es fs number is =
    let sum = sum_by-remove_entry f (is_at (nat_cmp number)) es in
    let old = weigh f z (lookup (is_at (nat_cmp number)) es) in
    let new : sum_by f (values_of fs) ≡ sum_by f (values_of (remove_entry (is_at (nat_cmp number)) es)) = ap (λ (xs : LineEntries). sum_by f (values_of xs)) is in
    omega arith

pub keeps-line : (es fs : LineEntries) (number : ℕ) (line : Line) → number < 65536 → KeepsLine line
    → fs ≡ insert_entry nat_cmp es number line → IsStrictlySortedBy nat_cmp (keys_of fs) → KeepsLines es → KeepsLines fs
keeps-line es fs number line low kept is sorted keeps = record {
  sorted = sorted;
  numbers = rw is (All-keys-insert_entry nat_cmp number line low_number es keeps.numbers low);
  lines = rw is (All-values-insert_entry nat_cmp number line kept_line es keeps.lines kept);
}

pub keeps-without : (es fs : LineEntries) (number : ℕ)
    → fs ≡ remove_entry (is_at (nat_cmp number)) es → IsStrictlySortedBy nat_cmp (keys_of fs) → KeepsLines es → KeepsLines fs
keeps-without es fs number is sorted keeps = record {
  sorted = sorted;
  numbers = rw is (All-map-remove_entry (is_at (nat_cmp number)) (λ (e : ℕ × Line). e.0) low_number es keeps.numbers);
  lines = rw is (All-map-remove_entry (is_at (nat_cmp number)) (λ (e : ℕ × Line). e.1) kept_line es keeps.lines);
}

-- what all lines weigh is bounded
pub packets_bounded : (es : LineEntries) → KeepsLines es → sum_by len (values_of es) ≤ 2 ^ 32
packets_bounded es keeps = sum_bounded len 65536 es keeps.sorted keeps.numbers (λ k d h. (keeps.lines k d h).few)

pub lines_bytes_bounded : (es : LineEntries) → KeepsLines es → sum_by bytes_of (values_of es) < 2 ^ 64
lines_bytes_bounded es keeps =
    let bound : sum_by bytes_of (values_of es) ≤ 65536 * (2 ^ 48 - 1) = sum_bounded bytes_of (2 ^ 48 - 1) es keeps.sorted keeps.numbers (λ k d h. (keeps.lines k d h).light) in
    omega arith

-- a line that changes and keeps its size
pub keeps-same : (es fs : LineEntries) (packets bytes number : ℕ) (line next : Line) → lookup (is_at (nat_cmp number)) es ≡ Some line
    → len next ≡ len line → bytes_of next ≡ bytes_of line → fs ≡ set_value (is_at (nat_cmp number)) es next → KeepsWaiting es packets bytes → KeepsWaiting fs packets bytes
keeps-same es fs packets bytes number line next there same_len same_bytes is keeps =
    let test = is_at (nat_cmp number) in
    let keys : keys_of fs ≡ keys_of es = ap (λ (xs : LineEntries). keys_of xs) is ∙ keys-set_value test es next in
    let was : KeepsLine line = subst (λ (o : Option Line). IfSome o kept_line) there (IfSome-lookup_from_All kept_line test es keeps.lines.lines) in
    let few = was.few in
    let light = was.light in
    record {
      lines = record {
        sorted = subst (IsStrictlySortedBy nat_cmp) (sym keys) keeps.lines.sorted;
        numbers = subst (All low_number) (sym keys) keeps.lines.numbers;
        lines = rw is (All-values-set_value test kept_line es next keeps.lines.lines (record { few = omega arith; light = omega arith }));
      };
      packets_counted =
          (let old = keeps.packets_counted in
          let sum = sum_by-set_value len test es line next there in
          let new : sum_by len (values_of fs) ≡ sum_by len (values_of (set_value test es next)) = ap (λ (xs : LineEntries). sum_by len (values_of xs)) is in
          omega arith);
      bytes_counted =
          (let old = keeps.bytes_counted in
          let sum = sum_by-set_value bytes_of test es line next there in
          let new : sum_by bytes_of (values_of fs) ≡ sum_by bytes_of (values_of (set_value test es next)) = ap (λ (xs : LineEntries). sum_by bytes_of (values_of xs)) is in
          omega arith);
    }

-- a piece more leaves a line's size as it is
pub same_size : (r : Result Unit Refusal) (line next : Line) (count : ℕ) (place : Place) (bytes : List ℕ) (P : IncomingPacket → Type 0) → IsSomeAnd (get line count) P
    → OnOk r ((c : IncomingPacket) → get line count ≡ Some c → next ≡ insert line count (record { flags = c.flags; making = with_piece c.making place bytes }))
    → OnErr r (next ≡ line) → (len next ≡ len line) × (bytes_of next ≡ bytes_of line)
same_size (Err _) line next count place bytes P there ok err = (ap (λ (m : Line). len m) err, ap bytes_of err)
same_size (Ok _) line next count place bytes P there ok err =
    elim (get line count) as (λ o. get line count ≡ o → IsSomeAnd o P → (len next ≡ len line) × (bytes_of next ≡ bytes_of line)) [
      | None ↦ λ e h. absurd h
      | Some c ↦ λ e h. (
        ap (λ (m : Line). len m) (ok c e) ∙ len-over line count c _ e,
        ap bytes_of (ok c e) ∙ sum-over total_of line count c _ e refl,
      )
    ] refl there

-- the line of a number becomes another one
pub with_line-some : (lines : Lines) (number : ℕ) (line : Line) → 0 < len line → with_line lines number line ≡ insert lines number line
with_line-some lines number line more =
    let test : (len line == 0) ≡ false = grind (arith, nat_tests) in
    ap (λ b. cond b (remove lines number) (insert lines number line)) test

pub with_line-none : (lines : Lines) (number : ℕ) (line : Line) → len line ≡ 0 → with_line lines number line ≡ remove lines number
with_line-none lines number line none =
    let test : (len line == 0) ≡ true = grind (arith, nat_tests) in
    ap (λ b. cond b (remove lines number) (insert lines number line)) test

-- nothing is within bounds
pub nothing_kept : KeepsLine empty
nothing_kept = let n = len_nothing in let b = bytes_nothing in record { few = omega arith; light = omega arith }

-- a line with a packet in it isn't empty
pub len-insert_some : (line : Line) (count : ℕ) (coming : IncomingPacket) → 0 < len (insert line count coming)
len-insert_some line count coming =
    elim (zero_or_more (len (insert line count coming))) [
      | inl none ↦ absurd (let there = get-insert_same line count coming in
          let gone : get (insert line count coming) count ≡ None = ap (λ (m : Line). get m count) (empty_of_len (insert line count coming) none) ∙ get-empty nat_cmp count in
          cc)
      | inr more ↦ more
    ]
  where
    zero_or_more : (n : ℕ) → (n ≡ 0) ⊎ (0 < n)
    zero_or_more n = grind arith

-- the piece belongs to the packet, in which it is missing
abbrev pub fits_into : Place → IncomingPacket → Type 0
fits_into place c = IsTrue (belongs c.making place) × (piece_at c.making place.number ≡ None)

-- the line of a number that was just put there
pub line_in-insert : (es fs : LineEntries) (number : ℕ) (line : Line) → fs ≡ insert_entry nat_cmp es number line → line_in fs number ≡ line
line_in-insert es fs number line is =
    sym (line-is fs number) ∙ ap (λ (m : Lines). line_at m number) (inserted_entry es fs number line is) ∙ ap (λ (o : Option Line). unwrap_or o empty) (get-insert_same (from_entries es) number line)

-- no line weighs more than all of them
pub line_le : (f : Line → ℕ) → f empty ≡ 0 → (es : LineEntries) (number : ℕ) → f (line_in es number) ≤ sum_by f (values_of es)
line_le f z es number =
    let sum = sum_by-remove_entry f (is_at (nat_cmp number)) es in
    let this = weigh f z (lookup (is_at (nat_cmp number)) es) in
    omega arith

-- a line that stays
pub settles-kept : (es fs : LineEntries) (number : ℕ) (line : Line) → number < 65536 → KeepsLine line → 0 < len line
    → fs ≡ insert_entry nat_cmp es number line → IsStrictlySortedBy nat_cmp (keys_of fs) → KeepsLines es → Settles es fs number line
settles-kept es fs number line low kept more is sorted keeps = record {
  is = inserted_entry es fs number line is ∙ sym (with_line-some (from_entries es) number line more);
  lines = keeps-line es fs number line low kept is sorted keeps;
  packets = sum_line len len_nothing es fs number line keeps.sorted is;
  bytes = sum_line bytes_of bytes_nothing es fs number line keeps.sorted is;
}

-- a line that is empty and goes
pub settles-gone : (es fs gs : LineEntries) (number : ℕ) (line : Line) → number < 65536 → KeepsLine line → len line ≡ 0
    → fs ≡ insert_entry nat_cmp es number line → IsStrictlySortedBy nat_cmp (keys_of fs)
    → gs ≡ remove_entry (is_at (nat_cmp number)) fs → IsStrictlySortedBy nat_cmp (keys_of gs)
    → from_entries {R = nat_cmp} gs ≡ remove (from_entries fs) number → KeepsLines es → Settles es gs number line
settles-gone es fs gs number line low kept none is sorted without left gone keeps =
    let at = line_in-insert es fs number line is in
    let no_bytes : bytes_of line ≡ 0 = ap bytes_of (empty_of_len line none) ∙ bytes_nothing in
    let packets_in_line : len (line_in fs number) ≡ len line = ap (λ (m : Line). len m) at in
    let bytes_in_line : bytes_of (line_in fs number) ≡ bytes_of line = ap bytes_of at in
    let packets_put = sum_line len len_nothing es fs number line keeps.sorted is in
    let packets_gone = sum_without len len_nothing fs gs number without in
    let bytes_put = sum_line bytes_of bytes_nothing es fs number line keeps.sorted is in
    let bytes_gone = sum_without bytes_of bytes_nothing fs gs number without in
    record {
      is =
          gone ∙ ap (λ (m : Lines). remove m number) (inserted_entry es fs number line is)
          ∙ remove-insert (from_entries es) number line ∙ sym (with_line-none (from_entries es) number line none);
      lines = keeps-without fs gs number without left (keeps-line es fs number line low kept is sorted keeps);
      packets = omega arith;
      bytes = omega arith;
    }

-- a line with one packet more
pub grown : (es fs : LineEntries) (number count : ℕ) (coming : IncomingPacket) → number < 65536 → get (line_in es number) count ≡ None
    → KeepsLine (insert (line_in es number) count coming) → fs ≡ insert_entry nat_cmp es number (insert (line_in es number) count coming)
    → IsStrictlySortedBy nat_cmp (keys_of fs) → KeepsLines es
    → KeepsLines fs × (sum_by len (values_of fs) ≡ sum_by len (values_of es) + 1) × (sum_by bytes_of (values_of fs) ≡ sum_by bytes_of (values_of es) + total_of coming)
grown es fs number count coming low absent kept is sorted keeps =
    let line : Line = insert (line_in es number) count coming in
    let packets_put = sum_line len len_nothing es fs number line keeps.sorted is in
    let bytes_put = sum_line bytes_of bytes_nothing es fs number line keeps.sorted is in
    let longer : len line ≡ len (line_in es number) + 1 = len-new (line_in es number) count coming absent in
    let heavier : bytes_of line ≡ bytes_of (line_in es number) + total_of coming = sum-new total_of (line_in es number) count coming absent in
    (keeps-line es fs number line low kept is sorted keeps, omega arith, omega arith)

pub none_from : {X : Type 0} (o : Option X) → is_some o ≡ false → o ≡ None
none_from None e = refl
none_from (Some x) e = absurd (cc)

-- nothing is handed out of no line
pub fresh_nothing : (first : ℕ) → fresh first (entries (empty {X = IncomingPacket} {R = nat_cmp})) ≡ []
fresh_nothing first = ap (fresh first) entries-empty

pub last_nothing : (last : ℕ) → last_fresh last (entries (empty {X = IncomingPacket} {R = nat_cmp})) ≡ last
last_nothing last = ap (last_fresh last) entries-empty

-- and there is none afterwards
pub nothing_settles : (lines : Lines) (number last : ℕ) → get lines number ≡ None → with_line lines number (still_ahead empty last) ≡ lines
nothing_settles lines number last absent =
    with_line-none lines number (still_ahead empty last) (ap (λ (m : Line). len m) (retained-empty (nat_lt last)) ∙ len_nothing) ∙ remove-absent lines number absent

pub fits_there : (o : Option IncomingPacket) (c : IncomingPacket) (place : Place) → o ≡ Some c → belongs c.making place ≡ true → is_some (piece_at c.making place.number) ≡ false → IsSomeAnd o (fits_into place)
fits_there o c place there fits missing =
    subst (λ (x : Option IncomingPacket). IsSomeAnd x (fits_into place)) (sym there) (fits, none_from (piece_at c.making place.number) missing)
