-- How a coder's memory learns a byte.
use Rattle.std.specs.Prelude.{ℕ, ◌+◌, ◌-◌, ◌/◌, ◌%◌, Bool, true, false, not, ◌&&◌, ◌==◌, nat_le, nat_lt, min, if◌then◌else◌, List, map, zero, suc, slice_index, slice_set}
use lib.ListN.{replicate}
use Rattle.enet_range_coder.specs.declared.cell.Cell.{Cell}
use Rattle.enet_range_coder.specs.declared.coder.Coder.{Coder}
use Rattle.enet_range_coder.specs.Memory.{blank, cell_at}

-- a memory that has learned nothing: no cell but the first is used
unfoldable pub nothing_learned : Coder
nothing_learned = record { cells = replicate 4096 blank; weights = replicate 256 0; roots = replicate 256 0; used = 1; here = 0; length = 0 }

abbrev pub cell_set : List Cell → ℕ → Cell → List Cell
cell_set cells place cell = slice_set cells (place % 4096) cell

abbrev pub put : Coder → ℕ → Cell → Coder
put m place cell = record m { cells = cell_set m.cells place cell }

-- the last cell of a chain with a smaller byte, or the one before it
unfoldable pub last_below : ℕ → List Cell → ℕ → ℕ → ℕ → ℕ
last_below zero cells place before byte = before
last_below (suc left) cells place before byte = if place == 0 then before else (if nat_le byte (cell_at cells place).byte then before else last_below left cells (cell_at cells place).next place byte)

-- half of a weight, rounded up
abbrev pub halve_weight : ℕ → ℕ
halve_weight weight = weight - weight / 2

-- a cell whose weight is halved
abbrev pub halved_cell : Cell → Cell
halved_cell cell = record cell { weight = halve_weight cell.weight }

-- a chain's weights halved
unfoldable pub halve : ℕ → List Cell → ℕ → List Cell
halve zero cells place = cells
halve (suc left) cells place = if place == 0 then cells
    else halve left (cell_set cells place (halved_cell (cell_at cells place))) (cell_at cells place).next

-- a cell more
abbrev pub fresh : ℕ → ℕ → ℕ → Cell
fresh byte weight next = record { byte = byte; weight = weight; next = next; first = 0; unseen = 0; shorter = 0 }

abbrev pub add : Coder → Cell → Coder
add m cell = record m { cells = cell_set m.cells m.used cell; used = min (m.used + 1) 65535 }

abbrev pub with_shorter : Coder → ℕ → ℕ → Coder
with_shorter m place shorter = put m place (record (cell_at m.cells place) { shorter = shorter })

abbrev pub with_next : Coder → ℕ → ℕ → Coder
with_next m place next = put m place (record (cell_at m.cells place) { next = next })

abbrev pub with_first : Coder → ℕ → ℕ → Coder
with_first m place first = put m place (record (cell_at m.cells place) { first = first })

-- a context has a byte more
abbrev pub grown_cell : Cell → Cell
grown_cell cell = record cell { unseen = min (cell.unseen + 5) 65535 }

abbrev pub grown : Coder → ℕ → Coder
grown m place = put m place (grown_cell (cell_at m.cells place))

-- a byte is counted twice more
abbrev pub weighed_cell : Cell → Cell
weighed_cell cell = record cell { weight = min (cell.weight + 2) 255 }

abbrev pub weighed : Coder → ℕ → Coder
weighed m place = put m place (weighed_cell (cell_at m.cells place))

-- all weights of a context halved
abbrev pub halved_unseen : Cell → Cell
halved_unseen cell = record cell { unseen = halve_weight cell.unseen }

abbrev pub halved_in : Coder → ℕ → Coder
halved_in m context = record m {
  cells = halve 256 (cell_set m.cells context (halved_unseen (cell_at m.cells context))) (cell_at m.cells context).first;
}

-- a context is halved once a byte of this weight was counted again
abbrev pub is_heavy : ℕ → Bool
is_heavy weight = nat_lt 251 weight

-- a byte that a context has is counted
unfoldable pub counted : Coder → ℕ → ℕ → Coder
counted m context place = if is_heavy (cell_at m.cells place).weight then halved_in (weighed m place) context else weighed m place

-- a new cell stands behind the cell `before` of a context, or is its first where that is 0
abbrev pub led : Coder → ℕ → ℕ → ℕ → Coder
led m context before cell = if before == 0 then with_first m context cell else with_next m before cell

-- a byte that it hasn't is put behind the cell `before`, 0 for none, and before the cell `place`
abbrev pub planted : Coder → ℕ → ℕ → ℕ → ℕ → Coder
planted m context before place byte = grown (led (add m (fresh byte 2 place)) context before m.used) context

-- what a memory is after a byte was noted in a context, its cell there, and whether it is new
pub record Noting : Type 0 where
  pub memory : Coder
  pub cell : ℕ
  pub is_new : Bool

abbrev pub before_in : Coder → ℕ → ℕ → ℕ
before_in m context byte = last_below 256 m.cells (cell_at m.cells context).first 0 byte

abbrev pub place_in : Coder → ℕ → ℕ → ℕ
place_in m context byte = if before_in m context byte == 0 then (cell_at m.cells context).first else (cell_at m.cells (before_in m context byte)).next

abbrev pub has : Coder → ℕ → ℕ → Bool
has m place byte = not (place == 0) && (cell_at m.cells place).byte == byte

unfoldable pub noted_in : Coder → ℕ → ℕ → Noting
noted_in m context byte = if has m (place_in m context byte) byte then record { memory = counted m context (place_in m context byte); cell = place_in m context byte; is_new = false }
    else record { memory = planted m context (before_in m context byte) (place_in m context byte) byte; cell = m.used; is_new = true }

-- the empty context has all bytes, each weight less 1; it is halved once a byte where this stands was counted again
abbrev pub is_heavy_root : ℕ → Bool
is_heavy_root weight = nat_le 250 weight

unfoldable pub root_weighed : List ℕ → ℕ → List ℕ
root_weighed weights byte = if is_heavy_root (slice_index weights byte) then map halve_weight (slice_set weights byte (min (slice_index weights byte + 3) 255)) else slice_set weights byte (min (slice_index weights byte + 3) 255)

unfoldable pub noted_root : Coder → ℕ → Noting
noted_root m byte =
    if slice_index m.roots byte == 0 then record { memory = record (add (record m { weights = root_weighed m.weights byte }) (fresh byte 3 0)) { roots = slice_set m.roots byte m.used }; cell = m.used; is_new = true }
    else record { memory = record m { weights = root_weighed m.weights byte }; cell = slice_index m.roots byte; is_new = false }

unfoldable pub noted : Coder → ℕ → ℕ → Noting
noted m context byte = if context == 0 then noted_root m byte else noted_in m context byte

-- the cell of a byte leads from its cell in the context before, and is where the coder stands if there is none
abbrev pub linked : Coder → ℕ → ℕ → Coder
linked m longer cell = if longer == 0 then record m { here = cell } else with_shorter m longer cell

-- a byte is noted in the next shorter context, too: the empty one has none
abbrev pub goes_on : Bool → ℕ → Bool
goes_on is_new context = is_new && not (context == 0)

-- a byte is noted in a context and all shorter ones, at most so many, up to the first that has it
unfoldable pub learned_from : ℕ → Coder → ℕ → ℕ → ℕ → Coder
learned_from zero m context longer byte = m
learned_from (suc left) m context longer byte =
    if goes_on (noted m context byte).is_new context then learned_from left (linked (noted m context byte).memory longer (noted m context byte).cell)
    (cell_at (linked (noted m context byte).memory longer (noted m context byte).cell).cells context).shorter (noted m context byte).cell byte
    else linked (noted m context byte).memory longer (noted m context byte).cell

-- a memory of so many cells is full
abbrev pub is_full : ℕ → Bool
is_full used = nat_le 4094 used

-- a context has two bytes at most
abbrev pub is_longest : ℕ → Bool
is_longest length = nat_le 2 length

-- a memory that is full is cleared
unfoldable pub stepped : Coder → Coder
stepped m = if is_full m.used then nothing_learned
    else (if is_longest m.length then record m { here = (cell_at m.cells m.here).shorter } else record m { length = m.length + 1 })

abbrev pub learned : Coder → ℕ → Coder
learned m byte = stepped (learned_from 3 m m.here 0 byte)
