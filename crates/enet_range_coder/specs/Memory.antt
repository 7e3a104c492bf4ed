-- What a coder's memory holds.
use Rattle.std.specs.Prelude.{ℕ, ◌+◌, ◌%◌, ◌==◌, if◌then◌else◌, List, [], ◌∷◌, zero, suc, slice_index_or}
use Rattle.enet_range_coder.specs.declared.cell.Cell.{Cell}
use Rattle.enet_range_coder.specs.declared.coder.Coder.{Coder}
use Rattle.enet_range_coder.specs.Context.{Context}

abbrev pub blank : Cell
blank = record { byte = 0; weight = 0; next = 0; first = 0; unseen = 0; shorter = 0 }

abbrev pub cell_at : List Cell → ℕ → Cell
cell_at cells place = slice_index_or cells (place % 4096) blank

-- the bytes of a chain of at most so many cells, each with its weight
unfoldable pub chain : ℕ → List Cell → ℕ → List (ℕ × ℕ)
chain zero cells place = []
chain (suc left) cells place = if place == 0 then [] else ((cell_at cells place).byte, (cell_at cells place).weight) ∷ chain left cells (cell_at cells place).next

-- all bytes from `byte` on, each with its weight, which is 1 more than what stands there
abbrev pub all_from : ℕ → List ℕ → List (ℕ × ℕ)
all_from byte [] = []
all_from byte (weight ∷ weights) = (byte, weight + 1) ∷ all_from (suc byte) weights

abbrev pub context_at : Coder → ℕ → Context
context_at m place = record {
  unseen = if place == 0 then 1 else (cell_at m.cells place).unseen;
  bytes = if place == 0 then all_from 0 m.weights else chain 256 m.cells (cell_at m.cells place).first;
}

-- the contexts from one on, at most so many
unfoldable pub contexts_from : ℕ → Coder → ℕ → List Context
contexts_from zero m place = []
contexts_from (suc left) m place = context_at m place ∷ (if place == 0 then [] else contexts_from left m (cell_at m.cells place).shorter)

abbrev pub contexts : Coder → List Context
contexts m = contexts_from 3 m m.here
