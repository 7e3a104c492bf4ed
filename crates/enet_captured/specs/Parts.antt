-- What of a timeline passes a filter, connection by connection.
use Rattle.std.specs.Prelude.{◌≡◌, ◌==◌, ◌&&◌, nat_lt, ℕ, zero, suc, Bool, true, false, List, [], ◌∷◌, ◌++◌, length, filter, map, slice_get, Some}
use Rattle.enet_captured.specs.declared.timeline.Seen.{Seen}
use Rattle.enet_captured.specs.declared.timeline.Mark.{Mark}
use Rattle.enet_captured.specs.declared.timeline.Timeline.{Timeline}
use Rattle.enet_captured.specs.declared.filter.Filter.{Filter}
use Rattle.enet_captured.specs.declared.part.Part.{Part}
use Rattle.enet_captured.specs.declared.timeline.Way.TheVariants.{Right, Left}
use Rattle.enet_captured.specs.Delays.{delays_to}
use Rattle.enet_captured.specs.Fates.{marked_as}
use Rattle.enet_captured.specs.Filters.{is_asked, mark_passes, seen_passes}

abbrev pub seen_in : ℕ → Seen → Bool
seen_in index seen = seen.connection == index

abbrev pub mark_in : ℕ → Mark → Bool
mark_in index mark = mark.connection == index

-- All commands of a connection.
abbrev pub marks_of : Timeline → ℕ → List Mark
marks_of t index = filter (mark_in index) t.marks.items

-- Its datagrams that pass.
abbrev pub seen_of : Timeline → Filter → ℕ → List Seen
seen_of t f index = filter (seen_passes f t.begun (marks_of t index)) (filter (seen_in index) t.seen.items)

-- What of a connection passes. What became of a datagram, and how soon what goes each way is acknowledged, all commands of the connection
-- tell, those that don't pass, too.
pub record IsPart (t : Timeline) (f : Filter) (index : ℕ) (part : Part) : Type 0 where
  pub index_is : part.index ≡ index
  pub connection_is : slice_get t.connections.items index ≡ Some part.connection
  pub seen_are : part.seen.items ≡ seen_of t f index
  pub marks_are : part.marks.items ≡ filter (mark_passes f t.begun) (marks_of t index)
  pub marked_are : part.marked.items ≡ map (marked_as (marks_of t index)) part.seen.items
  pub right_is : part.right ≡ delays_to (marks_of t index) Right (length (marks_of t index))
  pub left_is : part.left ≡ delays_to (marks_of t index) Left (length (marks_of t index))

-- A connection is shown if it is asked for, and one of its datagrams passes.
abbrev pub is_shown : Timeline → Filter → ℕ → Bool
is_shown t f index = is_asked f.connection index && nat_lt 0 (length (seen_of t f index))

-- What is told of a connection: nothing where it isn't shown.
pub data IsTold (t : Timeline) (f : Filter) (index : ℕ) : List Part → Type 0 where
  left_out : is_shown t f index ≡ false → IsTold t f index []
  shown : (part : Part) → is_shown t f index ≡ true → IsPart t f index part → IsTold t f index (part ∷ [])

-- What is told of so many connections, one after another.
unfoldable pub AreParts : Timeline → Filter → ℕ → List Part → Type 0
AreParts t f zero parts = parts ≡ []
AreParts t f (suc n) parts =
    (before more : List Part) × (parts ≡ before ++ more) × AreParts t f n before × IsTold t f n more
