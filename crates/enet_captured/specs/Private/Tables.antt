-- A list that has what a function gives for each place.
use Rattle.std.specs.Prelude.{◌≡◌, ◌<◌, ℕ, if◌then◌else◌, List, length, slice_get, Option, Some, None}
use Rattle.std.specs.List.{list_any}
use Rattle.std.specs.Option.{unwrap_or}
use Rattle.std.specs.Ordering.{nat_cmp, ordering_then}
use Rattle.std.specs.declared.cmp.Ordering.{Ordering}
use Rattle.std.specs.BTreeMap.{BTreeMap}
use Rattle.std.specs.BTreeMap as tree
use Rattle.enet_captured.specs.declared.timeline.Way.{Way}
use Rattle.enet_captured.specs.declared.timeline.Way.TheVariants.{Right, Left}
use Rattle.enet_captured.specs.declared.timeline.Mark.{Mark}
use Rattle.enet_captured.specs.declared.sends.Links.{Links}
use Rattle.enet_captured.specs.Fates.{verifies}
use Rattle.enet_captured.specs.Sends.{Key, is_key, leads_to, or_here, seen_before, went_before, belongs_to, goes_again, is_acknowledged}

pub record IsTable {A : Type 0} (of : ℕ → A) (places : ℕ) (items : List A) : Type 0 where
  pub len : length items ≡ places
  pub each : (place : ℕ) → place < places → slice_get items place ≡ Some (of place)

-- What stands at a place of a list of keys, and of a list of links.
abbrev pub flat : {A : Type 0} → Option (Option A) → Option A
flat None = None
flat (Some found) = found

abbrev pub item : {A : Type 0} → List (Option A) → ℕ → Option A
item items place = flat (slice_get items place)

-- How keys are ordered in a map.
abbrev pub key_cmp : Key → Key → Ordering
key_cmp a b = ordering_then (ordering_then (ordering_then (nat_cmp a.0 b.0) (nat_cmp a.1 b.1)) (nat_cmp a.2 b.2)) (nat_cmp a.3 b.3)

-- What a map has at a key, where one is asked for.
abbrev pub looked_up : BTreeMap Key ℕ → Option Key → Option ℕ
looked_up last None = None
looked_up last (Some key) = tree.get key_cmp last key

-- A map has a place at a key from now on, where one is given.
abbrev pub Puts : BTreeMap Key ℕ → BTreeMap Key ℕ → Option Key → ℕ → Type 0
Puts old new key place = (asked : Key) → tree.get key_cmp new asked ≡ (if is_key asked key then Some place else tree.get key_cmp old asked)

-- What a list of numbers has at a place.
abbrev pub turn_at : List ℕ → ℕ → ℕ
turn_at turns place = unwrap_or (slice_get turns place) 0

-- Which of two numbers is of a way.
abbrev pub by_way : Way → ℕ → ℕ → ℕ
by_way Right right left = right
by_way Left right left = left

-- The place from which a link leads is noted where it leads to, unless one is.
pub record Leads (old new : List (Option ℕ)) (link : Option ℕ) (place : ℕ) : Type 0 where
  pub len : length new ≡ length old
  pub each : (target : ℕ) → target < length old → slice_get new target ≡ Some (or_here (item old target) (leads_to target link) place)

pub record AreLinks (marks : List Mark) (links : Links) : Type 0 where
  pub seen_before_is : IsTable (seen_before marks) (length marks) links.seen_before.items
  pub went_before_is : IsTable (went_before marks) (length marks) links.went_before.items
  pub belongs_to_is : IsTable (belongs_to marks) (length marks) links.belongs_to.items
  pub goes_again_is : IsTable (goes_again marks) (length marks) links.goes_again.items
  pub is_acknowledged_is : IsTable (is_acknowledged marks) (length marks) links.is_acknowledged.items
  pub right_is : links.is_verified_right ≡ list_any (verifies Right) marks
  pub left_is : links.is_verified_left ≡ list_any (verifies Left) marks
