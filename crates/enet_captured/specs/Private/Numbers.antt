-- The numbers of the datagrams that have a command of a channel.
use Rattle.std.specs.Prelude.{◌≡◌, ℕ, Bool, true, false, List, Option, Some, None}
use Rattle.std.specs.BTreeMap as tree
use Rattle.std.specs.BTreeMap.{BTreeMap}
use Rattle.std.specs.List.{list_any}
use Rattle.std.specs.Option.{unwrap_or}
use Rattle.std.specs.Ordering.{nat_cmp}
use Rattle.enet_captured.specs.declared.timeline.Mark.{Mark}
use Rattle.enet_captured.specs.Filters.{is_on}

abbrev pub noted : BTreeMap ℕ Bool → ℕ → Bool
noted numbers number = unwrap_or (tree.get nat_cmp numbers number) false

abbrev pub goes_on : BTreeMap ℕ Bool → Option ℕ → ℕ → Bool
goes_on numbers None number = true
goes_on numbers (Some channel) number = noted numbers number

abbrev pub AreOn : ℕ → List Mark → BTreeMap ℕ Bool → Type 0
AreOn channel marks numbers = (number : ℕ) → noted numbers number ≡ list_any (is_on channel number) marks
