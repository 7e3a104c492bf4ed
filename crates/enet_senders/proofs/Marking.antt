-- Commands are marked one by one, or held back.
use Rattle.std.proofs.Common.{◌≡◌, ℕ, ◌+◌, ◌<◌, List, ◌++◌, length, map, set, get_or, take, drop}
use Rattle.std.proofs.lemmas.List.Edits.{map_over_more}
use Rattle.enet_rtt.specs.declared.transmission.Tick.{Tick}
use Rattle.enet_senders.specs.declared.control.SentControl.{SentControl}
use Rattle.enet_senders.specs.Controlling.{marked, held_back}

pub map_marked : (tick : Tick) (xs ys : List SentControl) (i : ℕ) (x : SentControl) → i < length xs → ys ≡ map (marked tick) (take i xs) ++ drop i xs → x ≡ get_or ys i x
    → set ys i (marked tick x) ≡ map (marked tick) (take (i + 1) xs) ++ drop (i + 1) xs
map_marked tick xs ys i x = map_over_more (marked tick) xs ys i x

pub map_held_back : (tick : Tick) (xs ys : List SentControl) (i : ℕ) (x : SentControl) → i < length xs → ys ≡ map (held_back tick) (take i xs) ++ drop i xs → x ≡ get_or ys i x
    → set ys i (held_back tick x) ≡ map (held_back tick) (take (i + 1) xs) ++ drop (i + 1) xs
map_held_back tick xs ys i x = map_over_more (held_back tick) xs ys i x
