-- What the places of the queue hold.
use Rattle.std.specs.Prelude.{◌≡◌, ℕ, ◌+◌, ◌-◌, ◌≤◌, List, [], ◌∷◌, ◌++◌, length, map, take, flat_map, Option, Some, None}
use Rattle.enet_submit.specs.declared.order.Order.{Order}
use Rattle.enet_submit.specs.declared.order.Parcel.{Parcel}
use Rattle.enet_submit.specs.declared.order.Submission.{Submission}
use Rattle.enet_submit.specs.History.{of}
use Rattle.enet_submit.specs.Requests.{orders_of}

-- orders of a seat, numbered from a number on
abbrev pub numbered : ℕ → ℕ → List Order → List Submission
numbered seat number [] = []
numbered seat number (order ∷ orders) = (record { seat = seat; number = number; order = order }) ∷ numbered seat (number + 1) orders

-- what a place holds, one by one
abbrev pub spelled : Parcel → List Submission
spelled parcel = numbered parcel.seat parcel.number (orders_of parcel.request)

abbrev pub contents : List Parcel → List Submission
contents parcels = flat_map spelled parcels

-- what is left of packets for several peers, of which some were taken
abbrev pub left_of : ℕ → ℕ → Option (List Order) → List Submission
left_of seat number None = []
left_of seat number (Some orders) = numbered seat number orders

-- a list without so many as these at its end
abbrev pub all_but : List Submission → List Submission → List Submission
all_but items rest = take (length items - length rest) items

-- the one list ends with the other
abbrev pub EndsWith : List Submission → List Submission → Type 0
EndsWith items rest = all_but items rest ++ rest ≡ items

-- as many numbers as these are, from a number on
abbrev pub numbers_from : ℕ → List Submission → List ℕ
numbers_from number [] = []
numbers_from number (item ∷ items) = number ∷ numbers_from (number + 1) items

-- the items make a history (`IsHistory`)
abbrev pub AreHistory : ℕ → List Submission → Type 0
AreHistory seats items =
    ((seat : ℕ) → seats ≤ seat → of seat items ≡ [])
    × ((seat : ℕ) → map (λ item. item.number) (of seat items) ≡ numbers_from 0 (of seat items))
    × ((seat : ℕ) → length (of seat items) ≤ 4294967295)
