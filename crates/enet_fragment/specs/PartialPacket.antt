-- A packet in pieces: what a receiver knows of a packet whose pieces are coming.
use Rattle.std.specs.Prelude.{ℕ, ◌==◌, ◌&&◌, if◌then◌else◌, Bool, true, Option, Some, None, List, [], ◌∷◌, ◌++◌, length, replicate, slice_set, slice_index_or, is_some, IsSome, unwrap_or, All, refl}
use Rattle.std.specs.Coded.{Coded, code_by, coded×, coded_ℕ, coded_list, coded_option}
use Rattle.std.specs.List.{list_all}
use Rattle.enet_fragment.specs.declared.place.Place.{Place}
use Rattle.enet_fragment.specs.declared.assembly.Put.{Put}
use Rattle.enet_fragment.specs.declared.assembly.Put.TheVariants.{New, Again, Whole, Bad}
use Rattle.enet_fragment.specs.Place.{is_sound, told_piece_len}

-- how many bytes the packet has; the length of each piece but the last, once a piece has told it; and, in the order of
-- their numbers, the bytes of each piece that has come
pub record PartialPacket : Type 0 where
  pub total : ℕ
  pub cut : Option ℕ
  pub pieces : List (Option (List ℕ))

-- a packet in pieces is stored as its fields, which models that hold such packets need
abbrev pub partial_packet_code : Coded PartialPacket
partial_packet_code =
    code_by (ℕ × (Option ℕ × List (Option (List ℕ))))
    (coded× coded_ℕ (coded× (coded_option coded_ℕ) (coded_list (coded_option (coded_list coded_ℕ)))))
    (λ m. (m.total, (m.cut, m.pieces)))
    (λ q. record { total = q.0; cut = q.1.0; pieces = q.1.1 })
    (λ _. refl)

-- how many pieces it has
abbrev pub count_of : PartialPacket → ℕ
count_of m = length m.pieces

-- a packet of which nothing has come
abbrev pub nothing_yet : ℕ → ℕ → PartialPacket
nothing_yet count total = record { total = total; cut = None; pieces = replicate count None }

-- the bytes of the piece of this number, if it has come
abbrev pub piece_at : PartialPacket → ℕ → Option (List ℕ)
piece_at m number = slice_index_or m.pieces number None

-- the piece of every number has come
abbrev pub IsWhole : PartialPacket → Type 0
IsWhole m = All (λ piece. IsSome piece) m.pieces

-- the bytes of the pieces, in the order of their numbers
unfoldable pub joined : List (Option (List ℕ)) → List ℕ
joined [] = []
joined (piece ∷ rest) = unwrap_or piece [] ++ joined rest

-- the length that a piece tells is the one that earlier pieces told
abbrev pub is_same_cut : Option ℕ → ℕ → Bool
is_same_cut None cut = true
is_same_cut (Some known) cut = known == cut

-- the piece speaks of a packet of this size
abbrev pub is_of_size : PartialPacket → Place → Bool
is_of_size m p = (p.count == count_of m) && (p.total == m.total)

-- the piece can be one of this packet's
unfoldable pub belongs : PartialPacket → Place → Bool
belongs m p = is_sound p && is_of_size m p && is_same_cut m.cut (told_piece_len p)

-- the piece of each other number has come
unfoldable pub have_others_come : PartialPacket → ℕ → Bool
have_others_come m number = list_all is_some (slice_set m.pieces number (Some []))

-- what becomes of a piece with this place
unfoldable pub put_outcome : PartialPacket → Place → Put
put_outcome m p =
    if belongs m p
    then (if is_some (piece_at m p.number) then Again else (if have_others_come m p.number then Whole else New))
    else Bad

-- the packet with this piece
abbrev pub with_piece : PartialPacket → Place → List ℕ → PartialPacket
with_piece m p bytes = record { total = m.total; cut = Some (told_piece_len p); pieces = slice_set m.pieces p.number (Some bytes) }

-- the packet after an outcome: a piece that is new is in it, another one changes nothing
abbrev pub after_outcome : Put → PartialPacket → Place → List ℕ → PartialPacket
after_outcome New m p bytes = with_piece m p bytes
after_outcome Whole m p bytes = with_piece m p bytes
after_outcome Again m p bytes = m
after_outcome Bad m p bytes = m

-- the packet after a piece came
abbrev pub after_put : PartialPacket → Place → List ℕ → PartialPacket
after_put m p bytes = after_outcome (put_outcome m p) m p bytes

-- the packet without the piece of this number; what the pieces told stays
abbrev pub without_piece : PartialPacket → ℕ → PartialPacket
without_piece m number = record { total = m.total; cut = m.cut; pieces = slice_set m.pieces number None }
