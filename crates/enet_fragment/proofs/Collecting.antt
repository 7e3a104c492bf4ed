-- The bytes of the pieces that came: what one piece more does to them, and what memory it takes.
use Rattle.std.proofs.Common.{ℕ, zero, suc, ◌≡◌, ◌+◌, ◌-◌, ◌<◌, ◌≤◌, true, List, [], ◌∷◌, ◌++◌, length, take, drop, get_or, refl, sym, ap, subst, ◌∙◌, arith, append_assoc}
use Rattle.std.proofs.Math.ListN.{replicate, length-replicate}
use Rattle.std.proofs.Math.Seq.{take-append-add, drop-append-add, take-suc}
use Rattle.std.proofs.lemmas.List.{take-append-le, length-append, length-drop, append-nil, drop_all, take_all, drop-replicate}
use Rattle.std.proofs.lemmas.List.Elements.{All-append, All-nil}
use Rattle.std.proofs.lemmas.List.Sums.{sum_by_push}
use Rattle.std.specs.List.{sum_by}
use Rattle.std.specs.Vec.{vec_capacity}
use Rattle.enet_fragment.specs.declared.collected.EarlyPiece.{EarlyPiece}
use Rattle.enet_fragment.specs.declared.collected.Collected.{Collected}
use Rattle.enet_fragment.specs.Collected.{written_at, laid, contents, AreWithin, AddsPiece, IsCollected, IsThrifty}
use Rattle.enet_fragment.specs.Private.Assembly.{filled_up}
use Rattle.enet_fragment.specs.declared.piece_store.PieceStore.{PieceStore}
use Rattle.enet_fragment.specs.declared.place.Place.{Place}
use Rattle.enet_fragment.specs.PartialPacket.{belongs}
use Rattle.enet_fragment.specs.Stored.{stored, IsStored}
use Rattle.enet_fragment.proofs.Places.{Fits, Fits-from_test}
use Rattle.enet_fragment.proofs.Pieces.{length-written_at, drop-written, front_of}
use Rattle.enet_fragment.proofs.Held.{filled_up-written}

-- early pieces are written within the packet
pub length-laid : (total : ℕ) (bytes : List ℕ) (early : List EarlyPiece) → length bytes ≡ total → AreWithin total early → length (laid bytes early) ≡ total
unfolding laid
length-laid total bytes [] e h = e
length-laid total bytes (piece ∷ rest) e h =
    let first : piece.offset + length piece.body.items ≤ total = h 0 piece (omega arith) in
    length-laid total (written_at piece.offset piece.body.items bytes) rest
    (length-written_at piece.offset piece.body.items bytes (omega arith) ∙ e)
    (λ k d i. h (suc k) d (omega arith))

-- the last one is written last
pub laid-more : (bytes : List ℕ) (early : List EarlyPiece) (piece : EarlyPiece) → laid bytes (early ++ piece ∷ []) ≡ written_at piece.offset piece.body.items (laid bytes early)
unfolding laid
laid-more bytes [] piece = refl
laid-more bytes (first ∷ rest) piece = laid-more (written_at first.offset first.body.items bytes) rest piece

-- the zeros and the early pieces
abbrev pub behind : ℕ → List EarlyPiece → List ℕ
behind total early = laid (replicate total 0) early

pub length-behind : (total : ℕ) (early : List EarlyPiece) → AreWithin total early → length (behind total early) ≡ total
length-behind total early h = length-laid total (replicate total 0) early (length-replicate total 0) h

pub length-contents : (total : ℕ) (c : Collected) → IsCollected total c → length (contents total c) ≡ total
length-contents total c k =
    let front = c.front.items in
    let all : length (behind total c.early.items) ≡ total = length-behind total c.early.items k.placed in
    let rest : length (drop (length front) (behind total c.early.items)) ≡ length (behind total c.early.items) - length front = length-drop (length front) (behind total c.early.items) in
    let sum : length (contents total c) ≡ length front + length (drop (length front) (behind total c.early.items)) = length-append front (drop (length front) (behind total c.early.items)) in
    omega (arith, k.within)

-- what is written behind some bytes leaves them
written-behind : (front rest new : List ℕ) (at k : ℕ) → at ≡ length front + k → front ++ written_at k new rest ≡ written_at at new (front ++ rest)
written-behind front rest new at k e =
    let further : at + length new ≡ length front + (k + length new) = omega arith in
    let begins : take at (front ++ rest) ≡ front ++ take k rest = ap (λ n. take n (front ++ rest)) e ∙ take-append-add front rest k in
    let ends : drop (at + length new) (front ++ rest) ≡ drop (k + length new) rest = ap (λ n. drop n (front ++ rest)) further ∙ drop-append-add front rest (k + length new) in
    sym (ap (λ b. b ++ (new ++ drop (at + length new) (front ++ rest))) begins
    ∙ (ap (λ r. (front ++ take k rest) ++ (new ++ r)) ends
    ∙ append_assoc front (take k rest) (new ++ drop (k + length new) rest)))

-- a piece that comes early
pub early-written : (total at : ℕ) (new front rest : List ℕ) → length front ≤ at → at ≤ length rest → front ++ drop (length front) (written_at at new rest) ≡ written_at at new (front ++ drop (length front) rest)
early-written total at new front rest h k =
    let n = length front in
    let e : n + (at - n) ≡ at = omega arith in
    ap (λ a. front ++ drop n (written_at a new rest)) (sym e)
    ∙ (ap (λ r. front ++ r) (drop-written n (at - n) new rest (omega arith))
    ∙ written-behind front (drop n rest) new at (at - n) (sym e))

pub early-contents : (total at : ℕ) (new front : List ℕ) (early after : List EarlyPiece) → AreWithin total early → length front ≤ at → at + length new ≤ total → AddsPiece early at new after → front ++ drop (length front) (behind total after) ≡ written_at at new (front ++ drop (length front) (behind total early))
early-contents total at new front early after w h k (piece, is_more, is_at, is_new) =
    let all : length (behind total early) ≡ total = length-behind total early w in
    let more : behind total after ≡ written_at at new (behind total early) =
    ap (λ e. behind total e) is_more ∙ (laid-more (replicate total 0) early piece
    ∙ (ap (λ a. written_at a piece.body.items (behind total early)) is_at ∙ ap (λ b. written_at at b (behind total early)) is_new)) in
    ap (λ b. front ++ drop (length front) b) more ∙ early-written total at new front (behind total early) h (omega arith)

pub early-within : (total at : ℕ) (new : List ℕ) (early after : List EarlyPiece) → AreWithin total early → at + length new ≤ total → AddsPiece early at new after → AreWithin total after
early-within total at new early after w k (piece, is_more, is_at, is_new) =
    let last : piece.offset + length piece.body.items ≤ total = rw (is_at, is_new) k in
    let alone : AreWithin total (piece ∷ []) = only piece last in
    rw is_more (All-append (λ (p : EarlyPiece). p.offset + length p.body.items ≤ total) early (piece ∷ []) w alone)
  where
    only : (p : EarlyPiece) → p.offset + length p.body.items ≤ total → AreWithin total (p ∷ [])
    only p h zero d i = h
    only p h (suc n) d i = absurd (omega arith)

pub early-sum : (at : ℕ) (new : List ℕ) (early after : List EarlyPiece) → AddsPiece early at new after → sum_by (λ (p : EarlyPiece). length p.body.items) after ≡ sum_by (λ (p : EarlyPiece). length p.body.items) early + length new
early-sum at new early after (piece, is_more, is_at, is_new) =
    ap (λ e. sum_by (λ (p : EarlyPiece). length p.body.items) e) is_more
    ∙ (sum_by_push (λ (p : EarlyPiece). length p.body.items) early piece
    ∙ ap (λ b. sum_by (λ (p : EarlyPiece). length p.body.items) early + length b) is_new)

pub early-count : (at : ℕ) (new : List ℕ) (early after : List EarlyPiece) → AddsPiece early at new after → length after ≡ length early + 1
early-count at new early after (piece, is_more, is_at, is_new) =
    ap (λ (e : List EarlyPiece). length e) is_more ∙ length-append early (piece ∷ [])

-- each early piece ends within the packet
pub piece-within : (total : ℕ) (early : List EarlyPiece) (i : ℕ) (piece : EarlyPiece) → i < length early → piece ≡ get_or early i piece → AreWithin total early → piece.offset + length piece.body.items ≤ total
piece-within total early i piece h is_piece w = subst (λ (p : EarlyPiece). p.offset + length p.body.items ≤ total) (sym is_piece) (w i piece h)

-- one early piece more is written
pub laid-next : (total : ℕ) (early : List EarlyPiece) (i : ℕ) (piece : EarlyPiece) (start before after : List ℕ) → i < length early → piece ≡ get_or early i piece → AreWithin total early → filled_up total before ≡ laid start (take i early) → after ≡ written_at piece.offset piece.body.items (filled_up (piece.offset + length piece.body.items) before) → filled_up total after ≡ laid start (take (i + 1) early)
laid-next total early i piece start before after h is_piece w e f =
    let fits : piece.offset + length piece.body.items ≤ total = piece-within total early i piece h is_piece w in
    let step : suc i ≡ i + 1 = omega arith in
    ap (λ b. filled_up total b) f
    ∙ (filled_up-written total piece.offset piece.body.items before fits
    ∙ (ap (λ b. written_at piece.offset piece.body.items b) e
    ∙ (sym (laid-more start (take i early) piece)
    ∙ ap (λ l. laid start l) (ap (λ p. take i early ++ p ∷ []) is_piece ∙ (sym (take-suc early i piece h) ∙ ap (λ n. take n early) step)))))

-- all together, the front last
pub together-contents : (total : ℕ) (c : Collected) (before after : List ℕ) → IsCollected total c → filled_up total before ≡ laid (replicate total 0) c.early.items → after ≡ written_at 0 c.front.items (filled_up (0 + length c.front.items) before) → filled_up total after ≡ contents total c
together-contents total c before after k e f =
    let fits : 0 + length c.front.items ≤ total = omega (arith, k.within) in
    ap (λ b. filled_up total b) f
    ∙ (filled_up-written total 0 c.front.items before fits
    ∙ (ap (λ b. written_at 0 c.front.items b) e
    ∙ front_of 0 c.front.items (laid (replicate total 0) c.early.items) refl))

-- where no early piece is
pub contents-laid : (total : ℕ) (c : Collected) → c.early.items ≡ [] → contents total c ≡ filled_up total c.front.items
unfolding laid
contents-laid total c e =
    let front = c.front.items in
    ap (λ early. front ++ drop (length front) (laid (replicate total 0) early)) e
    ∙ ap (λ r. front ++ r) (drop-replicate (length front) total 0)

-- a piece is written over the front
pub over-front : (total at : ℕ) (new : List ℕ) (c after : Collected) → c.early.items ≡ [] → after.early.items ≡ [] → at + length new ≤ total → after.front.items ≡ written_at at new (filled_up (at + length new) c.front.items) → contents total after ≡ written_at at new (contents total c)
over-front total at new c after e f h w =
    contents-laid total after f
    ∙ (ap (λ b. filled_up total b) w
    ∙ (filled_up-written total at new c.front.items h
    ∙ ap (λ b. written_at at new b) (sym (contents-laid total c e))))

-- all pieces with one more
pub gathered-contents : (total at : ℕ) (new all before : List ℕ) (c after : Collected) → filled_up total before ≡ contents total c → at + length new ≤ total → after.early.items ≡ [] → after.front.items ≡ all → all ≡ written_at at new (filled_up (at + length new) before) → contents total after ≡ written_at at new (contents total c)
gathered-contents total at new all before c after e h f g w =
    contents-laid total after f
    ∙ (ap (λ b. filled_up total b) (g ∙ w)
    ∙ (filled_up-written total at new before h
    ∙ ap (λ b. written_at at new b) e))

-- the front and the end of the packet behind it
pub end-written : (total at : ℕ) (new : List ℕ) (c : Collected) → IsCollected total c → length c.front.items ≡ at → at + length new ≡ total → c.front.items ++ new ≡ written_at at new (contents total c)
end-written total at new c k e f =
    let front = c.front.items in
    let rest = drop (length front) (behind total c.early.items) in
    let end = at + length new in
    let all : length (contents total c) ≡ total = length-contents total c k in
    let begins : take at (front ++ rest) ≡ front = take-append-le at front rest (omega arith) ∙ take_all at front (omega arith) in
    let ends : drop end (front ++ rest) ≡ [] = drop_all end (front ++ rest) (omega arith) in
    sym (ap (λ b. b ++ (new ++ drop end (front ++ rest))) begins
    ∙ (ap (λ r. front ++ (new ++ r)) ends
    ∙ ap (λ r. front ++ r) (append-nil new)))

-- where nothing has come
pub contents-none : (total : ℕ) (c : Collected) → c.front.items ≡ [] → c.early.items ≡ [] → contents total c ≡ replicate total 0
unfolding laid
contents-none total c e f =
    ap (λ front. front ++ drop (length front) (laid (replicate total 0) c.early.items)) e
    ∙ ap (λ early. laid (replicate total 0) early) f

pub IsCollected-none : (total : ℕ) (c : Collected) → c.front.items ≡ [] → c.early.items ≡ [] → c.front_room ≡ 0 → c.early_bytes ≡ 0 → IsCollected total c
IsCollected-none total c e f g h =
    let none : length c.front.items ≡ 0 = ap (λ (b : List ℕ). length b) e in
    record {
      within = omega arith;
      roomy = omega arith;
      gathered = λ some. absurd (omega arith);
      placed = rw f (All-nil (λ (p : EarlyPiece). p.offset + length p.body.items ≤ total));
      counted = rw (f, h) refl;
    }

pub IsThrifty-none : (bytes pieces : ℕ) (c : Collected) → c.front.items ≡ [] → c.early.items ≡ [] → c.front_room ≡ 0 → c.early_bytes ≡ 0 → vec_capacity c.early ≡ 0 → IsThrifty bytes pieces c
IsThrifty-none bytes pieces c e f g h k =
    let none : length c.front.items ≡ 0 = ap (λ (b : List ℕ). length b) e in
    let no_early : length c.early.items ≡ 0 = ap (λ (l : List EarlyPiece). length l) f in
    record { taken = omega arith; came = omega arith; pieces_came = omega arith; places = omega arith }

-- a piece that belongs to the packet ends within it
pub ends-within : (s : PieceStore) (p : Place) (new : List ℕ) → IsStored s → belongs (stored s) p ≡ true → p.len ≡ length new → p.offset + length new ≤ s.total
ends-within s p new k b l =
    let f : Fits (stored s) p = Fits-from_test (stored s) p b in
    let all : length (contents s.total s.bytes) ≡ s.total = length-contents s.total s.bytes k.collected in
    omega (arith, f.sound.ends, f.total)
