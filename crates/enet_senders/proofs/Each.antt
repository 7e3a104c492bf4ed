-- All channels change, one after another.
use Rattle.std.proofs.Common.{◌≡◌, ℕ, zero, suc, ◌+◌, ◌<◌, ◌≤◌, Bool, true, ◌&&◌, ◌||◌, List, [], ◌∷◌, ◌++◌, length, map, get_or, set, take, drop, Option, Some, None, Result, Ok, Err, OnOk, OnErr, refl, sym, ap, ap₂, subst, ◌∙◌, arith}
use Rattle.std.specs.List.{slice_get, list_all, list_any}
use Rattle.std.proofs.lemmas.List.{length-append, length-map, length-take, length-drop, length-set, take_all, drop_all, append-nil, get_or_default, map_push, take-map, take-set-le}
use Rattle.std.proofs.lemmas.List.Edits.{map_over_more}
use Rattle.std.proofs.lemmas.List.Folds.{list_all_more}
use Rattle.std.proofs.lemmas.List.Sums.{sum_by_push}
use Rattle.std.proofs.lemmas.List.Elements.{All-push, All-take, All-nil}
use Rattle.std.proofs.lemmas.Option.{slice_get-get_or, slice_get_read, slice_get-map}
use Rattle.std.specs.Option.{option_map}
use Rattle.slab.specs.Slab.{Slab, get}
use Rattle.enet_sender.specs.declared.sent.Sent.{Sent}
use Rattle.enet_sender.specs.declared.outgoing.Outgoing.{Outgoing}
use Rattle.enet_sender.specs.Due.{SendingEnd, new_end}
use Rattle.enet_sender.specs.Pending.{vacant, times, held}
use Rattle.enet_sender.specs.Rings.{HasRoom, Rings, Keeps, no_rings, rings_of, keys_of, sender_of, end_of}
use Rattle.enet_senders.specs.Senders.{ends_of, times_in, KeepsAll}
use Rattle.enet_senders.proofs.Frames.{Framed, keeps-new}
use Rattle.enet_senders.proofs.Dropping.{AreBare, sum-front, bare-times}

-- so far the first i have changed
abbrev pub partly : (SendingEnd → SendingEnd) → ℕ → List SendingEnd → List SendingEnd
partly f i es = map f (take i es) ++ drop i es

pub partly-length : (f : SendingEnd → SendingEnd) (i : ℕ) (es ys : List SendingEnd) → ys ≡ partly f i es → length ys ≡ length es
partly-length f i es ys is =
    let e : length ys ≡ length (partly f i es) = ap (λ (xs : List SendingEnd). length xs) is in
    let both = length-append (map f (take i es)) (drop i es) in
    let front = length-map (take i es) f in
    let taken = length-take i es in
    let back = length-drop i es in
    omega arith

pub partly-more : (f : SendingEnd → SendingEnd) (es ys zs : List SendingEnd) (i : ℕ) → i < length es → ys ≡ partly f i es
    → ((s : SendingEnd) → slice_get ys i ≡ Some s → zs ≡ set ys i (f s)) → zs ≡ partly f (i + 1) es
partly-more f es ys zs i inside is changed =
    let len = partly-length f i es ys is in
    let s = get_or ys i (new_end 0) in
    let there : slice_get ys i ≡ Some s = slice_get-get_or ys i (new_end 0) (omega arith) in
    changed s there ∙ map_over_more f es ys i s inside is (get_or_default ys i (new_end 0) s (omega arith))

pub partly-all : (f : SendingEnd → SendingEnd) (es ys : List SendingEnd) (n : ℕ) → length es ≤ n → ys ≡ partly f n es → ys ≡ map f es
partly-all f es ys n all is = is ∙ ap₂ (λ a b. map f a ++ b) (take_all n es all) (drop_all n es all) ∙ append-nil (map f es)

-- there are as many channels as ends
pub ends-length : (s : Slab Sent) (channels : List Outgoing) → length (ends_of s channels) ≡ length channels
ends-length s channels = length-map channels (end_of s)

-- one of the last channels changes
pub front-stays : (count i : ℕ) (ys zs : List SendingEnd) (f : SendingEnd → SendingEnd) → count ≤ i → i < length ys
    → ((s : SendingEnd) → slice_get ys i ≡ Some s → zs ≡ set ys i (f s)) → (take count zs ≡ take count ys) × (length zs ≡ length ys)
front-stays count i ys zs f behind inside changed =
    let s = get_or ys i (new_end 0) in
    let is : zs ≡ set ys i (f s) = changed s (slice_get-get_or ys i (new_end 0) inside) in
    (ap (take count) is ∙ take-set-le count ys i (f s) behind, ap (λ (xs : List SendingEnd). length xs) is ∙ length-set ys i (f s))

-- only the first channels stay
pub ends-take : (s : Slab Sent) (n : ℕ) (channels : List Outgoing) → ends_of s (take n channels) ≡ take n (ends_of s channels)
ends-take s n channels = sym (take-map (end_of s) n channels)

-- where the others have no command
pub keeps-take : (s : Slab Sent) (n : ℕ) (channels : List Outgoing) → KeepsAll (get s) channels → AreBare n (length channels) (ends_of s channels) → KeepsAll (get s) (take n channels)
keeps-take s n channels all bare = record {
  each = All-take (λ (o : Outgoing). Keeps (get s) (rings_of o)) n channels all.each;
  nothing = all.nothing;
  short = all.short;
  names = λ key low. sum-front (times_in key) n channels (λ j o behind there. bare-times s n channels all bare key j o behind there) ∙ all.names key low;
  room = All-take HasRoom n channels all.room;
}

-- no channel yet, and one more to which nothing was submitted
pub keeps-nil : (s : Slab Sent) → s.slots ≡ [] → KeepsAll (get s) []
keeps-nil s empty = record {
  each = All-nil (λ (o : Outgoing). Keeps (get s) (rings_of o));
  nothing = ap (λ (slots : List (Option Sent)). get_or slots vacant None) empty;
  short = λ key p e. absurd (let none = ap (λ (slots : List (Option Sent)). get_or slots key None) empty in cc);
  names = λ key low. sym (ap (λ (o : Option Sent). held (λ (k : ℕ). o) key) (ap (λ (slots : List (Option Sent)). get_or slots key None) empty));
  room = All-nil HasRoom;
}

pub keeps-push : (s : Slab Sent) (os : List Outgoing) (o : Outgoing) → rings_of o ≡ no_rings → HasRoom o → KeepsAll (get s) os → KeepsAll (get s) (os ++ o ∷ [])
keeps-push s os o is room all =
    let kept : Keeps (get s) (rings_of o) = subst (λ (r : Rings). Keeps (get s) r) (sym is) (keeps-new (get s) all.nothing all.short) in record {
      each = All-push (λ (o : Outgoing). Keeps (get s) (rings_of o)) os o all.each kept;
      nothing = all.nothing;
      short = all.short;
      names = λ key low.
          let e = ap (λ (r : Rings). times key (keys_of r)) is in
          let h = sum_by_push (times_in key) os o in
          let same = all.names key low in
          omega arith;
      room = All-push HasRoom os o all.room room;
    }

pub end-new : (s : Slab Sent) (o : Outgoing) (n : ℕ) → rings_of o ≡ no_rings → o.channel ≡ n → end_of s o ≡ new_end n
end-new s o n is channel = λ i. record { channel = channel i; sender = sender_of (get s) (is i) }

pub ends-push : (s : Slab Sent) (os : List Outgoing) (o : Outgoing) (n : ℕ) → rings_of o ≡ no_rings → o.channel ≡ n → ends_of s (os ++ o ∷ []) ≡ ends_of s os ++ new_end n ∷ []
ends-push s os o n is channel = map_push (end_of s) os o ∙ ap (λ (e : SendingEnd). ends_of s os ++ e ∷ []) (end-new s o n is channel)

-- a list written at one place with what stands there
pub set-there : {X : Type 0} (xs : List X) (i : ℕ) (x : X) → slice_get xs i ≡ Some x → set xs i x ≡ xs
set-there [] i x there = refl
set-there (y ∷ xs) zero x there = let is : y ≡ x = cc in ap (λ z. z ∷ xs) (sym is)
set-there (y ∷ xs) (suc i) x there = ap (λ ys. y ∷ ys) (set-there xs i x there)

-- what follows from what a clause says of a call that was carried out
pub where-ok : {T E P Q : Type 0} (r : Result T E) → (P → Q) → OnOk r P → OnOk r Q
where-ok (Ok x) f p = f p
where-ok (Err e) f p = p

-- where a packet is refused, all ends are as they were
pub refused-frame : (s t : Slab Sent) (channels : List Outgoing) (i : ℕ) (old new : Outgoing) {E U : Type 0} (result : Result U E) (body was : List ℕ) → Framed s t channels i new → i < length channels → get_or channels i old ≡ old
    → OnErr result ((end_of t new ≡ end_of s old) × (body ≡ was)) → OnErr result ((ends_of t (set channels i new) ≡ ends_of s channels) × (body ≡ was))
refused-frame s t channels i old new (Ok x) body was h inside is refused = refused
refused-frame s t channels i old new (Err e) body was h inside is refused =
    let one : slice_get channels i ≡ Some old = slice_get_read channels (length channels) i old refl inside (sym is) in
    let there : slice_get (ends_of s channels) i ≡ Some (end_of s old) = slice_get-map (end_of s) channels i ∙ ap (λ o. option_map (end_of s) o) one in
    (h.ends ∙ ap (λ x. set (ends_of s channels) i x) refused.0 ∙ set-there (ends_of s channels) i (end_of s old) there, refused.1)

-- the end of a channel of the list
pub end-at : (s : Slab Sent) (channels : List Outgoing) (i : ℕ) (o : Outgoing) → i < length channels → get_or channels i o ≡ o → get_or (ends_of s channels) i (end_of s o) ≡ end_of s o
end-at s [] i o inside is = absurd (omega arith)
end-at s (c ∷ channels) zero o inside is = ap (end_of s) is
end-at s (c ∷ channels) (suc i) o inside is = end-at s channels i o (omega arith) is

pub all-more : (p : SendingEnd → Bool) (es : List SendingEnd) (i : ℕ) (e : SendingEnd) → i < length es → get_or es i e ≡ e → list_all p (take i es) ≡ true → p e ≡ true → list_all p (take (i + 1) es) ≡ true
all-more p es i e inside is so_far passes = list_all_more p es i e inside ∙ ap (λ b. b && p (get_or es i e)) so_far ∙ ap p is ∙ passes

-- a test of what each is made into
pub any-map : {X Y : Type 0} (f : Y → Bool) (g : X → Y) (xs : List X) → list_any (λ x. f (g x)) xs ≡ list_any f (map g xs)
any-map f g [] = refl
any-map f g (x ∷ xs) = ap (λ b. f (g x) || b) (any-map f g xs)
