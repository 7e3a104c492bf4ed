-- One command more of a datagram.
use Rattle.std.proofs.Common.{◌≡◌, ◌≢◌, ℕ, ◌+◌, ◌≤◌, ◌<◌, List, [], ◌∷◌, ◌++◌, length, take, drop, Option, Some, None, Result, Ok, Err, IfOk, refl, sym, ap, subst, ◌∙◌, append_assoc, length-drop, arith, true, false}
use Rattle.std.proofs.lemmas.List.{take-append-drop, drop-drop, drop_all}
use Rattle.enet_codec.specs.declared.stop.Stop.{Stop}
use Rattle.enet_codec.specs.declared.stop.Stop.TheVariants as stop
use Rattle.enet_codec.specs.declared.header.Header.{Header}
use Rattle.enet_codec.specs.Header.{SpellsHeader}
use Rattle.enet_codec.specs.Message.{Message, Spells}
use Rattle.enet_codec.proofs.Datagrams.{some-bytes}
use Rattle.enet_text.specs.Described.{SpellsNone}
use Rattle.enet_captured.specs.declared.told.Told.{Told}
use Rattle.enet_captured.specs.Private.Commands.{told_of}
use Rattle.enet_captured.specs.Private.Readings.{Says, SaysRest, stop_at, compressed, plain}

pub ends : SaysRest [] [] None
ends = record {
  messages = [];
  front = [];
  rest = [];
  split = refl;
  spelled = refl;
  no_more = λ m front rest e s. some-bytes front rest m s (sym e);
  told_is = refl;
  why_is = refl;
}

bad_at : (bytes : List ℕ) → bytes ≢ [] → Some stop.BadCommand ≡ stop_at bytes
bad_at [] some = absurd (some refl)
bad_at (b ∷ bytes) some = refl

pub stops : (bytes : List ℕ) → bytes ≢ [] → SpellsNone bytes → SaysRest bytes [] (Some stop.BadCommand)
stops bytes some none = record {
  messages = [];
  front = [];
  rest = bytes;
  split = refl;
  spelled = refl;
  no_more = none;
  told_is = refl;
  why_is = bad_at bytes some;
}

goes_on : (front rest : List ℕ) (told : List Told) (why : Option Stop) (m : Message) → Spells front m → SaysRest rest told why
    → SaysRest (front ++ rest) (told_of m ∷ told) why
goes_on front rest told why m s t = record {
  messages = m ∷ t.messages;
  front = front ++ t.front;
  rest = t.rest;
  split = ap (λ l. front ++ l) t.split ∙ sym (append_assoc front t.front t.rest);
  spelled = (front, t.front, refl, s, t.spelled);
  no_more = t.no_more;
  told_is = ap (λ l. told_of m ∷ l) t.told_is;
  why_is = t.why_is;
}

-- ---- the bytes that are left of a datagram from a place on

pub ends_at : (place : ℕ) (datagram : List ℕ) → length datagram ≤ place → SaysRest (drop place datagram) [] None
ends_at place datagram past = subst (λ (bs : List ℕ). SaysRest bs [] None) (sym (drop_all place datagram past)) ends

pub stops_at : (place : ℕ) (datagram rest : List ℕ) → rest ≡ drop place datagram → place < length datagram → SpellsNone rest
    → SaysRest (drop place datagram) [] (Some stop.BadCommand)
stops_at place datagram rest from within none =
    let some : rest ≢ [] = λ empty. absurd (omega (arith, within, length-drop place datagram, ap length from, ap length empty)) in
    subst (λ (bs : List ℕ). SaysRest bs [] (Some stop.BadCommand)) from (stops rest some none)

pub goes_on_at : (place len next : ℕ) (datagram rest : List ℕ) (told : List Told) (why : Option Stop) (m : Message) → rest ≡ drop place datagram
    → Spells (take len rest) m → len ≤ length rest → next ≡ place + len → SaysRest (drop next datagram) told why
    → SaysRest (drop place datagram) (told_of m ∷ told) why
goes_on_at place len next datagram rest told why m from spelled within is later =
    let left : drop next datagram ≡ drop len rest =
    ap (λ (n : ℕ). drop n datagram) is ∙ sym (ap (λ (l : List ℕ). drop len l) from ∙ drop-drop len place datagram) in
    subst (λ (bs : List ℕ). SaysRest bs (told_of m ∷ told) why) (take-append-drop len rest ∙ from)
    (goes_on (take len rest) (drop len rest) told why m spelled
    (subst (λ (bs : List ℕ). SaysRest bs told why) left later))

-- ---- a header and what stands behind it

pub is_compressed : (d : List ℕ) (h : Header) (len : ℕ) → SpellsHeader (take len d) h → h.compressed ≡ true → Says d [] (Some stop.Compressed)
is_compressed d h len spelled set = compressed h (take len d) (drop len d) (sym (take-append-drop len d)) spelled set

pub is_plain : (d : List ℕ) (h : Header) (len : ℕ) (told : List Told) (why : Option Stop) → SpellsHeader (take len d) h → h.compressed ≡ false
    → SaysRest (drop len d) told why → Says d told why
is_plain d h len told why spelled clear says = plain h (take len d) (drop len d) told why (sym (take-append-drop len d)) spelled clear says

-- one more behind others
pub one_behind : (old said now next : List Told) (one one' : Told) → now ≡ old ++ said → next ≡ now ++ one ∷ [] → one ≡ one' → next ≡ old ++ (said ++ one' ∷ [])
one_behind old said now next one one' e f g = f ∙ ap (λ (l : List Told). l ++ one ∷ []) e ∙ append_assoc old said (one ∷ []) ∙ ap (λ (t : Told). old ++ (said ++ t ∷ [])) g

-- what holds where a result is fine
pub if_ok : {A E : Type 0} {P Q : A → Type 0} (r : Result A E) → ((x : A) → P x → Q x) → IfOk r P → IfOk r Q
if_ok (Ok x) f p = f x p
if_ok (Err e) f p = p
