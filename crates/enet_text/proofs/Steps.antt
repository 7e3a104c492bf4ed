-- One command more of a datagram.
use Rattle.std.proofs.Common.{◌≡◌, ◌≢◌, ℕ, ◌+◌, ◌≤◌, ◌<◌, List, [], ◌∷◌, ◌++◌, length, flat_map, take, drop, refl, sym, ap, subst, ◌∙◌, append_assoc, length-append, length-drop, arith}
use Rattle.std.proofs.lemmas.List.{take-append-drop, drop-drop, drop_all, length-take-le}
use Rattle.enet_codec.specs.declared.stop.Stop.TheVariants as stop
use Rattle.enet_codec.specs.Message.{Message, Spells}
use Rattle.enet_codec.proofs.Datagrams.{some-bytes}
use Rattle.enet_text.specs.declared.body.Bodies.{Bodies}
use Rattle.enet_text.specs.InspectTexts.{command_line, stop_line}
use Rattle.enet_text.specs.Described.{SpellsNone, Tells, rest_line}

pub ends : (bodies : Bodies) (place : ℕ) → Tells bodies place [] []
ends bodies place = record {
  messages = [];
  front = [];
  rest = [];
  split = refl;
  spelled = refl;
  no_more = λ m front rest e s. some-bytes front rest m s (sym e);
  told = refl;
}

told_rest : (place : ℕ) (bytes : List ℕ) → bytes ≢ [] → rest_line place bytes ≡ stop_line stop.BadCommand place bytes
told_rest place [] some = absurd (some refl)
told_rest place (b ∷ bytes) some = refl

pub stops : (bodies : Bodies) (place : ℕ) (bytes : List ℕ) → bytes ≢ [] → SpellsNone bytes → Tells bodies place bytes (stop_line stop.BadCommand place bytes)
stops bodies place bytes some none = record {
  messages = [];
  front = [];
  rest = bytes;
  split = refl;
  spelled = refl;
  no_more = none;
  told = sym (ap (λ (n : ℕ). rest_line n bytes) (omega arith) ∙ told_rest place bytes some);
}

goes_on : (bodies : Bodies) (place : ℕ) (front rest text : List ℕ) (m : Message) → Spells front m → Tells bodies (place + length front) rest text
    → Tells bodies place (front ++ rest) (command_line bodies m ++ text)
goes_on bodies place front rest text m s t = record {
  messages = m ∷ t.messages;
  front = front ++ t.front;
  rest = t.rest;
  split = ap (λ l. front ++ l) t.split ∙ sym (append_assoc front t.front t.rest);
  spelled = (front, t.front, refl, s, t.spelled);
  no_more = t.no_more;
  told = ap (λ l. command_line bodies m ++ l) t.told
      ∙ sym (append_assoc (command_line bodies m) (flat_map (command_line bodies) t.messages) (rest_line ((place + length front) + length t.front) t.rest))
      ∙ ap (λ (n : ℕ). (command_line bodies m ++ flat_map (command_line bodies) t.messages) ++ rest_line n t.rest)
      (let both = length-append front t.front in omega (arith, both));
}

-- ---- the bytes that are left of a datagram from a place on

pub ends_at : (bodies : Bodies) (place : ℕ) (datagram : List ℕ) → length datagram ≤ place → Tells bodies place (drop place datagram) []
ends_at bodies place datagram past = subst (λ (bs : List ℕ). Tells bodies place bs []) (sym (drop_all place datagram past)) (ends bodies place)

pub stops_at : (bodies : Bodies) (place : ℕ) (datagram rest : List ℕ) → rest ≡ drop place datagram → place < length datagram → SpellsNone rest
    → Tells bodies place (drop place datagram) (stop_line stop.BadCommand place rest)
stops_at bodies place datagram rest from within none =
    let some : rest ≢ [] = λ empty. absurd (omega (arith, within, length-drop place datagram, ap length from, ap length empty)) in
    subst (λ (bs : List ℕ). Tells bodies place bs (stop_line stop.BadCommand place rest)) from (stops bodies place rest some none)

pub goes_on_at : (bodies : Bodies) (place len next : ℕ) (datagram rest text : List ℕ) (m : Message) → rest ≡ drop place datagram → Spells (take len rest) m → len ≤ length rest
    → next ≡ place + len → Tells bodies next (drop next datagram) text → Tells bodies place (drop place datagram) (command_line bodies m ++ text)
goes_on_at bodies place len next datagram rest text m from spelled within is later =
    let left : drop next datagram ≡ drop len rest =
    ap (λ (n : ℕ). drop n datagram) is ∙ sym (ap (λ (l : List ℕ). drop len l) from ∙ drop-drop len place datagram) in
    let place_is : next ≡ place + length (take len rest) = is ∙ ap (λ (n : ℕ). place + n) (sym (length-take-le len rest within)) in
    subst (λ (bs : List ℕ). Tells bodies place bs (command_line bodies m ++ text)) (take-append-drop len rest ∙ from)
    (goes_on bodies place (take len rest) (drop len rest) text m spelled
    (subst (λ (n : ℕ). Tells bodies n (drop len rest) text) place_is
    (subst (λ (bs : List ℕ). Tells bodies next bs text) left later)))
