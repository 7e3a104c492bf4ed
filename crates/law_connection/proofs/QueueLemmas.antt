-- The commands of what was submitted, one after another, and the queue that has those that didn't go yet.
use Rattle.std.proofs.Common.{◌≡◌, ℕ, ◌+◌, ◌%◌, ◌<◌, Bool, true, false, cond, if◌then◌else◌, List, [], ◌∷◌, ◌++◌, map, refl, sym, ap, subst, ◌∙◌, inl, inr, ◌⊎◌, arith, Option, Some, None, zero, suc, append_assoc}
use Rattle.std.specs.List.{range_with_len}
use Rattle.std.specs.Option.{option_map}
use Rattle.enet_codec.specs.declared.command.Fragment.{Fragment}
use Rattle.enet_seq.specs.Numbering.{wire, unbounded}
use Rattle.enet_fragment.specs.Cutting.{piece_length}
use Rattle.enet_fragment.specs.declared.data.DataCommand.{DataCommand}
use Rattle.enet_sender.specs.CommandChoice.{ChosenPacket, is_long}
use Rattle.enet_sender.specs.Sender.{command_at, commands_of, fragment_at, piece_of_body}
use Rattle.law_connection.specs.Link.{wired, wired_fragment}
pub use Rattle.law_connection.specs.Image.{reliable_count}
use Rattle.law_connection.proofs.Lists.{Has}
use Rattle.law_connection.proofs.CarriageLemmas.{command_count-append, count_after-append}
use Rattle.law_connection.proofs.PieceLemmas.{IsPlain, IsPieceOf}
use Rattle.law_connection.specs.Follows.{command_count, count_after}

pub reliable_count-append : (a b : List DataCommand) → reliable_count (a ++ b) ≡ reliable_count a + reliable_count b
reliable_count-append [] b = omega arith
reliable_count-append (d ∷ a) b =
    let rest = reliable_count-append a b in
    elim d.reliable as (λ r. cond r (reliable_count (a ++ b) + 1) (reliable_count (a ++ b)) ≡ cond r (reliable_count a + 1) (reliable_count a) + reliable_count b) [ true ↦ omega arith | false ↦ omega arith ]

-- all commands of packets, so many reliable commands and unreliable packets having gone before
abbrev pub all_from : ℕ → ℕ → ℕ → List ChosenPacket → List DataCommand
all_from mtu number count [] = []
all_from mtu number count (c ∷ cs) = commands_of unbounded mtu number count c ++ all_from mtu (if c.reliable then number + c.pieces else number) (if c.reliable then 0 else count + 1) cs

pub all-append : (mtu number count : ℕ) (a b : List ChosenPacket) → all_from mtu number count (a ++ b) ≡ all_from mtu number count a ++ all_from mtu (number + command_count a) (count_after count a) b
all-append mtu number count [] b = ap (λ n. all_from mtu n count b) (let e : number ≡ number + 0 = omega arith in e)
all-append mtu number count (c ∷ a) b =
    let n : ℕ = cond c.reliable (number + c.pieces) number in
    let k : ℕ = cond c.reliable 0 (count + 1) in
    let next : n + command_count a ≡ number + command_count (c ∷ a) = elim c.reliable as (λ r. cond r (number + c.pieces) number + command_count a ≡ number + cond r (command_count a + c.pieces) (command_count a)) [ true ↦ omega arith | false ↦ refl ] in
    ap (λ l. commands_of unbounded mtu number count c ++ l) (all-append mtu n k a b ∙ ap (λ x. all_from mtu n k a ++ all_from mtu x (count_after k a) b) next)
    ∙ sym (append_assoc (commands_of unbounded mtu number count c) (all_from mtu n k a) (all_from mtu (number + command_count (c ∷ a)) (count_after k a) b))

-- a command on the wire
abbrev raw : Bool → ℕ → ℕ → Option Fragment → List ℕ → DataCommand
raw reliable number count fragment body = record { reliable = reliable; number = number; unreliable = count; fragment = fragment; body = body }

abbrev piece : ℕ → ChosenPacket → ℕ → ℕ → Fragment
piece mtu c start i = fragment_at (piece_length mtu) c start i

wired-fragment : (mtu start x : ℕ) (c : ChosenPacket) (i : ℕ) (r l : Bool) → x ≡ cond r (start % 65536) start → cond l (Some (piece mtu c x i)) None ≡ option_map (wired_fragment r) (cond l (Some (piece mtu c start i)) None)
wired-fragment mtu start x c i r true e = ap (λ z. Some (piece mtu c z i)) e
wired-fragment mtu start x c i r false e = refl

wired-kind : (mtu number count : ℕ) (c : ChosenPacket) (i : ℕ) (r : Bool) → let body = piece_of_body (piece_length mtu) c.packet.body i in
    let left : DataCommand = raw r (cond r ((number % 65536 + (i + 1)) % 65536) (number % 65536)) (cond r 0 (count + 1)) (cond (is_long mtu c.packet) (Some (piece mtu c (cond r ((number % 65536 + 1) % 65536) (count + 1)) i)) None) body in
    left ≡ wired (raw r (cond r (number + (i + 1)) number) (cond r 0 (count + 1)) (cond (is_long mtu c.packet) (Some (piece mtu c (cond r (number + 1) (count + 1)) i)) None) body)
wired-kind mtu number count c i true =
    let a : (number % 65536 + (i + 1)) % 65536 ≡ (number + (i + 1)) % 65536 = omega arith in
    let b : (number % 65536 + 1) % 65536 ≡ (number + 1) % 65536 = omega arith in
    let f = wired-fragment mtu (number + 1) ((number % 65536 + 1) % 65536) c i true (is_long mtu c.packet) b in
    (λ j. raw true (a j) 0 (f j) (piece_of_body (piece_length mtu) c.packet.body i))
wired-kind mtu number count c i false =
    let f = wired-fragment mtu (count + 1) (count + 1) c i false (is_long mtu c.packet) refl in
    (λ j. raw false (number % 65536) (count + 1) (f j) (piece_of_body (piece_length mtu) c.packet.body i))

wired-command : (mtu number count : ℕ) (c : ChosenPacket) (i : ℕ) → command_at wire mtu (record { number = number % 65536; unreliable = count }) c i ≡ wired (command_at unbounded mtu (record { number = number; unreliable = count }) c i)
wired-command mtu number count c i = wired-kind mtu number count c i c.reliable

wired-range : (mtu number count : ℕ) (c : ChosenPacket) (is : List ℕ) → map (command_at wire mtu (record { number = number % 65536; unreliable = count }) c) is ≡ map wired (map (command_at unbounded mtu (record { number = number; unreliable = count }) c) is)
wired-range mtu number count c [] = refl
wired-range mtu number count c (i ∷ is) = λ j. wired-command mtu number count c i j ∷ wired-range mtu number count c is j

pub wired-commands : (mtu number count : ℕ) (c : ChosenPacket) → commands_of wire mtu (number % 65536) count c ≡ map wired (commands_of unbounded mtu number count c)
wired-commands mtu number count c = wired-range mtu number count c (range_with_len 0 c.pieces)

abbrev range : ℕ → ℕ → ℕ → ChosenPacket → ℕ → ℕ → List DataCommand
range mtu number count c from len = map (command_at unbounded mtu (record { number = number; unreliable = count }) c) (range_with_len from len)

-- the command behind `before` is one of the range, or stands behind it
record Inside (mtu number count : ℕ) (c : ChosenPacket) (from len : ℕ) (before : List DataCommand) (d : DataCommand) : Type 0 where
  place : ℕ
  low : place < len
  command : d ≡ command_at unbounded mtu (record { number = number; unreliable = count }) c (from + place)
  reliable : reliable_count before ≡ cond c.reliable place 0

record Beyond (part before : List DataCommand) (d : DataCommand) (behind rest : List DataCommand) : Type 0 where
  more : List DataCommand
  before_is : before ≡ part ++ more
  rest_is : rest ≡ more ++ d ∷ behind

none_of : (r : Bool) → let n : ℕ = 0 in n ≡ cond r 0 0
none_of true = refl
none_of false = refl

one_more_of : (r : Bool) (i : ℕ) → cond r (cond r i 0 + 1) (cond r i 0) ≡ cond r (i + 1) 0
one_more_of true i = refl
one_more_of false i = refl

in_range : (mtu number count : ℕ) (c : ChosenPacket) (from len : ℕ) (before : List DataCommand) (d : DataCommand) (behind rest : List DataCommand) → range mtu number count c from len ++ rest ≡ before ++ d ∷ behind
    → Inside mtu number count c from len before d ⊎ Beyond (range mtu number count c from len) before d behind rest
in_range mtu number count c from zero before d behind rest e = inr (record { more = before; before_is = refl; rest_is = e })
in_range mtu number count c from (suc len) [] d behind rest e =
    let same : command_at unbounded mtu (record { number = number; unreliable = count }) c from ≡ d = cc in
    inl (record { place = 0; low = omega arith; command = sym same ∙ ap (command_at unbounded mtu (record { number = number; unreliable = count }) c) (let z : from ≡ from + 0 = omega arith in z); reliable = none_of c.reliable })
in_range mtu number count c from (suc len) (x ∷ before) d behind rest e =
    let same : command_at unbounded mtu (record { number = number; unreliable = count }) c from ≡ x = cc in
    let tail : range mtu number count c (from + 1) len ++ rest ≡ before ++ d ∷ behind = cc in
    elim (in_range mtu number count c (from + 1) len before d behind rest tail) [
      | inl w ↦
          let kind : x.reliable ≡ c.reliable = ap (λ (y : DataCommand). y.reliable) (sym same) in
          let low = w.low in
          inl (record {
            place = w.place + 1;
            low = omega arith;
            command = w.command ∙ ap (command_at unbounded mtu (record { number = number; unreliable = count }) c) (let z : from + 1 + w.place ≡ from + (w.place + 1) = omega arith in z);
            reliable = ap (λ r. cond r (reliable_count before + 1) (reliable_count before)) kind ∙ ap (λ k. cond c.reliable (k + 1) k) w.reliable ∙ one_more_of c.reliable w.place;
          })
      | inr w ↦ inr (record { more = w.more; before_is = (λ j. sym same j ∷ w.before_is j); rest_is = w.rest_is })
    ]

pub reliable_count-range : (mtu number count : ℕ) (c : ChosenPacket) (from len : ℕ) → reliable_count (range mtu number count c from len) ≡ cond c.reliable len 0
reliable_count-range mtu number count c from zero = none_of c.reliable
reliable_count-range mtu number count c from (suc len) =
    let e : len + 1 ≡ suc len = omega arith in
    ap (λ k. cond c.reliable (k + 1) k) (reliable_count-range mtu number count c (from + 1) len) ∙ one_more_of c.reliable len ∙ ap (λ k. cond c.reliable k 0) e

-- the command that stands behind some of all commands
pub record Next (mtu : ℕ) (cs : List ChosenPacket) (before : List DataCommand) (d : DataCommand) : Type 0 where
  pub piece : IsPieceOf mtu cs d
  pub number : d.number ≡ cond d.reliable (reliable_count before + 1) (reliable_count before)

all_next : (mtu : ℕ) (gone left : List ChosenPacket) (before : List DataCommand) (d : DataCommand) (behind : List DataCommand) → ((c : ChosenPacket) → Has left c → IsPlain mtu c)
    → all_from mtu (command_count gone) (count_after 0 gone) left ≡ before ++ d ∷ behind
    → IsPieceOf mtu (gone ++ left) d × (d.number ≡ cond d.reliable (command_count gone + reliable_count before + 1) (command_count gone + reliable_count before))
all_next mtu gone [] [] d behind plain e = absurd (cc)
all_next mtu gone [] (x ∷ before) d behind plain e = absurd (cc)
all_next mtu gone (c ∷ left) before d behind plain e =
    let number = command_count gone in
    let count = count_after 0 gone in
    let rest : List DataCommand = all_from mtu (cond c.reliable (number + c.pieces) number) (cond c.reliable 0 (count + 1)) left in
    elim (in_range mtu number count c 0 c.pieces before d behind rest e) [
      | inl w ↦
          let at : d ≡ command_at unbounded mtu (record { number = number; unreliable = count }) c w.place = w.command ∙ ap (command_at unbounded mtu (record { number = number; unreliable = count }) c) (let z : 0 + w.place ≡ w.place = omega arith in z) in (
            record {
              packet = c;
              number = number;
              count = count;
              index = w.place;
              inside = w.low;
              plain = plain c (inl refl);
              command = at;
              stands = record { before = gone; behind = left; whole = refl; number_is = refl; count_is = refl };
            },
            numbers c.reliable w.place at w.reliable,
          )
      | inr w ↦
          let here : command_count (gone ++ c ∷ []) ≡ cond c.reliable (number + c.pieces) number = command_count-append gone (c ∷ []) ∙ elim c.reliable as (λ r. number + cond r (0 + c.pieces) 0 ≡ cond r (number + c.pieces) number) [ true ↦ omega arith | false ↦ omega arith ] in
          let there : count_after 0 (gone ++ c ∷ []) ≡ cond c.reliable 0 (count + 1) = count_after-append 0 gone (c ∷ []) in
          let tail : all_from mtu (command_count (gone ++ c ∷ [])) (count_after 0 (gone ++ c ∷ [])) left ≡ w.more ++ d ∷ behind = (λ j. all_from mtu (here j) (there j) left) ∙ w.rest_is in
          let next = all_next mtu (gone ++ c ∷ []) left w.more d behind (λ x h. plain x (inr h)) tail in
          let size : reliable_count before ≡ cond c.reliable c.pieces 0 + reliable_count w.more =
          ap reliable_count w.before_is ∙ reliable_count-append (range mtu number count c 0 c.pieces) w.more ∙ ap (λ k. k + reliable_count w.more) (reliable_count-range mtu number count c 0 c.pieces) in
          let sum : command_count (gone ++ c ∷ []) + reliable_count w.more ≡ number + reliable_count before = total c.reliable (reliable_count w.more) (command_count (gone ++ c ∷ [])) (reliable_count before) here size in
          (subst (λ l. IsPieceOf mtu l d) (append_assoc gone (c ∷ []) left) next.0, next.1 ∙ ap (λ k. cond d.reliable (k + 1) k) sum)
    ]
  where
    numbers : (r : Bool) (i : ℕ) → d ≡ command_at unbounded mtu (record { number = command_count gone; unreliable = count_after 0 gone }) c i → reliable_count before ≡ cond c.reliable i 0 → d.number ≡ cond d.reliable (command_count gone + reliable_count before + 1) (command_count gone + reliable_count before)
    numbers r i at n =
        let kind : d.reliable ≡ c.reliable = ap (λ (y : DataCommand). y.reliable) at in
        ap (λ (y : DataCommand). y.number) at
        ∙ elim c.reliable as (λ q. reliable_count before ≡ cond q i 0 → cond q (command_count gone + (i + 1)) (command_count gone) ≡ cond q (command_count gone + reliable_count before + 1) (command_count gone + reliable_count before)) [
          | true ↦ λ z. omega arith
          | false ↦ λ z. omega arith
        ] n
        ∙ ap (λ q. cond q (command_count gone + reliable_count before + 1) (command_count gone + reliable_count before)) (sym kind)

    total : (r : Bool) (m a b : ℕ) → a ≡ cond r (command_count gone + c.pieces) (command_count gone) → b ≡ cond r c.pieces 0 + m → a + m ≡ command_count gone + b
    total true m a b e f = omega arith
    total false m a b e f = omega arith

pub next_command : (mtu : ℕ) (cs : List ChosenPacket) (before : List DataCommand) (d : DataCommand) (behind : List DataCommand) → ((c : ChosenPacket) → Has cs c → IsPlain mtu c) → all_from mtu 0 0 cs ≡ before ++ d ∷ behind → Next mtu cs before d
next_command mtu cs before d behind plain e =
    let both = all_next mtu [] cs before d behind plain e in
    let z : 0 + reliable_count before ≡ reliable_count before = omega arith in
    record { piece = both.0; number = both.1 ∙ ap (λ k. cond d.reliable (k + 1) k) z }
