-- What an end counts of the commands that it puts out is how far its numbers have come.
use Rattle.std.proofs.Common.{◌≡◌, ◌≢◌, ℕ, zero, suc, ◌<◌, ◌==◌, Bool, true, false, cond, List, [], ◌∷◌, ◌++◌, length, Option, Some, None, option_to_list, slice_set, refl, sym, ap, subst, ◌∙◌, inl, inr, arith}
use Rattle.std.proofs.lemmas.Bool.Decides.{nat_tests}
use Rattle.std.proofs.lemmas.List.{length-set}
use Rattle.enet_codec.specs.declared.command.Head.{Head}
use Rattle.enet_codec.specs.Message.{Message, Body, acknowledge, connect, verify_connect, disconnect, ping, send_reliable, send_unreliable, send_fragment, send_unsequenced, bandwidth_limit, throttle_configure, send_unreliable_fragment}
use Rattle.law_connection.specs.LinkSteps.{Has}
use Rattle.law_connection.specs.Greatest.{greatest_after}
use Rattle.law_connection.specs.Connection as connection
use Rattle.law_network.specs.declared.mark.Mark.{Mark}
use Rattle.law_network.specs.declared.mark.MarkKind.{MarkKind}
use Rattle.law_network.specs.declared.mark.MarkKind.TheVariants.{Data, Acknowledgement, Control}
use Rattle.law_network.specs.Log.{greatest_at, with_number, counted_by, counted, counted_all}
use Rattle.law_network.specs.Marks.{mark_by_body, mark_of}
use Rattle.law_network.proofs.Keeping.{equal-or-not}
use Rattle.law_network.proofs.Marked.{marks_of}

-- the commands of channel 0xFF
abbrev pub is_control : Body → Bool
is_control (connect o) = true
is_control (verify_connect v) = true
is_control (disconnect i) = true
is_control ping = true
is_control (bandwidth_limit i o) = true
is_control (throttle_configure i a d) = true
is_control _ = false

-- such a command goes on that channel
abbrev pub IsPlain : Message → Type 0
IsPlain m = is_control m.body ≡ true → m.head.channel ≡ 255

-- the numbers after one is set

pub number-there : (xs : List ℕ) (i y : ℕ) → i < length xs → greatest_at (slice_set xs i y) i ≡ y
number-there [] i y h = absurd (omega arith)
number-there (x ∷ xs) zero y h = refl
number-there (x ∷ xs) (suc i) y h = number-there xs i y (omega arith)

pub number-other : (xs : List ℕ) (i j y : ℕ) → i ≢ j → greatest_at (slice_set xs i y) j ≡ greatest_at xs j
number-other [] i j y n = refl
number-other (x ∷ xs) zero zero y n = absurd (n refl)
number-other (x ∷ xs) zero (suc j) y n = refl
number-other (x ∷ xs) (suc i) zero y n = refl
number-other (x ∷ xs) (suc i) (suc j) y n = number-other xs i j y (λ e. n (ap suc e))

counted-long-by : (kind : MarkKind) (m : Mark) (xs : List ℕ) → length (counted_by kind xs m) ≡ length xs
counted-long-by Acknowledgement m xs = refl
counted-long-by Data m xs = length-set xs m.channel (greatest_after (greatest_at xs m.channel) m.number)
counted-long-by Control m xs = length-set xs m.channel (greatest_after (greatest_at xs m.channel) m.number)

pub counted-long : (marks : List Mark) (xs : List ℕ) → length (counted_all xs marks) ≡ length xs
counted-long [] xs = refl
counted-long (m ∷ marks) xs = counted-long marks (counted xs m) ∙ counted-long-by m.kind m xs

-- the greatest number

number-counts : (xs : List ℕ) (h : Head) (channel : ℕ) → length xs ≡ 256 → channel < 255
    → greatest_at (with_number xs h.channel h.number) channel ≡ cond (h.channel == channel) (greatest_after (greatest_at xs channel) h.number) (greatest_at xs channel)
number-counts xs h channel long low = elim (equal-or-not h.channel channel) [
  | inl e ↦ (let t : (h.channel == channel) ≡ true = grind (arith, nat_tests) in
      let here : greatest_at (with_number xs h.channel h.number) h.channel ≡ greatest_after (greatest_at xs h.channel) h.number =
      number-there xs h.channel (greatest_after (greatest_at xs h.channel) h.number) (omega arith) in
      subst (λ (n : ℕ). greatest_at (with_number xs h.channel h.number) n ≡ greatest_after (greatest_at xs n) h.number) e here
      ∙ ap (λ b. cond b (greatest_after (greatest_at xs channel) h.number) (greatest_at xs channel)) (sym t))
  | inr n ↦ (let t : (h.channel == channel) ≡ false = grind (arith, nat_tests) in
      number-other xs h.channel channel (greatest_after (greatest_at xs h.channel) h.number) n
      ∙ ap (λ b. cond b (greatest_after (greatest_at xs channel) h.number) (greatest_at xs channel)) (sym t))
]

control-counts : (xs : List ℕ) (h : Head) (channel : ℕ) → channel < 255 → h.channel ≡ 255 → greatest_at (with_number xs h.channel h.number) channel ≡ greatest_at xs channel
control-counts xs h channel low far = (let n : h.channel ≢ channel = (λ e. omega arith) in number-other xs h.channel channel (greatest_after (greatest_at xs h.channel) h.number) n)

counts-one : (xs : List ℕ) (h : Head) (b : Body) (channel : ℕ) → length xs ≡ 256 → channel < 255 → (is_control b ≡ true → h.channel ≡ 255)
    → greatest_at (counted_all xs (option_to_list (mark_by_body h b))) channel ≡ connection.counted channel (greatest_at xs channel) (record { head = h; body = b })
counts-one xs h (acknowledge number time) channel long low plain = refl
counts-one xs h (connect o) channel long low plain = control-counts xs h channel low (plain refl)
counts-one xs h (verify_connect v) channel long low plain = control-counts xs h channel low (plain refl)
counts-one xs h (disconnect i) channel long low plain = control-counts xs h channel low (plain refl)
counts-one xs h ping channel long low plain = control-counts xs h channel low (plain refl)
counts-one xs h (send_reliable p) channel long low plain = number-counts xs h channel long low
counts-one xs h (send_unreliable n p) channel long low plain = number-counts xs h channel long low
counts-one xs h (send_fragment f p) channel long low plain = number-counts xs h channel long low
counts-one xs h (send_unsequenced g p) channel long low plain = refl
counts-one xs h (bandwidth_limit i o) channel long low plain = control-counts xs h channel low (plain refl)
counts-one xs h (throttle_configure i a d) channel long low plain = control-counts xs h channel low (plain refl)
counts-one xs h (send_unreliable_fragment f p) channel long low plain = number-counts xs h channel long low

counted-split : (o : Option Mark) (marks : List Mark) (xs : List ℕ) → counted_all xs (option_to_list o ++ marks) ≡ counted_all (counted_all xs (option_to_list o)) marks
counted-split None marks xs = refl
counted-split (Some m) marks xs = refl

pub counts-all : (ms : List Message) (xs : List ℕ) (channel : ℕ) → length xs ≡ 256 → channel < 255 → ((m : Message) → Has ms m → IsPlain m)
    → greatest_at (counted_all xs (marks_of ms)) channel ≡ connection.reached channel (greatest_at xs channel) ms
unfolding connection.reached
counts-all [] xs channel long low plain = refl
counts-all (m ∷ ms) xs channel long low plain =
    let first : List ℕ = counted_all xs (option_to_list (mark_of m)) in
    ap (λ (l : List ℕ). greatest_at l channel) (counted-split (mark_of m) (marks_of ms) xs)
    ∙ counts-all ms first channel (counted-long (option_to_list (mark_of m)) xs ∙ long) low (λ x h. plain x (inr h))
    ∙ ap (λ (g : ℕ). connection.reached channel g ms) (counts-one xs m.head m.body channel long low (plain m (inl refl)))
