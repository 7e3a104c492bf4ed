-- What a turn reports.
use Rattle.std.proofs.Common.{◌≡◌, ℕ, ◌+◌, List, ◌++◌, Bool, arith}
use Rattle.enet_codec.specs.declared.event.Event.{Event}
use Rattle.enet_turn.specs.declared.report.Report.{Report}
use Rattle.enet_turn.specs.Counts.{taken_in, stopped}
use Rattle.enet_turn.proofs.Tellings.{taken_more}

pub same_report : (r : Report) (a b c d e a_2 b_2 c_2 d_2 e_2 : ℕ) → r ≡ record { orders = a; received = b; sent = c; lost = d; events = e }
    → a ≡ a_2 → b ≡ b_2 → c ≡ c_2 → d ≡ d_2 → e ≡ e_2 → r ≡ record { orders = a_2; received = b_2; sent = c_2; lost = d_2; events = e_2 }
same_report r a b c d e a_2 b_2 c_2 d_2 e_2 is ea eb ec ed ee = cc

-- events that were taken before and after
pub all_taken : (xs ys zs : List (Event × Bool)) (a b c : ℕ) → a ≡ taken_in xs → b ≡ taken_in ys → c ≡ stopped (taken_in zs)
    → stopped (stopped (a + b) + c) ≡ stopped (taken_in (xs ++ (ys ++ zs)))
all_taken xs ys zs a b c ea eb ec = omega (arith, taken_more xs (ys ++ zs), taken_more ys zs, ea, eb, ec)

pub some_taken : (xs ys : List (Event × Bool)) (a b : ℕ) → a ≡ taken_in xs → b ≡ taken_in ys → stopped (a + b) ≡ stopped (taken_in (xs ++ ys))
some_taken xs ys a b ea eb = omega (arith, taken_more xs ys, ea, eb)

pub then_taken : (xs ys : List (Event × Bool)) (a b : ℕ) → a ≡ taken_in xs → b ≡ stopped (taken_in ys) → stopped (a + b) ≡ stopped (taken_in (xs ++ ys))
then_taken xs ys a b ea eb = omega (arith, taken_more xs ys, ea, eb)
