-- What submitting a packet comes to.
use Rattle.std.proofs.Common.{◌≡◌, ℕ, ◌+◌, ◌-◌, ◌/◌, ◌<◌, ◌≤◌, eqb, Bool, true, false, ◌||◌, cond, ltb, List, length, refl, sym, subst, arith, ◌⊎◌, inl, inr, Some, None, Result, Ok, Err, IfErr, IsErrAnd, OnOk, OnErr}
use Rattle.std.proofs.lemmas.Bool.{ltb-false, le-ltb}
use Rattle.std.proofs.Math.Nat.{div-lt_iff_lt-mul}
use Rattle.enet_codec.specs.declared.refusal.Refusal.{Refusal}
use Rattle.enet_codec.specs.declared.refusal.Refusal.TheVariants.{NotConnected, NoSuchChannel, TooLarge, Memory}
use Rattle.enet_fragment.specs.Cutting.{piece_count, piece_length}
use Rattle.enet_sender.specs.CommandChoice.{Packet, fragment_limit}
use Rattle.enet_peer.specs.Peering.{Peering}
use Rattle.enet_peer.specs.Calls.{Refuses, Submits, handed_back, submission_refusal, submitted}

last_is_false : (x y a b : Bool) → cond x (Some NotConnected) (cond y (Some NoSuchChannel) (cond (a || b) (Some TooLarge) None)) ≡ None → b ≡ false
last_is_false true y a b e = absurd cc
last_is_false false true a b e = absurd cc
last_is_false false false true b e = absurd cc
last_is_false false false false true e = absurd cc
last_is_false false false false false e = refl

-- what isn't refused has few enough pieces
pub few_pieces : (p : Peering) (channel len : ℕ) → submission_refusal p channel len ≡ None → fragment_limit < piece_count len p.terms.mtu → ⊥
few_pieces p channel len e many =
    let few : ltb fragment_limit (piece_count len p.terms.mtu) ≡ false = last_is_false _ _ _ _ e in
    absurd (omega (arith, many, ltb-false fragment_limit (piece_count len p.terms.mtu) few))

pub submits : {T : Type 0} (r : Result T Refusal) (left : List ℕ) (p new : Peering) (channel : ℕ) (q : Packet)
    → submission_refusal p channel (length q.body) ≡ None → OnOk r (new ≡ submitted p channel q)
    → OnErr r ((new ≡ p) × (left ≡ q.body)) → IfErr r (λ why. (why ≡ TooLarge) ⊎ (why ≡ Memory))
    → (IsErrAnd r (λ why. why ≡ TooLarge) → ⊥) → Submits (handed_back r left) p new channel q
submits (Ok done) left p new channel q none ok refused why other = (none, ok)
submits (Err e) left p new channel q none ok refused (inl large) other = absurd (other large)
submits (Err e) left p new channel q none ok refused (inr memory) other =
    (refused.1, refused.0, subst (λ (w : Refusal). Refuses w (submission_refusal p channel (length q.body))) (sym memory) none)

few_if : (empty : Bool) (n : ℕ) → n < 16384 → cond empty 1 (n + 1) ≤ 16384
few_if true n few = omega arith
few_if false n few = omega arith

-- so many bytes are cut into few enough pieces at any mtu
pub surely_few : (len mtu : ℕ) → len ≤ 8978432 → 576 ≤ mtu → ltb fragment_limit (piece_count len mtu) ≡ false
unfolding piece_count
surely_few len mtu short low =
    let long : 548 ≤ piece_length mtu = grind arith in
    let few : (len - 1) / piece_length mtu < 16384 = (div-lt_iff_lt-mul (omega arith)).1 (omega arith) in
    le-ltb 16384 _ (few_if (eqb len 0) ((len - 1) / piece_length mtu) few)
