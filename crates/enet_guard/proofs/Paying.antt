-- What is passed over.
use Rattle.std.proofs.Common.{rules, ◌≡◌, ◌<◌, ℕ, Bool, true, false, ◌&&◌, if◌then◌else◌, nat_lt, List, Option, Some, None, refl, sym, ap, ◌∙◌, inl, inr, arith}
use Rattle.std.specs.Prelude.{slice_get, IfNone, IfSome}
use Rattle.enet_codec.specs.declared.address.Addr.{Addr}
use Rattle.enet_guard.specs.declared.loads.Load.{Load}
use Rattle.enet_guard.specs.declared.share.Spent.{Spent}
use Rattle.enet_guard.specs.Guarding.{Guarding, payer, can_pay, has_share}
use Rattle.enet_guard.specs.Shares.{is_client}
use Rattle.enet_guard.specs.Journals.{IsPassedOver}
use Rattle.enet_guard.specs.Passing.{Refuses}

-- what brings no packet is paid for by nobody
free : (share client : Bool) (x : Option Spent) → (if share && (false && client) then x else None) ≡ None
free true client x = refl
free false client x = refl

brings_by : (some : Bool) (g : Guarding) (from : Addr) (slot : ℕ) (load : Load) → some ≡ nat_lt 0 load.packets → false ≡ can_pay g (payer g from slot load) → true ≡ some
brings_by true g from slot load e f = refl
brings_by false g from slot load e f =
    sym (f ∙ ap (λ (b : Bool). can_pay g (if has_share g.rules && (b && is_client (slice_get g.seats slot) from) then slice_get g.spent slot else None)) (sym e)
    ∙ ap (can_pay g) (free (has_share g.rules) (is_client (slice_get g.seats slot) from) (slice_get g.spent slot)))

brings_so : (g : Guarding) (from : Addr) (slot : ℕ) (load : Load) → false ≡ can_pay g (payer g from slot load) → 0 < load.packets
brings_so g from slot load e = let is : true ≡ nat_lt 0 load.packets = brings_by (nat_lt 0 load.packets) g from slot load refl e in grind (arith, is)

pub passed_over_so : (old new : Guarding) (d : Addr × List ℕ) → Refuses old d.0 d.1 new → IsPassedOver d
passed_over_so old new d (rule, inl connect) = inl (connect.0, connect.1)
passed_over_so old new d (rule, inr (not_one, inl (share, is, same))) = absurd (let e : false ≡ true = is in cc)
passed_over_so old new d (rule, inr (not_one, inr (inl (none, is, same)))) = absurd (let e : false ≡ true = is in cc)
passed_over_so old new d (rule, inr (not_one, inr (inr (slot, load, carries, is, same)))) = inr (slot, load, carries, brings_so old d.0 slot load is)

-- what an answer says may be said otherwise
pub if_none_so : {A : Type 0} (r : Option A) (P Q : Type 0) → (P → Q) → IfNone r P → IfNone r Q
if_none_so None P Q f p = f p
if_none_so (Some x) P Q f p = search rules

pub if_some_so : {A : Type 0} (r : Option A) (P Q : Type 0) → (P → Q) → IfSome r (λ x. P) → IfSome r (λ x. Q)
if_some_so None P Q f p = search rules
if_some_so (Some x) P Q f p = f p
