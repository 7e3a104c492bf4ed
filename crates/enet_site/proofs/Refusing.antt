-- Why a delivery is refused, test by test.
use Rattle.std.proofs.Common.{◌≡◌, Bool, true, false, cond, sym, ap, subst, Option, Some, None}
use Rattle.enet_codec.specs.declared.refusal.Refusal.TheVariants.{Late, Earlier}
use Rattle.law_network.specs.Log.{Logged}
use Rattle.law_network.specs.Network.{Site, is_earlier, is_late, delivery_refusal}

pub earlier-at : (from to : Site) (found : Option Logged) (d : Logged) → Some d ≡ found → is_earlier to from.address d ≡ true → Some Earlier ≡ delivery_refusal from to found
earlier-at from to found d is so =
    subst (λ (o : Option Logged). Some Earlier ≡ delivery_refusal from to o) is
    (ap (λ (b : Bool). cond b (Some Earlier) (cond (is_late from to d) (Some Late) None)) (sym so))

pub late-at : (from to : Site) (found : Option Logged) (d : Logged) (b : Bool) → Some d ≡ found → is_earlier to from.address d ≡ false → is_late from to d ≡ b → cond b (Some Late) None ≡ delivery_refusal from to found
late-at from to found d b is young late =
    subst (λ (o : Option Logged). cond b (Some Late) None ≡ delivery_refusal from to o) is
    (λ i. cond (sym young i) (Some Earlier) (cond (sym late i) (Some Late) None))
