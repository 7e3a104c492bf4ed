-- Settings of a host that is connected to another from the start are in their ranges, as those of both are.
use Rattle.std.proofs.Common.{◌≡◌, ℕ, min, Bool, true, false, ◌&&◌, nat_le, subst, sym, refl, arith}
use Rattle.std.proofs.lemmas.Bool.Decides.{nat_tests}
use Rattle.enet_codec.specs.declared.config.Config.{Config}
use Rattle.enet_codec.specs.Config.{is_between, is_in_range, is_limit_in_range}

both : (a b : Bool) → (a && b) ≡ true → (a ≡ true) × (b ≡ true)
both true b h = (refl, h)
both false b h = absurd (cc)

-- the second and the third of a list of tests
inner : (p q r a b g m f : Bool) → (p && q && r && a && b && g && m && f) ≡ true → (q ≡ true) × (r ≡ true)
inner true true true a b g m f h = (refl, refl)
inner true true false a b g m f h = absurd (cc)
inner true false r a b g m f h = absurd (cc)
inner false q r a b g m f h = absurd (cc)

-- give way to others
swapped : (p q r a b g m f t u : Bool) → (p && q && r && a && b && g && m && f) ≡ true → t ≡ true → u ≡ true → (p && t && u && a && b && g && m && f) ≡ true
swapped true true true a b g m f true true h x y = h
swapped true true true a b g m f true false h x y = absurd (cc)
swapped true true true a b g m f false u h x y = absurd (cc)
swapped true true false a b g m f t u h x y = absurd (cc)
swapped true false r a b g m f t u h x y = absurd (cc)
swapped false q r a b g m f t u h x y = absurd (cc)

between-min : (low high a b : ℕ) → is_between low high a ≡ true → is_between low high b ≡ true → is_between low high (min a b) ≡ true
between-min low high a b x y = by (nat_le a b) refl
  where
    by : (t : Bool) → nat_le a b ≡ t → is_between low high (min a b) ≡ true
    by true is = (let e : min a b ≡ a = grind (arith, nat_tests) in subst (λ (n : ℕ). is_between low high n ≡ true) (sym e) x)
    by false is = (let e : min a b ≡ b = grind (arith, nat_tests) in subst (λ (n : ℕ). is_between low high n ≡ true) (sym e) y)

inner-of : (c : Config) → is_in_range c ≡ true → (is_between 1 255 c.channels ≡ true) × (is_between 576 4096 c.mtu ≡ true)
inner-of c h =
    inner (is_between 1 4095 c.peers) (is_between 1 255 c.channels) (is_between 576 4096 c.mtu) (is_between 1 33554432 c.max_packet) (is_between 1 33554432 c.max_waiting) (is_between 1 4294967295 c.generations) (is_limit_in_range c.peers c.most) (is_limit_in_range c.peers c.of_address) h

pub joined-in-range : (c o : Config) (n m : ℕ) → n ≡ min c.channels o.channels → m ≡ min c.mtu o.mtu → (is_in_range c && is_in_range o) ≡ true → is_in_range (record c { channels = n; mtu = m }) ≡ true
joined-in-range c o n m is_n is_m h =
    let one = both (is_in_range c) (is_in_range o) h in
    let near = inner-of c one.0 in
    let far = inner-of o one.1 in
    swapped (is_between 1 4095 c.peers) (is_between 1 255 c.channels) (is_between 576 4096 c.mtu) (is_between 1 33554432 c.max_packet) (is_between 1 33554432 c.max_waiting) (is_between 1 4294967295 c.generations) (is_limit_in_range c.peers c.most)
    (is_limit_in_range c.peers c.of_address) (is_between 1 255 n) (is_between 576 4096 m) one.0
    (subst (λ (k : ℕ). is_between 1 255 k ≡ true) (sym is_n) (between-min 1 255 c.channels o.channels near.0 far.0))
    (subst (λ (k : ℕ). is_between 576 4096 k ≡ true) (sym is_m) (between-min 576 4096 c.mtu o.mtu near.1 far.1))
