-- What a CONNECT counts as.
use Rattle.std.specs.Prelude.{ℕ, Bool, true, false, List, slice_set}
use Rattle.enet_host.specs.declared.credits.Credit.{Credit}
use Rattle.enet_host.specs.Crediting.{came, credit_at, no_credit}

-- of the peer that is there, or of one that begins by it
abbrev pub offered : Bool → ℕ → Credit → Credit
offered true len c = came len c
offered false len c = came len no_credit

abbrev pub with_offer : List Credit → ℕ → Bool → ℕ → List Credit
with_offer credits i is_known len = slice_set credits i (offered is_known len (credit_at credits i))
