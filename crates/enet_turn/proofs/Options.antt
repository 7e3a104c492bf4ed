-- Whether something is there.
use Rattle.std.proofs.Common.{◌≡◌, true, false, Option, Some, None, refl}
use Rattle.std.specs.Prelude.{is_some, IsSome}

pub some_is : {A : Type 0} (o : Option A) → is_some o ≡ true → IsSome o
some_is o e = e

pub none_is : {A : Type 0} (o : Option A) → is_some o ≡ false → o ≡ None
none_is (Some x) e = cc
none_is None e = refl
