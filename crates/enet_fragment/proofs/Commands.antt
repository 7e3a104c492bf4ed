-- A data command on the wire is read as it was written.
use Rattle.std.proofs.Common.{ℕ, ◌≡◌, Bool, true, false, List, Option, Some, None, refl, sym, ap}
use Rattle.enet_codec.specs.declared.command.Fragment.{Fragment}
use Rattle.enet_fragment.specs.declared.data.DataCommand.{DataCommand}
use Rattle.enet_fragment.specs.DataCommand.{message_of, data_of, IsWellFormed}

-- a command of these fields
abbrev of_fields : Bool → ℕ → ℕ → Option Fragment → List ℕ → DataCommand
of_fields reliable number unreliable fragment body = record { reliable = reliable; number = number; unreliable = unreliable; fragment = fragment; body = body }

by_fields : (reliable : Bool) (number unreliable : ℕ) (fragment : Option Fragment) (body : List ℕ) → IsWellFormed (of_fields reliable number unreliable fragment body) → (channel : ℕ) → data_of (message_of channel (of_fields reliable number unreliable fragment body)) ≡ Some (of_fields reliable number unreliable fragment body)
by_fields true number unreliable None body w channel = ap (λ n. Some (of_fields true number n None body)) (sym (w.reliable refl))
by_fields true number unreliable (Some f) body w channel = ap (λ n. Some (of_fields true number n (Some f) body)) (sym (w.reliable refl))
by_fields false number unreliable None body w channel = refl
by_fields false number unreliable (Some f) body w channel = ap (λ n. Some (of_fields false number n (Some f) body)) (w.start refl f refl)

pub data_of-message_of : (c : DataCommand) → IsWellFormed c → (channel : ℕ) → data_of (message_of channel c) ≡ Some c
data_of-message_of c w channel = by_fields c.reliable c.number c.unreliable c.fragment c.body w channel
