-- How many of a sender's commands are reliable.
use Rattle.std.specs.Prelude.{ℕ, List, count_by}
use Rattle.enet_fragment.specs.declared.data.DataCommand.{DataCommand}

-- how many reliable commands there are
abbrev pub reliable_in : List DataCommand → ℕ
reliable_in cs = count_by (λ (c : DataCommand). c.reliable) cs
