-- What `--version` tells.
use Rattle.std.specs.Prelude.{ℕ, List, ◌++◌, codes}

-- The project's version.
abbrev pub version : List ℕ
version = codes "0.1.0"

-- The kit that proves it.
abbrev pub kit : List ℕ
kit = codes "rattle-kit-13f logic dac8208d650f15bf"

-- What stands behind the program's name.
abbrev pub told : List ℕ
told = version ++ (codes " (" ++ (kit ++ codes ")"))
