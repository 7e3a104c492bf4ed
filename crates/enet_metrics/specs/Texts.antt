-- Lines of the text format of Prometheus.
use Rattle.std.specs.Prelude.{ℕ, ◌+◌, ◌/◌, ◌%◌, List, [], ◌∷◌, ◌++◌, codes}
use Rattle.std.specs.Fmt.{decimal}

-- what stands before the lines of a figure: what it says, and of what kind it is
unfoldable pub head_text : List ℕ → List ℕ → List ℕ → List ℕ
head_text name kind help =
    codes "# HELP " ++ name ++ codes " " ++ help ++ codes "\n# TYPE " ++ name ++ codes " " ++ kind ++ codes "\n"

unfoldable pub line_text : List ℕ → ℕ → List ℕ
line_text name value = name ++ codes " " ++ decimal value ++ codes "\n"

-- a figure of one line
unfoldable pub figure_text : List ℕ → List ℕ → List ℕ → ℕ → List ℕ
figure_text name kind help value = head_text name kind help ++ line_text name value

-- the line of a reason, as S3
unfoldable pub reason_text : List ℕ → List ℕ → ℕ → ℕ → List ℕ
reason_text name letter number count =
    name ++ codes "{reason=\"" ++ letter ++ decimal number ++ codes "\"} " ++ decimal count ++ codes "\n"

-- a line for each reason, from the one of this number on
unfoldable pub reasons_from : List ℕ → List ℕ → ℕ → List ℕ → List ℕ
reasons_from name letter number [] = []
reasons_from name letter number (count ∷ counts) = reason_text name letter number count ++ reasons_from name letter (number + 1) counts

-- so many milliseconds, in seconds with three decimals
unfoldable pub seconds_text : List ℕ → ℕ → List ℕ
seconds_text name ms =
    name ++ codes " " ++ decimal (ms / 1000) ++ codes "." ++ decimal (ms / 100 % 10) ++ decimal (ms / 10 % 10) ++ decimal (ms % 10) ++ codes "\n"
