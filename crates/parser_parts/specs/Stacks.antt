-- Lists with the newest item first.
use Rattle.std.specs.Prelude.{List, [], ◌∷◌}

-- the items, the last of them first, before others
abbrev pub onto : {T : Type 0} → List T → List T → List T
onto [] rest = rest
onto (x ∷ xs) rest = onto xs (x ∷ rest)
