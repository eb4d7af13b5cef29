-- Which made definitions give something that has a wire.
use Rattle.std.specs.Prelude.{ℕ, suc, Bool, true, false, List, [], ◌∷◌}
use Rattle.chw_types.specs.declared.declarations.Data.{Data}
use Rattle.chw_terms.specs.declared.scene.Made.{Made}
use Rattle.net_built.specs.Modules.{HasOutputs}

-- the mark is true exactly where what the made definition gives has a wire
abbrev pub IsOutputMark : List Data → Made → Bool → Type 0
IsOutputMark datas it true = (n : ℕ) × HasOutputs datas it (suc n)
IsOutputMark datas it false = HasOutputs datas it 0

-- there is such a mark for each made definition, at its place
abbrev pub AreOutputMarks : List Data → List Made → List Bool → Type 0
AreOutputMarks datas [] [] = Unit {0}
AreOutputMarks datas (it ∷ made) (has ∷ more) =
    IsOutputMark datas it has × AreOutputMarks datas made more
AreOutputMarks datas _ _ = ⊥
