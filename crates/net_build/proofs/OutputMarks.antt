-- Marks of the made definitions that have outputs, one after the other.
use Rattle.std.proofs.Common.{◌≡◌, ◌∙◌, sym, ap, refl, subst, ℕ, zero, suc, ◌+◌, ◌<◌, ◌≤◌, ◌==◌, arith, not, Bool, true, false, eqb-true, List, [], ◌∷◌, ◌++◌, drop, length, get_or, append_assoc, append-nil}
use Rattle.std.proofs.lemmas.List.{drop_all}
use Rattle.chw_types.specs.declared.declarations.Data.{Data}
use Rattle.chw_types.specs.TypeTree.{TypeTree}
use Rattle.chw_terms.specs.declared.scene.Made.{Made}
use Rattle.net_built.specs.Data.{HasParts}
use Rattle.net_built.specs.Modules.{HasOutputs}
use Rattle.net_built.specs.Terms.{result_of}
use Rattle.net_built.specs.Wires.{wire_count}
use Rattle.value_build.proofs.Operands.{left_of}
use Rattle.net_build.specs.Outputs.{IsOutputMark, AreOutputMarks}

-- there is a mark for each
pub marks_many : (datas : List Data) (made : List Made) (has : List Bool) → AreOutputMarks datas made has → length has ≡ length made
marks_many datas [] [] marks = refl
marks_many datas [] (b ∷ has) marks = absurd marks
marks_many datas (it ∷ made) [] marks = absurd marks
marks_many datas (it ∷ made) (b ∷ has) marks = ap suc (marks_many datas made has marks.1)

pub output_marked : (datas : List Data) (it : Made) (t : TypeTree) (widths : List ℕ) (n : ℕ) (b : Bool)
    → t ≡ result_of it.ty → HasParts datas it.sort t widths → n ≡ wire_count widths → b ≡ not (n == 0) → IsOutputMark datas it b
output_marked datas it t widths n b is has count mark = subst (IsOutputMark datas it) (sym mark) (by n count)
  where
    some : (k : ℕ) (is : Bool) → (suc k == 0) ≡ is → not is ≡ true
    some k true e = let none : suc k ≡ 0 = eqb-true (suc k) 0 e in absurd (omega (arith, none))
    some k false e = refl

    outputs : (k : ℕ) → k ≡ wire_count widths → HasOutputs datas it k
    outputs k e = record { widths = widths; parts = subst (λ u. HasParts datas it.sort u widths) is has; are = sym e }

    by : (k : ℕ) → k ≡ wire_count widths → IsOutputMark datas it (not (k == 0))
    by zero e = outputs zero e
    by (suc k) e = subst (IsOutputMark datas it) (sym (some k (suc k == 0) refl)) (k, outputs (suc k) e)

-- the marks so far: with those for what is left, they are the marks of all
abbrev pub MarkedSoFar : List Data → List Made → ℕ → List Bool → Type 0
MarkedSoFar datas made i has =
    (more : List Bool) → AreOutputMarks datas (drop i made) more → AreOutputMarks datas made (has ++ more)

pub marks_grown : (datas : List Data) (made : List Made) (i : ℕ) (it : Made) (b : Bool) (before later : List Bool)
    → i < length made → it ≡ get_or made i it → IsOutputMark datas it b → later ≡ before ++ b ∷ []
    → MarkedSoFar datas made i before → MarkedSoFar datas made (i + 1) later
marks_grown datas made i it b before later l is mark grown so more rest =
    let all = subst (λ ms. AreOutputMarks datas ms (b ∷ more)) (sym (left_of made i it l is)) (mark, rest) in
    subst (AreOutputMarks datas made) (sym (append_assoc before (b ∷ []) more) ∙ ap (λ bs. bs ++ more) (sym grown)) (so (b ∷ more) all)

pub marks_whole : (datas : List Data) (made : List Made) (i : ℕ) (has : List Bool) → length made ≤ i
    → MarkedSoFar datas made i has → AreOutputMarks datas made has
marks_whole datas made i has l so =
    subst (AreOutputMarks datas made) (append-nil has) (so [] (subst (λ ms. AreOutputMarks datas ms []) (sym (drop_all i made l)) tt))
