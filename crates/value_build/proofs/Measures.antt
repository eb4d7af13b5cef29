-- Fields with their widths, and their variables.
use Rattle.std.proofs.Common.{◌≡◌, ◌∙◌, sym, ap, refl, subst, ℕ, zero, suc, min, ◌+◌, ◌-◌, ◌<◌, ◌≤◌, arith, List, [], ◌∷◌, ◌++◌, drop, length, get_or, append_assoc, append-nil}
use Rattle.std.proofs.lemmas.List.{drop_all}
use Rattle.chw_types.specs.declared.declarations.Data.{Data}
use Rattle.chw_types.specs.Polynomials.{ended}
use Rattle.chw_types.specs.TypeMoves.{Substitution, sub}
use Rattle.chw_types.specs.TypeTree.{TypeTree}
use Rattle.chw_layout.specs.Measured.{fits, HasWidth, MeasuredFields, no_fields_measured, field_measured}
use Rattle.net_built.specs.Data.{HaveWidths, variables_from}
use Rattle.net_built.specs.Terms.{Variable, variable}
use Rattle.net_built.specs.Wires.{new_wires, wire_count}
use Rattle.value_build.proofs.Operands.{left_of}

-- one more field before those that are measured
pub fields_grown : (datas : List Data) (fs : List TypeTree) (σ : Substitution) (i j a b sum : ℕ) (f : TypeTree)
    → j ≡ i - 1 → 0 < i → j < length fs → f ≡ get_or fs j f → HasWidth datas (sub f σ) a
    → MeasuredFields datas (drop i fs) σ (fits b) → sum ≡ ended (a + b)
    → MeasuredFields datas (drop j fs) σ (fits sum)
fields_grown datas fs σ i j a b sum f at some l is measured rest same =
    let next : i ≡ j + 1 = omega arith in
    let left : drop j fs ≡ f ∷ drop (j + 1) fs = left_of fs j f l is in
    let all = field_measured measured (subst (λ k. MeasuredFields datas (drop k fs) σ (fits b)) next rest) in
    subst (λ gs. MeasuredFields datas gs σ (fits sum)) (sym left)
    (subst (λ k. MeasuredFields datas (f ∷ drop (j + 1) fs) σ (fits k)) (sym same) all)

pub no_fields : (datas : List Data) (fs : List TypeTree) (σ : Substitution) (i : ℕ) → length fs ≤ i → MeasuredFields datas (drop i fs) σ (fits 0)
no_fields datas fs σ i l = subst (λ gs. MeasuredFields datas gs σ (fits 0)) (sym (drop_all i fs l)) no_fields_measured

-- one more width
pub widths_grown : (datas : List Data) (ts : List TypeTree) (i w : ℕ) (t : TypeTree) (before later : List ℕ)
    → i < length ts → t ≡ get_or ts i t → HasWidth datas t w → later ≡ before ++ w ∷ []
    → ((more : List ℕ) → HaveWidths datas (drop i ts) more → HaveWidths datas ts (before ++ more))
    → (more : List ℕ) → HaveWidths datas (drop (i + 1) ts) more → HaveWidths datas ts (later ++ more)
widths_grown datas ts i w t before later l is measured grown so more rest =
    let all : HaveWidths datas (drop i ts) (w ∷ more) = subst (λ us. HaveWidths datas us (w ∷ more)) (sym (left_of ts i t l is)) (measured, rest) in
    subst (HaveWidths datas ts) (sym (append_assoc before (w ∷ []) more) ∙ ap (λ ws. ws ++ more) (sym grown)) (so (w ∷ more) all)

pub widths_whole : (datas : List Data) (ts : List TypeTree) (i : ℕ) (done : List ℕ) → length ts ≤ i
    → ((more : List ℕ) → HaveWidths datas (drop i ts) more → HaveWidths datas ts (done ++ more))
    → HaveWidths datas ts done
widths_whole datas ts i done l so =
    subst (HaveWidths datas ts) (append-nil done) (so [] (subst (λ us. HaveWidths datas us []) (sym (drop_all i ts l)) tt))

-- as many widths as types
pub widths_count : (datas : List Data) (ts : List TypeTree) (ws : List ℕ) → HaveWidths datas ts ws → length ts ≡ length ws
widths_count datas [] [] h = refl
widths_count datas [] (w ∷ ws) h = absurd h
widths_count datas (t ∷ ts) [] h = absurd h
widths_count datas (t ∷ ts) (w ∷ ws) h = ap suc (widths_count datas ts ws h.1)

-- one more variable
pub variables_grown : (ts : List TypeTree) (ws : List ℕ) (i n m w : ℕ) (t : TypeTree) (before later all : List Variable)
    → i < length ts → i < length ws → t ≡ get_or ts i t → w ≡ get_or ws i w
    → later ≡ before ++ variable t (new_wires n (w ∷ [])) ∷ [] → m ≡ n + wire_count (w ∷ [])
    → before ++ variables_from n (drop i ts) (drop i ws) ≡ all
    → later ++ variables_from m (drop (i + 1) ts) (drop (i + 1) ws) ≡ all
variables_grown ts ws i n m w t before later all l k is are grown next so =
    let here : Variable = variable t (new_wires n (w ∷ [])) in
    (λ j. grown j ++ variables_from (next j) (drop (i + 1) ts) (drop (i + 1) ws))
    ∙ append_assoc before (here ∷ []) (variables_from (n + wire_count (w ∷ [])) (drop (i + 1) ts) (drop (i + 1) ws))
    ∙ (λ j. before ++ variables_from n (sym (left_of ts i t l is) j) (sym (left_of ws i w k are) j))
    ∙ so

pub variables_whole : (ts : List TypeTree) (ws : List ℕ) (i n : ℕ) (done all : List Variable) → length ts ≤ i
    → done ++ variables_from n (drop i ts) (drop i ws) ≡ all → done ≡ all
variables_whole ts ws i n done all l so =
    sym (append-nil done) ∙ ap (λ us. done ++ variables_from n us (drop i ws)) (sym (drop_all i ts l)) ∙ so

pub one_wire_count : (w : ℕ) → wire_count (w ∷ []) ≡ min w 1
one_wire_count zero = refl
one_wire_count (suc w) = sym (omega arith)
