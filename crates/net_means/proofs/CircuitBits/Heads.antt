-- Heads on types and terms, and their cells.
use Rattle.std.proofs.Common.{◌≡◌, ℕ, List, [], ◌∷◌, ◌++◌, refl, sym, ap, ◌∙◌, subst, append_assoc}
use Rattle.std.proofs.lemmas.List.{append-nil}
use Rattle.chw_types.specs.TypeTree.{TypeTree}
use Rattle.chw_terms.specs.TermTree.{TermTree, app, ty_app}
use Rattle.chw_terms.specs.TermView.{applied}
use Rattle.chw_typing.specs.Given.{types_then}
use Rattle.normal_forms.specs.Values.{on_names}
use Rattle.net_built.specs.Circuits.{Ground as Built, CircuitCells}
use Rattle.net_built.specs.Terms.{head_of, types_of, operands_of, Variable}
use Rattle.net_built.specs.Wires.{Piece}
use Rattle.net_means.proofs.SideBits.Heads.{names, IsHead}

pub head_then : (f : TermTree) (types : List TypeTree) (es : List TermTree) → head_of (applied f (types_then types es)) ≡ head_of f
head_then f [] [] = refl
head_then f [] (e ∷ es) = head_then (app f e) [] es
head_then f (t ∷ types) es = head_then (ty_app f t) types es

types_after : (f : TermTree) (types : List TypeTree) (es : List TermTree) → types_of (applied f (types_then types es)) ≡ types_of f ++ types
types_after f [] [] = sym (append-nil (types_of f))
types_after f [] (e ∷ es) = types_after (app f e) [] es
types_after f (t ∷ types) es = types_after (ty_app f t) types es ∙ append_assoc (types_of f) (t ∷ []) types

pub operands_after : (f : TermTree) (types : List TypeTree) (es : List TermTree) → operands_of (applied f (types_then types es)) ≡ operands_of f ++ es
operands_after f [] [] = sym (append-nil (operands_of f))
operands_after f [] (e ∷ es) = operands_after (app f e) [] es ∙ append_assoc (operands_of f) (e ∷ []) es
operands_after f (t ∷ types) es = operands_after (ty_app f t) types es

-- the cells of a head on these types and variables
pub circuit_built_at : {f : TermTree} (is : IsHead f) (types : List TypeTree) (xs : List ℕ) {ground : Built} {scope : List Variable} {n : ℕ} {widths : List ℕ} {p : Piece} → CircuitCells ground scope n widths (head_of (on_names f types xs)) (types_of (on_names f types xs)) (operands_of (on_names f types xs)) p → CircuitCells ground scope n widths f types (names xs) p
circuit_built_at {f} is types xs {ground} {scope} {n} {widths} {p} built =
    let one = subst (λ e. CircuitCells ground scope n widths e (types_of (on_names f types xs)) (operands_of (on_names f types xs)) p) (head_then f types (names xs) ∙ is.head) built in
    let two = subst (λ ts. CircuitCells ground scope n widths f ts (operands_of (on_names f types xs)) p) (types_after f types (names xs) ∙ ap (λ ts. ts ++ types) is.types) one in
    subst (λ es. CircuitCells ground scope n widths f types es p) (operands_after f types (names xs) ∙ ap (λ es. es ++ names xs) is.operands) two
