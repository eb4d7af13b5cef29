-- The variables at which a right side looks, and where their wires are.
use Rattle.std.specs.Prelude.{option_map, unwrap_or}
use Rattle.std.proofs.Common.{◌≡◌, ℕ, zero, suc, ◌+◌, List, [], ◌∷◌, ◌++◌, length, Some, slice_get, refl, sym, ap, ◌∙◌, subst, append_assoc}
use Rattle.std.proofs.lemmas.List.{append-nil}
use Rattle.std.proofs.lemmas.Option.{get_or_from_slice_get}
use Rattle.chw_base.specs.declared.index.WireId.{WireId}
use Rattle.chw_types.specs.TypeTree.{TypeTree}
use Rattle.chw_terms.specs.TermTree.{TermTree, var, app, ty_app, vec_lit, Terms}
use Rattle.chw_terms.specs.TermView.{applied}
use Rattle.chw_typing.specs.Given.{types_then}
use Rattle.normal_forms.specs.Values.{on_names}
use Rattle.net_built.specs.Bodies.{operand_at}
use Rattle.net_built.specs.Terms.{head_of, types_of, operands_of, list_of, Variable, wires_at, wires_of, wires_of_all}
use Rattle.net_means.proofs.Lists.{found_before_map, found_in_map}
use Rattle.net_means.specs.SideBits.Sides.{IsIdle, LooksAt, at_itself, at_element, at_operand}
use Rattle.net_means.proofs.SideBits.Heads.{names, IsHead, the_head}
use Rattle.net_means.proofs.WireOrder.Reached.{in_front, behind}

-- how a right side looks at a variable
pub data View (e : TermTree) (x : ℕ) : Type 0 where
  itself : e ≡ var x → View e x
  of_element : (t : TypeTree) (es : Terms) (i : ℕ) → e ≡ vec_lit t es → slice_get (list_of es) i ≡ Some (var x) → View e x
  of_operand : (i : ℕ) → slice_get (operands_of e) i ≡ Some (var x) → ¬ IsIdle (head_of e) (types_of e) i → View e x

pub view : {e : TermTree} {x : ℕ} → LooksAt e x → View e x
view at_itself = itself refl
view (at_element {t = t} {es = es} i at) = of_element t es i refl at
view (at_operand i at busy) = of_operand i at busy

types_after : (f : TermTree) (types : List TypeTree) (es : List TermTree) → types_of (applied f (types_then types es)) ≡ types_of f ++ types
types_after f [] [] = sym (append-nil (types_of f))
types_after f [] (e ∷ es) = types_after (app f e) [] es
types_after f (t ∷ types) es = types_after (ty_app f t) types es ∙ append_assoc (types_of f) (t ∷ []) types

operands_after : (f : TermTree) (types : List TypeTree) (es : List TermTree) → operands_of (applied f (types_then types es)) ≡ operands_of f ++ es
operands_after f [] [] = sym (append-nil (operands_of f))
operands_after f [] (e ∷ es) = operands_after (app f e) [] es ∙ append_assoc (operands_of f) (e ∷ []) es
operands_after f (t ∷ types) es = operands_after (ty_app f t) types es

-- a name among names
pub named : (xs : List ℕ) (i x : ℕ) → slice_get (names xs) i ≡ Some (var x) → slice_get xs i ≡ Some x
named xs i x e =
    let found = found_before_map (λ x. var x) xs i (var x) e in
    let is : found.0 ≡ x = let same = found.2 in cc in
    found.1 ∙ ap (λ y. Some y) is

-- a head that is neither a variable nor a vector
abbrev pub IsPlain : TermTree → Type 0
IsPlain f = ((y : ℕ) → ¬ (f ≡ var y)) × ((t : TypeTree) (es : Terms) → ¬ (f ≡ vec_lit t es))

-- such a head looks at its operands that matter
pub record Looked (f : TermTree) (types : List TypeTree) (xs : List ℕ) (x : ℕ) : Type 0 where
  pub i : ℕ
  pub at : slice_get xs i ≡ Some x
  pub busy : ¬ IsIdle f types i

pub looked : {f : TermTree} → IsHead f → IsPlain f → (types : List TypeTree) (xs : List ℕ) (x : ℕ) → LooksAt (on_names f types xs) x → Looked f types xs x
looked {f} is plain types xs x l = by (view l)
  where
    types_are : types_of (on_names f types xs) ≡ types
    types_are = types_after f types (names xs) ∙ ap (λ ts. ts ++ types) is.types

    operands_are : operands_of (on_names f types xs) ≡ names xs
    operands_are = operands_after f types (names xs) ∙ ap (λ es. es ++ names xs) is.operands

    by : View (on_names f types xs) x → Looked f types xs x
    by (itself e) = absurd (plain.0 x (sym (the_head is types xs) ∙ ap (λ e. head_of e) e))
    by (of_element t es i e at) = absurd (plain.1 t es (sym (the_head is types xs) ∙ ap (λ e. head_of e) e))
    by (of_operand i at busy) =
        record {
          i = i;
          at = named xs i x (ap (λ es. slice_get es i) (sym operands_are) ∙ at);
          busy = λ idle. busy (subst (λ ts. IsIdle (head_of (on_names f types xs)) ts i) (sym types_are) (subst (λ g. IsIdle g types i) (sym (the_head is types xs)) idle));
        }

-- the wires of a variable in scope
pub wires_there : (scope : List Variable) (x : ℕ) (v : Variable) → slice_get scope x ≡ Some v → wires_at scope x ≡ v.wires
wires_there scope x v e = ap (λ o. unwrap_or (option_map (λ (v : Variable). v.wires) o) []) e

-- those of an operand by its number
pub operand_wires : (scope : List Variable) (xs : List ℕ) (i x : ℕ) (v : Variable) → slice_get xs i ≡ Some x → slice_get scope x ≡ Some v → operand_at scope (names xs) i ≡ v.wires
operand_wires scope xs i x v e f =
    ap (λ e. wires_of scope e) (get_or_from_slice_get (names xs) i (var x) (var 0) (found_in_map (λ x. var x) xs i x e)) ∙ wires_there scope x v f

-- and among those of all operands
pub among_all : (scope : List Variable) (xs : List ℕ) (i x j : ℕ) (v : Variable) (w : WireId) → slice_get xs i ≡ Some x → slice_get scope x ≡ Some v → slice_get v.wires j ≡ Some w → (k : ℕ) × (slice_get (wires_of_all scope (names xs)) k ≡ Some w)
among_all scope [] i x j v w e f g = absurd cc
among_all scope (y ∷ xs) zero x j v w e f g =
    let is : y ≡ x = cc in
    let wires : wires_at scope y ≡ v.wires = ap (λ x. wires_at scope x) is ∙ wires_there scope x v f in
    (j, in_front (wires_at scope y) (wires_of_all scope (names xs)) j w (ap (λ (ws : List WireId). slice_get ws j) wires ∙ g))
among_all scope (y ∷ xs) (suc i) x j v w e f g =
    let rest = among_all scope xs i x j v w e f g in
    (length (wires_at scope y) + rest.0, behind (wires_at scope y) (wires_of_all scope (names xs)) rest.0 (length (wires_at scope y) + rest.0) w refl rest.1)
