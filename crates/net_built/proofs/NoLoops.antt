-- In a state in normal form no binding of a value leads back to itself.
use Rattle.std.proofs.Common.{◌≡◌, ℕ, zero, suc, ◌-◌, true, List, [], ◌∷◌, map, Some, refl, sym, subst}
use Rattle.std.specs.Prelude.{nat_lt}
use Rattle.std.proofs.lemmas.Bool.{and_parts, ltb-true}
use Rattle.chw_types.specs.TypeTree.{TypeTree}
use Rattle.chw_terms.specs.declared.program.Program.{Program}
use Rattle.chw_terms.specs.declared.scene.Made.{Made}
use Rattle.chw_terms.specs.declared.scene.Sort.{Sort}
use Rattle.chw_terms.specs.declared.scene.Sort.TheVariants.{Value, Circuit}
use Rattle.chw_terms.specs.declared.term.Arg.{Arg}
use Rattle.chw_terms.specs.declared.term.Arg.TheVariants.{OfTerm, OfType}
use Rattle.chw_terms.specs.Occurs.{occurs}
use Rattle.chw_terms.specs.TermTree.{TermTree, var, made, app, ty_app, con, prim, Group, no_bindings, bind, Alts, size_of}
use Rattle.chw_terms.specs.TermView.{applied}
use Rattle.graph_order.specs.References.{Leads, step, step_and}
use Rattle.chw_typing.specs.Groups.{binding_at}
use Rattle.chw_typing.specs.Given.{types_then}
use Rattle.rewriting.specs.Named.{UnderLambdas, under_none, under_one}
use Rattle.rewriting.specs.Origins.{Origins}
use Rattle.rewriting.specs.Steps.{origins_in}
use Rattle.normal_forms.specs.Normal.{HasForm, IsNormal}
use Rattle.normal_forms.specs.Values.{BindingRefers, IsBlock, block_variable, block_letrec, AreSides, no_sides, side_and, IsSide, side_variable, side_literal, side_constructor, side_vector, side_primitive, side_call, side_case, AreBlocks, no_blocks, block_and}
use Rattle.net_built.specs.Laws.{ValuesHaveNoLoops}
use Rattle.net_built.specs.Loops.{side_at, refers, HasNoLoops, HaveNoLoops, HasNoLoopsIn}

-- a right side in which a variable occurs is that of a binding
side_found : (g : Group) (i y : ℕ) → occurs (side_at g i) y ≡ true → (b : TypeTree × TermTree) × (binding_at g i ≡ Some b) × (b.1 ≡ side_at g i)
unfolding occurs
side_found no_bindings i y h = absurd cc
side_found (bind t e g) zero y h = ((t, e), refl, refl)
side_found (bind t e g) (suc i) y h = side_found g i y h

to_reference : (g : Group) (i j : ℕ) → refers g i j ≡ true → BindingRefers g i j
to_reference g i j h =
    let parts = and_parts (nat_lt j (size_of g)) (occurs (side_at g i) (size_of g - 1 - j)) h in
    let found = side_found g i (size_of g - 1 - j) parts.1 in
    let there : occurs found.0.1 (size_of g - 1 - j) ≡ true = subst (λ e. occurs e (size_of g - 1 - j) ≡ true) (sym found.2) parts.1 in
    (found.0, found.1, ltb-true j (size_of g) parts.0, there)

references_along : (g : Group) {a b : ℕ} → Leads (λ i j. refers g i j ≡ true) a b → Leads (BindingRefers g) a b
references_along g (step {a = a} {b = b} s) = step (to_reference g a b s)
references_along g (step_and {a = a} {b = b} s more) = step_and (to_reference g a b s) (references_along g more)

spine_free : (args : List Arg) (e : TermTree) → HasNoLoops e → HasNoLoops (applied e args)
spine_free [] e h = h
spine_free (OfTerm a ∷ args) e h = spine_free args (app e a) tt
spine_free (OfType t ∷ args) e h = spine_free args (ty_app e t) tt

mutual
  block_free : {o : Origins} {vars : List TypeTree} {e : TermTree} → IsBlock o vars e → HasNoLoops e
  block_free block_variable = tt
  block_free (block_letrec {g = g} sides none) = (λ a leads. none a (references_along g leads), sides_free sides)

  sides_free : {o : Origins} {vars : List TypeTree} {g : Group} → AreSides o vars g → HaveNoLoops g
  sides_free no_sides = tt
  sides_free (side_and r side more) = (side_free side, sides_free more)

  side_free : {o : Origins} {vars : List TypeTree} {e : TermTree} → IsSide o vars e → HasNoLoops e
  side_free side_variable = tt
  side_free side_literal = tt
  side_free (side_constructor c types xs k n) = spine_free (types_then types (map (λ x. var x) xs)) (con c) tt
  side_free (side_vector t xs) = tt
  side_free (side_primitive p types xs k n) = spine_free (types_then types (map (λ x. var x) xs)) (prim p) tt
  side_free (side_call m xs k v n) = spine_free (types_then [] (map (λ x. var x) xs)) (made m) tt
  side_free (side_case k blocks) = blocks_free blocks

  blocks_free : {o : Origins} {vars : List TypeTree} {u : TypeTree} {alts : Alts} → AreBlocks o vars u alts → HasNoLoopsIn alts
  blocks_free no_blocks = tt
  blocks_free (block_and pattern block more) = (block_free block, blocks_free more)

under_free : {vs vars : List TypeTree} {e x : TermTree} {t : TypeTree} {path : List ℕ} → UnderLambdas vs e t path vars x → HasNoLoops x → HasNoLoops e
under_free (under_none a) h = h
under_free (under_one s more) h = under_free more h

form_free : (o : Origins) (sort : Sort) (vars : List TypeTree) (e : TermTree) → HasForm o sort vars e → sort ≡ Value → HasNoLoops e
form_free o Value vars e form is = block_free form
form_free o Circuit vars e form is = absurd cc

pub normal_free : (p : Program) (state : List Made) → IsNormal p state → ValuesHaveNoLoops state
normal_free p state normal m it is of_value =
    let body = normal.bodies m it is in
    under_free body.under (form_free (origins_in p state) it.sort body.vars body.inner body.form of_value)
