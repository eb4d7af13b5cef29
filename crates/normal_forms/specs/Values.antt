-- The normal form of values.
use Rattle.std.specs.Prelude.{◌≡◌, ◌⊎◌, ℕ, ◌+◌, ◌-◌, ◌<◌, true, Bool}
use Rattle.std.specs.Prelude.{List, [], map, length, Some, slice_get}
use Rattle.chw_types.specs.declared.kind.Scalar.{Scalar}
use Rattle.type_ports.specs.Representable.{Representable}
use Rattle.chw_types.specs.TypeTree.{TypeTree}
use Rattle.chw_prims.specs.declared.prim.Primitive.{Primitive as Prim}
use Rattle.chw_prims.specs.Schemas.{schema_type}
use Rattle.chw_terms.specs.declared.scene.Sort.TheVariants.{Value}
use Rattle.chw_terms.specs.declared.term.Pattern.{Pattern}
use Rattle.chw_terms.specs.Constructors.{Constructor, con_at}
use Rattle.chw_terms.specs.Occurs.{occurs}
use Rattle.chw_terms.specs.TermTree.{TermTree, var, made, letrec, con, prim, lit, vec_lit, case_of}
use Rattle.chw_terms.specs.TermTree.{Group, no_bindings, bind, Alts, no_alts, alt, size_of}
use Rattle.chw_terms.specs.TermView.{applied, terms_of}
use Rattle.chw_typing.specs.HeadTypes.{con_type, PatternOf}
use Rattle.chw_typing.specs.Scopes.{with_more, declared}
use Rattle.graph_order.specs.References.{HasNoCycle}
use Rattle.chw_typing.specs.Groups.{binding_at}
use Rattle.chw_typing.specs.Given.{types_then}
use Rattle.rewriting.specs.Origins.{MadeOf, Origins}
use Rattle.rewriting.specs.Spots.{asked_for, IsOnWords, TakesElement}

-- a head on these types, and then on these variables
abbrev pub on_names : TermTree → List TypeTree → List ℕ → TermTree
on_names e types xs = applied e (types_then types (map (λ x. var x) xs))

-- of a letrec the variable of the second binding occurs in the right side of the first; bindings
-- are told by their numbers
abbrev pub BindingRefers : Group → ℕ → ℕ → Type 0
BindingRefers g from to =
    (b : TypeTree × TermTree) × (binding_at g from ≡ Some b) × (to < size_of g)
    × (occurs b.1 (size_of g - 1 - to) ≡ true)

mutual
  -- a block: a variable, or a letrec that gives one, whose bindings don't lead back to themselves;
  -- with variables of these types in scope, the innermost first
  pub data IsBlock (o : Origins) : List TypeTree → TermTree → Type 0 where
    block_variable : {vars : List TypeTree} {x : ℕ} → IsBlock o vars (var x)
    block_letrec : {vars : List TypeTree} {g : Group} {x : ℕ}
        → AreSides o (with_more (declared g) vars) g → HasNoCycle (BindingRefers g)
        → IsBlock o vars (letrec g (var x))

  -- each binding has a representable type and such a right side
  pub data AreSides (o : Origins) : List TypeTree → Group → Type 0 where
    no_sides : {vars : List TypeTree} → AreSides o vars no_bindings
    side_and : {vars : List TypeTree} {t : TypeTree} {e : TermTree} {g : Group}
        → Representable o.program.datas t → IsSide o vars e → AreSides o vars g
        → AreSides o vars (bind t e g)

  -- a right side: one form, on variables
  pub data IsSide (o : Origins) : List TypeTree → TermTree → Type 0 where
    side_variable : {vars : List TypeTree} {x : ℕ} → IsSide o vars (var x)
    side_literal : {vars : List TypeTree} {s : Scalar} {bits : List Bool}
        → IsSide o vars (lit s bits)
    -- a constructor, a vector, a primitive on words, an element of a vector, a made definition,
    -- each with all that its type asks for
    side_constructor : {vars : List TypeTree} (c : ℕ) (types : List TypeTree) (xs : List ℕ)
        {it : Constructor}
        → con_at o.program.datas c ≡ Some it
        → length types + length xs ≡ asked_for (con_type it)
        → IsSide o vars (on_names (con c) types xs)
    side_vector : {vars : List TypeTree} (t : TypeTree) (xs : List ℕ)
        → IsSide o vars (vec_lit t (terms_of (map (λ x. var x) xs)))
    side_primitive : {vars : List TypeTree} (p : Prim) (types : List TypeTree) (xs : List ℕ)
        → IsOnWords p ⊎ TakesElement p → length types + length xs ≡ asked_for (schema_type p)
        → IsSide o vars (on_names (prim p) types xs)
    side_call : {vars : List TypeTree} (m : ℕ) (xs : List ℕ) {it : MadeOf}
        → slice_get o.made m ≡ Some it → it.sort ≡ Value → length xs ≡ asked_for it.ty
        → IsSide o vars (on_names (made m) [] xs)
    -- a case
    side_case : {vars : List TypeTree} {x : ℕ} {u : TypeTree} {alts : Alts}
        → slice_get vars x ≡ Some u → AreBlocks o vars u alts
        → IsSide o vars (case_of (var x) alts)

  -- each alternative, for values of this type, is a block in the scope of its pattern's fields
  pub data AreBlocks (o : Origins) : List TypeTree → TypeTree → Alts → Type 0 where
    no_blocks : {vars : List TypeTree} {u : TypeTree} → AreBlocks o vars u no_alts
    block_and : {vars fields : List TypeTree} {u : TypeTree} {q : Pattern} {e : TermTree}
        {more : Alts}
        → PatternOf o.program.datas u q fields → IsBlock o (with_more fields vars) e
        → AreBlocks o vars u more → AreBlocks o vars u (alt q e more)
