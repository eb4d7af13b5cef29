-- The names that a filter declares, and what the names in it stand for.
use Rattle.std.specs.Prelude.{◌≡◌, ℕ, ◌+◌, false, List, [], ◌∷◌, codes, Option, option_map, refl}
use Rattle.std.proofs.Common.{ap, ◌∙◌}
use Rattle.chw_grammar.specs.declared.program.Tree.{Tree}
use Rattle.chw_grammar.specs.declared.word.Word.{Word}
use Rattle.chw_names.specs.declared.globals.Globals.{Globals}
use Rattle.chw_names.specs.Globals.{built_in_constructors, built_in_data_types, globals_of}
use Rattle.chw_names.specs.Words.{with_names}
use Rattle.chw_prims.specs.declared.prim.Primitive.TheVariants.{AddU, Ap, Fmap, MulU, Pure, Register, UnsafeSynchronizer, VFoldlC}
use Rattle.chw_prims.specs.Names.{primitive_names}
use Rattle.chw_resolve.specs.Terms.{definition_at, named_term, primitives, variable_or}
use Rattle.chw_resolve.specs.Types.{place_in}
use Rattle.chw_terms.specs.TermTree.{TermTree, global, prim}
use Rattle.make_typed.proofs.Scope.{is_local, no_local, scope}
use Rattle.make_typed.proofs.Shape.{IsShaped}

-- the domains A and B, and the definitions `plus` and `main`
abbrev pub globals : Globals
globals = record {
  domains = codes "A" ∷ codes "B" ∷ [];
  data_types = built_in_data_types;
  constructors = built_in_constructors;
  definitions = with_names primitive_names (codes "plus" ∷ codes "main" ∷ []);
}

abbrev bytes_of : Word → List ℕ
bytes_of w = w.bytes

pub globals_are : (taps : ℕ) (tree : Tree) → IsShaped taps tree → globals_of tree.declarations ≡ globals
globals_are taps tree shape =
    let a : shape.first.bytes ≡ codes "A" = ap bytes_of shape.first_is in
    let b : shape.second.bytes ≡ codes "B" = ap bytes_of shape.second_is in
    let c : shape.adder.bytes ≡ codes "plus" = ap bytes_of shape.adder_is in
    let d : shape.main.bytes ≡ codes "main" = ap bytes_of shape.main_is in
    ap globals_of shape.declarations
    ∙ (λ i. record {
      domains = with_names [] (a i ∷ b i ∷ []);
      data_types = built_in_data_types;
      constructors = built_in_constructors;
      definitions = with_names primitive_names (c i ∷ d i ∷ []);
    })

-- what stands for the names of the primitives and of `plus`

pub add_is : definition_at (place_in globals.definitions (codes "addU")) ≡ prim AddU
unfolding definition_at primitives
add_is = refl

pub ap_is : definition_at (place_in globals.definitions (codes "ap")) ≡ prim Ap
unfolding definition_at primitives
ap_is = refl

pub fmap_is : definition_at (place_in globals.definitions (codes "fmap")) ≡ prim Fmap
unfolding definition_at primitives
fmap_is = refl

pub mul_is : definition_at (place_in globals.definitions (codes "mulU")) ≡ prim MulU
unfolding definition_at primitives
mul_is = refl

pub pure_is : definition_at (place_in globals.definitions (codes "pure")) ≡ prim Pure
unfolding definition_at primitives
pure_is = refl

pub register_is : definition_at (place_in globals.definitions (codes "register")) ≡ prim Register
unfolding definition_at primitives
register_is = refl

pub cross_is : definition_at (place_in globals.definitions (codes "unsafeSynchronizer")) ≡ prim UnsafeSynchronizer
unfolding definition_at primitives
cross_is = refl

pub fold_is : definition_at (place_in globals.definitions (codes "vfoldlC")) ≡ prim VFoldlC
unfolding definition_at primitives
fold_is = refl

pub plus_is : definition_at (place_in globals.definitions (codes "plus")) ≡ global 0
unfolding definition_at primitives
plus_is = refl

-- no variable of the filter hides them
pub defined : (taps : ℕ) (name : List ℕ) (e : TermTree) → is_local name ≡ false → definition_at (place_in globals.definitions name) ≡ e
    → named_term globals (scope taps) name ≡ e
defined taps name e free is =
    ap (λ (o : Option ℕ). variable_or o (place_in globals.definitions name)) (no_local taps name free) ∙ is

-- nor does `v`
pub mul_defined : (taps : ℕ) → named_term globals (codes "v" ∷ scope taps) (codes "mulU") ≡ prim MulU
mul_defined taps =
    ap (λ (o : Option ℕ). variable_or (option_map (λ (p : ℕ). p + 1) o) (place_in globals.definitions (codes "mulU"))) (no_local taps (codes "mulU") refl)
    ∙ mul_is
