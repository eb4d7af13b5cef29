-- Primitives with all that their types ask for, and their operands.
use Rattle.std.proofs.Common.{◌≡◌, ℕ, suc, ◌+◌, Bool, List, [], ◌∷◌, ◌++◌, length, map, Some, slice_get, refl, ap, ◌∙◌, subst, arith, length-append}
use Rattle.std.proofs.lemmas.List.{append-nil, length-map}
use Rattle.chw_clock.specs.declared.event.Event.{Event}
use Rattle.chw_types.specs.declared.declarations.Data.{Data}
use Rattle.chw_types.specs.declared.kind.Kind.{Kind}
use Rattle.chw_types.specs.Kinds.{KindsOf, no_kinds, kind_and}
use Rattle.chw_types.specs.TypeTree.{TypeTree, TypeTrees}
use Rattle.chw_types.specs.TypeView.{trees_of}
use Rattle.chw_prims.specs.declared.prim.Primitive.{Primitive as Prim}
use Rattle.chw_prims.specs.Schemas.{schema_type}
use Rattle.chw_terms.specs.declared.term.Arg.{Arg}
use Rattle.chw_terms.specs.TermTree.{var, prim}
use Rattle.chw_typing.specs.HeadTypes.{for_each, from_each}
use Rattle.chw_typing.specs.Programs.{IsSound}
use Rattle.chw_typing.specs.Scopes.{Setting, AreTermTypes}
use Rattle.chw_typing.specs.Typing.{HasType, h_prim}
use Rattle.chw_typing.specs.Given.{types_then, AreGiven, IsSaturated, AsksForNone}
use Rattle.rewriting.specs.Origins.{Origins, setting_at}
use Rattle.normal_forms.specs.Values.{on_names}
use Rattle.chw_layout.specs.Measured.{closed_value}
use Rattle.chw_meaning.specs.Values.{closed, Thunks, closed_type, type_at}
use Rattle.carrying.specs.Carrying.{Carries}
use Rattle.carrying.specs.WordLaws.{numbers_of}
use Rattle.netlist.specs.declared.net.Net.{Net}
use Rattle.net_built.specs.Terms.{Variable, wires_at}
use Rattle.cell_bits.specs.Bearing.{Bears}
use Rattle.net_grounds.specs.Facts.{Facts}
use Rattle.net_means.specs.SideBits.Sides.{types_in, HasBits}
use Rattle.net_means.proofs.SideBits.Heads.{names, same_counts, all_counted}
use Rattle.net_means.proofs.SideBits.Operands.{Ground, OperandHas, operand_has}

none_left : (more : List Arg) → length more ≡ 0 → more ≡ []
none_left [] e = refl
none_left (a ∷ more) e = absurd (omega (arith, e))

-- a primitive with as many arguments as its type asks for has as many types and as many terms
pub prim_saturated : Facts → (s : Setting) (vars : List TypeTree) (q : Prim) (ks : List Kind) (ps : List TypeTree) (r : TypeTree) (types : List TypeTree) (xs : List ℕ) (t : TypeTree) → IsSound s → AreTermTypes s [] vars → schema_type q ≡ for_each ks (from_each ps r) → length types + length xs ≡ length ks + length ps → HasType s [] vars (on_names (prim q) types xs) t → AsksForNone t
    → (length types ≡ length ks) × IsSaturated s [] vars ks ps r types (names xs) t
prim_saturated facts s vars q ks ps r types xs t sound scoped schema count typed asks =
    let args : List Arg = types_then types (names xs) in
    let all = facts.terms.spine_takes s [] vars (prim q) ks ps r args t sound scoped (subst (HasType s [] vars (prim q)) schema h_prim) typed asks in
    let whole = all_counted types (names xs) in
    let parts = all_counted all.types all.es in
    let seam = length-append (types_then all.types all.es) all.more in
    let same = ap (λ (args : List Arg). length args) all.are in
    let few = length-map xs (λ x. var x) in
    let on_types = all.on_types in
    let on_terms = all.on_terms in
    let left : length all.more ≡ 0 = omega (arith, whole, parts, seam, same, few, on_types, on_terms, count) in
    let are : args ≡ types_then all.types all.es =
    all.are ∙ ap (λ more. types_then all.types all.es ++ more) (none_left all.more left) ∙ append-nil (types_then all.types all.es) in
    let counts = same_counts types all.types (names xs) all.es are in
    (counts.0 ∙ on_types, facts.terms.prim_at_arguments s [] vars q ks ps r types (names xs) t sound scoped schema (counts.0 ∙ on_types) (counts.1 ∙ on_terms) typed)

-- closed types mean in each environment what they mean by themselves
pub closed_alone : Facts → {datas : List Data} {domains : ℕ} (types : List TypeTree) {ks : List Kind} → KindsOf datas domains [] (trees_of types) ks → (δ : TypeTrees) → map (λ t. closed_type t δ) types ≡ types
closed_alone facts [] no_kinds δ = refl
closed_alone facts (t ∷ types) (kind_and k more) δ = λ i. facts.kinds.closed_put k (type_at δ) i ∷ closed_alone facts types more δ i

pub numbers_alone : Facts → {datas : List Data} {domains : ℕ} (types : List TypeTree) {ks : List Kind} → KindsOf datas domains [] (trees_of types) ks → (δ : TypeTrees) → numbers_of δ types ≡ map closed_value types
numbers_alone facts [] no_kinds δ = refl
numbers_alone facts (t ∷ types) (kind_and k more) δ = λ i. closed_value (facts.kinds.closed_put k (type_at δ) i) ∷ numbers_alone facts types more δ i

module _ (facts : Facts) (o : Origins) (scope : List Variable) (γ : Thunks) (δ : TypeTrees) (net : Net) (path : List ℕ) (h : List Event) where
  -- variables of these numbers that have these bits at these types
  pub data Operands : List ℕ → List TypeTree → List (List Bool) → Type 0 where
    no_operand : Operands [] [] []
    operand_and : {x : ℕ} {t : TypeTree} {b : List Bool} {xs : List ℕ} {ts : List TypeTree} {bs : List (List Bool)} → Carries o.program t (closed (var x) γ δ) b → Bears net path h (wires_at scope x) b → Operands xs ts bs → Operands (x ∷ xs) (t ∷ ts) (b ∷ bs)

  pub operands_have : Ground o → AreTermTypes (setting_at o) [] (types_in scope) → (ts : List TypeTree) (xs : List ℕ) → AreGiven (setting_at o) [] (types_in scope) ts (names xs)
      → ((i x : ℕ) (it : Variable) → slice_get xs i ≡ Some x → slice_get scope x ≡ Some it → HasBits o.program net path h γ x it) → (bs : List (List Bool)) × Operands xs ts bs
  operands_have ground scoped [] [] given has = ([], no_operand)
  operands_have ground scoped [] (x ∷ xs) given has = absurd given
  operands_have ground scoped (t ∷ ts) [] given has = absurd given
  operands_have ground scoped (t ∷ ts) (x ∷ xs) given has =
      let one : OperandHas o.program γ δ net path h scope x t = operand_has facts o ground scope scoped γ δ net path h x t t given.0 (facts.same.same_self t) (λ it e. has 0 x it refl e) in
      let rest = operands_have ground scoped ts xs given.1 (λ i y it e f. has (suc i) y it e f) in
      (one.bits ∷ rest.0, operand_and one.carries one.bears rest.1)
