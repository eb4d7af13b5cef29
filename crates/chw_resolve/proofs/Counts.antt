-- A description within its limits has few data types and definitions.
use Rattle.std.proofs.Common.{◌≡◌, ℕ, ◌+◌, ◌<◌, ◌≤◌, ◌^◌, Bool, true, false, cond, List, [], ◌∷◌, length, map, Option, Some, None, refl, ap, ◌∙◌, arith}
use Rattle.std.specs.List.{flat_map, count_by}
use Rattle.std.proofs.lemmas.Bool.{ltb-false}
use Rattle.std.proofs.lemmas.List.{length-map}
use Rattle.std.proofs.lemmas.List.Sums.{sum_by-cons}
use Rattle.chw_base.specs.declared.limits.TheConstants.{DEFINITIONS, DATA_TYPES}
use Rattle.chw_grammar.specs.declared.program.Declaration.{Declaration}
use Rattle.chw_grammar.specs.declared.program.Declaration.TheVariants as declaration
use Rattle.chw_grammar.specs.declared.program.Tree.{Tree}
use Rattle.chw_limits.specs.Limits.{limit_of}
use Rattle.chw_limits.specs.Parts.{is_definition, is_data_type}
use Rattle.chw_names.specs.declared.globals.Globals.{Globals}
use Rattle.chw_names.specs.Globals.{globals_of}
use Rattle.chw_resolve.specs.Faults.{data_types_of, definitions_of}
use Rattle.chw_terms.specs.declared.program.Def.{Def}
use Rattle.chw_types.specs.declared.declarations.Data.{Data}
use Rattle.chw_resolve.specs.Programs.{datas_in, defs_in, without_kind}

-- a limit that isn't passed, and those behind it
not_passed : {X : Type 0} (b : Bool) (x : X) (o : Option X) → cond b (Some x) o ≡ None → (b ≡ false) × (o ≡ None)
not_passed true x o e = absurd (cc)
not_passed false x o e = (refl, e)

defs_counted : (g : Globals) (ds : List Declaration) → count_by is_definition ds ≡ length (flat_map (defs_in g) ds)
defs_counted g [] = refl
defs_counted g (declaration.Domain w has_reset ∷ ds) = sum_by-cons (λ (x : Declaration). cond (is_definition x) 1 0) (declaration.Domain w has_reset) ds ∙ (let e = defs_counted g ds in omega (arith, e))
defs_counted g (declaration.Data w ps cs ∷ ds) = sum_by-cons (λ (x : Declaration). cond (is_definition x) 1 0) (declaration.Data w ps cs) ds ∙ (let e = defs_counted g ds in omega (arith, e))
defs_counted g (declaration.Def w t e ∷ ds) = sum_by-cons (λ (x : Declaration). cond (is_definition x) 1 0) (declaration.Def w t e) ds ∙ (let e = defs_counted g ds in omega (arith, e))

datas_counted : (g : Globals) (ds : List Declaration) → count_by is_data_type ds ≡ length (flat_map (datas_in g) ds)
datas_counted g [] = refl
datas_counted g (declaration.Domain w has_reset ∷ ds) = sum_by-cons (λ (x : Declaration). cond (is_data_type x) 1 0) (declaration.Domain w has_reset) ds ∙ (let e = datas_counted g ds in omega (arith, e))
datas_counted g (declaration.Data w ps cs ∷ ds) = sum_by-cons (λ (x : Declaration). cond (is_data_type x) 1 0) (declaration.Data w ps cs) ds ∙ (let e = datas_counted g ds in omega (arith, e))
datas_counted g (declaration.Def w t e ∷ ds) = sum_by-cons (λ (x : Declaration). cond (is_data_type x) 1 0) (declaration.Def w t e) ds ∙ (let e = datas_counted g ds in omega (arith, e))

record Few (tree : Tree) : Type 0 where
  defs : count_by is_definition tree.declarations ≤ DEFINITIONS
  datas : count_by is_data_type tree.declarations ≤ DATA_TYPES

few : (tree : Tree) → limit_of tree ≡ None → Few tree
few tree within =
    let first = not_passed _ _ _ within in
    let second = not_passed _ _ _ first.1 in
    record { defs = ltb-false _ _ first.0; datas = ltb-false _ _ second.0 }

pub few_defs : (tree : Tree) (defs : List Def) → limit_of tree ≡ None → defs ≡ definitions_of tree → length defs < 2 ^ 32
few_defs tree defs within same =
    let most = (few tree within).defs in
    let count = defs_counted (globals_of tree.declarations) tree.declarations in
    let size : length defs ≡ length (definitions_of tree) = ap length same in
    omega (arith, most, count, size)

pub few_datas : (tree : Tree) (datas : List Data) → limit_of tree ≡ None → map without_kind datas ≡ data_types_of tree → length datas < 2 ^ 32
few_datas tree datas within same =
    let most = (few tree within).datas in
    let count = datas_counted (globals_of tree.declarations) tree.declarations in
    let declared : ℕ = length (flat_map (datas_in (globals_of tree.declarations)) tree.declarations) in
    let size : length (map without_kind datas) ≡ 3 + declared = ap length same ∙ omega arith in
    omega (arith, most, count, size, length-map datas without_kind)
