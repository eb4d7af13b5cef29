-- The parts of a program, declaration by declaration.
use Rattle.std.proofs.Common.{◌≡◌, ℕ, ◌+◌, ◌<◌, ◌≤◌, List, [], ◌∷◌, ◌++◌, length, get_or, take, map, refl, sym, ap, ◌∙◌}
use Rattle.std.specs.List.{flat_map}
use Rattle.std.proofs.lemmas.List.{append_assoc, map-append}
use Rattle.chw_grammar.specs.declared.program.Declaration.{Declaration}
use Rattle.chw_grammar.specs.declared.program.Declaration.TheVariants as declaration
use Rattle.chw_names.specs.declared.globals.Globals.{Globals}
use Rattle.chw_grammar.specs.declared.program.Tree.{Tree}
use Rattle.chw_names.specs.Globals.{globals_of}
use Rattle.chw_terms.specs.declared.program.Program.{Program}
use Rattle.chw_types.specs.declared.declarations.Data.{Data}
use Rattle.chw_types.specs.BuiltIn.{built_in}
use Rattle.chw_resolve.specs.Programs.{IsProgramOf, datas_in, defs_in, domains_in, resets_from, top_in, without_kind}
use Rattle.chw_resolve.specs.Walks.{IsDeclared}
use Rattle.chw_resolve.specs.declared.programs.Declared.{Declared}
use Rattle.chw_resolve.proofs.Lists.{gathered_more, gathered_all}

-- what is declared behind the declarations so far
pub declared_more : {Y : Type 0} (f : Declaration → List Y) (ds : List Declaration) (i : ℕ) (d : Declaration) (first : List Y) {so_far more : List Y} → i < length ds → d ≡ get_or ds i d
    → so_far ≡ first ++ flat_map f (take i ds) → more ≡ so_far ++ f d → more ≡ first ++ flat_map f (take (i + 1) ds)
declared_more f ds i d first lt is before adds =
    adds ∙ ap (λ ys. ys ++ f d) before ∙ append_assoc first (flat_map f (take i ds)) (f d) ∙ ap (λ ys. first ++ ys) (sym (gathered_more f ds i d lt is))

kindless : (g : Globals) (ds : List Declaration) → map without_kind (flat_map (datas_in g) ds) ≡ flat_map (datas_in g) ds
kindless g [] = refl
kindless g (declaration.Domain w has_reset ∷ ds) = kindless g ds
kindless g (declaration.Data w ps cs ∷ ds) = ap (λ (more : List Data). datas_in g (declaration.Data w ps cs) ++ more) (kindless g ds)
kindless g (declaration.Def w t e ∷ ds) = kindless g ds

-- no kind of a data type is said
pub all_kindless : (g : Globals) (ds : List Declaration) → map without_kind (built_in ++ flat_map (datas_in g) ds) ≡ built_in ++ flat_map (datas_in g) ds
all_kindless g ds = map-append without_kind built_in (flat_map (datas_in g) ds) ∙ ap (λ (more : List Data). built_in ++ more) (kindless g ds)

-- what all declarations declare
pub all_declared : (g : Globals) (ds : List Declaration) (i : ℕ) (all : Declared) → length ds ≤ i → IsDeclared g (take i ds) all → IsDeclared g ds all
all_declared g ds i all le so_far = record {
  domains = so_far.domains ∙ gathered_all domains_in ds i le;
  datas = so_far.datas ∙ ap (λ (more : List Data). built_in ++ more) (gathered_all (datas_in g) ds i le);
  defs = so_far.defs ∙ gathered_all (defs_in g) ds i le;
}

-- the program that is made of what all declarations declare
pub program_made : (tree : Tree) (p : Program) (g : Globals) (ds : List Declaration) → ds ≡ tree.declarations → g ≡ globals_of tree.declarations
    → p.domains ≡ flat_map domains_in ds → p.resets ≡ resets_from 0 ds → p.datas ≡ built_in ++ flat_map (datas_in g) ds → p.defs ≡ flat_map (defs_in g) ds → p.top ≡ top_in g tree.top
    → IsProgramOf tree p
program_made tree p g ds is names domains resets datas defs top = record {
  domains = domains ∙ ap (flat_map domains_in) is;
  resets = resets ∙ ap (resets_from 0) is;
  datas = ap (map without_kind) (datas ∙ (λ j. built_in ++ flat_map (datas_in (names j)) (is j))) ∙ all_kindless (globals_of tree.declarations) tree.declarations;
  defs = defs ∙ (λ j. flat_map (defs_in (names j)) (is j));
  top = top ∙ ap (λ (names : Globals). top_in names tree.top) names;
}
