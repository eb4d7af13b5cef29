-- The program of a description that was read and breaks nothing is tidy.
use Rattle.std.proofs.Common.{◌≡◌, ℕ, ◌<◌, List, [], ◌∷◌, ◌++◌, length, refl, sym, ap, ◌∙◌, subst}
use Rattle.std.specs.List.{flat_map}
use Rattle.chw_grammar.specs.declared.program.Declaration.{Declaration}
use Rattle.chw_grammar.specs.declared.program.Declaration.TheVariants as declaration
use Rattle.chw_grammar.specs.declared.program.Tree.{Tree}
use Rattle.chw_grammar.specs.declared.word.Word.{Word}
use Rattle.chw_names.specs.declared.space.Space.TheVariants.{Domains, DataTypes, Constructors, Definitions}
use Rattle.chw_names.specs.Globals.{words_in, globals_of}
use Rattle.chw_names.specs.Twices.{space_twices, global_twices, declaration_twices, top_twices, twices}
use Rattle.chw_names.specs.Words.{names_of, seconds}
use Rattle.chw_terms.specs.declared.program.Def.{Def}
use Rattle.chw_terms.specs.declared.program.Program.{Program}
use Rattle.chw_terms.specs.declared.program.Top.{Top}
use Rattle.chw_base.specs.Names.{IsUpper, IsLower}
use Rattle.chw_base.specs.Ordered.{AreOrdered}
use Rattle.chw_terms.specs.Names.{AreNames}
use Rattle.chw_terms.specs.References.{DefRefers}
use Rattle.graph_order.specs.References.{HasNoCycle}
use Rattle.chw_terms.specs.Tidy.{IsTidy}
use Rattle.chw_resolve.specs.Faults.{HasNames, IsWellNamed, data_types_of}
use Rattle.chw_resolve.specs.Kinds.{GetsKinds}
use Rattle.chw_resolve.specs.Written.{WasRead}
use Rattle.chw_resolve.proofs.Begins.{begins}
use Rattle.chw_resolve.proofs.Carried.{no_cycle_carried, same_but_kinds}
use Rattle.chw_resolve.proofs.Distinct.{are_names}
use Rattle.chw_resolve.proofs.Empty.{left_nil, right_nil}
use Rattle.chw_resolve.proofs.Inhabited.{inhabited}
use Rattle.chw_resolve.proofs.Places.{top_below}
use Rattle.chw_resolve.proofs.Resets.{resets_ordered}
use Rattle.chw_resolve.proofs.Shaped.{names_formed}
use Rattle.chw_resolve.specs.Programs.{IsProgramOf, domains_in, datas_in, top_in}

-- the program stays that of the tree when its data types get their kinds
pub program_kept : (tree : Tree) (before after : Program) → IsProgramOf tree before → GetsKinds before after → IsProgramOf tree after
program_kept tree before after p got = record {
  domains = got.domains ∙ p.domains;
  resets = got.resets ∙ p.resets;
  datas = got.datas ∙ p.datas;
  defs = got.defs ∙ p.defs;
  top = got.top ∙ p.top;
}

-- the names of domains, and those of the top, of which none is declared twice
record Once (tree : Tree) : Type 0 where
  domains : space_twices tree.declarations Domains ≡ []
  inputs : seconds [] tree.top.inputs ≡ []
  outputs : seconds [] tree.top.outputs ≡ []

declared_once : (tree : Tree) → twices tree ≡ [] → Once tree
declared_once tree none =
    let ds = tree.declarations in
    let domains : List Word = space_twices ds Domains in
    let datas : List Word = space_twices ds DataTypes in
    let constructors : List Word = space_twices ds Constructors in
    let within : List Word = flat_map declaration_twices ds in
    let outer = left_nil (global_twices ds ++ within) (top_twices tree.top) none in
    let top = right_nil (global_twices ds ++ within) (top_twices tree.top) none in
    let global = left_nil (global_twices ds) within outer in
    let three = left_nil (domains ++ datas ++ constructors) (space_twices ds Definitions) global in
    record {
      domains = left_nil domains datas (left_nil (domains ++ datas) constructors three);
      inputs = left_nil (seconds [] tree.top.inputs) (seconds [] tree.top.outputs) top;
      outputs = right_nil (seconds [] tree.top.inputs) (seconds [] tree.top.outputs) top;
    }

domains_are : (ds : List Declaration) → names_of (flat_map (words_in Domains) ds) ≡ flat_map domains_in ds
domains_are [] = refl
domains_are (declaration.Domain w has_reset ∷ ds) = ap (λ (names : List (List ℕ)). w.bytes ∷ names) (domains_are ds)
domains_are (declaration.Data w ps cs ∷ ds) = domains_are ds
domains_are (declaration.Def w t e ∷ ds) = domains_are ds

module _ (tree : Tree) (before after : Program) (names : HasNames tree) (bare : IsProgramOf tree before) (got : GetsKinds before after) where
  made : IsProgramOf tree after
  made = program_kept tree before after bare got

  pub tidied : {text : List ℕ} → WasRead text tree → IsTidy after
  tidied read =
      let formed = names_formed tree read in
      let once = declared_once tree names.once in
      let top_is : after.top ≡ top_in (globals_of tree.declarations) tree.top = made.top in
      record {
        begins = begins after.datas (flat_map (datas_in (globals_of tree.declarations)) tree.declarations) (length after.domains) made.datas got.kinds;
        kinds = got.kinds;
        inhabited = inhabited tree after.datas read made.datas;
        data_acyclic = got.data_acyclic;
        defs_acyclic = got.defs_acyclic;
        top_held = subst (λ (t : Top). t.«def».number < length after.defs) (sym top_is)
            (subst (λ (ds : List Def). (top_in (globals_of tree.declarations) tree.top).«def».number < length ds) (sym made.defs) (top_below tree names.known));
        domain_names = subst (AreNames IsUpper) (domains_are tree.declarations ∙ sym made.domains)
            (are_names IsUpper [] (flat_map (words_in Domains) tree.declarations) formed.domains once.domains);
        resets = subst (λ (names : List (List ℕ)). AreOrdered (length names) after.resets) (sym made.domains)
            (subst (AreOrdered (length (flat_map domains_in tree.declarations))) (sym made.resets) (resets_ordered tree.declarations));
        input_names = subst (λ (t : Top). AreNames IsLower t.inputs) (sym top_is) (are_names IsLower [] tree.top.inputs formed.inputs once.inputs);
        output_names = subst (λ (t : Top). AreNames IsLower t.outputs) (sym top_is) (are_names IsLower [] tree.top.outputs formed.outputs once.outputs);
      }

  -- and the description is well named
  pub well_named : IsWellNamed tree
  well_named = record {
    names = names;
    data_acyclic = no_cycle_carried after.datas (data_types_of tree) (same_but_kinds after.datas (data_types_of tree) made.datas) got.data_acyclic;
    defs_acyclic = subst (λ (ds : List Def). HasNoCycle (DefRefers ds)) made.defs got.defs_acyclic;
  }
