-- Names of whole descriptions that nothing declares.
use Rattle.std.proofs.Common.{◌≡◌, ℕ, List, [], ◌++◌, Option, None, Bor, ◌∙◌, ap}
use Rattle.std.specs.List.{flat_map}
use Rattle.std.specs.Option.{MatchOption}
use Rattle.chw_grammar.specs.declared.program.Constructor.{Constructor}
use Rattle.chw_grammar.specs.declared.program.Declaration.{Declaration}
use Rattle.chw_grammar.specs.declared.program.Declaration.TheVariants.{Data, Def}
use Rattle.chw_grammar.specs.declared.program.Parameter.{Parameter}
use Rattle.chw_grammar.specs.declared.program.Tree.{Tree}
use Rattle.chw_grammar.specs.declared.word.Word.{Word}
use Rattle.chw_grammar.specs.TermTree.{Tm}
use Rattle.chw_grammar.specs.TypeTree.{Ty}
use Rattle.chw_names.specs.declared.globals.Globals.{Globals}
use Rattle.chw_names.specs.Globals.{globals_of}
use Rattle.chw_names.specs.Twices.{parameter_name}
use Rattle.chw_names.specs.Unknowns.{Walks, Scopes, within, type_unknowns, term_unknowns, constructor_unknowns, declaration_unknowns, top_unknowns, unknowns}
use Rattle.chw_names.specs.Words.{IsLeast, Meets, least_of, word_met}
use Rattle.chw_names.proofs.Earliest.{shows_least}

pub data_meets : (g : Globals) (w : Word) (ps : List Parameter) (cs : List Constructor) {whole : Declaration} {names : List (List ℕ)} {met last : Option Word} → Data w ps cs ≡ whole → names ≡ []
    → Meets met last (flat_map (constructor_unknowns g (within (flat_map parameter_name ps) names)) cs) → Meets met last (declaration_unknowns g whole)
data_meets g w ps cs {met = met} is none all = record {
  least = all.least ∙ ap (λ names. least_of met (flat_map (constructor_unknowns g (within (flat_map parameter_name ps) names)) cs)) none
      ∙ ap (λ d. least_of met (declaration_unknowns g d)) is;
}

pub def_meets : (g : Globals) (w : Word) (t : Ty) (e : Tm) {whole : Declaration} {types types1 values values1 : List (List ℕ)} {met last : Option Word} → Def w t e ≡ whole → types ≡ [] → values ≡ []
    → Walks Scopes (types, values) (types1, values1) met last (type_unknowns g types t ++ term_unknowns g types values e) → Meets met last (declaration_unknowns g whole)
def_meets g w t e {values = values} {met = met} is no_types no_values all = record {
  least = all.least ∙ ap (λ names. least_of met (type_unknowns g names t ++ term_unknowns g names values e)) no_types
      ∙ ap (λ names. least_of met (type_unknowns g [] t ++ term_unknowns g [] names e)) no_values ∙ ap (λ d. least_of met (declaration_unknowns g d)) is;
}

pub tree_least : (tree : Tree) (ds : List Declaration) (g : Globals) (found : Option (Bor Word)) → ds ≡ tree.declarations → g ≡ globals_of ds
    → word_met found ≡ least_of None (flat_map (declaration_unknowns g) tree.declarations ++ top_unknowns g tree.top)
    → MatchOption found (unknowns tree ≡ []) (λ (w : Bor Word). IsLeast (unknowns tree) w.now)
tree_least tree ds g found is globals shown =
    shows_least (unknowns tree) found
    (shown ∙ ap (λ names. least_of None (flat_map (declaration_unknowns names) tree.declarations ++ top_unknowns names tree.top)) (globals ∙ ap globals_of is))
