-- The data types and definitions of single declarations.
use Rattle.std.proofs.Common.{◌≡◌, ℕ, List, [], map}
use Rattle.chw_grammar.specs.declared.program.Constructor.{Constructor}
use Rattle.chw_grammar.specs.declared.program.Parameter.{Parameter}
use Rattle.chw_grammar.specs.declared.word.Word.{Word}
use Rattle.chw_grammar.specs.TermTree.{Tm}
use Rattle.chw_grammar.specs.TypeTree.{Ty}
use Rattle.chw_names.specs.declared.globals.Globals.{Globals}
use Rattle.chw_terms.specs.declared.program.Def.{Def}
use Rattle.chw_terms.specs.TermTree.{TermTree}
use Rattle.chw_types.specs.declared.declarations.ConDecl.{ConDecl}
use Rattle.chw_types.specs.declared.kind.Kind.{Kind}
use Rattle.chw_types.specs.BuiltIn.{data_type_of}
use Rattle.chw_types.specs.TypeTree.{TypeTree}
use Rattle.chw_resolve.specs.Programs.{constructor_in, data_type_in, definition_in, parameter_kind, parameters_in}
use Rattle.chw_resolve.specs.Terms.{term_in}
use Rattle.chw_resolve.specs.Types.{type_in}

pub data_type_made : (g : Globals) (w : Word) (ps : List Parameter) (cs : List Constructor) {name : List ℕ} {params : List Kind} {cons : List ConDecl} → name ≡ w.bytes → params ≡ map parameter_kind ps
    → cons ≡ map (constructor_in g (parameters_in ps)) cs → data_type_of name params cons ≡ data_type_in g w ps cs
data_type_made g w ps cs named kinds made = λ j. data_type_of (named j) (kinds j) (made j)

abbrev definition_of : List ℕ → TypeTree → TermTree → Def
definition_of name ty body = record { name = name; ty = ty; body = body }

pub definition_made : (g : Globals) (w : Word) (t : Ty) (e : Tm) {name : List ℕ} {ty : TypeTree} {body : TermTree} → name ≡ w.bytes → ty ≡ type_in g [] t → body ≡ term_in g [] [] e
    → definition_of name ty body ≡ definition_in g w t e
definition_made g w t e named typed made = λ j. definition_of (named j) (typed j) (made j)
