-- What single steps of the walks over a tree make.
use Rattle.std.specs.Prelude.{◌≡◌, ℕ, List, ◌∷◌, ◌++◌, flat_map, Option, Some, None}
use Rattle.chw_base.specs.declared.index.DomId.{DomId}
use Rattle.chw_grammar.specs.declared.program.Declaration.{Declaration}
use Rattle.chw_grammar.specs.declared.term_tree.Alternative.{Alternative}
use Rattle.chw_grammar.specs.declared.term_tree.Argument.{Argument}
use Rattle.chw_grammar.specs.declared.term_tree.Argument.TheVariants as written
use Rattle.chw_grammar.specs.declared.term_tree.Binding.{Binding as WrittenBinding}
use Rattle.chw_grammar.specs.Literals.{literal_of}
use Rattle.chw_names.specs.declared.globals.Globals.{Globals}
use Rattle.chw_names.specs.Twices.{pattern_words}
use Rattle.chw_names.specs.Unknowns.{within}
use Rattle.chw_terms.specs.declared.term.Alt.{Alt}
use Rattle.chw_terms.specs.declared.term.Arg.{Arg}
use Rattle.chw_terms.specs.declared.term.Arg.TheVariants.{OfTerm, OfType}
use Rattle.chw_terms.specs.declared.term.Binding.{Binding}
use Rattle.chw_terms.specs.TermTree.{TermTree, lit}
use Rattle.chw_types.specs.BuiltIn.{built_in}
use Rattle.chw_types.specs.TypeTree.{TypeTree, nat_sum, nat_product}
use Rattle.chw_resolve.specs.declared.programs.Declared.{Declared}
use Rattle.chw_resolve.specs.declared.types.Join.{Join}
use Rattle.chw_resolve.specs.declared.types.Join.TheVariants.{Sum, Product}
use Rattle.chw_resolve.specs.Programs.{domains_in, datas_in, defs_in, resets_from}
use Rattle.chw_resolve.specs.Literals.{sort_of, bits_in}
use Rattle.chw_resolve.specs.Terms.{pattern_in, term_in}
use Rattle.chw_resolve.specs.Types.{type_in}

-- what joins the parts of a chain
abbrev pub joined : Join → TypeTree → TypeTree → TypeTree
joined Sum = nat_sum
joined Product = nat_product

-- a chain so far with one more part behind it
abbrev pub next_in : (TypeTree → TypeTree → TypeTree) → Option TypeTree → TypeTree → TypeTree
next_in join None t = t
next_in join (Some s) t = join s t

-- an argument, by the names of the type variables and of the variables in scope
abbrev pub argument_in : Globals → (types values : List (List ℕ)) → Argument → Arg
argument_in g types values (written.OfTerm e) = OfTerm (term_in g types values e)
argument_in g types values (written.OfType t) = OfType (type_in g types t)

-- a binding, where the variables of its group are in scope
abbrev pub binding_in : Globals → (types values : List (List ℕ)) → WrittenBinding → Binding
binding_in g types values b =
    record { ty = type_in g types b.ty; body = term_in g types values b.term }

-- an alternative
abbrev pub alternative_in : Globals → (types values : List (List ℕ)) → Alternative → Alt
alternative_in g types values a =
    let inside = within (pattern_words a.pattern) values in
    record { pattern = pattern_in g a.pattern; body = term_in g types inside a.term }

-- a literal
abbrev pub literal_in : List ℕ → TermTree
literal_in bytes = let l = literal_of bytes in lit (sort_of l.letter) (bits_in l)

-- what a declaration declares stands behind all that was declared before
pub record Adds (g : Globals) (d : Declaration) (before after : Declared) : Type 0 where
  pub domains : after.domains.items ≡ before.domains.items ++ domains_in d
  pub datas : after.datas.items ≡ before.datas.items ++ datas_in g d
  pub defs : after.defs.items ≡ before.defs.items ++ defs_in g d

-- what these declarations declare, the built-in data types first
pub record IsDeclared (g : Globals) (ds : List Declaration) (all : Declared) : Type 0 where
  pub domains : all.domains.items ≡ flat_map domains_in ds
  pub datas : all.datas.items ≡ built_in ++ flat_map (datas_in g) ds
  pub defs : all.defs.items ≡ flat_map (defs_in g) ds

-- a declaration was gone through: what is listed of further ones behind it is what was to be listed
-- of it and of those
abbrev pub ListsReset : Declaration → ℕ → (before after : List DomId) → ℕ → Type 0
ListsReset d number before after next =
    (ds : List Declaration) → after ++ resets_from next ds ≡ before ++ resets_from number (d ∷ ds)
