-- The parts of a type, as lists of nodes.
use Rattle.std.proofs.Common.{◌≡◌, ℕ, ◌≤◌, List, [], ◌∷◌, length, take, map, Option, refl, sym, ap, ◌∙◌}
use Rattle.std.specs.Option.{unwrap_or}
use Rattle.chw_grammar.specs.declared.word.Word.{Word}
use Rattle.chw_grammar.specs.TypeTree.{Ty, type_named}
use Rattle.chw_grammar.specs.TypeView.{types_of}
use Rattle.chw_names.specs.declared.globals.Globals.{Globals}
use Rattle.chw_types.specs.TypeTree.{TypeTree, nat_lit, type_and}
use Rattle.chw_types.specs.TypeView.{trees_of}
use Rattle.chw_resolve.specs.Types.{at_arguments, chain_of, data_types_in, named_type, type_in, types_in}
use Rattle.chw_resolve.specs.declared.types.TypeName.{TypeName}
use Rattle.chw_resolve.proofs.Chains.{chain_so_far, chain_all}

types_each : (g : Globals) (variables : List (List ℕ)) (ts : List Ty) → types_in g variables (types_of ts) ≡ trees_of (map (type_in g variables) ts)
types_each g variables [] = refl
types_each g variables (t ∷ ts) = ap (type_and (type_in g variables t)) (types_each g variables ts)

-- what a chain and a name at arguments become, by what their parts became
pub chain_made : (join : TypeTree → TypeTree → TypeTree) (g : Globals) (variables : List (List ℕ)) (ts : List Ty) (i : ℕ) {so_far : Option TypeTree} → length ts ≤ i
    → so_far ≡ chain_so_far join (map (type_in g variables) (take i ts)) → unwrap_or so_far (nat_lit 0) ≡ chain_of join (types_in g variables (types_of ts))
chain_made join g variables ts i le before = chain_all join (type_in g variables) ts i le before ∙ ap (chain_of join) (sym (types_each g variables ts))

pub named_made : (g : Globals) (variables : List (List ℕ)) (w : Word) (ts : List Ty) {none : ℕ} {name : TypeName} {whole : Ty} {done : List TypeTree} → type_named w (types_of ts) ≡ whole
    → none ≡ data_types_in g → name ≡ named_type g w.bytes → done ≡ map (type_in g variables) ts → at_arguments none name (trees_of done) ≡ type_in g variables whole
named_made g variables w ts is number named made =
    (λ j. at_arguments (number j) (named j) (trees_of (made j)))
    ∙ ap (at_arguments (data_types_in g) (named_type g w.bytes)) (sym (types_each g variables ts)) ∙ ap (type_in g variables) is
