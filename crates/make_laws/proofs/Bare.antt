-- The places of words are no matter to what a description declares.
use Rattle.std.specs.Prelude.{◌≡◌, ℕ, suc, true, false, List, [], ◌∷◌, ◌++◌, map, flat_map, refl}
use Rattle.std.proofs.Common.{sym, ap, ◌∙◌}
use Rattle.std.proofs.lemmas.List.{map-append}
use Rattle.chw_grammar.specs.declared.program.Constructor.{Constructor}
use Rattle.chw_grammar.specs.declared.program.Declaration.{Declaration}
use Rattle.chw_grammar.specs.declared.program.Declaration.TheVariants.{Data, Def, Domain}
use Rattle.chw_grammar.specs.declared.word.Word.{Word}
use Rattle.chw_grammar.specs.declared.program.Top.{Top}
use Rattle.chw_grammar.specs.Places.{bare_constructor, bare_declaration, bare_top, bare_type, bare_types, bare_word}
use Rattle.chw_grammar.specs.TypeTree.{Ty, type_forall, type_arrow, type_sum, type_product, type_named, type_variable, type_numeral, Tys}
use Rattle.chw_grammar.specs.TypeTree as written
use Rattle.chw_names.specs.declared.globals.Globals.{Globals}
use Rattle.chw_names.specs.declared.space.Space.{Space}
use Rattle.chw_names.specs.declared.space.Space.TheVariants.{Constructors, DataTypes, Definitions, Domains}
use Rattle.chw_names.specs.Globals.{built_in, constructor_name, globals_of, words_in}
use Rattle.chw_names.specs.Words.{bytes_of, names_of, with_names}
use Rattle.chw_resolve.specs.Programs.{defs_in, domains_in, resets_from, top_in}
use Rattle.chw_resolve.specs.Types.{at_arguments, chain_of, data_types_in, kind_in, named_type, type_in, types_in}
use Rattle.chw_terms.specs.declared.program.Def.{Def as Definition}
use Rattle.chw_types.specs.TypeTree.{TypeTree, for_all, fun, nat_product, nat_sum, type_and}

-- words and names

names_bare : (ws : List Word) → names_of (map bare_word ws) ≡ names_of ws
names_bare [] = refl
names_bare (w ∷ ws) = ap (λ (names : List (List ℕ)). w.bytes ∷ names) (names_bare ws)

constructors_bare : (cs : List Constructor) → names_of (flat_map constructor_name (map bare_constructor cs)) ≡ names_of (flat_map constructor_name cs)
constructors_bare [] = refl
constructors_bare (c ∷ cs) = ap (λ (names : List (List ℕ)). c.name.bytes ∷ names) (constructors_bare cs)

words_bare : (space : Space) (x : Declaration) → names_of (words_in space (bare_declaration x)) ≡ names_of (words_in space x)
words_bare Domains (Domain w has_reset) = refl
words_bare Domains (Data w ps cs) = refl
words_bare Domains (Def w t e) = refl
words_bare DataTypes (Domain w has_reset) = refl
words_bare DataTypes (Data w ps cs) = refl
words_bare DataTypes (Def w t e) = refl
words_bare Constructors (Domain w has_reset) = refl
words_bare Constructors (Data w ps cs) = constructors_bare cs
words_bare Constructors (Def w t e) = refl
words_bare Definitions (Domain w has_reset) = refl
words_bare Definitions (Data w ps cs) = refl
words_bare Definitions (Def w t e) = refl

declared_bare : (space : Space) (ds : List Declaration)
    → names_of (flat_map (words_in space) (map bare_declaration ds)) ≡ names_of (flat_map (words_in space) ds)
declared_bare space [] = refl
declared_bare space (d ∷ ds) =
    map-append bytes_of (words_in space (bare_declaration d)) (flat_map (words_in space) (map bare_declaration ds))
    ∙ (λ i. words_bare space d i ++ declared_bare space ds i)
    ∙ sym (map-append bytes_of (words_in space d) (flat_map (words_in space) ds))

globals_bare : (ds : List Declaration) → globals_of (map bare_declaration ds) ≡ globals_of ds
globals_bare ds = λ i. record {
  domains = with_names (built_in Domains) (declared_bare Domains ds i);
  data_types = with_names (built_in DataTypes) (declared_bare DataTypes ds i);
  constructors = with_names (built_in Constructors) (declared_bare Constructors ds i);
  definitions = with_names (built_in Definitions) (declared_bare Definitions ds i);
}

-- types

mutual
  pub type_bare : (g : Globals) (variables : List (List ℕ)) (t : Ty) → type_in g variables (bare_type t) ≡ type_in g variables t
  type_bare g variables (type_forall w k t) = λ i. for_all (kind_in k) (type_bare g (w.bytes ∷ variables) t i)
  type_bare g variables (type_arrow a b) = λ i. fun (type_bare g variables a i) (type_bare g variables b i)
  type_bare g variables (type_sum ts) = λ i. chain_of nat_sum (types_bare g variables ts i)
  type_bare g variables (type_product ts) = λ i. chain_of nat_product (types_bare g variables ts i)
  type_bare g variables (type_named w ts) = λ i. at_arguments (data_types_in g) (named_type g w.bytes) (types_bare g variables ts i)
  type_bare g variables (type_variable w) = refl
  type_bare g variables (type_numeral w) = refl

  types_bare : (g : Globals) (variables : List (List ℕ)) (ts : Tys) → types_in g variables (bare_types ts) ≡ types_in g variables ts
  types_bare g variables written.no_types = refl
  types_bare g variables (written.type_and t ts) = λ i. type_and (type_bare g variables t i) (types_bare g variables ts i)

-- domains and resets

domains_bare : (ds : List Declaration) → flat_map domains_in (map bare_declaration ds) ≡ flat_map domains_in ds
domains_bare [] = refl
domains_bare (Domain w has_reset ∷ ds) = ap (λ (names : List (List ℕ)). w.bytes ∷ names) (domains_bare ds)
domains_bare (Data w ps cs ∷ ds) = domains_bare ds
domains_bare (Def w t e ∷ ds) = domains_bare ds

resets_bare : (number : ℕ) (ds : List Declaration) → resets_from number (map bare_declaration ds) ≡ resets_from number ds
resets_bare number [] = refl
resets_bare number (Domain w true ∷ ds) = λ i. record { number = number } ∷ resets_bare (suc number) ds i
resets_bare number (Domain w false ∷ ds) = resets_bare (suc number) ds
resets_bare number (Data w ps cs ∷ ds) = resets_bare number ds
resets_bare number (Def w t e ∷ ds) = resets_bare number ds

-- definitions

abbrev pub type_of : Definition → TypeTree
type_of it = it.ty

-- the types of the definitions that are declared
abbrev pub types_declared : Globals → List Declaration → List TypeTree
types_declared g [] = []
types_declared g (Domain w has_reset ∷ ds) = types_declared g ds
types_declared g (Data w ps cs ∷ ds) = types_declared g ds
types_declared g (Def w t e ∷ ds) = type_in g [] t ∷ types_declared g ds

pub types_of_defs : (g : Globals) (ds : List Declaration) → map type_of (flat_map (defs_in g) ds) ≡ types_declared g ds
types_of_defs g [] = refl
types_of_defs g (Domain w has_reset ∷ ds) = types_of_defs g ds
types_of_defs g (Data w ps cs ∷ ds) = types_of_defs g ds
types_of_defs g (Def w t e ∷ ds) = ap (λ (ts : List TypeTree). type_in g [] t ∷ ts) (types_of_defs g ds)

types_declared_bare : (g : Globals) (ds : List Declaration) → types_declared g (map bare_declaration ds) ≡ types_declared g ds
types_declared_bare g [] = refl
types_declared_bare g (Domain w has_reset ∷ ds) = types_declared_bare g ds
types_declared_bare g (Data w ps cs ∷ ds) = types_declared_bare g ds
types_declared_bare g (Def w t e ∷ ds) = λ i. type_bare g [] t i ∷ types_declared_bare g ds i

-- the top

top_bare : (g : Globals) (x : Top) → top_in g (bare_top x) ≡ top_in g x
top_bare g x = λ i. record {
  «def» = (top_in g x).«def»;
  inputs = names_bare x.inputs i;
  outputs = names_bare x.outputs i;
}

-- declarations that agree in all but places declare the same

abbrev Alike : List Declaration → List Declaration → Type 0
Alike ds es = map bare_declaration ds ≡ map bare_declaration es

pub globals_alike : (ds es : List Declaration) → Alike ds es → globals_of ds ≡ globals_of es
globals_alike ds es same = sym (globals_bare ds) ∙ ap globals_of same ∙ globals_bare es

pub domains_alike : (ds es : List Declaration) → Alike ds es → flat_map domains_in ds ≡ flat_map domains_in es
domains_alike ds es same = sym (domains_bare ds) ∙ ap (flat_map domains_in) same ∙ domains_bare es

pub resets_alike : (ds es : List Declaration) → Alike ds es → resets_from 0 ds ≡ resets_from 0 es
resets_alike ds es same = sym (resets_bare 0 ds) ∙ ap (resets_from 0) same ∙ resets_bare 0 es

pub types_alike : (ds es : List Declaration) → Alike ds es
    → map type_of (flat_map (defs_in (globals_of ds)) ds) ≡ types_declared (globals_of es) es
types_alike ds es same =
    types_of_defs (globals_of ds) ds ∙ ap (λ (g : Globals). types_declared g ds) (globals_alike ds es same)
    ∙ sym (types_declared_bare (globals_of es) ds) ∙ ap (types_declared (globals_of es)) same ∙ types_declared_bare (globals_of es) es

pub top_alike : (g h : Globals) (x y : Top) → g ≡ h → bare_top x ≡ bare_top y → top_in g x ≡ top_in h y
top_alike g h x y globals same = ap (λ (names : Globals). top_in names x) globals ∙ sym (top_bare h x) ∙ ap (top_in h) same ∙ top_bare h y
