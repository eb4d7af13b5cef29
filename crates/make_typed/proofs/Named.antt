-- A description that agrees with that of a filter in all but the places of words has no fault of names.
use Rattle.std.specs.Prelude.{◌≡◌, ℕ, ◌≤◌, false, not, ◌||◌, nat_lt, List, [], ◌∷◌, ◌++◌, map, flat_map, codes, count_by, None, refl, if◌then◌else◌}
use Rattle.std.specs.List.{list_any}
use Rattle.std.proofs.Common.{ap, subst, sym, ◌∙◌}
use Rattle.chw_base.specs.declared.limits.TheConstants.{DATA_TYPES, DEFINITIONS, DOMAINS, LITERAL_VALUE_BITS, TYPE_NUMERAL_BITS, WRITTEN_VECTOR}
use Rattle.chw_grammar.specs.declared.program.Declaration.{Declaration}
use Rattle.chw_grammar.specs.declared.program.Top.{Top}
use Rattle.chw_grammar.specs.declared.program.Tree.{Tree}
use Rattle.chw_grammar.specs.declared.word.Word.{Word}
use Rattle.chw_grammar.specs.Places.{bare_term, bare_type, bare_word}
use Rattle.chw_grammar.specs.TermTree.{Tm}
use Rattle.chw_grammar.specs.TypeTree.{Ty}
use Rattle.chw_limits.specs.declared.which.Which.TheVariants.{Data, Definitions, Domains, Number, Vector}
use Rattle.chw_limits.specs.Limits.{great_numbers, great_values, limit, limit_of, long_vectors}
use Rattle.chw_limits.specs.Parts.{Tests, declaration_has, is_data_type, is_definition, is_domain, term_has, tree_has, type_has}
use Rattle.chw_names.specs.declared.globals.Globals.{Globals}
use Rattle.chw_names.specs.Twices.{declaration_twices, global_twices, term_twices, top_twices, twices}
use Rattle.chw_names.specs.Unknowns.{declaration_unknowns, term_unknowns, top_unknowns, type_unknowns, unknowns}
use Rattle.chw_names.specs.Words.{seconds, when}
use Rattle.chw_prims.specs.Names.{primitive_names}
use Rattle.chw_resolve.specs.Faults.{IsWellNamed}
use Rattle.chw_terms.specs.declared.program.Def.{Def}
use Rattle.chw_terms.specs.References.{DataRefers, DefRefers}
use Rattle.chw_types.specs.declared.declarations.Data.{Data as DataType}
use Rattle.chw_types.specs.BuiltIn.{built_in}
use Rattle.graph_order.specs.References.{HasNoCycle}
use Rattle.name_tables.specs.Names.{is_among}
use Rattle.make_text.specs.MakeTree.{main_term, main_type, plus_term, plus_type, word}
use Rattle.make_typed.proofs.Fields.{data_acyclic}
use Rattle.make_typed.proofs.Globals.{globals, globals_are}
use Rattle.make_typed.proofs.Known.{main_known, main_once}
use Rattle.make_typed.proofs.Parts.{term_had, type_had}
use Rattle.make_typed.proofs.Places.{none_as, none_bare, seconds_bare, term_twice, term_unknown, type_unknown}
use Rattle.make_typed.proofs.Programs.{datas_are, defs_acyclic, defs_are}
use Rattle.make_typed.proofs.Shape.{IsShaped}
use Rattle.make_typed.proofs.Within.{PassNone, long_none, main_type_within, main_within, numbers_none, plus_type_within, plus_within, values_none}

-- what holds of a part of the filter holds of one that agrees in all but places

type_within : (tests : Tests) (t u : Ty) → bare_type t ≡ bare_type u → type_has tests u ≡ false → type_has tests t ≡ false
type_within tests t u same none = sym (type_had tests t) ∙ ap (type_has tests) same ∙ type_had tests u ∙ none

term_within : (tests : Tests) (e f : Tm) → bare_term e ≡ bare_term f → term_has tests f ≡ false → term_has tests e ≡ false
term_within tests e f same none = sym (term_had tests e) ∙ ap (term_has tests) same ∙ term_had tests f ∙ none

type_known : (t u : Ty) → bare_type t ≡ bare_type u → type_unknowns globals [] u ≡ [] → type_unknowns globals [] t ≡ []
type_known t u same none =
    none_as (type_unknowns globals [] t) (type_unknowns globals [] u) (type_unknowns globals [] (bare_type u))
    (type_unknown globals [] t ∙ ap (type_unknowns globals []) same) (type_unknown globals [] u) none

term_known : (e f : Tm) → bare_term e ≡ bare_term f → term_unknowns globals [] [] f ≡ [] → term_unknowns globals [] [] e ≡ []
term_known e f same none =
    none_as (term_unknowns globals [] [] e) (term_unknowns globals [] [] f) (term_unknowns globals [] [] (bare_term f))
    (term_unknown globals [] [] e ∙ ap (term_unknowns globals [] []) same) (term_unknown globals [] [] f) none

term_once : (e f : Tm) → bare_term e ≡ bare_term f → term_twices f ≡ [] → term_twices e ≡ []
term_once e f same none =
    none_as (term_twices e) (term_twices f) (term_twices (bare_term f)) (term_twice e ∙ ap term_twices same) (term_twice f) none

words_once : (known : List (List ℕ)) (ws us : List Word) → map bare_word ws ≡ us → seconds known us ≡ [] → seconds known ws ≡ []
words_once known ws us same none = none_bare (seconds known ws) (seconds_bare known ws ∙ ap (seconds known) same ∙ none)

-- the terms and types of `plus`

plus_known : term_unknowns globals [] [] plus_term ≡ []
plus_known = refl

plus_once : term_twices plus_term ≡ []
plus_once = refl

-- a tree with so many declarations of each sort

no_limit : (tree : Tree) → count_by is_definition tree.declarations ≡ 2 → count_by is_data_type tree.declarations ≡ 0 → count_by is_domain tree.declarations ≡ 2
    → tree_has long_vectors tree ≡ false → tree_has great_values tree ≡ false → tree_has great_numbers tree ≡ false → limit_of tree ≡ None
no_limit tree a b c d e f = λ i.
    if nat_lt DEFINITIONS (a i) then limit Definitions DEFINITIONS
    else (if nat_lt DATA_TYPES (b i) then limit Data DATA_TYPES
    else (if nat_lt DOMAINS (c i) then limit Domains DOMAINS
    else (if d i then limit Vector WRITTEN_VECTOR
    else (if e i then limit Number LITERAL_VALUE_BITS
    else (if f i then limit Number TYPE_NUMERAL_BITS
    else None)))))

module _ (taps : ℕ) (tree : Tree) (shape : IsShaped taps tree) (some : 1 ≤ taps) (few : taps ≤ WRITTEN_VECTOR) where
  tree_within : (tests : Tests) → PassNone tests taps → tree_has tests tree ≡ false
  tree_within tests none =
      let a = type_within tests shape.adder_type plus_type shape.adder_type_is (plus_type_within tests taps none) in
      let b = term_within tests shape.adder_term plus_term shape.adder_term_is (plus_within tests taps none) in
      let c = type_within tests shape.type main_type shape.type_is (main_type_within tests taps none) in
      let d = term_within tests shape.term (main_term taps) shape.term_is (main_within tests taps none some few) in
      ap (list_any (declaration_has tests)) shape.declarations ∙ (λ i. (a i || b i) || ((c i || d i) || false))

  within_limits : limit_of tree ≡ None
  within_limits =
      no_limit tree (ap (count_by is_definition) shape.declarations) (ap (count_by is_data_type) shape.declarations) (ap (count_by is_domain) shape.declarations)
      (tree_within long_vectors (long_none taps few)) (tree_within great_values (values_none taps)) (tree_within great_numbers (numbers_none taps few))

  top_once : top_twices tree.top ≡ []
  top_once =
      let inputs = words_once [] tree.top.inputs (word (codes "x") ∷ []) (ap (λ (t : Top). t.inputs) shape.top_is) refl in
      let outputs = words_once [] tree.top.outputs (word (codes "o") ∷ []) (ap (λ (t : Top). t.outputs) shape.top_is) refl in
      λ i. inputs i ++ outputs i

  all_once : twices tree ≡ []
  all_once =
      let domains = words_once [] (shape.first ∷ shape.second ∷ []) (word (codes "A") ∷ word (codes "B") ∷ []) (λ i. shape.first_is i ∷ shape.second_is i ∷ []) refl in
      let definitions = words_once primitive_names (shape.adder ∷ shape.main ∷ []) (word (codes "plus") ∷ word (codes "main") ∷ []) (λ i. shape.adder_is i ∷ shape.main_is i ∷ []) refl in
      let adder = term_once shape.adder_term plus_term shape.adder_term_is plus_once in
      let main = term_once shape.term (main_term taps) shape.term_is (main_once taps few) in
      ap (λ (ds : List Declaration). global_twices ds ++ flat_map declaration_twices ds ++ top_twices tree.top) shape.declarations
      ∙ (λ i. (domains i ++ [] ++ [] ++ definitions i) ++ (adder i ++ (main i ++ [])) ++ top_once i)

  top_known : top_unknowns globals tree.top ≡ []
  top_known =
      ap (λ (n : List ℕ). when (is_among primitive_names n || not (is_among globals.definitions n)) tree.top.definition)
      (ap (λ (t : Top). t.definition.bytes) shape.top_is)

  all_known : unknowns tree ≡ []
  all_known =
      let a = type_known shape.adder_type plus_type shape.adder_type_is refl in
      let b = term_known shape.adder_term plus_term shape.adder_term_is plus_known in
      let c = type_known shape.type main_type shape.type_is refl in
      let d = term_known shape.term (main_term taps) shape.term_is (main_known taps some) in
      ap (λ (g : Globals). flat_map (declaration_unknowns g) tree.declarations ++ top_unknowns g tree.top) (globals_are taps tree shape)
      ∙ ap (λ (ds : List Declaration). flat_map (declaration_unknowns globals) ds ++ top_unknowns globals tree.top) shape.declarations
      ∙ (λ i. ((a i ++ b i) ++ ((c i ++ d i) ++ [])) ++ top_known i)

  pub well_named : IsWellNamed tree
  well_named = record {
    names = record { limits = within_limits; once = all_once; known = all_known };
    data_acyclic =
        subst (λ (ds : List DataType). HasNoCycle (DataRefers ds)) (sym (ap (λ (ds : List DataType). built_in ++ ds) (datas_are taps tree shape))) data_acyclic;
    defs_acyclic = subst (λ (ds : List Def). HasNoCycle (DefRefers ds)) (sym (defs_are taps tree shape)) (defs_acyclic taps some few);
  }
