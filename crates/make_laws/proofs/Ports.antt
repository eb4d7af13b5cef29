-- The ports of the program of a filter.
use Rattle.std.specs.Prelude.{◌≡◌, ℕ, List, [], ◌∷◌, map, codes, Option, Some, None, slice_get, option_map, refl}
use Rattle.std.proofs.Common.{sym, ap, ◌∙◌, subst}
use Rattle.std.proofs.lemmas.Option.{slice_get-map}
use Rattle.chw_base.specs.declared.index.DomId.{DomId}
use Rattle.chw_grammar.specs.declared.program.Tree.{Tree}
use Rattle.chw_grammar.specs.Places.{Same, bare_declaration, bare_top}
use Rattle.chw_layout.specs.Measured.{HasWidth, measured_scalar}
use Rattle.chw_meaning.specs.Means.{HasPorts, LeadsFrom, PortsOf, leads_from, leads_to, no_ports, port_and}
use Rattle.chw_names.specs.Globals.{globals_of}
use Rattle.chw_resolve.specs.Programs.{IsProgramOf, top_in}
use Rattle.chw_resolve.specs.Terms.{primitives}
use Rattle.chw_terms.specs.declared.program.Def.{Def}
use Rattle.chw_terms.specs.declared.program.Program.{Program}
use Rattle.chw_terms.specs.declared.program.Top.{Top}
use Rattle.chw_types.specs.declared.declarations.Data.{Data}
use Rattle.type_ports.specs.declared.ports.Leaf.{Leaf}
use Rattle.type_ports.specs.Ports.{one_leaf}
use Rattle.type_ports.specs.Representable.{representable_scalar}
use Rattle.chw_types.specs.SamePromises.{natural_value}
use Rattle.chw_types.specs.TypeTree.{TypeTree, domain, fun, signal}
use Rattle.make_text.specs.MakeTree.{make_tree}
use Rattle.make_laws.specs.MakePorts.{TakesWords, make_ports, word_leaf, word_port, word_type}
use Rattle.make_laws.proofs.Bare.{domains_alike, globals_alike, resets_alike, top_alike, type_of, types_alike, types_declared}

-- `Unsigned 16`, and a signal of it
abbrev words : TypeTree
words = word_type

abbrev words_in : ℕ → TypeTree
words_in dom = signal (domain dom) words

abbrev plus_type : TypeTree
plus_type = fun (words_in 0) (fun (words_in 0) (words_in 0))

abbrev main_type : TypeTree
main_type = fun (words_in 0) (words_in 1)

words_wide : (datas : List Data) → HasWidth datas words 16
unfolding natural_value
words_wide datas = measured_scalar

abbrev leaf : ℕ → Leaf
leaf dom = word_leaf dom

main_leads : (datas : List Data) → LeadsFrom datas main_type (leaf 0 ∷ []) (leaf 1 ∷ [])
main_leads datas =
    let a : DomId = record { number = 0 } in
    let b : DomId = record { number = 1 } in
    leads_from {ls = leaf 0 ∷ []} {ins = []} (one_leaf {dom = a} representable_scalar) (leads_to (one_leaf {dom = b} representable_scalar))

port_alone : (datas : List Data) (name : List ℕ) (dom : ℕ) → PortsOf datas (leaf dom ∷ []) (name ∷ []) (word_port name dom ∷ [])
port_alone datas name dom = port_and {w = 15} (words_wide datas) no_ports

-- what the declarations of a filter are in a program

types_are : (taps : ℕ) → types_declared (globals_of (make_tree taps).declarations) (make_tree taps).declarations ≡ plus_type ∷ main_type ∷ []
types_are taps = refl

abbrev made_top : Top
made_top = record { «def» = record { number = 1 }; inputs = codes "x" ∷ []; outputs = codes "o" ∷ [] }

top_is : (taps : ℕ) → top_in (globals_of (make_tree taps).declarations) (make_tree taps).top ≡ made_top
unfolding primitives
top_is taps = refl

-- a definition of this type
record Found (o : Option Def) (t : TypeTree) : Type 0 where
  it : Def
  held : o ≡ Some it
  type_is : it.ty ≡ t

found : (o : Option Def) (t : TypeTree) → option_map type_of o ≡ Some t → Found o t
found None t same = cc
found (Some it) t same = record { it = it; held = refl; type_is = cc }

pub made_ports : (taps : ℕ) (tree : Tree) (p : Program) → Same tree (make_tree taps) → IsProgramOf tree p → HasPorts p make_ports
made_ports taps tree p same is =
    let ds = tree.declarations in
    let es = (make_tree taps).declarations in
    let alike : map bare_declaration ds ≡ map bare_declaration es = ap (λ (t : Tree). t.declarations) same in
    let tops : bare_top tree.top ≡ bare_top (make_tree taps).top = ap (λ (t : Tree). t.top) same in
    let top : p.top ≡ made_top =
    is.top ∙ top_alike (globals_of ds) (globals_of es) tree.top (make_tree taps).top (globals_alike ds es alike) tops ∙ top_is taps in
    let types : map type_of p.defs ≡ plus_type ∷ main_type ∷ [] = ap (map type_of) is.defs ∙ types_alike ds es alike ∙ types_are taps in
    let second : option_map type_of (slice_get p.defs 1) ≡ Some main_type =
    sym (slice_get-map type_of p.defs 1) ∙ ap (λ (ts : List TypeTree). slice_get ts 1) types in
    let main = found (slice_get p.defs 1) main_type second in
    record {
      it = main.it;
      ins = leaf 0 ∷ [];
      outs = leaf 1 ∷ [];
      top = record {
        held = subst (λ (k : ℕ). slice_get p.defs k ≡ Some main.it) (sym (ap (λ (t : Top). t.«def».number) top)) main.held;
        leads = subst (λ (t : TypeTree). LeadsFrom p.datas t (leaf 0 ∷ []) (leaf 1 ∷ [])) (sym main.type_is) (main_leads p.datas);
      };
      domains = sym (is.domains ∙ domains_alike ds es alike);
      resets = sym (is.resets ∙ resets_alike ds es alike);
      inputs = subst (λ (names : List (List ℕ)). PortsOf p.datas (leaf 0 ∷ []) names make_ports.inputs) (sym (ap (λ (t : Top). t.inputs) top)) (port_alone p.datas (codes "x") 0);
      outputs = subst (λ (names : List (List ℕ)). PortsOf p.datas (leaf 1 ∷ []) names make_ports.outputs) (sym (ap (λ (t : Top). t.outputs) top)) (port_alone p.datas (codes "o") 1);
    }

pub takes_words : (taps : ℕ) (tree : Tree) (p : Program) → Same tree (make_tree taps) → IsProgramOf tree p → TakesWords p
unfolding made_ports
takes_words taps tree p same is = record { has = made_ports taps tree p same is; input = refl }
