-- The program of a filter.
use Rattle.std.specs.Prelude.{◌≡◌, ℕ, zero, suc, ◌≤◌, true, List, [], ◌∷◌, ◌++◌, map, length, flat_map, codes, Some, slice_get, refl}
use Rattle.std.proofs.Common.{ap, arith, subst, sym, ◌∙◌}
use Rattle.std.proofs.lemmas.Bool.{false≢true}
use Rattle.std.proofs.lemmas.Option.{none-some, same_Some}
use Rattle.chw_base.specs.declared.index.DomId.{DomId}
use Rattle.chw_base.specs.declared.limits.TheConstants.{WRITTEN_VECTOR}
use Rattle.chw_grammar.specs.declared.program.Tree.{Tree}
use Rattle.chw_grammar.specs.Places.{bare_term, bare_type}
use Rattle.chw_grammar.specs.TermTree.{Tm}
use Rattle.chw_grammar.specs.TypeTree.{Ty}
use Rattle.chw_names.specs.declared.globals.Globals.{Globals}
use Rattle.chw_names.specs.Globals.{globals_of}
use Rattle.chw_resolve.specs.Programs.{IsProgramOf, datas_in, defs_in, domains_in, resets_from, top_in, without_kind}
use Rattle.chw_resolve.specs.Terms.{primitives, term_in}
use Rattle.chw_resolve.specs.Types.{type_in}
use Rattle.chw_terms.specs.declared.program.Def.{Def}
use Rattle.chw_terms.specs.declared.program.Program.{Program}
use Rattle.chw_terms.specs.References.{DefRefers, names_def}
use Rattle.chw_terms.specs.Tidy.{IsTidy}
use Rattle.chw_types.specs.declared.declarations.Data.{Data}
use Rattle.chw_types.specs.declared.kind.Kind.TheVariants.{Cir}
use Rattle.chw_types.specs.BuiltIn.{built_in}
use Rattle.chw_types.proofs.SameLaws.{same_self}
use Rattle.chw_typing.specs.Programs.{AreClosed, HasItsType, IsComplete, IsTyped, LeadsToPort, from_port, to_port}
use Rattle.chw_typing.specs.Scopes.{IsTermType}
use Rattle.graph_order.specs.References.{HasNoCycle, Leads, step, step_and}
use Rattle.make_laws.proofs.Bare.{top_alike, type_bare}
use Rattle.make_text.specs.MakeTree.{main_term, main_type, make_tree, plus_term, plus_type}
use Rattle.type_ports.specs.Ports.{one_leaf}
use Rattle.type_ports.specs.Representable.{representable_scalar}
use Rattle.make_typed.proofs.Bindings.{main_good, plus_good, plus_names}
use Rattle.make_typed.proofs.Fields.{built_in_inhabited, built_in_kinds, data_acyclic, fields_typed}
use Rattle.make_typed.proofs.Globals.{globals, globals_are}
use Rattle.make_typed.proofs.Good.{adder_kind, adder_type, filter_kind, filter_type, setting}
use Rattle.make_typed.proofs.Parts.{term_bare}
use Rattle.make_typed.proofs.Shape.{IsShaped}

abbrev adder : Def
adder = record { name = codes "plus"; ty = adder_type; body = term_in globals [] [] plus_term }

abbrev main : ℕ → Def
main taps = record { name = codes "main"; ty = filter_type; body = term_in globals [] [] (main_term taps) }

-- the definitions of a filter
abbrev pub defs_of : ℕ → List Def
defs_of taps = adder ∷ main taps ∷ []

abbrev pub program_of : ℕ → Program
program_of taps = record {
  domains = codes "A" ∷ codes "B" ∷ [];
  resets = [];
  datas = built_in;
  defs = defs_of taps;
  top = record { «def» = record { number = 1 }; inputs = codes "x" ∷ []; outputs = codes "o" ∷ [] };
}

-- what a description declares

type_as : (t u : Ty) → bare_type t ≡ bare_type u → type_in globals [] t ≡ type_in globals [] u
type_as t u same = sym (type_bare globals [] t) ∙ ap (type_in globals []) same ∙ type_bare globals [] u

term_as : (e f : Tm) → bare_term e ≡ bare_term f → term_in globals [] [] e ≡ term_in globals [] [] f
term_as e f same = sym (term_bare globals [] [] e) ∙ ap (term_in globals [] []) same ∙ term_bare globals [] [] f

module _ (taps : ℕ) (tree : Tree) (shape : IsShaped taps tree) where
  pub domains_are : flat_map domains_in tree.declarations ≡ codes "A" ∷ codes "B" ∷ []
  domains_are =
      ap (flat_map domains_in) shape.declarations ∙ (λ i. (shape.first_is i).bytes ∷ (shape.second_is i).bytes ∷ [])

  resets_are : resets_from 0 tree.declarations ≡ []
  resets_are = ap (resets_from 0) shape.declarations

  pub datas_are : flat_map (datas_in (globals_of tree.declarations)) tree.declarations ≡ []
  datas_are = ap (flat_map (datas_in (globals_of tree.declarations))) shape.declarations

  pub defs_are : flat_map (defs_in (globals_of tree.declarations)) tree.declarations ≡ defs_of taps
  defs_are =
      let a = type_as shape.adder_type plus_type shape.adder_type_is in
      let b = term_as shape.adder_term plus_term shape.adder_term_is in
      let c = type_as shape.type main_type shape.type_is in
      let d = term_as shape.term (main_term taps) shape.term_is in
      ap (λ (g : Globals). flat_map (defs_in g) tree.declarations) (globals_are taps tree shape)
      ∙ ap (flat_map (defs_in globals)) shape.declarations
      ∙ (λ i. record { name = (shape.adder_is i).bytes; ty = a i; body = b i } ∷ record { name = (shape.main_is i).bytes; ty = c i; body = d i } ∷ [])

  top_is : top_in (globals_of tree.declarations) tree.top ≡ (program_of taps).top
  unfolding primitives
  top_is = top_alike (globals_of tree.declarations) globals tree.top (make_tree taps).top (globals_are taps tree shape) shape.top_is

  pub is_program_of : IsProgramOf tree (program_of taps)
  is_program_of = record {
    domains = sym domains_are;
    resets = sym resets_are;
    datas = ap (λ (ds : List Data). built_in ++ ds) (sym datas_are);
    defs = sym defs_are;
    top = sym top_is;
  }

  -- there is no other that is tidy
  pub one_program : (p : Program) → IsProgramOf tree p → IsTidy p → p ≡ program_of taps
  one_program p is tidy =
      let domains : p.domains ≡ (program_of taps).domains = is.domains ∙ domains_are in
      let resets : p.resets ≡ [] = is.resets ∙ resets_are in
      let datas : p.datas ≡ built_in = only tidy.begins.0 p.datas tidy.begins.1 (is.datas ∙ ap (λ (ds : List Data). built_in ++ ds) datas_are) in
      let defs : p.defs ≡ defs_of taps = is.defs ∙ defs_are in
      let top : p.top ≡ (program_of taps).top = is.top ∙ top_is in
      λ i. record { domains = domains i; resets = resets i; datas = datas i; defs = defs i; top = top i }
    where
      only : (others datas : List Data) → datas ≡ built_in ++ others → map without_kind datas ≡ built_in ++ [] → datas ≡ built_in
      only [] datas e f = e
      only (it ∷ others) datas e f =
          let long : length (map without_kind (built_in ++ it ∷ others)) ≡ length built_in = ap (λ (ds : List Data). length (map without_kind ds)) (sym e) ∙ ap length f in
          absurd (omega (arith, long))

-- references among the definitions

module _ (taps : ℕ) (some : 1 ≤ taps) (few : taps ≤ WRITTEN_VECTOR) where
  refers_down : (from to : ℕ) → DefRefers (defs_of taps) from to → (from ≡ 1) × (to ≡ 0)
  refers_down zero to refers =
      let named : names_def adder.body to ≡ true = subst (λ (it : Def). names_def it.body to ≡ true) (sym (same_Some adder refers.0 refers.1)) refers.2 in
      absurd (false≢true (sym (plus_names to) ∙ named))
  refers_down (suc zero) to refers =
      let named : names_def (main taps).body to ≡ true = subst (λ (it : Def). names_def it.body to ≡ true) (sym (same_Some (main taps) refers.0 refers.1)) refers.2 in
      (refl, (main_good taps some few).names to named)
  refers_down (suc (suc from)) to refers = absurd (none-some refers.0 refers.1)

  leads_down : {from to : ℕ} → Leads (DefRefers (defs_of taps)) from to → (from ≡ 1) × (to ≡ 0)
  leads_down (step {a = a} {b = b} refers) = refers_down a b refers
  leads_down (step_and {a = a} {b = b} refers more) =
      let first = refers_down a b refers in
      let later = leads_down more in
      absurd (omega (arith, first.1, later.0))

  pub defs_acyclic : HasNoCycle (DefRefers (defs_of taps))
  defs_acyclic a leads = let both = leads_down leads in omega (arith, both.0, both.1)

  pub is_tidy : IsTidy (program_of taps)
  is_tidy = record {
    begins = ([], refl);
    kinds = built_in_kinds;
    inhabited = built_in_inhabited;
    data_acyclic = data_acyclic;
    defs_acyclic = defs_acyclic;
    top_held = omega arith;
    domain_names = ((refl, tt), refl, ((refl, tt), refl, tt));
    resets = tt;
    input_names = (((refl, tt), refl), refl, tt);
    output_names = (((refl, tt), refl), refl, tt);
  }

  types_closed : AreClosed setting setting.defs
  types_closed zero t at = subst (IsTermType setting []) (same_Some adder_type t at) (record { kind = Cir; has = adder_kind; of_terms = tt })
  types_closed (suc zero) t at = subst (IsTermType setting []) (same_Some filter_type t at) (record { kind = Cir; has = filter_kind; of_terms = tt })
  types_closed (suc (suc x)) t at = absurd (none-some t at)

  bodies_typed : (d : ℕ) (it : Def) → slice_get (defs_of taps) d ≡ Some it → HasItsType (program_of taps) it
  bodies_typed zero it at =
      subst (HasItsType (program_of taps)) (same_Some adder it at) (record { type = adder_type; has = plus_good.typed; same = same_self adder_type })
  bodies_typed (suc zero) it at =
      subst (HasItsType (program_of taps)) (same_Some (main taps) it at)
      (record { type = filter_type; has = (main_good taps some few).typed; same = same_self filter_type })
  bodies_typed (suc (suc d)) it at = absurd (none-some it at)

  bodies_complete : (d : ℕ) (it : Def) → slice_get (defs_of taps) d ≡ Some it → IsComplete built_in it.body
  bodies_complete zero it at = subst (λ (x : Def). IsComplete built_in x.body) (same_Some adder it at) plus_good.complete
  bodies_complete (suc zero) it at = subst (λ (x : Def). IsComplete built_in x.body) (same_Some (main taps) it at) (main_good taps some few).complete
  bodies_complete (suc (suc d)) it at = absurd (none-some it at)

  leads_to_port : LeadsToPort built_in filter_type 1 1
  leads_to_port =
      let a : DomId = record { number = 0 } in
      let b : DomId = record { number = 1 } in
      from_port (one_leaf {dom = a} representable_scalar) (to_port (one_leaf {dom = b} representable_scalar))

  pub is_typed : IsTyped (program_of taps)
  is_typed = record {
    fields = fields_typed;
    types = types_closed;
    bodies = bodies_typed;
    complete = bodies_complete;
    data_acyclic = data_acyclic;
    defs_acyclic = defs_acyclic;
    top = (main taps, refl, leads_to_port);
  }
