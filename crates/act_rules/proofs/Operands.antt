-- A name for a part of a term to which no binder of the term leads.
use Rattle.std.specs.Prelude.{slice_get}
use Rattle.std.proofs.Common.{◌≡◌, ℕ, suc, zero, List, [], ◌∷◌, length, map, set, Some, sym, ap, ◌∙◌, subst}
use Rattle.std.proofs.lemmas.List.{length-map, map-set}
use Rattle.chw_types.specs.declared.kind.Kind.{Kind}
use Rattle.chw_types.specs.SameTypes.{SameTypes}
use Rattle.chw_types.specs.TypeTree.{TypeTree, nat_lit, TypeTrees}
use Rattle.chw_types.specs.TypeMoves.{raised, sub as sub_type}
use Rattle.chw_types.proofs.SameLaws.{same_turned}
use Rattle.chw_terms.specs.declared.program.Program.{Program}
use Rattle.chw_terms.specs.declared.term.Arg.{Arg}
use Rattle.chw_terms.specs.declared.term.Arg.TheVariants.{OfTerm}
use Rattle.chw_terms.specs.TermMoves.{rename, rename_all, shift}
use Rattle.chw_terms.specs.TermTree.{TermTree, var, global, made, con, prim, vec_lit, case_of, Terms, no_terms, term_and, no_bindings, bind, Alts}
use Rattle.chw_terms.specs.TermView.{applied}
use Rattle.chw_typing.specs.Scopes.{HasKind, AreTermTypes}
use Rattle.chw_typing.specs.Programs.{AreClosed, IsSound, IsTyped, setting_of}
use Rattle.chw_typing.specs.Typing.{count, HasType, h_vec, AllHave, none_have, have_and}
use Rattle.chw_typing.proofs.Kinded.{type_kinded}
use Rattle.chw_typing.proofs.Lists.{found_in_map}
use Rattle.chw_typing.specs.Groups.{rename_arg}
use Rattle.chw_typing.proofs.Exchanged.{spine_renamed}
use Rattle.chw_typing.specs.Paths.{element_at, with_element, with_part, argument_path}
use Rattle.chw_typing.proofs.PathParts.{with_part_below}
use Rattle.chw_typing.proofs.PathSpines.{with_spine_argument}
use Rattle.chw_meaning.specs.Values.{Thunks, closed_type, in_group}
use Rattle.rewriting.specs.Operands.{StandsAt, StandsInCall, of_case, of_con, of_global, of_made, of_prim, of_vector, with_name}
use Rattle.rewriting.specs.Shapes.{shift_args}
use Rattle.rewriting.specs.Spots.{Spot}
use Rattle.acts.specs.Levels.{term_runs, term_has}
use Rattle.acts.specs.Acts.{acts_from}
use Rattle.acts.specs.Terms.{TiedBy, Kinded, ActsUnder, OriginsTyped, setting_with}
use Rattle.rewriting.specs.Origins.{Origins, with_origins, with_origins_all}
use Rattle.acts.proofs.Closing.{closed_same}
use Rattle.acts.proofs.Forms.{TermsAct, EachTermActs, vec_acts}
use Rattle.acts.proofs.Globals.{sound_with}
use Rattle.acts.proofs.Levels.{from_turns}
use Rattle.acts.proofs.SameActs.{same_acts}
use Rattle.act_rules.proofs.Lets.{in_let_acts}
use Rattle.act_rules.proofs.RuleMoves.{moved_acts}
use Rattle.act_rules.proofs.Scrutinees.{other_scrutinee}
use Rattle.act_rules.proofs.CaseSpines.{origins_arg, origins_applied, EachTypeActs, spine_acts, args_act, args_but_one}
use Rattle.act_rules.proofs.NamedCalls.{name_of, past_name, name_acts}

-- where a part stands: among the arguments of a spine, as a scrutinee, among the elements of a vector
pub data Stands : TermTree → List ℕ → TermTree → Type 0 where
  as_argument : (h : TermTree) (args : List Arg) (i : ℕ) {a : TermTree} → slice_get args i ≡ Some (OfTerm a) → Stands (applied h args) (argument_path i (length args)) a
  as_scrutinee : {e : TermTree} {alts : Alts} → Stands (case_of e alts) (zero ∷ []) e
  as_element : {t : TypeTree} {es : Terms} {i : ℕ} {a : TermTree} → element_at es i ≡ Some a → Stands (vec_lit t es) (i ∷ []) a

pub stands_at : {o : Origins} {at : Spot} {e x : TermTree} {path : List ℕ} → StandsAt o at e path x → Stands e path x
stands_at (of_prim p args i many on is) = as_argument (prim p) args i is
stands_at of_case = as_scrutinee
stands_at (of_con c args i lets at many is) = as_argument (con c) args i is
stands_at (of_vector lets is) = as_element is

pub stands_in_call : {at : Spot} {e x : TermTree} {path : List ℕ} → StandsInCall at e path x → Stands e path x
stands_in_call (of_global d args i lets is) = as_argument (global d) args i is
stands_in_call (of_made m args i lets is) = as_argument (made m) args i is

-- a spine below one more binder, with that binder's variable as one of its arguments
put_in_spine : (h : TermTree) (args : List Arg) (i : ℕ) (a : TermTree) → slice_get args i ≡ Some (OfTerm a) → with_part (shift (applied h args) 0 1) (argument_path i (length args)) (var 0) ≡ applied (shift h 0 1) (set (shift_args args 0 1) i (OfTerm (var 0)))
put_in_spine h args i a e =
    let shifted = shift_args args 0 1 in
    ap (λ f. with_part f (argument_path i (length args)) (var 0)) (spine_renamed h args (raised 0 1))
    ∙ ap (λ n. with_part (applied (shift h 0 1) shifted) (argument_path i n) (var 0)) (sym (length-map args (rename_arg (raised 0 1))))
    ∙ with_spine_argument shifted (shift h 0 1) (shift a 0 1) (var 0) i (found_in_map (rename_arg (raised 0 1)) args i (OfTerm a) e)

element_renamed : (es : Terms) (i : ℕ) (a : TermTree) → element_at es i ≡ Some a → element_at (rename_all es (raised 0 1)) i ≡ Some (shift a 0 1)
unfolding rename
element_renamed no_terms i a e = absurd cc
element_renamed (term_and x es) zero a e = let is : x ≡ a = cc in ap (λ y. Some (shift y 0 1)) is
element_renamed (term_and x es) (suc i) a e = element_renamed es i a e

module _ (p : Program) (sound : IsSound (setting_of p)) (typed : IsTyped p) (types : List TypeTree) (o : ℕ → TermTree) (are_closed : AreClosed (setting_of p) types) (have : OriginsTyped p types o) where
  module _ (kinds : List Kind) (vars : List TypeTree) (g : AreTermTypes (setting_with p types) kinds vars) (n : ℕ) (δ : TypeTrees) (γ' γ : Thunks) (known : Kinded p kinds δ) (names : TiedBy p (acts_from p n) vars (λ x. x) (λ x. x) δ γ' γ) (u : TypeTree) (x : TermTree) where
    -- inside of the name
    abbrev inside : Thunks
    inside = in_group (name_of o u x) γ' δ

    -- another part of the term
    moved : (e : TermTree) → EachTypeActs p sound typed types o are_closed have kinds vars (acts_from p n) δ (with_origins o (shift e 0 1)) inside e γ
    moved e t d = moved_acts p sound typed types o are_closed have (raised 0 1) g d (acts_from p n) (from_turns p n) δ inside γ known (past_name p sound typed types o are_closed have vars u x n δ γ' γ names)

    -- the part that has the name
    named : EachTypeActs p sound typed types o are_closed have kinds vars (acts_from p n) δ (var 0) inside x γ
    named t d = name_acts p sound typed types o are_closed have u x g d n δ γ' γ known names

    -- the term with the name in the part's place, inside of the name
    abbrev PutActs : TermTree → List ℕ → Type 0
    PutActs e path = (t : TypeTree) → HasType (setting_with p types) kinds vars e t → TermsAct p (acts_from p n) (closed_type t δ) (with_origins o (with_part (shift e 0 1) path (var 0))) inside δ (with_origins o e) γ δ

    in_spine : (h : TermTree) (args : List Arg) (i : ℕ) → slice_get args i ≡ Some (OfTerm x) → PutActs (applied h args) (argument_path i (length args))
    unfolding with_origins
    in_spine h args i is t d =
        let shifted = shift_args args 0 1 in
        let put = ap (with_origins o) (put_in_spine h args i x is) ∙ origins_applied o (shift h 0 1) (set shifted i (OfTerm (var 0))) ∙ ap (applied (with_origins o (shift h 0 1))) (map-set (origins_arg o) shifted i (OfTerm (var 0))) in
        subst (λ e. TermsAct p (acts_from p n) (closed_type t δ) e inside δ (with_origins o (applied h args)) γ δ) (sym put)
        (spine_acts p sound typed types o are_closed have g (from_turns p n) δ inside γ known (set (map (origins_arg o) shifted) i (OfTerm (var 0))) args (with_origins o (shift h 0 1)) h (moved h)
        (args_but_one p sound typed types o are_closed have δ inside γ (map (origins_arg o) shifted) args i (var 0) x (args_act p sound typed types o are_closed have δ inside γ (raised 0 1) moved args) is named)
        t d)

    in_case : (alts : Alts) → PutActs (case_of x alts) (zero ∷ [])
    unfolding with_origins rename
    in_case alts t d =
        other_scrutinee p sound typed types o are_closed have g d (raised 0 1) n δ inside γ known (past_name p sound typed types o are_closed have vars u x n δ γ' γ names) (var 0) (with_origins o x) named

    -- at the type of the elements
    at_same : {t : TypeTree} {k : Kind} {w : TypeTree} (e' e : TermTree) → HasKind (setting_of p) kinds t k → HasType (setting_with p types) kinds vars e w → SameTypes t w → EachTypeActs p sound typed types o are_closed have kinds vars (acts_from p n) δ e' inside e γ → TermsAct p (acts_from p n) (closed_type t δ) e' inside δ (with_origins o e) γ δ
    at_same e' e kt d same acts =
        let kind = type_kinded d (sound_with p types sound are_closed) g in
        same_acts sound (from_turns p n) (closed_same p sound δ known kind.has kt (same_turned same)) (term_runs p e' inside δ) (term_has p (with_origins o e) γ δ) (acts _ d)

    elements_moved : {t : TypeTree} {k : Kind} (es : Terms) → HasKind (setting_of p) kinds t k → AllHave (setting_with p types) kinds vars t es → EachTermActs p (acts_from p n) (closed_type t δ) (with_origins_all o (rename_all es (raised 0 1))) inside δ (with_origins_all o es) γ δ
    unfolding with_origins rename
    elements_moved no_terms kt none_have = tt
    elements_moved (term_and e es) kt (have_and d same ds) = (at_same (with_origins o (shift e 0 1)) e kt d same (moved e), elements_moved es kt ds)

    elements_named : {t : TypeTree} {k : Kind} (es : Terms) (i : ℕ) → element_at es i ≡ Some x → HasKind (setting_of p) kinds t k → AllHave (setting_with p types) kinds vars t es → EachTermActs p (acts_from p n) (closed_type t δ) (with_origins_all o (with_element (rename_all es (raised 0 1)) i (var 0))) inside δ (with_origins_all o es) γ δ
    unfolding with_origins rename
    elements_named no_terms i is kt none_have = absurd cc
    elements_named (term_and e es) zero is kt (have_and d same ds) =
        let own : x ≡ e = cc in
        (at_same (var 0) e kt d same (subst (λ e. EachTypeActs p sound typed types o are_closed have kinds vars (acts_from p n) δ (var 0) inside e γ) own named), elements_moved es kt ds)
    elements_named (term_and e es) (suc i) is kt (have_and d same ds) = (at_same (with_origins o (shift e 0 1)) e kt d same (moved e), elements_named es i is kt ds)

    in_vector : (w : TypeTree) (es : Terms) (i : ℕ) → element_at es i ≡ Some x → PutActs (vec_lit w es) (i ∷ [])
    unfolding with_origins rename sub_type
    in_vector w es i is t (h_vec kt ds) =
        let put = with_part_below (vec_lit w (rename_all es (raised 0 1))) (shift x 0 1) (var 0) i [] (element_renamed es i x is) in
        subst (λ e. TermsAct p (acts_from p n) (closed_type t δ) (with_origins o e) inside δ (with_origins o (vec_lit w es)) γ δ) (sym put)
        (vec_acts (from_turns p n) (nat_lit (count es)) (closed_type w δ) w w (with_origins_all o (with_element (rename_all es (raised 0 1)) i (var 0))) (with_origins_all o es) inside γ δ δ (elements_named es i is kt.has ds))

  put_acts : (kinds : List Kind) (vars : List TypeTree) {e x : TermTree} {path : List ℕ} (u : TypeTree) → Stands e path x → (g : AreTermTypes (setting_with p types) kinds vars) (n : ℕ) (δ : TypeTrees) (γ' γ : Thunks) (known : Kinded p kinds δ) (names : TiedBy p (acts_from p n) vars (λ x. x) (λ x. x) δ γ' γ) → PutActs kinds vars g n δ γ' γ known names u x e path
  put_acts kinds vars u (as_argument h args i {a = a} is) g n δ γ' γ known names = in_spine kinds vars g n δ γ' γ known names u a h args i is
  put_acts kinds vars u (as_scrutinee {e = e} {alts = alts}) g n δ γ' γ known names = in_case kinds vars g n δ γ' γ known names u e alts
  put_acts kinds vars u (as_element {t = t} {es = es} {i = i} {a = a} is) g n δ γ' γ known names = in_vector kinds vars g n δ γ' γ known names u a t es i is

  pub named_operand : {kinds : List Kind} {vars : List TypeTree} {t : TypeTree} {e x : TermTree} {path : List ℕ} (u : TypeTree) → Stands e path x → AreTermTypes (setting_with p types) kinds vars → HasType (setting_with p types) kinds vars e t → ActsUnder p kinds vars (with_origins o (with_name e path u x)) (with_origins o e) t
  unfolding with_origins
  named_operand {kinds} {vars} {t} {e = e} {x = x} {path = path} u stands g d n δ γ' γ known names =
      in_let_acts p sound typed types o are_closed have t (bind u (shift x 0 1) no_bindings) (with_part (shift e 0 1) path (var 0)) e n δ γ' γ (put_acts kinds vars u stands g n δ γ' γ known names t d)
