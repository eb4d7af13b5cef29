-- An element of a written vector.
use Rattle.std.proofs.Common.{◌≡◌, ◌⊎◌, inl, inr, ℕ, suc, zero, ◌≤◌, List, [], ◌∷◌, Some, refl, sym, ap, ◌∙◌, subst}
use Rattle.std.proofs.Math.Nat.{min-eq_left}
use Rattle.chw_types.specs.declared.declarations.Data.{Data}
use Rattle.chw_types.specs.declared.kind.Kind.{Kind}
use Rattle.chw_types.specs.declared.kind.Kind.TheVariants.{Nat, Val, Cir}
use Rattle.chw_types.specs.Polynomials.{ended, greatest}
use Rattle.chw_types.specs.SamePromises.{natural_value}
use Rattle.chw_types.specs.SameTypes.{SameTypes}
use Rattle.chw_types.specs.TypeTree.{TypeTree, ty_var, nat_lit, nat_sum, vector, TypeTrees, no_types, type_and}
use Rattle.chw_types.specs.TypeMoves.{sub}
use Rattle.chw_types.proofs.SameLaws.{same_through, same_turned}
use Rattle.type_laws.proofs.SameForms.{as_vector}
use Rattle.chw_prims.specs.declared.prim.Primitive.{Primitive as Prim}
use Rattle.chw_prims.specs.declared.prim.Primitive.TheVariants.{VGet, VGetC}
use Rattle.chw_prims.specs.declared.row.Row.TheVariants.{Element}
use Rattle.chw_prims.specs.Schemas.{row_of, row_type}
use Rattle.chw_terms.specs.declared.program.Program.{Program}
use Rattle.chw_terms.specs.Evaluated.{evaluated}
use Rattle.chw_terms.specs.TermTree.{TermTree, prim, vec_lit, Terms, no_terms, term_and}
use Rattle.chw_terms.specs.TermView.{applied}
use Rattle.chw_terms.proofs.TypesEvaluated.{evaluated_put}
use Rattle.chw_typing.specs.Scopes.{Setting, AreTermTypes}
use Rattle.chw_typing.specs.Programs.{AreClosed, IsSound, IsTyped, setting_of}
use Rattle.chw_typing.specs.Typing.{HasType, HasTypeUpTo, h_vec, AllHave, none_have, have_and}
use Rattle.chw_typing.proofs.Kinded.{type_kinded}
use Rattle.chw_typing.specs.Given.{types_then}
use Rattle.chw_typing.proofs.Saturated.{prim_at_arguments}
use Rattle.chw_typing.specs.Paths.{element_at}
use Rattle.chw_layout.specs.Measured.{closed_value}
use Rattle.chw_meaning.specs.Values.{History, Value, prim_head, partial, Thunk, closed, element, Thunks, none, thunk_and, thunk_at, type_at, closed_type, closed_all}
use Rattle.chw_meaning.specs.Steps.{gives, goes_to, step}
use Rattle.chw_meaning.specs.Eval.{plus, Evals, e_app, e_ty_app, e_prim, e_vec, f_closed, f_element, a_runs, t_runs, Runs, r_gives, r_goes_to}
use Rattle.acts.specs.Levels.{term_runs, term_has}
use Rattle.acts.specs.Acts.{acts_from}
use Rattle.acts.specs.Terms.{TiedBy, Kinded, ActsUnder, OriginsTyped, setting_with}
use Rattle.rewriting.specs.Origins.{with_origins, with_origins_all}
use Rattle.acts.proofs.Closing.{closed_same}
use Rattle.acts.proofs.Forms.{TermsAct}
use Rattle.acts.proofs.Globals.{sound_with}
use Rattle.acts.proofs.Levels.{from_turns, runs_more}
use Rattle.acts.proofs.SameActs.{same_acts}
use Rattle.act_rules.proofs.RuleMoves.{same_term_acts}

-- a natural's value in any environment of types
pub natural_closed : (i : TypeTree) (δ : TypeTrees) (j : ℕ) → evaluated i ≡ nat_lit j → closed_value (evaluated (closed_type i δ)) ≡ ended j
unfolding sub evaluated natural_value
natural_closed i δ j is = ap closed_value (sym (evaluated_put i (type_at δ)) ∙ ap (λ t. evaluated (sub t (type_at δ))) is)

pub number_closed : (i : TypeTree) (δ : TypeTrees) (j : ℕ) → evaluated i ≡ nat_lit j → j ≤ greatest → closed_value (evaluated (closed_type i δ)) ≡ j
number_closed i δ j is least = natural_closed i δ j is ∙ min-eq_left least

-- the thunk of an element
pub element_thunk : (o : ℕ → TermTree) (γ : Thunks) (δ : TypeTrees) (es : Terms) (j : ℕ) (e : TermTree) → element_at es j ≡ Some e → thunk_at (closed_all (with_origins_all o es) γ δ) j ≡ Some (closed (with_origins o e) γ δ)
unfolding with_origins
element_thunk o γ δ no_terms j e at = absurd cc
element_thunk o γ δ (term_and x es) zero e at = let is : x ≡ e = cc in ap (λ e. Some (closed (with_origins o e) γ δ)) is
element_thunk o γ δ (term_and x es) (suc j) e at = element_thunk o γ δ es j e at

element_typed : {s : Setting} {kinds : List Kind} {vars : List TypeTree} {t : TypeTree} {es : Terms} → AllHave s kinds vars t es → (j : ℕ) (e : TermTree) → element_at es j ≡ Some e → HasTypeUpTo s kinds vars e t
element_typed none_have j e at = absurd cc
element_typed {s} {kinds} {vars} (have_and {u = u} {e = x} d same ds) zero e at = let is : x ≡ e = cc in record { type = u; has = subst (λ z. HasType s kinds vars z u) is d; same = same }
element_typed (have_and d same ds) (suc j) e at = element_typed ds j e at

-- of a vector of this type
pub vector_element : {s : Setting} {kinds : List Kind} {vars : List TypeTree} {w n a : TypeTree} {es : Terms} {v : TypeTree} (j : ℕ) (e : TermTree) → element_at es j ≡ Some e → HasType s kinds vars (vec_lit w es) v → SameTypes (vector n a) v → HasTypeUpTo s kinds vars e a
vector_element {w = w} j e at (h_vec l all) x =
    let it = element_typed all j e at in
    let parts = as_vector x in
    let is : parts.1 ≡ w = cc in
    record { type = it.type; has = it.has; same = same_through (subst (SameTypes _) is parts.4) it.same }

-- what a primitive that takes an element does with its arguments, one after another
record Takes (datas : List Data) (q : Prim) : Type 0 where
  alone : step datas (prim_head q) no_types none ≡ gives (partial (prim_head q) no_types none)
  on_one : (i : TypeTree) → step datas (prim_head q) (type_and i no_types) none ≡ gives (partial (prim_head q) (type_and i no_types) none)
  on_two : (i n : TypeTree) → step datas (prim_head q) (type_and n (type_and i no_types)) none ≡ gives (partial (prim_head q) (type_and n (type_and i no_types)) none)
  on_types : (i n a : TypeTree) → step datas (prim_head q) (type_and a (type_and n (type_and i no_types))) none ≡ gives (partial (prim_head q) (type_and a (type_and n (type_and i no_types))) none)
  on_all : (i n a : TypeTree) (v : Thunk) → step datas (prim_head q) (type_and a (type_and n (type_and i no_types))) (thunk_and v none) ≡ goes_to (element (closed_value i) v)

takes_element : (datas : List Data) (q : Prim) → (q ≡ VGet) ⊎ (q ≡ VGetC) → Takes datas q
takes_element datas q (inl is) = subst (Takes datas) (sym is) (record { alone = refl; on_one = λ i. refl; on_two = λ i n. refl; on_types = λ i n a. refl; on_all = λ i n a v. refl })
takes_element datas q (inr is) = subst (Takes datas) (sym is) (record { alone = refl; on_one = λ i. refl; on_two = λ i n. refl; on_types = λ i n a. refl; on_all = λ i n a v. refl })

-- what the element has, the primitive on the vector has
taken : (p : Program) (o : ℕ → TermTree) (q : Prim) → Takes p.datas q → (i m a w : TypeTree) (es : Terms) (j : ℕ) (e : TermTree) → evaluated i ≡ nat_lit j → j ≤ greatest → element_at es j ≡ Some e → (γ : Thunks) (δ : TypeTrees) (h : History) (v : Value) → term_has p (with_origins o e) γ δ h v → term_has p (with_origins o (applied (prim q) (types_then (i ∷ m ∷ a ∷ []) (vec_lit w es ∷ [])))) γ δ h v
unfolding with_origins
taken p o q takes i m a w es j e number least at γ δ h v d =
    let th = closed (vec_lit w (with_origins_all o es)) γ δ in
    let i' = evaluated (closed_type i δ) in
    let m' = evaluated (closed_type m δ) in
    let a' = evaluated (closed_type a δ) in
    let zeroth : Evals p (suc zero) (prim q) γ δ h (partial (prim_head q) no_types none) = e_prim (subst (λ s. Runs p zero s h (partial (prim_head q) no_types none)) (sym takes.alone) r_gives) in
    let first = e_ty_app {t = i} zeroth (t_runs (subst (λ s. Runs p zero s h (partial (prim_head q) (type_and i' no_types) none)) (sym (takes.on_one i')) r_gives)) in
    let second = e_ty_app {t = m} first (t_runs (subst (λ s. Runs p zero s h (partial (prim_head q) (type_and m' (type_and i' no_types)) none)) (sym (takes.on_two i' m')) r_gives)) in
    let third = e_ty_app {t = a} second (t_runs (subst (λ s. Runs p zero s h (partial (prim_head q) (type_and a' (type_and m' (type_and i' no_types))) none)) (sym (takes.on_types i' m' a')) r_gives)) in
    let does = takes.on_all i' m' a' th ∙ ap (λ k. goes_to (element k th)) (number_closed i δ j number least) in
    (_, e_app third (a_runs (subst (λ s. Runs p (suc (plus (suc zero) d.0)) s h v) (sym does) (r_goes_to (f_element (f_closed e_vec) (element_thunk o γ δ es j e at) (f_closed d.1))))))

module _ (p : Program) (sound : IsSound (setting_of p)) (typed : IsTyped p) (types : List TypeTree) (o : ℕ → TermTree) (are_closed : AreClosed (setting_of p) types) (have : OriginsTyped p types o) where
  full : IsSound (setting_with p types)
  full = sound_with p types sound are_closed

  -- a term in the same scope, where the typed one has what it has
  pub reached_acts : {kinds : List Kind} {vars : List TypeTree} {t : TypeTree} {e second : TermTree} → AreTermTypes (setting_with p types) kinds vars → HasTypeUpTo (setting_with p types) kinds vars e t → HasType (setting_with p types) kinds vars second t → (n : ℕ) (δ : TypeTrees) (γ' γ : Thunks) → Kinded p kinds δ → TiedBy p (acts_from p n) vars (λ x. x) (λ x. x) δ γ' γ → ((h : History) (v : Value) → term_has p (with_origins o e) γ δ h v → term_has p (with_origins o second) γ δ h v) → TermsAct p (acts_from p n) (closed_type t δ) (with_origins o e) γ' δ (with_origins o second) γ δ
  reached_acts {e = e} {second = second} g d ds n δ γ' γ known names reach =
      let l = from_turns p n in
      let alike = closed_same p sound δ known (type_kinded d.has full g).has (type_kinded ds full g).has (same_turned d.same) in
      same_acts sound l alike (term_runs p (with_origins o e) γ' δ) (term_has p (with_origins o second) γ δ)
      (runs_more l (closed_type d.type δ) (term_runs p (with_origins o e) γ' δ) (term_has p (with_origins o e) γ δ) (term_has p (with_origins o second) γ δ) reach
      (same_term_acts p sound typed types o are_closed have g d.has (acts_from p n) l δ γ' γ known names))

  taken_typed : {kinds : List Kind} {vars : List TypeTree} {t : TypeTree} (q : Prim) (kind : Kind) (i m a w : TypeTree) (es : Terms) (j : ℕ) (e : TermTree) → row_of q ≡ Element kind → element_at es j ≡ Some e → AreTermTypes (setting_with p types) kinds vars → HasType (setting_with p types) kinds vars (applied (prim q) (types_then (i ∷ m ∷ a ∷ []) (vec_lit w es ∷ []))) t → HasTypeUpTo (setting_with p types) kinds vars e t
  unfolding sub
  taken_typed {kinds} {vars} {t} q kind i m a w es j e is at g d =
      let of = prim_at_arguments (setting_with p types) kinds vars q (Nat ∷ Nat ∷ kind ∷ []) (vector (nat_sum (nat_sum (ty_var 2) (nat_lit 1)) (ty_var 1)) (ty_var 0) ∷ []) (ty_var 0) (i ∷ m ∷ a ∷ []) (vec_lit w es ∷ []) t full g (ap row_type is) refl refl d in
      let own = vector_element j e at of.args_given.0.has of.args_given.0.same in
      record { type = own.type; has = own.has; same = same_through (same_turned of.gives) own.same }

  element_kind : (q : Prim) → (q ≡ VGet) ⊎ (q ≡ VGetC) → (kind : Kind) × (row_of q ≡ Element kind)
  element_kind q (inl is) = (Val, ap row_of is)
  element_kind q (inr is) = (Cir, ap row_of is)

  pub element_of : {kinds : List Kind} {vars : List TypeTree} {t : TypeTree} (q : Prim) (i m a w : TypeTree) (es : Terms) (j : ℕ) (e : TermTree) → (q ≡ VGet) ⊎ (q ≡ VGetC) → evaluated i ≡ nat_lit j → j ≤ greatest → element_at es j ≡ Some e → AreTermTypes (setting_with p types) kinds vars → HasType (setting_with p types) kinds vars (applied (prim q) (types_then (i ∷ m ∷ a ∷ []) (vec_lit w es ∷ []))) t → ActsUnder p kinds vars (with_origins o e) (with_origins o (applied (prim q) (types_then (i ∷ m ∷ a ∷ []) (vec_lit w es ∷ [])))) t
  element_of q i m a w es j e is number least at g d n δ γ' γ known names =
      let kind = element_kind q is in
      reached_acts g (taken_typed q kind.0 i m a w es j e kind.1 at g d) d n δ γ' γ known names (λ h v x. taken p o q (takes_element p.datas q is) i m a w es j e number least at γ δ h v x)
