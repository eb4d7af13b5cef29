-- The element of a written vector at a literal.
use Rattle.std.proofs.Common.{◌≡◌, ℕ, suc, zero, ◌≤◌, min, Bool, List, [], ◌∷◌, length, Some, refl, sym, ap, subst, arith}
use Rattle.std.proofs.Math.Nat.{min-zero}
use Rattle.chw_bits.specs.Bits.{number_of}
use Rattle.chw_types.specs.declared.kind.Kind.{Kind}
use Rattle.chw_types.specs.declared.kind.Kind.TheVariants.{Nat, Val}
use Rattle.chw_types.specs.declared.kind.Scalar.TheVariants.{U}
use Rattle.chw_types.specs.declared.declarations.Data.{Data}
use Rattle.chw_types.specs.Kinds.{KindOf, KindsOf, kind_and, kind_nat}
use Rattle.chw_types.specs.Polynomials.{ended, greatest}
use Rattle.chw_types.specs.SamePromises.{natural_value}
use Rattle.chw_types.specs.SameTypes.{SameTypes, same_naturals}
use Rattle.chw_types.specs.TypeTree.{TypeTree, ty_var, nat_lit, nat_sum, scalar, vector, TypeTrees, no_types, type_and}
use Rattle.chw_types.specs.TypeMoves.{sub}
use Rattle.chw_types.proofs.SameLaws.{one_value, same_through, same_turned}
use Rattle.type_laws.proofs.SameForms.{as_scalar}
use Rattle.chw_prims.specs.declared.prim.Primitive.TheVariants.{VAt}
use Rattle.chw_terms.specs.declared.program.Program.{Program}
use Rattle.chw_terms.specs.Evaluated.{evaluated}
use Rattle.chw_terms.specs.TermTree.{TermTree, prim, lit, vec_lit, Terms}
use Rattle.chw_terms.specs.TermView.{applied}
use Rattle.chw_typing.specs.Scopes.{Setting, HasKind, AreTermTypes}
use Rattle.chw_typing.specs.Programs.{AreClosed, IsSound, IsTyped, setting_of}
use Rattle.chw_typing.specs.Typing.{HasType, HasTypeUpTo, h_lit}
use Rattle.chw_typing.proofs.EvaluatedTypes.{same_evaluated}
use Rattle.chw_typing.specs.Given.{types_then}
use Rattle.chw_typing.proofs.Saturated.{prim_at_arguments}
use Rattle.chw_typing.specs.Paths.{element_at}
use Rattle.chw_layout.specs.Measured.{closed_value}
use Rattle.chw_meaning.specs.Values.{History, Value, prim_head, partial, Thunk, closed, element, Thunks, none, thunk_and, closed_type}
use Rattle.chw_meaning.specs.Steps.{at_index}
use Rattle.chw_meaning.specs.Eval.{plus, Evals, e_app, e_ty_app, e_prim, e_lit, e_vec, Forces, f_closed, f_element, a_runs, t_runs, Runs, r_gives, r_goes_to, r_looks_up, Looks, l_empty, l_bits}
use Rattle.acts.specs.Levels.{term_has}
use Rattle.acts.specs.Terms.{ActsUnder, OriginsTyped, setting_with}
use Rattle.rewriting.specs.Origins.{with_origins, with_origins_all}
use Rattle.acts.proofs.Closing.{closed_same}
use Rattle.acts.proofs.Globals.{sound_with}
use Rattle.act_rules.proofs.NameElements.{number_closed, element_thunk, vector_element, reached_acts}

no_bits : (b : List Bool) → length b ≡ 0 → b ≡ []
no_bits [] e = refl
no_bits (x ∷ b) e = cc

-- a numeral that is the same as a closed natural of the value 0 is 0
zero_alone : {c : TypeTree} {n : ℕ} → SameTypes c (nat_lit n) → closed_value c ≡ 0 → n ≡ 0
unfolding natural_value
zero_alone {c} {n} (same_naturals a b h) nil =
    let e : closed_value c ≡ ended n = one_value c (nat_lit n) (λ x. 0) (λ x. omega arith) a b h in
    omega (arith, e, nil)

-- the width of a literal
literal_width : {s : Setting} {kinds : List Kind} {vars : List TypeTree} {w v : TypeTree} {b : List Bool} → HasType s kinds vars (lit U b) v → SameTypes (scalar U w) v → SameTypes w (nat_lit (length b))
literal_width {w = w} {b = b} (h_lit i) x =
    let at = as_scalar x in
    let is : at.0 ≡ nat_lit (length b) = cc in
    subst (SameTypes w) is at.2

second_kind : {datas : List Data} {domains : ℕ} {scope : List Kind} {t u : TypeTree} {ts : TypeTrees} {j k : Kind} {ks : List Kind} → KindsOf datas domains scope (type_and t (type_and u ts)) (j ∷ k ∷ ks) → KindOf datas domains scope u k
second_kind (kind_and a (kind_and b more)) = b

module _ (p : Program) (o : ℕ → TermTree) (γ : Thunks) (δ : TypeTrees) (h : History) (b : List Bool) where
  -- the element that the index leads to
  at_runs : (last width n : ℕ) (th : Thunk) (v : Value) → (width ≡ 0 → b ≡ []) → Forces p n (element (min (number_of b) last) th) h v → (m : ℕ) × Runs p m (at_index last width th (closed (lit U b) γ δ)) h v
  at_runs zero width n th v narrow d = (_, r_goes_to (subst (λ j. Forces p n (element j th) h v) (min-zero (number_of b)) d))
  at_runs (suc last) zero n th v narrow d = (_, r_looks_up (subst (λ b. Looks p zero zero (closed (lit U b) γ δ) h b) (sym (narrow refl)) l_empty) d)
  at_runs (suc last) (suc width) n th v narrow d = (_, r_looks_up (l_bits (f_closed e_lit)) d)

  -- what the element has, the primitive on the vector and the literal has
  taken_at : (m k a w : TypeTree) (es : Terms) (last : ℕ) (e : TermTree) → evaluated m ≡ nat_lit last → last ≤ greatest → element_at es (min (number_of b) last) ≡ Some e → (closed_value (evaluated (closed_type k δ)) ≡ 0 → b ≡ []) → (v : Value) → term_has p (with_origins o e) γ δ h v → term_has p (with_origins o (applied (prim VAt) (types_then (m ∷ k ∷ a ∷ []) (vec_lit w es ∷ lit U b ∷ [])))) γ δ h v
  unfolding with_origins
  taken_at m k a w es last e number least at narrow v d =
      let th = closed (vec_lit w (with_origins_all o es)) γ δ in
      let m' = evaluated (closed_type m δ) in
      let k' = evaluated (closed_type k δ) in
      let a' = evaluated (closed_type a δ) in
      let zeroth : Evals p (suc zero) (prim VAt) γ δ h (partial (prim_head VAt) no_types none) = e_prim r_gives in
      let first = e_ty_app {t = m} {w = partial (prim_head VAt) (type_and m' no_types) none} zeroth (t_runs r_gives) in
      let second = e_ty_app {t = k} {w = partial (prim_head VAt) (type_and k' (type_and m' no_types)) none} first (t_runs r_gives) in
      let third = e_ty_app {t = a} {w = partial (prim_head VAt) (type_and a' (type_and k' (type_and m' no_types))) none} second (t_runs r_gives) in
      let fourth = e_app {a = vec_lit w (with_origins_all o es)} {w = partial (prim_head VAt) (type_and a' (type_and k' (type_and m' no_types))) (thunk_and th none)} third (a_runs r_gives) in
      let forced = f_element (f_closed e_vec) (element_thunk o γ δ es (min (number_of b) last) e at) (f_closed d.1) in
      let run = at_runs last (closed_value k') (suc (plus (suc zero) d.0)) th v narrow forced in
      let does = ap (λ j. at_index j (closed_value k') th (closed (lit U b) γ δ)) (number_closed m δ last number least) in
      (_, e_app fourth (a_runs (subst (λ s. Runs p run.0 s h v) (sym does) run.1)))

module _ (p : Program) (sound : IsSound (setting_of p)) (typed : IsTyped p) (types : List TypeTree) (o : ℕ → TermTree) (are_closed : AreClosed (setting_of p) types) (have : OriginsTyped p types o) where
  -- the element's type, and the width of the literal
  record Indexed (kinds : List Kind) (vars : List TypeTree) (k t : TypeTree) (b : List Bool) (e : TermTree) : Type 0 where
    own : HasTypeUpTo (setting_with p types) kinds vars e t
    has_kind : HasKind (setting_of p) kinds k Nat
    width : SameTypes k (nat_lit (length b))

  indexed : {kinds : List Kind} {vars : List TypeTree} {t : TypeTree} (m k a w : TypeTree) (es : Terms) (b : List Bool) (j : ℕ) (e : TermTree) → element_at es j ≡ Some e → AreTermTypes (setting_with p types) kinds vars → HasType (setting_with p types) kinds vars (applied (prim VAt) (types_then (m ∷ k ∷ a ∷ []) (vec_lit w es ∷ lit U b ∷ []))) t → Indexed kinds vars k t b e
  unfolding sub
  indexed {kinds} {vars} {t} m k a w es b j e at g d =
      let of = prim_at_arguments (setting_with p types) kinds vars VAt (Nat ∷ Nat ∷ Val ∷ []) (vector (nat_sum (ty_var 2) (nat_lit 1)) (ty_var 0) ∷ scalar U (ty_var 1) ∷ []) (ty_var 0) (m ∷ k ∷ a ∷ []) (vec_lit w es ∷ lit U b ∷ []) t (sound_with p types sound are_closed) g refl refl refl d in
      let own = vector_element j e at of.args_given.0.has of.args_given.0.same in
      record {
        own = record { type = own.type; has = own.has; same = same_through (same_turned of.gives) own.same };
        has_kind = second_kind of.have;
        width = literal_width of.args_given.1.0.has of.args_given.1.0.same;
      }

  pub element_at_literal : {kinds : List Kind} {vars : List TypeTree} {t : TypeTree} (m k a w : TypeTree) (es : Terms) (b : List Bool) (last : ℕ) (e : TermTree) → evaluated m ≡ nat_lit last → last ≤ greatest → element_at es (min (number_of b) last) ≡ Some e → AreTermTypes (setting_with p types) kinds vars → HasType (setting_with p types) kinds vars (applied (prim VAt) (types_then (m ∷ k ∷ a ∷ []) (vec_lit w es ∷ lit U b ∷ []))) t → ActsUnder p kinds vars (with_origins o e) (with_origins o (applied (prim VAt) (types_then (m ∷ k ∷ a ∷ []) (vec_lit w es ∷ lit U b ∷ [])))) t
  unfolding sub
  element_at_literal m k a w es b last e number least at g d n δ γ' γ known names =
      let it = indexed m k a w es b (min (number_of b) last) e at g d in
      let same = same_through (same_turned (same_evaluated (closed_type k δ))) (closed_same p sound δ known it.has_kind kind_nat it.width).same in
      reached_acts p sound typed types o are_closed have g it.own d n δ γ' γ known names (λ h v x. taken_at p o γ δ h b m k a w es last e number least at (λ nil. no_bits b (zero_alone same nil)) v x)
