-- A vector with one element replaced: its unrolled form.
use Rattle.std.specs.Prelude.{Some, nat_lt}
use Rattle.std.proofs.Common.{◌≡◌, ◌≤◌, ◌^◌, ℕ, suc, zero, Bool, true, false, if◌then◌else◌, List, [], ◌∷◌, map, reverse, refl, sym, ap, ◌∙◌, subst, arith}
use Rattle.std.proofs.lemmas.Bool.{eqb-true}
use Rattle.chw_base.specs.declared.limits.TheConstants.{SCALAR_BITS, VECTOR_LENGTH}
use Rattle.chw_bits.specs.Bits.{bits_of}
use Rattle.chw_bits.proofs.Numbers.{length-bits_of}
use Rattle.chw_types.specs.declared.kind.Kind.TheVariants.{Nat, Val}
use Rattle.chw_types.specs.declared.kind.Scalar.TheVariants.{U}
use Rattle.chw_types.specs.Arguments.{arguments}
use Rattle.chw_types.specs.Kinds.{kind_nat}
use Rattle.chw_types.specs.Polynomials.{greatest}
use Rattle.chw_types.specs.TypeMoves.{sub, put_at, up_by}
use Rattle.chw_types.specs.TypeTree.{TypeTree, ty_var, nat_lit, scalar, vector, fun, TypeTrees, no_types}
use Rattle.chw_prims.specs.Schemas.{bool}
use Rattle.chw_prims.specs.declared.prim.Primitive.TheVariants.{EqU}
use Rattle.chw_prims.specs.declared.row.Row.TheVariants.{Compare, Replaced}
use Rattle.chw_terms.specs.declared.program.Program.{Program}
use Rattle.chw_terms.specs.declared.term.Pattern.TheVariants.{OfCon}
use Rattle.chw_terms.specs.Constructors.{Constructor, con_at}
use Rattle.chw_terms.specs.Evaluated.{evaluated}
use Rattle.chw_terms.specs.TermTree.{TermTree, var, app, ty_app, prim, lit, Alts, no_alts, alt}
use Rattle.chw_terms.specs.TermView.{terms_of}
use Rattle.chw_terms.specs.Unrolled.{each as list_each, vec_of as vector_term, element as element_term, where_equal, body_of}
use Rattle.chw_layout.specs.Measured.{closed_value}
use Rattle.chw_typing.specs.Programs.{IsSound, setting_of}
use Rattle.chw_meaning.specs.Values.{Value, Thunk, closed, element, Thunks, none, thunk_and, thunk_at, joined}
use Rattle.chw_meaning.specs.Steps.{by_row, each_from, replacing, replaced}
use Rattle.chw_meaning.specs.Eval.{looks, is_only, by_fields, choice, Arm, matches, bound, arm_of, e_var, f_closed}
use Rattle.chw_meaning.proofs.Once.{same_some}
use Rattle.rewriting.specs.Origins.{with_origins, with_origins_all}
use Rattle.acts.specs.Levels.{Levels, later, term_runs, term_has, thunk_has, ThunksAct}
use Rattle.acts.specs.Acts.{AllAct, act_step, acts_from}
use Rattle.acts.proofs.Arms.{Seen, seen_bits, seen_con, seen, matches_same}
use Rattle.acts.proofs.Cases.{looks_acts, ArmActs, alt_acts}
use Rattle.acts.proofs.Forms.{TermsAct, lit_acts, thunk_acts, app_acts, ty_app_acts}
use Rattle.acts.proofs.Levels.{IsLevels, from_turns, runs_later, more}
use Rattle.acts.proofs.Rows.{prim_acts, compare_line, truth_con, falsity_con}
use Rattle.acts.proofs.Steps.{scalars_act}
use Rattle.acts.proofs.Widths.{closed_least, number_itself}
use Rattle.unroll_laws.proofs.Sized.{TwiceSized, is_twice_sized, twice_sized_view}
use Rattle.act_rules.proofs.Given.{at_env, given_at}
use Rattle.act_rules.proofs.PrimElements.{TermSteps, element_named, vector_steps, each_named}
use Rattle.act_rules.proofs.Maps.{closed_within}
use Rattle.act_rules.proofs.Shapes.{WithinLimits, RowUnrolls, on_three}
use Rattle.act_rules.proofs.Words.{number_up}

-- a term as a variable with a thunk as which it acts
by_thunk : {p : Program} {r : Levels} → IsLevels p r → (t : TypeTree) (e : TermTree) (γ' γ : Thunks) (δ' δ : TypeTrees) (i : ℕ) (x : Thunk) → thunk_at γ i ≡ Some x → ThunksAct p r t (closed e γ' δ') x → TermsAct p r t e γ' δ' (var i) γ δ
by_thunk {p} l t e γ' γ δ' δ i x at acts h' h m v al d = more l m t v (thunk_has p x h) (term_has p (var i) γ δ h) (λ w q. (suc q.0, e_var at q.1)) (acts h' h m v al (f_closed d))

both_none : (p : Program) (r : Levels) (xs' xs : Thunks) → AllAct p r [] xs' xs → (xs' ≡ none) × (xs ≡ none)
both_none p r none none h = (refl, refl)
both_none p r none (thunk_and x xs) h = absurd h
both_none p r (thunk_and x' xs') xs h = absurd h

-- a pattern of a constructor without fields binds nothing
bare_bound : (p : Program) (r : Levels) (c : ℕ) (it : Constructor) → con_at p.datas c ≡ Some it → it.decl.fields ≡ [] → {t : TypeTree} {v w : Value} → Seen p r t v w → matches v (OfCon (record { number = c }) 0) ≡ true → (bound v (OfCon (record { number = c }) 0) ≡ none) × (bound w (OfCon (record { number = c }) 0) ≡ none)
bare_bound p r c it held bare seen_bits hit = cc
bare_bound p r c it held bare (seen_con {tag = tag} {ts = ts} {it = other} {first = first} {second = second} found of parts) hit =
    let is : other ≡ it = same_some found (ap (λ i. con_at p.datas i) (eqb-true tag c hit) ∙ held) in
    let fields : other.decl.fields ≡ [] = ap (λ (i : Constructor). i.decl.fields) is ∙ bare in
    both_none p r first second (subst (λ fs. AllAct p r (reverse (map (λ f. sub f (arguments ts)) fs)) first second) fields parts)

beside_none : (p : Program) (r : Levels) (t : TypeTree) (e' e : TermTree) (γ' γ ys' ys : Thunks) (δ' δ : TypeTrees) → (ys' ≡ none) × (ys ≡ none) → TermsAct p r t e' γ' δ' e γ δ → TermsAct p r t e' (joined ys' γ') δ' e (joined ys γ) δ
beside_none p r t e' e γ' γ ys' ys δ' δ is acts =
    subst (λ zs. TermsAct p r t e' (joined zs γ') δ' e (joined ys γ) δ) (sym is.0) (subst (λ zs. TermsAct p r t e' γ' δ' e (joined zs γ) δ) (sym is.1) acts)

-- two constructors of truth values: a case on them looks
several : (p : Program) → IsSound (setting_of p) → is_only (con_at p.datas 1) ≡ false
several p sound = subst (λ datas. is_only (con_at datas 1) ≡ false) (sym sound.begins.1) refl

-- `case .. of { True -> x; False -> e; }`
abbrev truth_alts : TermTree → TermTree → Alts
truth_alts x e = alt (OfCon (record { number = 1 }) 0) x (alt (OfCon (record { number = 0 }) 0) e no_alts)

module _ (p : Program) (sound : IsSound (setting_of p)) (r : Levels) (l : IsLevels p r) (w a : TypeTree) (k j : ℕ) (wide : closed_value w ≡ k) (γ : Thunks) (δ : TypeTrees) (old : TermTree) (i x y : Thunk) (is : ThunksAct p r (scalar U w) (closed (var 1) γ δ) i) (xs : ThunksAct p r a (closed (var 0) γ δ) x) (ys : ThunksAct p r a (closed old γ δ) y) where
  -- what the meaning of the primitive looks at
  abbrev looked_at : Thunks
  looked_at = thunk_and i (thunk_and x (thunk_and y none))

  abbrev test : ℕ → TermTree
  test n = app (app (ty_app (prim EqU) (nat_lit k)) (var n)) (lit U (bits_of k j))

  least : k ≤ greatest
  least = subst (λ n. n ≤ greatest) wide (closed_least w)

  test_acts : TermsAct p r bool (test 1) γ δ (test 0) looked_at no_types
  unfolding sub put_at up_by evaluated
  test_acts =
      let c = scalar U (nat_lit k) in
      let equal = prim_acts p sound EqU (Compare U) refl (Nat ∷ []) (scalar U (ty_var 0) ∷ scalar U (ty_var 0) ∷ []) bool refl refl refl (compare_line p sound EqU U refl) r l γ looked_at δ no_types in
      let at = ty_app_acts l Nat (fun (scalar U (ty_var 0)) (fun (scalar U (ty_var 0)) bool)) (nat_lit k) (nat_lit k) (nat_lit k) (prim EqU) (prim EqU) γ looked_at δ no_types refl refl kind_nat refl equal in
      let index = by_thunk l c (var 1) γ looked_at δ no_types 0 i refl (scalars_act l U w (nat_lit k) (wide ∙ number_itself k least) (closed (var 1) γ δ) i is) in
      app_acts l c bool (app (ty_app (prim EqU) (nat_lit k)) (var 1)) (app (ty_app (prim EqU) (nat_lit k)) (var 0)) (lit U (bits_of k j)) (lit U (bits_of k j)) γ looked_at δ no_types
      (app_acts l c (fun c bool) (ty_app (prim EqU) (nat_lit k)) (ty_app (prim EqU) (nat_lit k)) (var 1) (var 0) γ looked_at δ no_types at index)
      (lit_acts l U (bits_of k j) (nat_lit k) (length-bits_of k j ∙ number_itself k least) γ looked_at δ no_types)

  looking : (f g : TermTree) → choice p.datas (truth_alts f g) ≡ looks
  looking f g = ap (λ b. by_fields b 0 f) (several p sound)

  arms : (n : ℕ) (v : Value) (set : Value → Type 0) (arm : Arm) → act_step p (later (suc n) r) bool v set → arm_of v (truth_alts (var 0) old) ≡ Some arm → ArmActs p (later (suc n) r) a (truth_alts (var 1) (var 2)) γ δ looked_at no_types set arm
  unfolding sub
  arms n v set arm asked found =
      let q = later (suc n) r in
      let s = seen bool no_types v set tt asked in
      let t = truth_con p sound in
      let f = falsity_con p sound in
      let new = runs_later l (suc n) a (term_runs p (var 0) γ δ) (term_has p (var 1) looked_at no_types) (by_thunk l a (var 0) γ looked_at δ no_types 1 x refl xs) in
      let kept = runs_later l (suc n) a (term_runs p old γ δ) (term_has p (var 2) looked_at no_types) (by_thunk l a old γ looked_at δ no_types 2 y refl ys) in
      let one = alt_acts {p = p} {r = q} a (OfCon (record { number = 1 }) 0) (var 0) (var 1) (alt (OfCon (record { number = 0 }) 0) old no_alts) (alt (OfCon (record { number = 0 }) 0) (var 2) no_alts) γ looked_at δ no_types v s.0 (matches_same s.2 (OfCon (record { number = 1 }) 0))
      (λ hit. beside_none p q a (var 0) (var 1) γ looked_at _ _ δ no_types (bare_bound p q 1 t.0 t.1 t.3 s.2 hit) new)
      (alt_acts {p = p} {r = q} a (OfCon (record { number = 0 }) 0) old (var 2) no_alts no_alts γ looked_at δ no_types v s.0 (matches_same s.2 (OfCon (record { number = 0 }) 0))
      (λ hit. beside_none p q a old (var 2) γ looked_at _ _ δ no_types (bare_bound p q 0 f.0 f.1 f.3 s.2 hit) kept) (λ b e. cc)) arm found in
      record { value = s.0; has_value = s.1; second = one.second; is_arm = one.is_arm; acts = one.acts }

  -- the term that chooses between the new element and the old one
  pub chosen_acts : ThunksAct p r a (closed (where_equal k (var 1) j (var 0) old) γ δ) (closed (replacing k j) looked_at no_types)
  chosen_acts =
      thunk_acts l a (where_equal k (var 1) j (var 0) old) (replacing k j) γ looked_at δ no_types
      (looks_acts l bool a (test 1) (test 0) (truth_alts (var 0) old) (truth_alts (var 1) (var 2)) γ looked_at δ no_types tt (looking (var 0) old) (looking (var 1) (var 2)) test_acts arms)

either_acts : (p : Program) (r : Levels) (o : ℕ → TermTree) (γ : Thunks) (δ : TypeTrees) (t : TypeTree) (b : Bool) (e f : TermTree) (x y : Thunk) → ThunksAct p r t (closed (with_origins o e) γ δ) x → ThunksAct p r t (closed (with_origins o f) γ δ) y → ThunksAct p r t (closed (with_origins o (if b then e else f)) γ δ) (if b then x else y)
either_acts p r o γ δ t true e f x y xs ys = xs
either_acts p r o γ δ t false e f x y xs ys = ys

-- vreplace v i x
abbrev replaced_term : ℕ → ℕ → TypeTree → ℕ → TermTree
replaced_term n k a j = if nat_lt j (2 ^ k) then where_equal k (var 1) j (var 0) (element_term Val n a (var 2) j) else element_term Val n a (var 2) j

abbrev replaced_body : ℕ → ℕ → TypeTree → TermTree
replaced_body n k a = vector_term a (list_each n (replaced_term n k a))

replaced_at : (p : Program) → IsSound (setting_of p) → {types : List TypeTree} {body : TermTree} → TwiceSized replaced_body types body → WithinLimits Replaced types → RowUnrolls p Replaced (vector (ty_var 2) (ty_var 0) ∷ scalar U (ty_var 1) ∷ ty_var 0 ∷ []) (vector (ty_var 2) (ty_var 0)) types body
unfolding sub evaluated with_origins
replaced_at p sound (is_twice_sized {size = size} {other = width} {a = a} m k e f) limits q o n γ δ xs all =
    on_three p (acts_from p n) a' (scalar U width') (vector size' a') (closed (var 0) γ δ) (closed (var 1) γ δ) (closed (var 2) γ δ)
    (λ xs. TermSteps p (acts_from p n) (vector size' a') (with_origins o (replaced_body m k (evaluated a))) γ δ (by_row Replaced q (given_at δ (size ∷ width ∷ a ∷ [])) xs))
    (λ v i x vs is xs. vector_steps l size' a' (evaluated a) (with_origins_all o (terms_of (list_each m (replaced_term m k (evaluated a))))) γ δ (each_from zero (closed_value size') (replaced (closed_value width') v i x))
    (each_named p (acts_from p n) o γ δ a' (replaced_term m k (evaluated a)) (replaced (closed_value width') v i x) m (closed_value size') (closed_within VECTOR_LENGTH size m δ e within (omega arith))
    (λ j less. subst (λ c. ThunksAct p (acts_from p n) a' (closed (with_origins o (replaced_term m k (evaluated a) j)) γ δ) (replaced c v i x j)) (sym wide)
    (let old = element_named l Val m (evaluated a) (var 2) γ δ size' a' j v (omega (arith, less, within)) vs in
    either_acts p (acts_from p n) o γ δ a' (nat_lt j (2 ^ k)) (where_equal k (var 1) j (var 0) (element_term Val m (evaluated a) (var 2) j)) (element_term Val m (evaluated a) (var 2) j) (closed (replacing k j) (thunk_and i (thunk_and x (thunk_and (element j v) none))) no_types) (element j v)
    (chosen_acts p sound (acts_from p n) l width' a' k j wide γ δ (element_term Val m (evaluated a) (var 2) j) i x (element j v) is xs old) old))))
    xs all
  where
    l : IsLevels p (acts_from p n)
    l = from_turns p n

    size' : TypeTree
    size' = at_env δ size

    width' : TypeTree
    width' = at_env δ width

    a' : TypeTree
    a' = at_env δ a

    within : m ≤ VECTOR_LENGTH
    within = number_up VECTOR_LENGTH size m e limits.short.0

    wide : closed_value width' ≡ k
    wide = closed_within SCALAR_BITS width k δ f (number_up SCALAR_BITS width k f limits.narrow.0) (omega arith)

pub replaces : (p : Program) → IsSound (setting_of p) → (types : List TypeTree) (body : TermTree) → body_of Replaced (map evaluated types) ≡ Some body → WithinLimits Replaced types → RowUnrolls p Replaced (vector (ty_var 2) (ty_var 0) ∷ scalar U (ty_var 1) ∷ ty_var 0 ∷ []) (vector (ty_var 2) (ty_var 0)) types body
replaces p sound types body e = replaced_at p sound (twice_sized_view replaced_body types body e)
