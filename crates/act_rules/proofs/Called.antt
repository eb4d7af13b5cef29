-- What a primitive does on all its arguments, its application has.
use Rattle.std.specs.Prelude.{nat_lt}
use Rattle.std.proofs.Common.{◌≡◌, ◌<◌, ◌+◌, ℕ, suc, zero, Bool, true, false, ◌||◌, if◌then◌else◌, List, [], ◌∷◌, length, map, refl, sym, ap, ◌∙◌, subst, arith}
use Rattle.std.proofs.lemmas.Bool.{lt-ltb, le-ltb}
use Rattle.chw_types.specs.TypeTree.{TypeTree, TypeTrees, no_types, type_and}
use Rattle.chw_types.specs.Arguments.{list_of}
use Rattle.chw_prims.specs.declared.prim.Primitive.{Primitive as Prim}
use Rattle.chw_prims.specs.Schemas.{row_of, schema_type}
use Rattle.chw_terms.specs.declared.program.Program.{Program}
use Rattle.chw_terms.specs.declared.term.Arg.TheVariants.{OfTerm, OfType}
use Rattle.chw_terms.specs.TermTree.{TermTree, app, ty_app, prim}
use Rattle.chw_terms.specs.TermView.{applied}
use Rattle.chw_typing.specs.Given.{types_then}
use Rattle.chw_meaning.specs.Values.{History, Value, prim_head, partial, closed, Thunks, none, thunk_and, count_of}
use Rattle.chw_meaning.specs.Steps.{gives, types_asked, thunks_asked, lacks, by_row, saturated, step}
use Rattle.chw_meaning.specs.Eval.{Evals, e_app, e_ty_app, e_prim, a_runs, t_runs, Runs, r_gives}
use Rattle.acts.specs.Levels.{term_has}
use Rattle.acts.proofs.Telescopes.{step_has}
use Rattle.rewriting.specs.Origins.{with_origins}
use Rattle.act_rules.proofs.CasePlaces.{onto}
use Rattle.act_rules.proofs.CaseSpines.{origins_arg, origins_applied}
use Rattle.act_rules.proofs.Given.{at_env, types_onto, given_at, thunks_of}

or_true : (b : Bool) → (b || true) ≡ true
or_true true = refl
or_true false = refl

module _ (p : Program) (q : Prim) where
  missing : (ts : TypeTrees) (xs : Thunks) → count_of xs < thunks_asked (schema_type q) → step p.datas (prim_head q) ts xs ≡ gives (partial (prim_head q) ts xs)
  missing ts xs less = ap (λ b. if b then gives (partial (prim_head q) ts xs) else saturated (prim_head q) ts xs) lacking
    where
      lacking : lacks p.datas (prim_head q) ts xs ≡ true
      lacking = ap (λ b. nat_lt (length (list_of ts)) (types_asked (schema_type q)) || b) (lt-ltb (count_of xs) (thunks_asked (schema_type q)) less) ∙ or_true (nat_lt (length (list_of ts)) (types_asked (schema_type q)))

  pub complete : (ts : TypeTrees) (xs : Thunks) → length (list_of ts) ≡ types_asked (schema_type q) → count_of xs ≡ thunks_asked (schema_type q) → step p.datas (prim_head q) ts xs ≡ by_row (row_of q) q ts xs
  complete ts xs types thunks = ap (λ b. if b then gives (partial (prim_head q) ts xs) else saturated (prim_head q) ts xs) whole
    where
      whole : lacks p.datas (prim_head q) ts xs ≡ false
      whole = λ i. le-ltb (length (list_of ts)) (types_asked (schema_type q)) (omega (arith, types)) i || le-ltb (count_of xs) (thunks_asked (schema_type q)) (omega (arith, thunks)) i

module _ (p : Program) (q : Prim) (o : ℕ → TermTree) (γ : Thunks) (δ : TypeTrees) (h : History) where
  abbrev Has : TermTree → Value → Type 0
  Has e v = (m : ℕ) × Evals p m e γ δ h v

  on_type : (e : TermTree) (t : TypeTree) (ts : TypeTrees) → 0 < thunks_asked (schema_type q) → Has e (partial (prim_head q) ts none) → Has (ty_app e t) (partial (prim_head q) (type_and (at_env δ t) ts) none)
  on_type e t ts some d =
      let us = type_and (at_env δ t) ts in
      (_, e_ty_app d.1 (t_runs (subst (λ s. Runs p zero s h (partial (prim_head q) us none)) (sym (missing p q us none some)) r_gives)))

  on_term : (e a : TermTree) (ts : TypeTrees) (xs : Thunks) → suc (count_of xs) < thunks_asked (schema_type q) → Has e (partial (prim_head q) ts xs) → Has (app e a) (partial (prim_head q) ts (thunk_and (closed a γ δ) xs))
  on_term e a ts xs some d =
      let ys = thunk_and (closed a γ δ) xs in
      (_, e_app d.1 (a_runs (subst (λ s. Runs p zero s h (partial (prim_head q) ts ys)) (sym (missing p q ts ys some)) r_gives)))

  on_last : (e a : TermTree) (ts : TypeTrees) (xs : Thunks) (v : Value) → length (list_of ts) ≡ types_asked (schema_type q) → suc (count_of xs) ≡ thunks_asked (schema_type q) → Has e (partial (prim_head q) ts xs) → step_has p (by_row (row_of q) q ts (thunk_and (closed a γ δ) xs)) h v → Has (app e a) v
  on_last e a ts xs v types thunks d run =
      let ys = thunk_and (closed a γ δ) xs in
      (_, e_app d.1 (a_runs (subst (λ s. Runs p run.0 s h v) (sym (complete p q ts ys types thunks)) run.1)))

  on_terms : (es : List TermTree) (e : TermTree) (ts : TypeTrees) (xs : Thunks) (v : Value) → length (list_of ts) ≡ types_asked (schema_type q) → 0 < length es → count_of xs + length es ≡ thunks_asked (schema_type q) → Has e (partial (prim_head q) ts xs) → step_has p (by_row (row_of q) q ts (onto (thunks_of o γ δ es) xs)) h v → Has (applied e (map (origins_arg o) (map (λ e. OfTerm e) es))) v
  on_terms [] e ts xs v types some thunks d run = absurd (let bad : ⊥ = omega (arith, some) in bad)
  on_terms (a ∷ []) e ts xs v types some thunks d run = on_last e (with_origins o a) ts xs v types (omega (arith, thunks)) d run
  on_terms (a ∷ b ∷ es) e ts xs v types some thunks d run =
      on_terms (b ∷ es) (app e (with_origins o a)) ts (thunk_and (closed (with_origins o a) γ δ) xs) v types (omega arith) (omega (arith, thunks)) (on_term e (with_origins o a) ts xs (omega (arith, thunks)) d) run

  on_types : (types : List TypeTree) (es : List TermTree) (e : TermTree) (ts : TypeTrees) (v : Value) → length (list_of ts) + length types ≡ types_asked (schema_type q) → 0 < length es → length es ≡ thunks_asked (schema_type q) → Has e (partial (prim_head q) ts none) → step_has p (by_row (row_of q) q (types_onto (at_env δ) types ts) (onto (thunks_of o γ δ es) none)) h v → Has (applied e (map (origins_arg o) (types_then types es))) v
  on_types [] es e ts v types some thunks d run = on_terms es e ts none v (omega (arith, types)) some (omega (arith, thunks)) d run
  on_types (t ∷ more) es e ts v types some thunks d run =
      on_types more es (ty_app e t) (type_and (at_env δ t) ts) v (omega (arith, types)) some thunks (on_type e t ts (omega (arith, some, thunks)) d) run

  types_only : (types : List TypeTree) (e : TermTree) (ts : TypeTrees) → 0 < thunks_asked (schema_type q) → Has e (partial (prim_head q) ts none) → Has (applied e (map (λ t. OfType t) types)) (partial (prim_head q) (types_onto (at_env δ) types ts) none)
  types_only [] e ts some d = d
  types_only (t ∷ more) e ts some d = types_only more (ty_app e t) (type_and (at_env δ t) ts) some (on_type e t ts some d)

  alone : 0 < thunks_asked (schema_type q) → Has (prim q) (partial (prim_head q) no_types none)
  alone some = (suc zero, e_prim (subst (λ s. Runs p zero s h (partial (prim_head q) no_types none)) (sym (missing p q no_types none some)) r_gives))

  -- on types alone it lacks its terms
  pub partial_has : (types : List TypeTree) → 0 < thunks_asked (schema_type q) → Has (applied (prim q) (map (λ t. OfType t) types)) (partial (prim_head q) (given_at δ types) none)
  partial_has types some = types_only types (prim q) no_types some (alone some)

  pub prim_has : (types : List TypeTree) (es : List TermTree) (v : Value) → length types ≡ types_asked (schema_type q) → 0 < length es → length es ≡ thunks_asked (schema_type q) → step_has p (by_row (row_of q) q (given_at δ types) (onto (thunks_of o γ δ es) none)) h v → term_has p (with_origins o (applied (prim q) (types_then types es))) γ δ h v
  unfolding with_origins
  prim_has types es v many some thunks run =
      subst (λ e. Has e v) (sym (origins_applied o (prim q) (types_then types es)))
      (on_types types es (prim q) no_types v (omega (arith, many)) some thunks (alone (omega (arith, some, thunks))) run)
