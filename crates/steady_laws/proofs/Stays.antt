-- What is steady has the same value at every history, and that is steady.
use Rattle.std.specs.Prelude.{slice_get}
use Rattle.std.proofs.Common.{◌≡◌, ℕ, zero, List, Bool, Some, subst}
use Rattle.chw_types.specs.TypeTree.{TypeTree, TypeTrees, no_types, type_and}
use Rattle.chw_terms.specs.declared.program.Def.{Def}
use Rattle.chw_terms.specs.declared.program.Program.{Program}
use Rattle.chw_terms.specs.TermTree.{TermTree}
use Rattle.chw_meaning.specs.Values.{History, con_head, prim_head, Value, Thunk, Thunks}
use Rattle.chw_meaning.specs.Steps.{Step}
use Rattle.chw_meaning.specs.Eval.{Evals, e_var, e_global, e_lam, e_app, e_ty_lam, e_ty_app, e_letrec, e_con, e_prim, e_lit, e_vec, e_goes_on, e_takes, e_looks, Forces, f_closed, f_applied, f_member, f_field, f_element, f_sample, f_stream, f_known, Applies, a_closure, a_runs, TyApplies, t_closure, t_runs, Runs, r_gives, r_goes_to, r_computes, r_samples, r_first, r_later, r_zero_first, r_zero_outside, r_word, r_looks_up, Looks, l_empty, l_bits, Words, no_words, word_and}
use Rattle.steady_laws.specs.Steady.{IsOfValues, IsSteady, SteadyValue, steady_bits, steady_vec, steady_closure, steady_ty_closure, steady_partial, SteadyThunk, steady_closed, steady_applied, steady_member, steady_field, steady_element, steady_sample, steady_known, SteadyThunks, steady_none, steady_and}
use Rattle.steady_laws.proofs.Parts.{thunk_steady, joined_steady, group_steady, body_steady, fields_steady, closed_steady, data_steady, fields_of_steady, elements_of_steady, SteadyChoice, choice_steady, arm_steady}
use Rattle.steady_laws.proofs.Steps.{SteadyStep, step_gives, step_goes, step_computes, step_looks_up, step_steady, result_steady}

-- each definition of a type of values has a steady body
abbrev pub DefsAreSteady : Program → Type 0
DefsAreSteady p = (d : ℕ) (it : Def) → slice_get p.defs d ≡ Some it → IsOfValues p it.ty → IsSteady p it.body

mutual
  pub evals_stay : {p : Program} {n : ℕ} {e : TermTree} {γ : Thunks} {δ : TypeTrees} {h : History} {v : Value} → DefsAreSteady p → Evals p n e γ δ h v → IsSteady p e → SteadyThunks p γ → (g : History) → Evals p n e γ δ g v × SteadyValue p v
  evals_stay ds (e_var {x = x} i a) s env g = let r = forces_stay ds a (thunk_steady x env i) g in (e_var i r.0, r.1)
  evals_stay ds (e_global {d = d} {it = it} i a) s env g = let r = evals_stay ds a (ds d it i (s it i)) steady_none g in (e_global i r.0, r.1)
  evals_stay ds e_lam s env g = (e_lam, steady_closure s env)
  evals_stay ds (e_app a b) s env g =
      let q = evals_stay ds a s.0 env g in
      let r = applies_stay ds b q.1 (steady_closed s.1 env) g in
      (e_app q.0 r.0, r.1)
  evals_stay ds e_ty_lam s env g = (e_ty_lam, steady_ty_closure s env)
  evals_stay ds (e_ty_app a b) s env g =
      let q = evals_stay ds a s env g in
      let r = ty_applies_stay ds b q.1 g in
      (e_ty_app q.0 r.0, r.1)
  evals_stay {p} ds (e_letrec {g = group} {γ = γ} {δ = δ} a) s env g = let r = evals_stay ds a s.1 (group_steady p group γ δ s.0 env) g in (e_letrec r.0, r.1)
  evals_stay {p} ds (e_con {c = c} a) s env g = let r = runs_stay ds a (step_steady p.datas (con_head c) no_types tt steady_none) g in (e_con r.0, r.1)
  evals_stay {p} ds (e_prim {q = q} a) s env g = let r = runs_stay ds a (step_steady p.datas (prim_head q) no_types s steady_none) g in (e_prim r.0, r.1)
  evals_stay ds e_lit s env g = (e_lit, steady_bits)
  evals_stay {p} ds (e_vec {es = es} {γ = γ} {δ = δ}) s env g = (e_vec, steady_vec (closed_steady p es γ δ s env))
  evals_stay {p} ds (e_goes_on {alts = alts} i a) s env g =
      let r = evals_stay ds a (subst (SteadyChoice p) i (choice_steady p p.datas alts s.1)) env g in
      (e_goes_on i r.0, r.1)
  evals_stay {p} ds (e_takes {k = k} {alts = alts} i a) s env g =
      let r = evals_stay ds a (subst (SteadyChoice p) i (choice_steady p p.datas alts s.1)) (fields_steady zero k (steady_closed s.0 env) env) g in
      (e_takes i r.0, r.1)
  evals_stay ds (e_looks {alts = alts} i a j b) s env g =
      let q = evals_stay ds a s.0 env g in
      let arm = arm_steady q.1 alts s.1 j in
      let r = evals_stay ds b arm.0 (joined_steady arm.1 env) g in
      (e_looks i q.0 j r.0, r.1)

  pub forces_stay : {p : Program} {n : ℕ} {th : Thunk} {h : History} {v : Value} → DefsAreSteady p → Forces p n th h v → SteadyThunk p th → (g : History) → Forces p n th g v × SteadyValue p v
  forces_stay ds (f_closed a) (steady_closed s env) g = let r = evals_stay ds a s env g in (f_closed r.0, r.1)
  forces_stay ds (f_applied a b) (steady_applied s u) g =
      let q = forces_stay ds a s g in
      let r = applies_stay ds b q.1 u g in
      (f_applied q.0 r.0, r.1)
  forces_stay {p} ds (f_member {i = i} {g = group} {e = e} {γ = γ} {δ = δ} f a) (steady_member s env) g =
      let r = evals_stay ds a (body_steady p group i e s f) (group_steady p group γ δ s env) g in
      (f_member f r.0, r.1)
  forces_stay ds (f_field {i = i} a f b) (steady_field s) g =
      let q = forces_stay ds a s g in
      let r = forces_stay ds b (thunk_steady i (fields_of_steady q.1) f) g in
      (f_field q.0 f r.0, r.1)
  forces_stay ds (f_element {j = j} a f b) (steady_element s) g =
      let q = forces_stay ds a s g in
      let r = forces_stay ds b (thunk_steady j (elements_of_steady q.1) f) g in
      (f_element q.0 f r.0, r.1)
  forces_stay ds (f_sample {n = n} {v = v} a) (steady_sample s) g = (f_sample a, s n v a)
  forces_stay ds (f_stream f) s g = elim s [ ]
  forces_stay {p} ds (f_known {d = d}) steady_known g = (f_known, data_steady p d)

  pub applies_stay : {p : Program} {n : ℕ} {v : Value} {a : Thunk} {h : History} {w : Value} → DefsAreSteady p → Applies p n v a h w → SteadyValue p v → SteadyThunk p a → (g : History) → Applies p n v a g w × SteadyValue p w
  applies_stay ds (a_closure a) (steady_closure s env) u g = let r = evals_stay ds a s (steady_and u env) g in (a_closure r.0, r.1)
  applies_stay {p} ds (a_runs {hd = hd} {ts = ts} a) (steady_partial s env) u g = let r = runs_stay ds a (step_steady p.datas hd ts s (steady_and u env)) g in (a_runs r.0, r.1)

  ty_applies_stay : {p : Program} {n : ℕ} {v : Value} {t : TypeTree} {h : History} {w : Value} → DefsAreSteady p → TyApplies p n v t h w → SteadyValue p v → (g : History) → TyApplies p n v t g w × SteadyValue p w
  ty_applies_stay ds (t_closure a) (steady_ty_closure s env) g = let r = evals_stay ds a s env g in (t_closure r.0, r.1)
  ty_applies_stay {p} ds (t_runs {hd = hd} {ts = ts} {t = t} a) (steady_partial s env) g = let r = runs_stay ds a (step_steady p.datas hd (type_and t ts) s env) g in (t_runs r.0, r.1)

  runs_stay : {p : Program} {n : ℕ} {s : Step} {h : History} {v : Value} → DefsAreSteady p → Runs p n s h v → SteadyStep p s → (g : History) → Runs p n s g v × SteadyValue p v
  runs_stay ds r_gives (step_gives s) g = (r_gives, s)
  runs_stay ds (r_goes_to a) (step_goes s) g = let r = forces_stay ds a s g in (r_goes_to r.0, r.1)
  runs_stay {p} ds (r_computes {q = q} {b = b} a i) (step_computes s) g = (r_computes (words_stay ds a s g) i, result_steady p q b)
  runs_stay ds (r_looks_up a b) (step_looks_up s u) g =
      let r = forces_stay ds b (steady_element s) g in
      (r_looks_up (looks_stay ds a u g) r.0, r.1)
  runs_stay ds (r_samples a b) s g = elim s [ ]
  runs_stay ds (r_first i a) s g = elim s [ ]
  runs_stay ds (r_later i a) s g = elim s [ ]
  runs_stay ds (r_zero_first i z) s g = elim s [ ]
  runs_stay ds (r_zero_outside i a l z) s g = elim s [ ]
  runs_stay ds (r_word i a l b) s g = elim s [ ]

  looks_stay : {p : Program} {n k : ℕ} {th : Thunk} {h : History} {b : List Bool} → DefsAreSteady p → Looks p n k th h b → SteadyThunk p th → (g : History) → Looks p n k th g b
  looks_stay ds l_empty s g = l_empty
  looks_stay ds (l_bits a) s g = l_bits (forces_stay ds a s g).0

  words_stay : {p : Program} {n : ℕ} {ks : List ℕ} {ths : Thunks} {h : History} {bs : List (List Bool)} → DefsAreSteady p → Words p n ks ths h bs → SteadyThunks p ths → (g : History) → Words p n ks ths g bs
  words_stay ds no_words s g = no_words
  words_stay ds (word_and a more) (steady_and s ss) g = word_and (looks_stay ds a s g) (words_stay ds more ss g)
