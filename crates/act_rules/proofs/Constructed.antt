-- What a constructor with all its arguments has, and that a data type's only constructor has one number.
use Rattle.std.specs.Prelude.{slice_get}
use Rattle.std.proofs.Common.{◌≡◌, ◌<◌, ◌+◌, ◌⊎◌, inl, inr, ℕ, suc, zero, Bool, true, false, ◌||◌, if◌then◌else◌, List, [], ◌∷◌, length, map, Some, refl, sym, ap, ◌∙◌, subst, arith}
use Rattle.std.specs.Prelude.{nat_lt}
use Rattle.std.proofs.lemmas.Bool.{lt-ltb, le-ltb}
use Rattle.chw_types.specs.declared.declarations.ConDecl.{ConDecl}
use Rattle.chw_types.specs.declared.declarations.Data.{Data}
use Rattle.chw_types.specs.Arguments.{list_of}
use Rattle.chw_types.specs.TypeTree.{TypeTree, TypeTrees, no_types, type_and}
use Rattle.chw_terms.specs.Constructors.{Constructor, cons_of, constructors_from, con_at, first_con}
use Rattle.chw_terms.specs.declared.program.Program.{Program}
use Rattle.chw_terms.specs.declared.term.Arg.TheVariants.{OfTerm}
use Rattle.chw_terms.specs.Evaluated.{evaluated}
use Rattle.chw_terms.specs.TermTree.{TermTree, app, ty_app, con}
use Rattle.chw_terms.specs.TermView.{applied}
use Rattle.chw_typing.specs.Given.{types_then}
use Rattle.chw_meaning.specs.Values.{History, con_head, Value, con_of, partial, closed, Thunks, none, thunk_and, count_of, closed_type}
use Rattle.chw_meaning.specs.Steps.{gives, takes_types, takes_thunks, lacks, saturated, step, params_of, fields_of}
use Rattle.chw_meaning.specs.Eval.{plus, Evals, e_app, e_ty_app, e_con, a_runs, t_runs, Runs, r_gives}
use Rattle.rewriting.specs.Origins.{with_origins}
use Rattle.act_rules.proofs.CasePlaces.{onto}
use Rattle.act_rules.proofs.CaseSpines.{origins_arg, origins_applied}

or_true : (b : Bool) → (b || true) ≡ true
or_true true = refl
or_true false = refl

module _ (p : Program) (c : ℕ) (it : Constructor) (held : con_at p.datas c ≡ Some it) (o : ℕ → TermTree) (γ : Thunks) (δ : TypeTrees) (h : History) where
  -- what the constructor gives on these arguments so far
  abbrev so_far : TypeTrees → Thunks → Value
  so_far ts ths = if lacks p.datas (con_head c) ts ths then partial (con_head c) ts ths else con_of c ths

  takes_so_many : (takes_types p.datas (con_head c) ≡ length it.it.params) × (takes_thunks p.datas (con_head c) ≡ length it.decl.fields)
  takes_so_many = (ap params_of held, ap fields_of held)

  gives_so_far : (ts : TypeTrees) (ths : Thunks) → step p.datas (con_head c) ts ths ≡ gives (so_far ts ths)
  gives_so_far ts ths = split (lacks p.datas (con_head c) ts ths)
    where
      split : (b : Bool) → (if b then gives (partial (con_head c) ts ths) else saturated (con_head c) ts ths) ≡ gives (if b then partial (con_head c) ts ths else con_of c ths)
      split true = refl
      split false = refl

  lacking : (ts : TypeTrees) (ths : Thunks) → lacks p.datas (con_head c) ts ths ≡ true → so_far ts ths ≡ partial (con_head c) ts ths
  lacking ts ths e = ap (λ b. if b then partial (con_head c) ts ths else con_of c ths) e

  whole : (ts : TypeTrees) (ths : Thunks) → length (list_of ts) ≡ length it.it.params → count_of ths ≡ length it.decl.fields → so_far ts ths ≡ con_of c ths
  whole ts ths types thunks = ap (λ b. if b then partial (con_head c) ts ths else con_of c ths) none_missing
    where
      none_missing : lacks p.datas (con_head c) ts ths ≡ false
      none_missing = let q = takes_so_many in λ i. le-ltb (length (list_of ts)) (takes_types p.datas (con_head c)) (omega (arith, types, q.0)) i || le-ltb (count_of ths) (takes_thunks p.datas (con_head c)) (omega (arith, thunks, q.1)) i

  abbrev Has : TermTree → Value → Type 0
  Has e v = (m : ℕ) × Evals p m e γ δ h v

  on_term : (e a : TermTree) (ts : TypeTrees) (ths : Thunks) → count_of ths < length it.decl.fields → Has e (so_far ts ths) → Has (app e a) (so_far ts (thunk_and (closed a γ δ) ths))
  on_term e a ts ths less d =
      let q = takes_so_many in
      let missing = ap (λ b. nat_lt (length (list_of ts)) (takes_types p.datas (con_head c)) || b) (lt-ltb (count_of ths) (takes_thunks p.datas (con_head c)) (omega (arith, less, q.1))) ∙ or_true (nat_lt (length (list_of ts)) (takes_types p.datas (con_head c))) in
      let run = subst (λ s. Runs p zero s h (so_far ts (thunk_and (closed a γ δ) ths))) (sym (gives_so_far ts (thunk_and (closed a γ δ) ths))) r_gives in
      (suc (plus d.0 (suc zero)), e_app (subst (λ v. Evals p d.0 e γ δ h v) (lacking ts ths missing) d.1) (a_runs run))

  on_type : (e : TermTree) (t : TypeTree) (ts : TypeTrees) → length (list_of ts) < length it.it.params → Has e (so_far ts none) → Has (ty_app e t) (so_far (type_and (evaluated (closed_type t δ)) ts) none)
  on_type e t ts less d =
      let q = takes_so_many in
      let us = type_and (evaluated (closed_type t δ)) ts in
      let missing = ap (λ b. b || nat_lt (count_of none) (takes_thunks p.datas (con_head c))) (lt-ltb (length (list_of ts)) (takes_types p.datas (con_head c)) (omega (arith, less, q.0))) in
      let run = subst (λ s. Runs p zero s h (so_far us none)) (sym (gives_so_far us none)) r_gives in
      (suc (plus d.0 (suc zero)), e_ty_app (subst (λ v. Evals p d.0 e γ δ h v) (lacking ts none missing) d.1) (t_runs run))

  on_terms : (es : List TermTree) (e : TermTree) (ts : TypeTrees) (ths : Thunks) → length (list_of ts) ≡ length it.it.params → count_of ths + length es ≡ length it.decl.fields → Has e (so_far ts ths) → Has (applied e (map (origins_arg o) (map (λ e. OfTerm e) es))) (con_of c (onto (map (λ e. closed (with_origins o e) γ δ) es) ths))
  on_terms [] e ts ths types thunks d = (d.0, subst (λ v. Evals p d.0 e γ δ h v) (whole ts ths types (omega (arith, thunks))) d.1)
  on_terms (a ∷ es) e ts ths types thunks d =
      on_terms es (app e (with_origins o a)) ts (thunk_and (closed (with_origins o a) γ δ) ths) types (omega (arith, thunks)) (on_term e (with_origins o a) ts ths (omega (arith, thunks)) d)

  on_types : (types : List TypeTree) (es : List TermTree) (e : TermTree) (ts : TypeTrees) → length (list_of ts) + length types ≡ length it.it.params → length es ≡ length it.decl.fields → Has e (so_far ts none) → Has (applied e (map (origins_arg o) (types_then types es))) (con_of c (onto (map (λ e. closed (with_origins o e) γ δ) es) none))
  on_types [] es e ts types thunks d = on_terms es e ts none (omega (arith, types)) (omega (arith, thunks)) d
  on_types (t ∷ more) es e ts types thunks d =
      on_types more es (ty_app e t) (type_and (evaluated (closed_type t δ)) ts) (omega (arith, types)) thunks (on_type e t ts (omega (arith, types)) d)

  -- it has that constructor on the thunks of its terms
  pub constructed : (types : List TypeTree) (es : List TermTree) → length types ≡ length it.it.params → length es ≡ length it.decl.fields → Has (with_origins o (applied (con c) (types_then types es))) (con_of c (onto (map (λ e. closed (with_origins o e) γ δ) es) none))
  unfolding with_origins
  constructed types es params fields =
      subst (λ e. Has e (con_of c (onto (map (λ e. closed (with_origins o e) γ δ) es) none))) (sym (origins_applied o (con c) (types_then types es)))
      (on_types types es (con c) no_types (omega (arith, params)) fields (suc zero, e_con (subst (λ s. Runs p zero s h (so_far no_types none)) (sym (gives_so_far no_types none)) r_gives)))

-- the constructor is one of these of a data type, or of the others
among : (d : ℕ) (x : Data) (ks : List ConDecl) (others : List Constructor) (c : ℕ) (it : Constructor) → slice_get (cons_of d x ks others) c ≡ Some it → ((it.of ≡ d) × (it.it ≡ x) × (c < length ks)) ⊎ ((i : ℕ) × (c ≡ length ks + i) × (slice_get others i ≡ Some it))
among d x [] others c it e = inr (c, omega arith, e)
among d x (k ∷ ks) others zero it e =
    let is : record { of = d; it = x; decl = k } ≡ it = cc in
    inl (ap (λ i. i.of) (sym is), ap (λ i. i.it) (sym is), omega arith)
among d x (k ∷ ks) others (suc c) it e = next (among d x ks others c it e)
  where
    next : ((it.of ≡ d) × (it.it ≡ x) × (c < length ks)) ⊎ ((i : ℕ) × (c ≡ length ks + i) × (slice_get others i ≡ Some it)) → ((it.of ≡ d) × (it.it ≡ x) × (suc c < length (k ∷ ks))) ⊎ ((i : ℕ) × (suc c ≡ length (k ∷ ks) + i) × (slice_get others i ≡ Some it))
    next (inl g) = inl (g.0, g.1, omega (arith, g.2))
    next (inr g) = inr (g.0, omega (arith, g.1), g.2)

-- how its number comes about
abbrev Numbered : ℕ → List Data → ℕ → Constructor → Type 0
Numbered d datas c it = (n : ℕ) × (it.of ≡ d + n) × (i : ℕ) × (c ≡ first_con datas n + i) × (i < length it.it.cons)

numbered : (d : ℕ) (datas : List Data) (c : ℕ) (it : Constructor) → slice_get (constructors_from d datas) c ≡ Some it → Numbered d datas c it
numbered d [] c it e = absurd (cc)
numbered d (x ∷ more) c it e = by (λ i f. numbered (suc d) more i it f) (among d x x.cons (constructors_from (suc d) more) c it e)
  where
    by : ((i : ℕ) → slice_get (constructors_from (suc d) more) i ≡ Some it → Numbered (suc d) more i it) → ((it.of ≡ d) × (it.it ≡ x) × (c < length x.cons)) ⊎ ((i : ℕ) × (c ≡ length x.cons + i) × (slice_get (constructors_from (suc d) more) i ≡ Some it)) → Numbered d (x ∷ more) c it
    by later (inl g) = (0, omega (arith, g.0), c, omega arith, subst (λ y. c < length y.cons) (sym g.1) g.2)
    by later (inr g) = let at = later g.0 g.2 in (suc at.0, omega (arith, at.1), at.2, omega (arith, g.1, at.3), at.4)

pub only_number : (datas : List Data) (c d : ℕ) (it other : Constructor) → con_at datas c ≡ Some it → con_at datas d ≡ Some other → it.of ≡ other.of → length it.it.cons ≡ 1 → length other.it.cons ≡ 1 → c ≡ d
only_number datas c d it other e f same one another =
    let a = numbered zero datas c it e in
    let b = numbered zero datas d other f in
    let at : a.0 ≡ b.0 = omega (arith, a.1, b.1, same) in
    let first = ap (first_con datas) at in
    omega (arith, a.3, a.4, b.3, b.4, one, another, first)
