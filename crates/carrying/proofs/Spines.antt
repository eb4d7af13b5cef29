-- A constructor or primitive on the types and terms that it takes.
use Rattle.std.specs.Prelude.{if◌then◌else◌, nat_lt, ◌||◌, false, reverse}
use Rattle.std.proofs.Common.{◌≡◌, ◌+◌, ℕ, suc, zero, Bool, true, List, [], ◌∷◌, ◌++◌, length, map, refl, sym, ap, ◌∙◌, subst, arith}
use Rattle.std.proofs.lemmas.Bool.{lt-ltb, le-ltb}
use Rattle.std.proofs.lemmas.List.{reverse-reverse, append-nil}
use Rattle.chw_types.specs.Arguments.{list_of}
use Rattle.chw_prims.specs.declared.prim.Primitive.{Primitive as Prim}
use Rattle.chw_types.specs.TypeTree.{TypeTree, TypeTrees, no_types, type_and}
use Rattle.chw_terms.specs.declared.program.Program.{Program}
use Rattle.chw_terms.specs.declared.term.Arg.TheVariants.{OfTerm}
use Rattle.chw_terms.specs.Evaluated.{evaluated}
use Rattle.chw_terms.specs.TermTree.{TermTree, app, ty_app, con, prim}
use Rattle.chw_terms.specs.TermView.{applied}
use Rattle.chw_typing.proofs.Lists.{turned_onto}
use Rattle.chw_typing.specs.Given.{types_then}
use Rattle.chw_meaning.specs.Values.{History, Head, con_head, prim_head, Value, partial, Thunk, closed, Thunks, none, thunk_and, count_of, closed_type}
use Rattle.chw_meaning.specs.Steps.{gives, takes_types, takes_thunks, lacks, saturated, step}
use Rattle.chw_meaning.specs.Eval.{plus, Evals, e_app, e_ty_app, e_con, e_prim, a_runs, t_runs, Runs, r_gives}
use Rattle.carrying.specs.TermLaws.{onto, each_closed}

or_true : (b : Bool) → (b || true) ≡ true
or_true true = refl
or_true false = refl

abbrev pub head_term : Head → TermTree
head_term (con_head c) = con c
head_term (prim_head q) = prim q

-- types as they are given, before others, the last one first
abbrev pub typed : TypeTrees → List TypeTree → TypeTrees → TypeTrees
typed δ [] ts = ts
typed δ (t ∷ more) ts = typed δ more (type_and (evaluated (closed_type t δ)) ts)

many_typed : (δ : TypeTrees) (types : List TypeTree) (ts : TypeTrees) → length (list_of (typed δ types ts)) ≡ length types + length (list_of ts)
many_typed δ [] ts = omega arith
many_typed δ (t ∷ more) ts = let e = many_typed δ more (type_and (evaluated (closed_type t δ)) ts) in omega (arith, e)

pub typed_is : (δ : TypeTrees) (types : List TypeTree) (ts : TypeTrees) → list_of (typed δ types ts) ≡ reverse (map (λ t. evaluated (closed_type t δ)) types) ++ list_of ts
typed_is δ [] ts = refl
typed_is δ (t ∷ more) ts =
    typed_is δ more (type_and (evaluated (closed_type t δ)) ts)
    ∙ sym (turned_onto (evaluated (closed_type t δ)) (map (λ t. evaluated (closed_type t δ)) more) (list_of ts))

-- and back in their order
pub typed_back : (δ : TypeTrees) (types : List TypeTree) → reverse (list_of (typed δ types no_types)) ≡ map (λ t. evaluated (closed_type t δ)) types
typed_back δ types =
    ap reverse (typed_is δ types no_types ∙ append-nil (reverse (map (λ t. evaluated (closed_type t δ)) types)))
    ∙ reverse-reverse (map (λ t. evaluated (closed_type t δ)) types)

pub many_onto : (xs : List Thunk) (ths : Thunks) → count_of (onto xs ths) ≡ length xs + count_of ths
many_onto [] ths = omega arith
many_onto (x ∷ xs) ths = let e = many_onto xs (thunk_and x ths) in omega (arith, e)

module _ (p : Program) (hd : Head) (γ : Thunks) (δ : TypeTrees) (h : History) where
  -- what the head does on these arguments, the term has
  abbrev Reaches : TermTree → TypeTrees → Thunks → Type 0
  Reaches e ts ths = (n : ℕ) (v : Value) → Runs p n (step p.datas hd ts ths) h v → (m : ℕ) × Evals p m e γ δ h v

  waits : (ts : TypeTrees) (ths : Thunks) → lacks p.datas hd ts ths ≡ true → Runs p zero (step p.datas hd ts ths) h (partial hd ts ths)
  waits ts ths e = subst (λ s. Runs p zero s h (partial hd ts ths)) (sym (ap (λ b. if b then gives (partial hd ts ths) else saturated hd ts ths) e)) r_gives

  on_term : (e a : TermTree) (ts : TypeTrees) (ths : Thunks) → lacks p.datas hd ts ths ≡ true → Reaches e ts ths → Reaches (app e a) ts (thunk_and (closed a γ δ) ths)
  on_term e a ts ths l r n v run = let f = r zero (partial hd ts ths) (waits ts ths l) in (suc (plus f.0 (suc n)), e_app f.1 (a_runs run))

  on_type : (e : TermTree) (t : TypeTree) (ts : TypeTrees) → lacks p.datas hd ts none ≡ true → Reaches e ts none → Reaches (ty_app e t) (type_and (evaluated (closed_type t δ)) ts) none
  on_type e t ts l r n v run = let f = r zero (partial hd ts none) (waits ts none l) in (suc (plus f.0 (suc n)), e_ty_app f.1 (t_runs run))

  on_terms : (es : List TermTree) (e : TermTree) (ts : TypeTrees) (ths : Thunks) → count_of ths + length es ≡ takes_thunks p.datas hd → Reaches e ts ths → Reaches (applied e (map (λ a. OfTerm a) es)) ts (onto (each_closed es γ δ) ths)
  on_terms [] e ts ths many r = r
  on_terms (a ∷ es) e ts ths many r =
      let missing = ap (λ b. nat_lt (length (list_of ts)) (takes_types p.datas hd) || b) (lt-ltb (count_of ths) (takes_thunks p.datas hd) (omega (arith, many))) ∙ or_true (nat_lt (length (list_of ts)) (takes_types p.datas hd)) in
      on_terms es (app e a) ts (thunk_and (closed a γ δ) ths) (omega (arith, many)) (on_term e a ts ths missing r)

  on_types : (types : List TypeTree) (es : List TermTree) (e : TermTree) (ts : TypeTrees) → length (list_of ts) + length types ≡ takes_types p.datas hd → length es ≡ takes_thunks p.datas hd → Reaches e ts none → Reaches (applied e (types_then types es)) (typed δ types ts) (onto (each_closed es γ δ) none)
  on_types [] es e ts many as_many r = on_terms es e ts none (omega (arith, as_many)) r
  on_types (t ∷ more) es e ts many as_many r =
      let missing = ap (λ b. b || nat_lt (count_of none) (takes_thunks p.datas hd)) (lt-ltb (length (list_of ts)) (takes_types p.datas hd) (omega (arith, many))) in
      on_types more es (ty_app e t) (type_and (evaluated (closed_type t δ)) ts) (omega (arith, many)) as_many (on_type e t ts missing r)

  complete : (types : List TypeTree) (es : List TermTree) → length types ≡ takes_types p.datas hd → length es ≡ takes_thunks p.datas hd → lacks p.datas hd (typed δ types no_types) (onto (each_closed es γ δ) none) ≡ false
  complete types es many as_many =
      let a = many_typed δ types no_types in
      let b = many_onto (each_closed es γ δ) none in
      let c = many_closed es in
      λ i. le-ltb (length (list_of (typed δ types no_types))) (takes_types p.datas hd) (omega (arith, a, many)) i
      || le-ltb (count_of (onto (each_closed es γ δ) none)) (takes_thunks p.datas hd) (omega (arith, b, c, as_many)) i
    where
      many_closed : (es : List TermTree) → length (each_closed es γ δ) ≡ length es
      many_closed [] = refl
      many_closed (e ∷ es) = ap suc (many_closed es)

  -- on all its arguments
  pub whole : (start : Reaches (head_term hd) no_types none) (types : List TypeTree) (es : List TermTree) → length types ≡ takes_types p.datas hd → length es ≡ takes_thunks p.datas hd → (n : ℕ) (v : Value) → Runs p n (saturated hd (typed δ types no_types) (onto (each_closed es γ δ) none)) h v → (m : ℕ) × Evals p m (applied (head_term hd) (types_then types es)) γ δ h v
  whole start types es many as_many n v run =
      let ts = typed δ types no_types in
      let ths = onto (each_closed es γ δ) none in
      on_types types es (head_term hd) no_types (omega (arith, many)) as_many start n v
      (subst (λ s. Runs p n s h v) (sym (ap (λ b. if b then gives (partial hd ts ths) else saturated hd ts ths) (complete types es many as_many))) run)

pub con_whole : (p : Program) (c : ℕ) (γ : Thunks) (δ : TypeTrees) (h : History) (types : List TypeTree) (es : List TermTree) → length types ≡ takes_types p.datas (con_head c) → length es ≡ takes_thunks p.datas (con_head c) → (n : ℕ) (v : Value) → Runs p n (saturated (con_head c) (typed δ types no_types) (onto (each_closed es γ δ) none)) h v → (m : ℕ) × Evals p m (applied (con c) (types_then types es)) γ δ h v
con_whole p c γ δ h = whole p (con_head c) γ δ h (λ n v run. (suc n, e_con run))

pub prim_whole : (p : Program) (q : Prim) (γ : Thunks) (δ : TypeTrees) (h : History) (types : List TypeTree) (es : List TermTree) → length types ≡ takes_types p.datas (prim_head q) → length es ≡ takes_thunks p.datas (prim_head q) → (n : ℕ) (v : Value) → Runs p n (saturated (prim_head q) (typed δ types no_types) (onto (each_closed es γ δ) none)) h v → (m : ℕ) × Evals p m (applied (prim q) (types_then types es)) γ δ h v
prim_whole p q γ δ h = whole p (prim_head q) γ δ h (λ n v run. (suc n, e_prim run))
