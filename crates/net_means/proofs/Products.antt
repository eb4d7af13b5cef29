-- A product that is made of given fields, and what its fields have.
use Rattle.std.specs.Prelude.{if◌then◌else◌, nat_lt, ◌||◌}
use Rattle.std.proofs.Common.{◌≡◌, ◌+◌, ◌<◌, ℕ, zero, suc, Bool, true, false, List, length, Some, refl, sym, ap, ◌∙◌, subst, arith}
use Rattle.std.proofs.lemmas.Bool.{lt-ltb, le-ltb}
use Rattle.chw_types.specs.Arguments.{list_of}
use Rattle.chw_types.specs.TypeMoves.{Substitution}
use Rattle.chw_types.specs.TypeTree.{TypeTree, TypeTrees, no_types, type_and}
use Rattle.chw_terms.specs.declared.program.Program.{Program}
use Rattle.chw_terms.specs.Evaluated.{evaluated}
use Rattle.chw_terms.specs.TermTree.{TermTree, ty_app, con}
use Rattle.chw_meaning.specs.Values.{History, con_head, Value, con_of, partial, Thunk, closed, applied, field, Thunks, none, thunk_and, thunk_at, count_of, closed_type}
use Rattle.chw_meaning.specs.Steps.{gives, takes_types, takes_thunks, lacks, saturated, step}
use Rattle.chw_meaning.specs.Eval.{plus, Evals, e_ty_app, e_con, Forces, f_closed, f_applied, f_field, a_runs, t_runs, Runs, r_gives}
use Rattle.chw_meaning.specs.Gives.{Input, at_types, FieldsGiven, given_no_field, given_field}
use Rattle.net_means.specs.CircuitBits.Leaves.{HasAllOf}

or_true : (b : Bool) → (b || true) ≡ true
or_true true = refl
or_true false = refl

one_further : (all : Thunks) (n i : ℕ) (x : Thunk) → thunk_at all (n + suc i) ≡ Some x → thunk_at all (suc n + i) ≡ Some x
one_further all n i x e = let same : suc n + i ≡ n + suc i = omega arith in ap (thunk_at all) same ∙ e

pub none_further : (all : Thunks) (n : ℕ) (x : Thunk) → thunk_at all (n + zero) ≡ Some x → thunk_at all n ≡ Some x
none_further all n x e = let same : n ≡ n + zero = omega arith in ap (thunk_at all) same ∙ e

module _ (p : Program) (c : ℕ) (h : History) where
  -- what the constructor does on these arguments, the term has, and the thunk
  abbrev TermReaches : TermTree → TypeTrees → Type 0
  TermReaches e ts = (n : ℕ) (v : Value) → Runs p n (step p.datas (con_head c) ts none) h v → (m : ℕ) × Evals p m e none no_types h v

  abbrev pub Reaches : Thunk → TypeTrees → Thunks → Type 0
  Reaches th ts ths = (n : ℕ) (v : Value) → Runs p n (step p.datas (con_head c) ts ths) h v → (m : ℕ) × Forces p m th h v

  waits : (ts : TypeTrees) (ths : Thunks) → lacks p.datas (con_head c) ts ths ≡ true → Runs p zero (step p.datas (con_head c) ts ths) h (partial (con_head c) ts ths)
  waits ts ths e = subst (λ s. Runs p zero s h (partial (con_head c) ts ths)) (sym (ap (λ b. if b then gives (partial (con_head c) ts ths) else saturated (con_head c) ts ths) e)) r_gives

  -- on the arguments of its data type
  record TypesGiven (e : TermTree) : Type 0 where
    types : TypeTrees
    many : length (list_of types) ≡ takes_types p.datas (con_head c)
    reaches : TermReaches e types

  types_given : (ts : TypeTrees) (e : TermTree) (before : TypeTrees) → length (list_of before) + length (list_of ts) ≡ takes_types p.datas (con_head c) → TermReaches e before → TypesGiven (at_types e ts)
  types_given no_types e before many r = record { types = before; many = omega (arith, many); reaches = r }
  types_given (type_and t ts) e before many r =
      let missing = ap (λ b. b || nat_lt (count_of none) (takes_thunks p.datas (con_head c))) (lt-ltb (length (list_of before)) (takes_types p.datas (con_head c)) (omega (arith, many))) in
      types_given ts (ty_app e t) (type_and (evaluated (closed_type t no_types)) before) (omega (arith, many))
      (λ n v run. let f = r zero (partial (con_head c) before none) (waits before none missing) in (suc (plus f.0 (suc n)), e_ty_app f.1 (t_runs run)))

  -- the constructor on these types, as a thunk
  pub record HeadGiven (ts : TypeTrees) : Type 0 where
    pub types : TypeTrees
    pub many : length (list_of types) ≡ takes_types p.datas (con_head c)
    pub reaches : Reaches (closed (at_types (con c) ts) none no_types) types none

  pub head_given : (ts : TypeTrees) → length (list_of ts) ≡ takes_types p.datas (con_head c) → HeadGiven ts
  head_given ts many =
      let g = types_given ts (con c) no_types (omega (arith, many)) (λ n v run. (suc n, e_con run)) in
      record { types = g.types; many = g.many; reaches = λ n v run. let d = g.reaches n v run in (d.0, f_closed d.1) }

  -- one more field
  pub with_field : (th x : Thunk) (ts : TypeTrees) (ths : Thunks) → count_of ths < takes_thunks p.datas (con_head c) → Reaches th ts ths → Reaches (applied th x) ts (thunk_and x ths)
  with_field th x ts ths l r n v run =
      let missing = ap (λ b. nat_lt (length (list_of ts)) (takes_types p.datas (con_head c)) || b) (lt-ltb (count_of ths) (takes_thunks p.datas (con_head c)) l) ∙ or_true (nat_lt (length (list_of ts)) (takes_types p.datas (con_head c))) in
      let f = r zero (partial (con_head c) ts ths) (waits ts ths missing) in (suc (plus f.0 (suc n)), f_applied f.1 (a_runs run))

  -- with all its fields it is data, in which those stand that were given first behind so many others
  pub record Made (th : Thunk) (ths : Thunks) (k : ℕ) : Type 0 where
    pub all : Thunks
    pub turns : ℕ
    pub forced : Forces p turns th h (con_of c all)
    pub kept : (i : ℕ) (x : Thunk) → thunk_at ths i ≡ Some x → thunk_at all (k + i) ≡ Some x

  made_whole : (th : Thunk) (ts : TypeTrees) (ths : Thunks) → length (list_of ts) ≡ takes_types p.datas (con_head c) → count_of ths ≡ takes_thunks p.datas (con_head c) → Reaches th ts ths → Made th ths zero
  made_whole th ts ths many full r =
      let complete : lacks p.datas (con_head c) ts ths ≡ false =
      λ i. le-ltb (length (list_of ts)) (takes_types p.datas (con_head c)) (omega (arith, many)) i
      || le-ltb (count_of ths) (takes_thunks p.datas (con_head c)) (omega (arith, full)) i in
      let f = r zero (con_of c ths) (subst (λ s. Runs p zero s h (con_of c ths)) (sym (ap (λ b. if b then gives (partial (con_head c) ts ths) else saturated (con_head c) ts ths) complete)) r_gives) in
      record { all = ths; turns = f.0; forced = f.1; kept = λ i x e. let same : zero + i ≡ i = omega arith in ap (thunk_at ths) same ∙ e }

  pub fields_made : {fs : List TypeTree} {σ : Substitution} {on th : Thunk} {ins more : List Input} → FieldsGiven p.datas fs σ on ins th more → (ts : TypeTrees) (ths : Thunks) → length (list_of ts) ≡ takes_types p.datas (con_head c) → count_of ths + length fs ≡ takes_thunks p.datas (con_head c) → Reaches on ts ths → Made th ths (length fs)
  fields_made {on = on} given_no_field ts ths many full r = made_whole on ts ths many (omega (arith, full)) r
  fields_made (given_field {fs = fs} {on = on} {x = x} given more) ts ths many full r =
      let rest = fields_made more ts (thunk_and x ths) many (omega (arith, full)) (with_field on x ts ths (omega (arith, full)) r) in
      record {
        all = rest.all;
        turns = rest.turns;
        forced = rest.forced;
        kept = λ i y e. one_further rest.all (length fs) i y (rest.kept (suc i) y e);
      }

  -- a field of what has all that the data have, has all that the field's thunk has
  pub field_follows : (th on x : Thunk) (k n : ℕ) (all : Thunks) → HasAllOf p h th on → Forces p n on h (con_of c all) → thunk_at all k ≡ Some x → HasAllOf p h (field k th) x
  field_follows th on x k n all follows forced at m v f = let g = follows n (con_of c all) forced in (suc (plus g.0 m), f_field g.1 at f)
