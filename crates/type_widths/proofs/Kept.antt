-- What is kept of data types stays right.
use Rattle.std.proofs.Common.{rules, ◌≡◌, ℕ, Bool, true, false, ◌&&◌, cond, List, [], ◌∷◌, Option, Some, None, IfSome, refl, sym, ap, subst, eqb, eqb-true}
use Rattle.std.specs.Map.{lookup}
use Rattle.std.specs.Cmp.Lexicographic.{pointwise}
use Rattle.std.proofs.lemmas.Bool.{and_parts, false≢true}
use Rattle.std.proofs.lemmas.Option.{none-some, same_Some}
use denote.Enum.Bare.{sameb, same_true}
use Rattle.indexmap.specs.IndexMap.{insert_entry}
use Rattle.chw_types.specs.declared.declarations.Data.{Data}
use Rattle.type_widths.specs.contracts.outcome.Limit as limit_type
use Rattle.type_widths.specs.contracts.outcome.OutcomePartialEq.TheImpl.{eq-value as same_outcome}
use Rattle.type_widths.specs.contracts.widths.InstancePartialEq.TheImpl.{eq-value}
use Rattle.type_widths.specs.declared.outcome.Limit.{Limit}
use Rattle.type_widths.specs.declared.outcome.Outcome.{Outcome}
use Rattle.type_widths.specs.declared.outcome.Outcome.TheVariants.{Number, Fits, TooWide}
use Rattle.type_widths.specs.declared.widths.Instance.{Instance}
use Rattle.type_widths.specs.Known.{AreRight}
use Rattle.type_widths.specs.Outcomes.{IsOutcomeOf}

too_wide_one : (l k : Limit) (m n : ℕ) → same_outcome.it (TooWide l m) (TooWide k n) ≡ true → TooWide l m ≡ TooWide k n
too_wide_one l k m n e =
    let p = and_parts (sameb limit_type.the_type l k) (eqb m n) e in
    let limit : l ≡ k = same_true limit_type.the_type (search rules) l k p.0 in
    let size : m ≡ n = eqb-true m n p.1 in
    λ i. TooWide (limit i) (size i)

one_outcome : (o p : Outcome) → same_outcome.it o p ≡ true → o ≡ p
one_outcome (Number m) (Number n) e = ap (λ n. Number n) (eqb-true m n e)
one_outcome (Fits m) (Fits n) e = ap (λ n. Fits n) (eqb-true m n e)
one_outcome (TooWide l m) (TooWide k n) e = too_wide_one l k m n e
one_outcome (Number m) (Fits n) e = absurd (false≢true e)
one_outcome (Number m) (TooWide k n) e = absurd (false≢true e)
one_outcome (Fits m) (Number n) e = absurd (false≢true e)
one_outcome (Fits m) (TooWide k n) e = absurd (false≢true e)
one_outcome (TooWide l m) (Number n) e = absurd (false≢true e)
one_outcome (TooWide l m) (Fits n) e = absurd (false≢true e)

one_list : (os ps : List Outcome) → pointwise same_outcome.it os ps ≡ true → os ≡ ps
one_list [] [] e = refl
one_list (o ∷ os) (p ∷ ps) e =
    let q = and_parts (same_outcome.it o p) (pointwise same_outcome.it os ps) e in
    let first : o ≡ p = one_outcome o p q.0 in
    let rest : os ≡ ps = one_list os ps q.1 in
    λ i. first i ∷ rest i
one_list [] (p ∷ ps) e = absurd (false≢true e)
one_list (o ∷ os) [] e = absurd (false≢true e)

-- what is found equal is a data type at the same outcomes
one_instance : (datas : List Data) (i j : Instance) (o : Outcome) → eq-value.it i j ≡ true → IsOutcomeOf datas i.at i.outs.items o → IsOutcomeOf datas j.at j.outs.items o
one_instance datas i j o e is =
    let p = and_parts (eqb i.at j.at) (pointwise same_outcome.it i.outs.items j.outs.items) e in
    subst (λ d. IsOutcomeOf datas d j.outs.items o) (eqb-true i.at j.at p.0)
    (subst (λ os. IsOutcomeOf datas i.at os o) (one_list i.outs.items j.outs.items p.1) is)

back_instance : (datas : List Data) (i j : Instance) (o : Outcome) → eq-value.it i j ≡ true → IsOutcomeOf datas j.at j.outs.items o → IsOutcomeOf datas i.at i.outs.items o
back_instance datas i j o e is =
    let p = and_parts (eqb i.at j.at) (pointwise same_outcome.it i.outs.items j.outs.items) e in
    subst (λ d. IsOutcomeOf datas d i.outs.items o) (sym (eqb-true i.at j.at p.0))
    (subst (λ os. IsOutcomeOf datas j.at os o) (sym (one_list i.outs.items j.outs.items p.1)) is)

-- what is found is right
recalled : (datas : List Data) (es : List (Instance × Outcome)) (i : Instance) (o : Outcome) → AreRight datas es → lookup (eq-value.it i) es ≡ Some o → IsOutcomeOf datas i.at i.outs.items o
recalled datas [] i o right found = absurd (none-some o found)
recalled datas (e ∷ es) i o right found = by (eq-value.it i e.0) refl (λ is. recalled datas es i o right.1 is) found
  where
    by : (b : Bool) → eq-value.it i e.0 ≡ b → (lookup (eq-value.it i) es ≡ Some o → IsOutcomeOf datas i.at i.outs.items o) → cond b (Some e.1) (lookup (eq-value.it i) es) ≡ Some o → IsOutcomeOf datas i.at i.outs.items o
    by true same later is = back_instance datas i e.0 o same (subst (IsOutcomeOf datas e.0.at e.0.outs.items) (same_Some e.1 o is) right.0)
    by false apart later is = later is

pub recalled_right : (datas : List Data) (es : List (Instance × Outcome)) (i : Instance) (r : Option Outcome) → AreRight datas es → r ≡ lookup (eq-value.it i) es → IfSome r (IsOutcomeOf datas i.at i.outs.items)
recalled_right datas es i None right is = tt
recalled_right datas es i (Some o) right is = recalled datas es i o right (sym is)

-- and all is right where one more is kept
pub kept : (datas : List Data) (es : List (Instance × Outcome)) (i : Instance) (o : Outcome) → AreRight datas es → IsOutcomeOf datas i.at i.outs.items o → AreRight datas (insert_entry eq-value.it es i o)
kept datas [] i o right is = (is, tt)
kept datas (e ∷ es) i o right is = by (eq-value.it i e.0) refl (kept datas es i o right.1 is)
  where
    by : (b : Bool) → eq-value.it i e.0 ≡ b → AreRight datas (insert_entry eq-value.it es i o) → AreRight datas (cond b ((e.0, o) ∷ es) (e ∷ insert_entry eq-value.it es i o))
    by true same later = (one_instance datas i e.0 o same is, right.1)
    by false apart later = (right.0, later)
