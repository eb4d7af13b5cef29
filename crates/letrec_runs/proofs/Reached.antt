-- The search for reached bindings, and variables in lists.
use Rattle.std.proofs.Common.{◌≡◌, ◌∙◌, ◌⊎◌, inl, inr, ◌<◌, ◌-◌, ℕ, zero, suc, refl, sym, ap, subst, arith, Bool, true, false, replicate}
use Rattle.std.proofs.Common.{List, [], ◌∷◌, ◌++◌, length, get_or, set, Some, Contains}
use Rattle.std.proofs.Common.{Result, Ok, Err, IfOk}
use Rattle.std.specs.List.{AllByRecursion, slice_get}
use Rattle.chw_base.specs.declared.index.VarIx.{VarIx}
use Rattle.chw_types.specs.TypeTree.{TypeTree}
use Rattle.chw_terms.specs.declared.term.Binding.{Binding}
use Rattle.chw_terms.specs.FreeVariables.{occurrences}
use Rattle.chw_terms.specs.Occurs.{occurs}
use Rattle.chw_typing.proofs.Free.{occurrences_occur}
use Rattle.chw_terms.specs.TermTree.{TermTree, Group, size_of}
use Rattle.chw_terms.specs.TermView.{group_of}
use Rattle.chw_typing.specs.Groups.{binding_at, Reached, from_body, from_side}
use Rattle.free_variables.specs.Gathered.{numbers_of}
use Rattle.letrec_runs.specs.declared.reaching.Search.{Search}
use Rattle.letrec_runs.specs.Search.{IsSearch, KeepsSearch, ReachesAll, ReachesVariable}

-- a mark that is set, or one that was
set_or_was : (marks : List Bool) (n i : ℕ) → slice_get (set marks n true) i ≡ Some true → (i ≡ n) ⊎ (slice_get marks i ≡ Some true)
set_or_was [] n i h = inr h
set_or_was (m ∷ marks) zero zero h = inl refl
set_or_was (m ∷ marks) zero (suc i) h = inr h
set_or_was (m ∷ marks) (suc n) zero h = inr h
set_or_was (m ∷ marks) (suc n) (suc i) h = of (set_or_was marks n i h)
  where
    of : (i ≡ n) ⊎ (slice_get marks i ≡ Some true) → (suc i ≡ suc n) ⊎ (slice_get marks i ≡ Some true)
    of (inl e) = inl (ap suc e)
    of (inr k) = inr k

set_length : (marks : List Bool) (n : ℕ) (m : Bool) → length (set marks n m) ≡ length marks
set_length [] n m = refl
set_length (x ∷ marks) zero m = refl
set_length (x ∷ marks) (suc n) m = ap suc (set_length marks n m)

all_and_one : (P : ℕ → Type 0) (xs : List ℕ) (x : ℕ) → AllByRecursion P xs → P x → AllByRecursion P (xs ++ x ∷ [])
all_and_one P [] x h p = (p, tt)
all_and_one P (y ∷ xs) x h p = (h.0, all_and_one P xs x h.1 p)

all_but_one : (P : ℕ → Type 0) (xs : List ℕ) (x : ℕ) → AllByRecursion P (xs ++ x ∷ []) → AllByRecursion P xs × P x
all_but_one P [] x h = (tt, h.0)
all_but_one P (y ∷ xs) x h = let r = all_but_one P xs x h.1 in ((h.0, r.0), r.1)

-- one more is marked
pub noted : (s s' : Search) (g : Group) (e : TermTree) (number place : ℕ) → number < length s.marks.items → place ≡ length s.marks.items - 1 - number
    → s'.marks.items ≡ set s.marks.items place true → s'.waiting.items ≡ s.waiting.items ++ place ∷ []
    → ReachesVariable g e number → IsSearch g e s → IsSearch g e s'
noted s s' g e number place l is marks waiting reaches h =
    let reached : Reached g e place = subst (Reached g e) (sym (is ∙ ap (λ n. n - 1 - number) h.size)) (reaches (subst (λ n. number < n) h.size l)) in
    record {
      size = ap length marks ∙ set_length s.marks.items place true ∙ h.size;
      marks = λ i m. by i (set_or_was s.marks.items place i (ap (λ ms. slice_get ms i) (sym marks) ∙ m)) reached;
      waiting = subst (AllByRecursion (Reached g e)) (sym waiting) (all_and_one (Reached g e) s.waiting.items place h.waiting reached);
    }
  where
    by : (i : ℕ) → (i ≡ place) ⊎ (slice_get s.marks.items i ≡ Some true) → Reached g e place → Reached g e i
    by i (inl q) r = subst (Reached g e) (sym q) r
    by i (inr m) r = h.marks i m

-- one is taken that waited
pub taken : (s s' : Search) (g : Group) (e : TermTree) (place : ℕ) → s'.marks.items ≡ s.marks.items → s.waiting.items ≡ s'.waiting.items ++ place ∷ []
    → IsSearch g e s → IsSearch g e s' × Reached g e place
taken s s' g e place marks waiting h =
    let parts = all_but_one (Reached g e) s'.waiting.items place (subst (AllByRecursion (Reached g e)) waiting h.waiting) in (
      record {
        size = ap length marks ∙ h.size;
        marks = λ i m. h.marks i (ap (λ ms. slice_get ms i) (sym marks) ∙ m);
        waiting = parts.0;
      },
      parts.1,
    )

none_marked : (n i : ℕ) → slice_get (replicate n false) i ≡ Some true → ⊥
none_marked zero i h = absurd cc
none_marked (suc n) zero h = absurd cc
none_marked (suc n) (suc i) h = none_marked n i h

replicated : (n : ℕ) → length (replicate n false) ≡ n
replicated zero = refl
replicated (suc n) = ap suc (replicated n)

-- at the beginning nothing is marked
pub nothing_marked : (s : Search) (g : Group) (e : TermTree) (n : ℕ) → n ≡ size_of g → s.marks.items ≡ replicate n false → s.waiting.items ≡ [] → IsSearch g e s
nothing_marked s g e n size marks waiting = record {
  size = ap length marks ∙ replicated n ∙ size;
  marks = λ i m. absurd (none_marked n i (ap (λ ms. slice_get ms i) (sym marks) ∙ m));
  waiting = subst (AllByRecursion (Reached g e)) (sym waiting) tt;
}

-- a variable of a list
pub contains_number : (vs : List VarIx) (i : ℕ) (v : VarIx) → i < length vs → Contains (numbers_of vs) (get_or vs i v).number
contains_number [] i v l = absurd (omega (arith, l))
contains_number (x ∷ vs) zero v l = (0, omega arith, refl)
contains_number (x ∷ vs) (suc i) v l = let c = contains_number vs i v (omega (arith, l)) in (suc c.0, omega (arith, c.1), c.2)

-- what is reached from the body, and from a right side
pub from_the_body : (g : Group) (e : TermTree) → ReachesAll g e e
from_the_body g e v o l =
    let same : size_of g - 1 - (size_of g - 1 - v) ≡ v = omega (arith, l) in
    from_body (omega (arith, l)) (subst (λ w. occurs e w ≡ true) (sym same) o)

pub from_a_side : (g : Group) (e : TermTree) (j : ℕ) (b : TypeTree × TermTree) → Reached g e j → binding_at g j ≡ Some b → ReachesAll g e b.1
from_a_side g e j b r is v o l =
    let same : size_of g - 1 - (size_of g - 1 - v) ≡ v = omega (arith, l) in
    from_side r is (omega (arith, l)) (subst (λ w. occurs b.1 w ≡ true) (sym same) o)

pub bound_at : (bs : List Binding) (j : ℕ) (b : Binding) → slice_get bs j ≡ Some b → binding_at (group_of bs) j ≡ Some (b.ty, b.body)
bound_at [] j b h = absurd cc
bound_at (c ∷ bs) zero b h = let same : c ≡ b = cc in ap (λ (y : Binding). Some (y.ty, y.body)) same
bound_at (c ∷ bs) (suc j) b h = bound_at bs j b h

-- where all variables of a list are reached, those are that occur in a term whose list it is
pub looked_at : (term : TermTree) (found : List VarIx) (s s' : Search) → numbers_of found ≡ occurrences term
    → KeepsSearch (λ g e. (v : ℕ) → Contains (numbers_of found) v → ReachesVariable g e v) s s' → KeepsSearch (λ g e. ReachesAll g e term) s s'
looked_at term found s s' q k g e r h = k g e (λ v m. r v ((occurrences_occur term v).0 (subst (λ xs. Contains xs v) q m))) h

-- what holds of an answer
pub if_ok_to : {T E : Type 0} {P Q : T → Type 0} (r : Result T E) → ((x : T) → P x → Q x) → IfOk r P → IfOk r Q
if_ok_to (Ok x) f h = f x h
if_ok_to (Err e) f h = h
