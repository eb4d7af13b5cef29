-- Bindings that are listed by their variables.
use Rattle.std.proofs.Common.{◌≡◌, ◌∙◌, ◌↔◌, ◌⊎◌, inl, inr, sym, ap, subst, ℕ, ◌+◌, ◌-◌}
use Rattle.std.proofs.Common.{◌<◌, ◌≤◌, arith, Bool, true, false, IsTrue, List, [], ◌∷◌, ◌++◌}
use Rattle.std.proofs.Common.{map, take, length, get_or, Some, Contains}
use Rattle.std.specs.List.{slice_get}
use Rattle.std.proofs.lemmas.Bool.{false≢true}
use Rattle.std.proofs.lemmas.List.{map-append, take_all, take_more}
use Rattle.std.proofs.lemmas.List.Elements.{Contains-push, Contains-push_cases}
use Rattle.std.proofs.lemmas.List.Elements.{Contains-append_left}
use Rattle.chw_base.specs.declared.index.VarIx.{VarIx}
use Rattle.chw_terms.specs.FreeVariables.{free_in}
use Rattle.chw_terms.specs.TermTree.{TermTree}
use Rattle.chw_typing.specs.GroupLaws.{FreeAreOccurring}
use Rattle.blocked_places.specs.Cycles.{IsCounted, AddsCounted, AreOfVariables, AreNamedBy}

-- nothing is put to the list where no binding counts
pub adds_none : (n : ℕ) (flags : List Bool) (x : ℕ) (list : List ℕ)
    → ((to : ℕ) → IsCounted n flags x to → ⊥) → AddsCounted n flags x list list
adds_none n flags x list none = λ to. (λ c. inl c, λ c. by to c)
  where
    by : (to : ℕ) → Contains list to ⊎ IsCounted n flags x to → Contains list to
    by to (inl c) = c
    by to (inr h) = absurd (none to h)

pub variable_outside : (n : ℕ) (flags : List Bool) (x : ℕ) → n ≤ x
    → (to : ℕ) → IsCounted n flags x to → ⊥
variable_outside n flags x l to h = omega (arith, l, h.0, h.2)

pub not_flagged : (n : ℕ) (flags : List Bool) (x number : ℕ) (is : Bool)
    → x < n → number ≡ n - 1 - x → is ≡ false → IsTrue is ↔ (slice_get flags number ≡ Some true)
    → (to : ℕ) → IsCounted n flags x to → ⊥
not_flagged n flags x number is l e clear told to h =
    let same : to ≡ number = omega (arith, l, e, h.0, h.2) in
    false≢true (sym clear ∙ told.1 (subst (λ k. slice_get flags k ≡ Some true) same h.1))

pub adds_one : (n : ℕ) (flags : List Bool) (x number : ℕ) (is : Bool) (list : List ℕ)
    → x < n → number ≡ n - 1 - x → is ≡ true → IsTrue is ↔ (slice_get flags number ≡ Some true)
    → AddsCounted n flags x list (list ++ number ∷ [])
adds_one n flags x number is list l e set told = λ to. (
  λ c. of to (Contains-push_cases list number to c),
  λ c. back to c,
)
  where
    of : (to : ℕ) → Contains list to ⊎ (number ≡ to) → Contains list to ⊎ IsCounted n flags x to
    of to (inl c) = inl c
    of to (inr s) =
        inr (omega (arith, l, e, s), subst (λ k. slice_get flags k ≡ Some true) s (told.0 set), omega (arith, l, e, s))

    back : (to : ℕ) → Contains list to ⊎ IsCounted n flags x to → Contains (list ++ number ∷ []) to
    back to (inl c) = Contains-append_left list (number ∷ []) to c
    back to (inr h) =
        let same : number ≡ to = omega (arith, l, e, h.0, h.2) in
        subst (Contains (list ++ number ∷ [])) same (Contains-push list number)

none_there : (x : ℕ) → Contains [] x → ⊥
none_there x c = absurd (omega (arith, c.1))

pub of_none : (n : ℕ) (flags : List Bool) → AreOfVariables n flags [] []
of_none n flags = λ to. (λ c. absurd (none_there to c), λ h. absurd (none_there (n - 1 - to) h.2))

one_more : (n : ℕ) (flags : List Bool) (xs : List ℕ) (x : ℕ) (old new : List ℕ)
    → AreOfVariables n flags xs old → AddsCounted n flags x old new
    → AreOfVariables n flags (xs ++ x ∷ []) new
one_more n flags xs x old new h more = λ to. (
  λ c. of to ((more to).0 c),
  λ k. (more to).1 (back to k.0 k.1 (Contains-push_cases xs x (n - 1 - to) k.2)),
)
  where
    of : (to : ℕ) → Contains old to ⊎ IsCounted n flags x to
        → (to < n) × (slice_get flags to ≡ Some true) × Contains (xs ++ x ∷ []) (n - 1 - to)
    of to (inl c) =
        let it = (h to).0 c in (it.0, it.1, Contains-append_left xs (x ∷ []) (n - 1 - to) it.2)
    of to (inr k) = (k.0, k.1, subst (Contains (xs ++ x ∷ [])) (sym k.2) (Contains-push xs x))

    back : (to : ℕ) → to < n → slice_get flags to ≡ Some true
        → Contains xs (n - 1 - to) ⊎ (x ≡ n - 1 - to)
        → Contains old to ⊎ IsCounted n flags x to
    back to l f (inl c) = inl ((h to).1 (l, f, c))
    back to l f (inr e) = inr (l, f, sym e)

-- the loop over variables
pub variables_next : (n : ℕ) (flags : List Bool) (i : ℕ) (vs : List VarIx) (d : VarIx)
    (old new : List ℕ)
    → i < length vs → AreOfVariables n flags (map (λ v. v.number) (take i vs)) old
    → AddsCounted n flags (get_or vs i d).number old new
    → AreOfVariables n flags (map (λ v. v.number) (take (i + 1) vs)) new
variables_next n flags i vs d old new l h more =
    let f : VarIx → ℕ = λ v. v.number in
    let all : map f (take (i + 1) vs) ≡ map f (take i vs) ++ (get_or vs i d).number ∷ [] =
    ap (map f) (take_more vs i d l) ∙ map-append f (take i vs) (get_or vs i d ∷ []) in
    subst (λ xs. AreOfVariables n flags xs new) (sym all)
    (one_more n flags (map f (take i vs)) (get_or vs i d).number old new h more)

pub variables_end : (n : ℕ) (flags : List Bool) (i : ℕ) (vs : List VarIx) (now : List ℕ)
    → length vs ≤ i → AreOfVariables n flags (map (λ v. v.number) (take i vs)) now
    → AreOfVariables n flags (map (λ v. v.number) vs) now
variables_end n flags i vs now l h =
    subst (λ ws. AreOfVariables n flags (map (λ (v : VarIx). v.number) ws) now) (take_all i vs l) h

-- free variables are those that occur
pub listed_are_named : FreeAreOccurring → (n : ℕ) (flags : List Bool) (e : TermTree)
    (free list : List ℕ)
    → free ≡ free_in e → AreOfVariables n flags free list → AreNamedBy n flags e list
listed_are_named law n flags e free list is h = λ to. (
  λ c.
      let at = (h to).0 c in
      (at.0, at.1, (law e (n - 1 - to)).0 (subst (λ zs. Contains zs (n - 1 - to)) is at.2)),
  λ k. (h to).1 (k.0, k.1, subst (λ zs. Contains zs (n - 1 - to)) (sym is) ((law e (n - 1 - to)).1 k.2)),
)
