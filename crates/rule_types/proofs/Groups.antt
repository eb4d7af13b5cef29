-- Scopes of groups that join, and groups of which bindings go.
use Rattle.std.proofs.Common.{◌++◌, ◌+◌, ◌-◌, ◌<◌, ◌∙◌, ◌∷◌, ◌≡◌, ◌≤◌, ◌⊎◌, Bool, List, Some, [], ap, append_assoc, arith, false, inl, inr, length, refl, reverse, subst, suc, sym, true, zero, ℕ}
use Rattle.std.proofs.lemmas.Bool.{cases_lt}
use Rattle.std.proofs.lemmas.List.{append-nil, length-reverse}
use Rattle.std.specs.List.{slice_get}
use Rattle.chw_types.specs.TypeMoves.{Renaming, raised}
use Rattle.chw_types.specs.TypeTree.{TypeTree}
use Rattle.chw_types.specs.declared.kind.Kind.{Kind}
use Rattle.chw_terms.proofs.Renumbered.{exchanged_above, exchanged_first, exchanged_next}
use Rattle.chw_terms.specs.Occurs.{occurs}
use Rattle.chw_terms.specs.TermMoves.{exchanged, rename_group}
use Rattle.chw_terms.specs.TermTree.{Group, TermTree, bind, no_bindings}
use Rattle.chw_typing.proofs.Lists.{reverse_cons}
use Rattle.chw_typing.proofs.Renamed.{renames_shift}
use Rattle.chw_typing.specs.Laws.{Renames}
use Rattle.chw_typing.specs.Scopes.{Setting, declared, with_more}
use Rattle.chw_typing.specs.Typing.{AreBound, bound_and, none_bound}
use Rattle.chw_typing.proofs.GroupParts.{declared_joined, with_more_twice}
use Rattle.chw_typing.specs.Groups.{binding_at, joined}
use Rattle.chw_typing.proofs.Where.{renamed_where}
use Rattle.chw_typing.specs.TypedPartLaws.{RenamesWhere}
use Rattle.rewriting.specs.Shapes.{closed_up, marked}

-- what stands behind a list, and what stands before its end
behind : {A : Type 0} (xs ys : List A) (x y : ℕ) → y ≡ x + length xs → slice_get (xs ++ ys) y ≡ slice_get ys x
behind [] ys x y e = let is : y ≡ x = omega (arith, e) in ap (slice_get ys) is
behind (a ∷ xs) ys x zero e = absurd (omega (arith, e))
behind (a ∷ xs) ys x (suc y) e = behind xs ys x y (omega (arith, e))

before : {A : Type 0} (xs ys zs : List A) (x : ℕ) → x < length xs → slice_get (xs ++ ys) x ≡ slice_get (xs ++ zs) x
before [] ys zs x l = absurd (omega (arith, l))
before (a ∷ xs) ys zs zero l = refl
before (a ∷ xs) ys zs (suc x) l = before xs ys zs x (omega (arith, l))

pub renames_raised : (inner new outer : List TypeTree) (n m : ℕ) → length inner ≡ n → length new ≡ m → Renames (raised n m) (inner ++ outer) (inner ++ (new ++ outer))
renames_raised inner new outer n m l k =
    subst (λ n. Renames (raised n m) (inner ++ outer) (inner ++ (new ++ outer))) l
    (subst (λ m. Renames (raised (length inner) m) (inner ++ outer) (inner ++ (new ++ outer))) k
    (subst (Renames (raised (length inner) (length new)) (inner ++ outer)) (append_assoc inner new outer) (renames_shift inner new outer)))

-- the first variables and the next ones change places
pub renames_exchanged : (inner new outer : List TypeTree) (n m : ℕ) → length inner ≡ n → length new ≡ m → Renames (exchanged m n) (new ++ (inner ++ outer)) (inner ++ (new ++ outer))
renames_exchanged inner new outer n m l k x t e = at (cases_lt x m) (cases_lt x (m + n))
  where
    at : (x < m) ⊎ (m ≤ x) → (x < m + n) ⊎ (m + n ≤ x) → slice_get (inner ++ (new ++ outer)) (exchanged m n x) ≡ Some t
    at (inl first) _ =
        ap (slice_get (inner ++ (new ++ outer))) (exchanged_first 0 m n x (omega arith) (omega (arith, first)))
        ∙ behind inner (new ++ outer) x (x + n) (omega (arith, l))
        ∙ before new outer (inner ++ outer) x (omega (arith, first, k))
        ∙ e
    at (inr above) (inl next) =
        ap (slice_get (inner ++ (new ++ outer))) (exchanged_next 0 m n x (omega (arith, above)) (omega (arith, next)))
        ∙ before inner (new ++ outer) outer (x - m) (omega (arith, above, next, l))
        ∙ sym (behind new (inner ++ outer) (x - m) x (omega (arith, above, k)))
        ∙ e
    at (inr above) (inr last) =
        ap (slice_get (inner ++ (new ++ outer))) (exchanged_above 0 m n x (omega (arith, last)))
        ∙ behind inner (new ++ outer) (x - n) x (omega (arith, last, l))
        ∙ behind new outer (x - m - n) (x - n) (omega (arith, last, k))
        ∙ sym (behind inner outer (x - m - n) (x - m) (omega (arith, last, l)))
        ∙ sym (behind new (inner ++ outer) (x - m) x (omega (arith, above, k)))
        ∙ e

-- the scope of two groups as one
pub joined_scope : (g h : Group) (vars : List TypeTree) → with_more (declared (joined g h)) vars ≡ with_more (declared h) (with_more (declared g) vars)
joined_scope g h vars = ap (λ ts. with_more ts vars) (declared_joined g h) ∙ sym (with_more_twice (declared h) (declared g) vars)

-- the types of the bindings that are marked
abbrev pub marked_types : List Bool → List TypeTree → List TypeTree
marked_types (true ∷ marks) (t ∷ ts) = t ∷ marked_types marks ts
marked_types (false ∷ marks) (t ∷ ts) = marked_types marks ts
marked_types _ _ = []

pub declared_marked : (marks : List Bool) (g : Group) → declared (marked marks g) ≡ marked_types marks (declared g)
declared_marked [] no_bindings = refl
declared_marked [] (bind t e g) = refl
declared_marked (true ∷ marks) no_bindings = refl
declared_marked (false ∷ marks) no_bindings = refl
declared_marked (true ∷ marks) (bind t e g) = ap (λ ts. t ∷ ts) (declared_marked marks g)
declared_marked (false ∷ marks) (bind t e g) = declared_marked marks g

marked_append : (ms ns : List Bool) (ts us : List TypeTree) → length ms ≡ length ts → marked_types (ms ++ ns) (ts ++ us) ≡ marked_types ms ts ++ marked_types ns us
marked_append [] ns [] us l = refl
marked_append [] ns (t ∷ ts) us l = absurd (omega (arith, l))
marked_append (m ∷ ms) ns [] us l = absurd (omega (arith, l))
marked_append (true ∷ ms) ns (t ∷ ts) us l = ap (λ vs. t ∷ vs) (marked_append ms ns ts us (omega (arith, l)))
marked_append (false ∷ ms) ns (t ∷ ts) us l = marked_append ms ns ts us (omega (arith, l))

marked_turned : (m : Bool) (ms : List Bool) (t : TypeTree) (ts : List TypeTree) → length ms ≡ length ts → marked_types (reverse (m ∷ ms)) (reverse (t ∷ ts)) ≡ marked_types (reverse ms) (reverse ts) ++ marked_types (m ∷ []) (t ∷ [])
marked_turned m ms t ts l =
    (λ i. marked_types (reverse_cons m ms i) (reverse_cons t ts i))
    ∙ marked_append (reverse ms) (m ∷ []) (reverse ts) (t ∷ []) (length-reverse ms ∙ l ∙ sym (length-reverse ts))

pub marked_reversed : (ms : List Bool) (ts : List TypeTree) → length ms ≡ length ts → marked_types (reverse ms) (reverse ts) ≡ reverse (marked_types ms ts)
marked_reversed [] [] l = refl
marked_reversed [] (t ∷ ts) l = absurd (omega (arith, l))
marked_reversed (true ∷ ms) [] l = absurd (omega (arith, l))
marked_reversed (false ∷ ms) [] l = absurd (omega (arith, l))
marked_reversed (true ∷ ms) (t ∷ ts) l =
    let rest : length ms ≡ length ts = omega (arith, l) in
    marked_turned true ms t ts rest ∙ ap (λ vs. vs ++ t ∷ []) (marked_reversed ms ts rest) ∙ sym (reverse_cons t (marked_types ms ts))
marked_reversed (false ∷ ms) (t ∷ ts) l =
    let rest : length ms ≡ length ts = omega (arith, l) in
    marked_turned false ms t ts rest ∙ append-nil (marked_types (reverse ms) (reverse ts)) ∙ marked_reversed ms ts rest

-- where a variable comes that isn't among those that go
pub closes : (ms : List Bool) (ts vars : List TypeTree) (x : ℕ) (u : TypeTree) → length ms ≡ length ts → (slice_get ms x ≡ Some false → ⊥) → slice_get (ts ++ vars) x ≡ Some u → slice_get (marked_types ms ts ++ vars) (closed_up ms x) ≡ Some u
closes [] [] vars x u l stays e = e
closes [] (t ∷ ts) vars x u l stays e = absurd (omega (arith, l))
closes (true ∷ ms) [] vars x u l stays e = absurd (omega (arith, l))
closes (false ∷ ms) [] vars x u l stays e = absurd (omega (arith, l))
closes (true ∷ ms) (t ∷ ts) vars zero u l stays e = e
closes (true ∷ ms) (t ∷ ts) vars (suc x) u l stays e = closes ms ts vars x u (omega (arith, l)) stays e
closes (false ∷ ms) (t ∷ ts) vars zero u l stays e = absurd (stays refl)
closes (false ∷ ms) (t ∷ ts) vars (suc x) u l stays e = closes ms ts vars x u (omega (arith, l)) stays e

-- the right sides that are marked, where the variables that occur in them go to ones of their types
pub marked_bound : {s : Setting} {kinds : List Kind} {vars : List TypeTree} {k : Kind} {g : Group} → AreBound s kinds vars k g → (marks : List Bool) (ρ : Renaming) (vars' : List TypeTree) → ((i : ℕ) (b : TypeTree × TermTree) → binding_at g i ≡ Some b → slice_get marks i ≡ Some true → RenamesWhere (occurs b.1) ρ vars vars') → AreBound s kinds vars' k (rename_group (marked marks g) ρ)
unfolding rename_group
marked_bound none_bound [] ρ vars' h = none_bound
marked_bound none_bound (true ∷ marks) ρ vars' h = none_bound
marked_bound none_bound (false ∷ marks) ρ vars' h = none_bound
marked_bound (bound_and l f d x bs) [] ρ vars' h = none_bound
marked_bound (bound_and {t = t} {e = e} l f d x bs) (true ∷ marks) ρ vars' h =
    bound_and l f (renamed_where d ρ vars' (h 0 (t, e) refl refl)) x (marked_bound bs marks ρ vars' (λ i b at m. h (suc i) b at m))
marked_bound (bound_and l f d x bs) (false ∷ marks) ρ vars' h = marked_bound bs marks ρ vars' (λ i b at m. h (suc i) b at m)
