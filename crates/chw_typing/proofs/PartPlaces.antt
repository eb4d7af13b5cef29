-- Whole spines at the places of applications.
use Rattle.std.proofs.Common.{◌≡◌, ℕ, zero, suc, ◌+◌, ◌-◌, ◌<◌, ◌∙◌, sym, ap, subst, refl, arith, Bool, true, false, List, [], ◌∷◌, ◌++◌, length, replicate, take, drop, set, get_or, Option, Some, None}
use Rattle.std.proofs.lemmas.List.{append-nil, length-drop}
use Rattle.std.specs.Prelude.{IfSome, IsSome, MatchOption, if◌then◌else◌, option_and_then}
use Rattle.std.specs.List.{slice_get}
use Rattle.chw_terms.specs.declared.term.Arg.{Arg}
use Rattle.chw_terms.specs.declared.term.Arg.TheVariants.{OfTerm, OfType}
use Rattle.chw_terms.specs.declared.term.Head.{Head}
use Rattle.chw_terms.specs.declared.term.Head.TheVariants.{Var, Global, Made, Lam, TyLam, LetRec, Con, PrimOf, Lit, VecLit, Case}
use Rattle.chw_terms.specs.TermTree.{TermTree}
use Rattle.chw_terms.specs.TermView.{applied_to, applied, tree_of}
use Rattle.chw_typing.specs.Paths.{child, with_child, part_at, argument_path}
use Rattle.chw_typing.proofs.PathChildren.{with_same_child}
use Rattle.chw_typing.proofs.PathParts.{way_to, with_part_below}
use Rattle.chw_typing.proofs.PathSpines.{part_of_head, with_part_of_head}
use Rattle.chw_typing.specs.PartSpines.{is_function, spine_at, IsPut}
use Rattle.chw_typing.specs.Steps.{LeadsTo}

-- a child that is no function of an application is the child
kept_child : (b : Bool) (o : Option TermTree) (x : TermTree) → (if b then None else o) ≡ Some x → o ≡ Some x
kept_child true o x h = absurd cc
kept_child false o x h = h

part_through : (o : Option TermTree) (j : ℕ) (path : List ℕ) (x : TermTree) → ((c : TermTree) → spine_at c (j ∷ path) ≡ Some x → part_at c (j ∷ path) ≡ Some x) → option_and_then (λ c. spine_at c (j ∷ path)) o ≡ Some x → option_and_then (λ c. part_at c (j ∷ path)) o ≡ Some x
part_through None j path x below h = absurd cc
part_through (Some c) j path x below h = below c h

pub spine_is_part : (path : List ℕ) (e x : TermTree) → spine_at e path ≡ Some x → part_at e path ≡ Some x
spine_is_part [] e x h = h
spine_is_part (i ∷ []) e x h = ap (option_and_then (λ c. part_at c [])) (kept_child (is_function e i) (child e i) x h)
spine_is_part (i ∷ j ∷ path) e x h = part_through (child e i) j path x (λ c. spine_is_part (j ∷ path) c x) h

-- a path that goes on leads through a child
spine_on : (e : TermTree) (k : ℕ) (p : List ℕ) (i : ℕ) (q : List ℕ) → spine_at e (k ∷ (p ++ i ∷ q)) ≡ option_and_then (λ c. spine_at c (p ++ i ∷ q)) (child e k)
spine_on e k [] i q = refl
spine_on e k (j ∷ p) i q = refl

pub spine_behind : (p : List ℕ) (e x : TermTree) (i : ℕ) (q : List ℕ) → part_at e p ≡ Some x → spine_at e (p ++ i ∷ q) ≡ spine_at x (i ∷ q)
spine_behind [] e x i q h =
    let same : e ≡ x = cc in
    ap (λ f. spine_at f (i ∷ q)) same
spine_behind (k ∷ p) e x i q h =
    let way = way_to (child e k) p x h in
    spine_on e k p i q ∙ ap (option_and_then (λ c. spine_at c (p ++ i ∷ q))) way.is ∙ spine_behind p way.to x i q way.part

-- the function of the last arguments
pub function_at : (e : TermTree) (more : List Arg) → part_at (applied e more) (replicate (length more) 0) ≡ Some e
function_at e more = ap (part_at (applied e more)) (sym (append-nil (replicate (length more) 0))) ∙ part_of_head more e []

pub spine_of_function : (e : TermTree) (more : List Arg) (i : ℕ) (q : List ℕ) → spine_at (applied e more) (replicate (length more) 0 ++ i ∷ q) ≡ spine_at e (i ∷ q)
spine_of_function e more i q = spine_behind (replicate (length more) 0) (applied e more) e i q (function_at e more)

-- no child of a head is a function
pub head_child : (h : Head) (i : ℕ) → is_function (tree_of h) i ≡ false
head_child (Var x) i = refl
head_child (Global d) i = refl
head_child (Made m) i = refl
head_child (Lam t e) i = refl
head_child (TyLam k e) i = refl
head_child (LetRec bs e) i = refl
head_child (Con c) i = refl
head_child (PrimOf p) i = refl
head_child (Lit s b) i = refl
head_child (VecLit t es) i = refl
head_child (Case s alts) i = refl

-- nor is an argument
pub later_child : (f : TermTree) (a : Arg) (i : ℕ) → 0 < i → is_function (applied_to f a) i ≡ false
later_child f a zero h = absurd (omega arith)
later_child f (OfTerm x) (suc i) h = refl
later_child f (OfType t) (suc i) h = refl

-- what such a child leads to
through : (o : Option TermTree) → o ≡ option_and_then (λ x. spine_at x []) o
through None = refl
through (Some c) = refl

pub spine_through : (e : TermTree) (i : ℕ) (rest : List ℕ) → is_function e i ≡ false → spine_at e (i ∷ rest) ≡ option_and_then (λ x. spine_at x rest) (child e i)
spine_through e i [] h = ap (λ b. if b then None else child e i) h ∙ through (child e i)
spine_through e i (j ∷ rest) h = refl

-- a child of a head
pub child_is_spine : (h : Head) (args : List Arg) (i : ℕ) → spine_at (applied (tree_of h) args) (replicate (length args) 0 ++ i ∷ []) ≡ child (tree_of h) i
child_is_spine h args i = spine_of_function (tree_of h) args i [] ∙ ap (λ b. if b then None else child (tree_of h) i) (head_child h i)

-- a term is put below a child that is no function
pub put_below : (e c x new : TermTree) (i : ℕ) (rest : List ℕ) (put : Bool) → is_function e i ≡ false → child e i ≡ Some c → IsPut c rest x new put → IsPut e (i ∷ rest) x (with_child e i new) put
put_below e c x new i rest true apart is h =
    let found : spine_at c rest ≡ spine_at e (i ∷ rest) = sym (spine_through e i rest apart ∙ ap (option_and_then (λ c. spine_at c rest)) is) in
    (subst IsSome found h.0, ap (with_child e i) h.1 ∙ sym (with_part_below e c x i rest is))
put_below e c x new i rest false apart is h =
    let found : spine_at e (i ∷ rest) ≡ spine_at c rest = spine_through e i rest apart ∙ ap (option_and_then (λ c. spine_at c rest)) is in
    (found ∙ h.0, ap (with_child e i) h.1 ∙ with_same_child e c i is)

pub none_below : (e x : TermTree) (i : ℕ) (rest : List ℕ) → is_function e i ≡ false → child e i ≡ None → IsPut e (i ∷ rest) x e false
none_below e x i rest apart is = (spine_through e i rest apart ∙ ap (option_and_then (λ c. spine_at c rest)) is, refl)

-- a term is put into the function of the last arguments
pub put_in_function : (e x new : TermTree) (more : List Arg) (i : ℕ) (rest : List ℕ) (put : Bool) → IsPut e (i ∷ rest) x new put → IsPut (applied e more) (replicate (length more) 0 ++ i ∷ rest) x (applied new more) put
put_in_function e x new more i rest true h =
    (subst IsSome (sym (spine_of_function e more i rest)) h.0, ap (λ f. applied f more) h.1 ∙ sym (with_part_of_head more e x (i ∷ rest)))
put_in_function e x new more i rest false h = (spine_of_function e more i rest ∙ h.0, ap (λ f. applied f more) h.1)

-- an argument between those before it and those behind it
pub argument_set : (args : List Arg) (e : TermTree) (m : ℕ) (b : Arg) → m < length args → applied (applied_to (applied e (take m args)) b) (drop (suc m) args) ≡ applied e (set args m b)
argument_set [] e m b h = absurd (omega arith)
argument_set (a ∷ args) e zero b h = refl
argument_set (a ∷ args) e (suc m) b h = argument_set args (applied_to e a) m b (omega arith)

pub argument_there : (args : List Arg) (e : TermTree) (m : ℕ) (b : Arg) → m < length args → b ≡ get_or args m b → applied (applied_to (applied e (take m args)) b) (drop (suc m) args) ≡ applied e args
argument_there [] e m b h is = absurd (omega arith)
argument_there (a ∷ args) e zero b h is = ap (λ c. applied (applied_to e c) args) is
argument_there (a ∷ args) e (suc m) b h is = argument_there args (applied_to e a) m b (omega arith) is

-- some argument stands there
pub some_argument : (args : List Arg) (m : ℕ) → m < length args → (b : Arg) × (b ≡ get_or args m b)
some_argument [] m h = absurd (omega arith)
some_argument (a ∷ args) zero h = (a, refl)
some_argument (a ∷ args) (suc m) h = some_argument args m (omega arith)

function_is_none : (f : TermTree) (a : Arg) → spine_at (applied_to f a) (0 ∷ []) ≡ None
function_is_none f (OfTerm x) = refl
function_is_none f (OfType t) = refl

zeros_turned : (n : ℕ) → replicate n 0 ++ 0 ∷ [] ≡ replicate {A = ℕ} (suc n) 0
zeros_turned zero = refl
zeros_turned (suc n) = ap (λ p. 0 ∷ p) (zeros_turned n)

-- at zeros alone stands a function
pub none_in_zeros : (args : List Arg) (e : TermTree) (z : ℕ) → z < length args → spine_at (applied e args) (replicate (suc z) 0) ≡ None
none_in_zeros args e z h =
    let m = length args - suc z in
    let within : m < length args = omega arith in
    let b = some_argument args m within in
    let f = applied e (take m args) in
    let more = drop (suc m) args in
    let count : length more ≡ z = length-drop (suc m) args ∙ omega arith in
    ap (spine_at (applied e args)) (sym (zeros_turned z))
    ∙ ap (λ n. spine_at (applied e args) (replicate n 0 ++ 0 ∷ [])) (sym count)
    ∙ ap (λ x. spine_at x (replicate (length more) 0 ++ 0 ∷ [])) (sym (argument_there args e m b.0 within b.1))
    ∙ spine_of_function (applied_to f b.0) more 0 []
    ∙ function_is_none f b.0

-- what stands behind the zeros that lead to the head, and to the function of an argument
pub leads_to_child : (h : Head) (args : List Arg) (z i : ℕ) (found : Option TermTree) → z ≡ length args → child (tree_of h) i ≡ found → LeadsTo (applied (tree_of h) args) z i found
leads_to_child h args z i found all is rest =
    ap (λ n. spine_at (applied (tree_of h) args) (replicate n 0 ++ i ∷ rest)) all
    ∙ spine_of_function (tree_of h) args i rest
    ∙ spine_through (tree_of h) i rest (head_child h i)
    ∙ ap (option_and_then (λ x. spine_at x rest)) is

pub leads_to_argument : (e : TermTree) (args : List Arg) (z i : ℕ) (b : Arg) (found : Option TermTree) → z < length args → 0 < i → b ≡ get_or args (length args - z - 1) b → ((f : TermTree) → child (applied_to f b) i ≡ found) → LeadsTo (applied e args) z i found
leads_to_argument e args z i b found some later there is rest =
    let m = length args - z - 1 in
    let within : m < length args = omega arith in
    let f = applied e (take m args) in
    let more = drop (suc m) args in
    let count : length more ≡ z = length-drop (suc m) args ∙ omega arith in
    ap (λ n. spine_at (applied e args) (replicate n 0 ++ i ∷ rest)) (sym count)
    ∙ ap (λ x. spine_at x (replicate (length more) 0 ++ i ∷ rest)) (sym (argument_there args e m b within there))
    ∙ spine_of_function (applied_to f b) more i rest
    ∙ spine_through (applied_to f b) i rest (later_child f b i later)
    ∙ ap (option_and_then (λ x. spine_at x rest)) (is f)

pub match_map : {X : Type 0} (o : Option X) (P P' : Type 0) (Q Q' : X → Type 0) → (P → P') → ((x : X) → Q x → Q' x) → MatchOption o P Q → MatchOption o P' Q'
match_map None P P' Q Q' none some h = none h
match_map (Some x) P P' Q Q' none some h = some x h

-- an argument
get_there : (args : List Arg) (i : ℕ) (a : Arg) → slice_get args i ≡ Some a → (i < length args) × (a ≡ get_or args i a)
get_there [] i a h = absurd cc
get_there (b ∷ args) zero a h =
    let is : a ≡ b = cc in
    (omega arith, is)
get_there (b ∷ args) (suc i) a h =
    let below = get_there args i a h in
    (omega (arith, below.0), below.1)

pub argument_is_spine : (args : List Arg) (e a : TermTree) (i : ℕ) → slice_get args i ≡ Some (OfTerm a) → spine_at (applied e args) (argument_path i (length args)) ≡ Some a
argument_is_spine args e a i h =
    let there = get_there args i (OfTerm a) h in
    let back : i ≡ length args - (length args - 1 - i) - 1 = omega (arith, there.0) in
    let found : OfTerm a ≡ get_or args (length args - (length args - 1 - i) - 1) (OfTerm a) = there.1 ∙ ap (λ k. get_or args k (OfTerm a)) back in
    leads_to_argument e args (length args - 1 - i) 1 (OfTerm a) (Some a) (omega (arith, there.0)) (omega arith) found (λ f. refl) []

-- a path of zeros that isn't empty, and at most as many as there are arguments
pub none_at_zeros : (args : List Arg) (e : TermTree) (path : List ℕ) (z : ℕ) → z < length args + 1 → 0 < length path → path ≡ replicate z 0 → spine_at (applied e args) path ≡ None
none_at_zeros args e path zero h some is = absurd (omega (arith, ap length is))
none_at_zeros args e path (suc z) h some is = ap (spine_at (applied e args)) is ∙ none_in_zeros args e z (omega arith)

-- the way over one spine
pub spine_next : (e x : TermTree) (path rest : List ℕ) (z i : ℕ) → LeadsTo e z i (Some x) → path ≡ replicate z 0 ++ i ∷ rest → spine_at e path ≡ spine_at x rest
spine_next e x path rest z i leads is = ap (spine_at e) is ∙ leads rest

pub no_spine_next : (e : TermTree) (path rest : List ℕ) (z i : ℕ) → LeadsTo e z i None → path ≡ replicate z 0 ++ i ∷ rest → spine_at e path ≡ None
no_spine_next e path rest z i leads is = ap (spine_at e) is ∙ leads rest

pub if_map : {X : Type 0} (o : Option X) (P : Type 0) (Q Q' : X → Type 0) → ((x : X) → Q x → Q' x) → MatchOption o P Q → IfSome o Q'
if_map None P Q Q' some h = tt
if_map (Some x) P Q Q' some h = some x h
