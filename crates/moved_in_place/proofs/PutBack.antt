-- A term that is put back where it was taken from.
use Rattle.std.proofs.Common.{◌≡◌, ◌∙◌, ℕ, zero, suc, sym, ap, refl, Bool, true, false, List, [], ◌∷◌, Option, Some, None}
use Rattle.std.specs.Prelude.{if◌then◌else◌, option_and_then}
use Rattle.chw_terms.specs.TermTree.{TermTree, var, global, made, lam, app, ty_lam, ty_app, letrec, con, prim, lit, vec_lit, case_of}
use Rattle.chw_typing.specs.Paths.{child, with_child, with_part}
use Rattle.chw_typing.specs.PartSpines.{is_function, spine_at}
use Rattle.chw_typing.proofs.PathChildren.{child_of_with_child}
use Rattle.chw_typing.proofs.PathParts.{with_part_below, with_part_twice}
use Rattle.moved_in_place.specs.Swapped.{IsSwapped}

-- with another child the child is a function as before
function_kept : (e x : TermTree) (i : ℕ) → is_function (with_child e i x) i ≡ is_function e i
function_kept (var y) x i = refl
function_kept (global d) x i = refl
function_kept (made m) x i = refl
function_kept (lam t e) x zero = refl
function_kept (lam t e) x (suc i) = refl
function_kept (app f a) x zero = refl
function_kept (app f a) x (suc zero) = refl
function_kept (app f a) x (suc (suc i)) = refl
function_kept (ty_lam k e) x zero = refl
function_kept (ty_lam k e) x (suc i) = refl
function_kept (ty_app f t) x zero = refl
function_kept (ty_app f t) x (suc i) = refl
function_kept (letrec g e) x i = refl
function_kept (con c) x i = refl
function_kept (prim p) x i = refl
function_kept (lit s b) x i = refl
function_kept (vec_lit t es) x i = refl
function_kept (case_of e alts) x zero = refl
function_kept (case_of e alts) x (suc i) = refl

-- the last step of a path to a whole spine
pub record LastStep (e x : TermTree) (i : ℕ) : Type 0 where
  pub apart : is_function e i ≡ false
  pub is : child e i ≡ Some x

pub last_step : (e x : TermTree) (i : ℕ) → spine_at e (i ∷ []) ≡ Some x → LastStep e x i
last_step e x i h = by (is_function e i) refl h
  where
    by : (b : Bool) → is_function e i ≡ b → (if b then None else child e i) ≡ Some x → LastStep e x i
    by true is h = absurd cc
    by false is h = record { apart = is; is = h }

-- an earlier step
pub record EarlierStep (e x : TermTree) (i j : ℕ) (path : List ℕ) : Type 0 where
  pub to : TermTree
  pub is : child e i ≡ Some to
  pub spine : spine_at to (j ∷ path) ≡ Some x

pub earlier_step : (e x : TermTree) (i j : ℕ) (path : List ℕ) → spine_at e (i ∷ j ∷ path) ≡ Some x → EarlierStep e x i j path
earlier_step e x i j path h = by (child e i) refl h
  where
    by : (o : Option TermTree) → child e i ≡ o → option_and_then (λ c. spine_at c (j ∷ path)) o ≡ Some x → EarlierStep e x i j path
    by None is h = absurd cc
    by (Some c) is h = record { to = c; is = is; spine = h }

-- what is put in the place of a whole spine is the whole spine there
pub spine_of_with_part : (path : List ℕ) (e x y : TermTree) → spine_at e path ≡ Some y → spine_at (with_part e path x) path ≡ Some x
spine_of_with_part [] e x y h = refl
spine_of_with_part (i ∷ []) e x y h =
    let s = last_step e y i h in
    let kept : is_function (with_child e i x) i ≡ false = function_kept e x i ∙ s.apart in
    ap (λ f. spine_at f (i ∷ [])) (with_part_below e y x i [] s.is)
    ∙ ap (λ b. if b then None else child (with_child e i x) i) kept
    ∙ child_of_with_child e y x i s.is
spine_of_with_part (i ∷ j ∷ path) e x y h =
    let s = earlier_step e y i j path h in
    let inner = with_part s.to (j ∷ path) x in
    ap (λ f. spine_at f (i ∷ j ∷ path)) (with_part_below e s.to x i (j ∷ path) s.is)
    ∙ ap (option_and_then (λ c. spine_at c (j ∷ path))) (child_of_with_child e s.to inner i s.is)
    ∙ spine_of_with_part (j ∷ path) s.to x y s.spine

pub put_back : (old x new y z last w : TermTree) (path : List ℕ) (put : Bool) → IsSwapped old path x new y true → IsSwapped new path z last w put → (put ≡ true) × (last ≡ with_part old path z) × (w ≡ x)
put_back old x new y z last w path put h g =
    let there : spine_at new path ≡ Some x = ap (λ e. spine_at e path) h.0.1 ∙ spine_of_with_part path old x y h.1 in
    by put g there
  where
    by : (put : Bool) → IsSwapped new path z last w put → spine_at new path ≡ Some x → (put ≡ true) × (last ≡ with_part old path z) × (w ≡ x)
    by true k there =
        let same : w ≡ x = let both : Some w ≡ Some x = sym k.1 ∙ there in cc in
        (refl, k.0.1 ∙ ap (λ e. with_part e path z) h.0.1 ∙ with_part_twice path old x z, same)
    by false k there = let both : None ≡ Some x = sym k.0.0 ∙ there in absurd cc
