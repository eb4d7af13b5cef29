-- A search may pass over what is quiet.
use Rattle.std.proofs.Common.{◌≡◌, ◌∙◌, inl, inr, sym, ap, refl, subst, ℕ, List, [], ◌∷◌, ◌++◌, Some}
use Rattle.chw_types.specs.TypeTree.{TypeTree}
use Rattle.chw_terms.specs.TermTree.{TermTree, letrec, con, prim, Group, no_bindings, bind, size_of}
use Rattle.chw_typing.specs.Scopes.{Setting, AreTermTypes, with_more, declared}
use Rattle.chw_typing.specs.Typing.{HasType, h_letrec}
use Rattle.chw_typing.proofs.Kinded.{typed_more, bound_typed}
use Rattle.chw_typing.specs.Groups.{binding_at}
use Rattle.rewriting.specs.Active.{Below, right_side, let_body, constant_body, scrutinee, branch, of_constructor, of_words, of_element, of_vector, demanded, begins, IsActive, at_it, below}
use Rattle.rewriting.specs.Origins.{Origins, setting_at}
use Rattle.rewriting.specs.Spots.{Spot}
use Rattle.quiet_sides.specs.Laws.{QuietSidesHaveNoStep, QuietPlacesHaveNoStep, QuietSidesArePassed}
use Rattle.quiet_sides.specs.Quiet.{IsQuiet, IsQuietAt, IsQuietSide}
use Rattle.quiet_sides.proofs.Below.{IsStill, a_side, a_bare_name}
use Rattle.quiet_sides.proofs.Forms.{Form, a_binder, a_constructor, a_primitive, form_of, form_applied}
use Rattle.quiet_sides.proofs.Shown.{no_still, active_still}

pub quiet_has_no_step : QuietSidesHaveNoStep
quiet_has_no_step o mode vars e h t l q path at x rule new r i = no_still h (active_still (a_side t l refl q) r) i

quiet_still : {o : Origins} {at : Spot} {e : TermTree} → AreTermTypes (setting_at o) [] at.vars → IsQuietAt at e → IsStill o at e
quiet_still t (inl v) = a_bare_name v
quiet_still t (inr q) = a_side t q.0 q.1.0 q.1.1

pub quiet_places_have_no_step : QuietPlacesHaveNoStep
quiet_places_have_no_step o at e h t q path to x rule new r i = no_still h (active_still (quiet_still t q) r) i

-- below a letrec, at the number of a binding, there is its right side
no_binding : (g : Group) (b : TypeTree × TermTree) → binding_at g (size_of g) ≡ Some b → ⊥
no_binding no_bindings b q = cc
no_binding (bind t e g) b q = no_binding g b q

other_binding : (g k : Group) (e f : TermTree) (i : ℕ) (b : TypeTree × TermTree) (q path : List ℕ) → letrec g e ≡ letrec k f → size_of g ∷ q ≡ i ∷ path → binding_at k i ≡ Some b → ⊥
other_binding g k e f i b q path l p is =
    let same : g ≡ k = cc in
    let number : size_of g ≡ i = cc in
    no_binding g b (subst (λ n. binding_at g n ≡ Some b) (sym number) (subst (λ g. binding_at g i ≡ Some b) (sym same) is))

no_letrec : (f : Form) (h e : TermTree) (g : Group) (x : TermTree) → form_of h ≡ f → (f ≡ a_binder → ⊥) → h ≡ letrec g x → ⊥
no_letrec f h e g x is other q = other (sym is ∙ ap form_of q)

side_below : {o : Origins} {at to : Spot} {e x f : TermTree} {p : List ℕ} (k : Group) (i : ℕ) (b : TypeTree × TermTree) (q path : List ℕ) → AreTermTypes (setting_at o) [] (with_more (declared k) at.vars) → binding_at k i ≡ Some b → IsQuiet b.1 → Below o at e p to x → e ≡ letrec k f → p ++ q ≡ i ∷ path → IsStill o to x
side_below {o} {at} k i b q path t is quiet (right_side {g = g} {e = e} {i = j} {b = c} l h n) w p =
    let same : g ≡ k = cc in
    let number : j ≡ i = cc in
    let there : binding_at k i ≡ Some c = subst (λ n. binding_at k n ≡ Some c) number (subst (λ g. binding_at g j ≡ Some c) same h) in
    let one : b ≡ c = cc in
    a_side (subst (λ g. AreTermTypes (setting_at o) [] (with_more (declared g) at.vars)) (sym same) t) l refl (subst (λ (c : TypeTree × TermTree). IsQuiet c.1) one quiet)
side_below {f = f} k i b q path t is quiet (let_body {g = g} {e = e} l) w p = absurd (other_binding g k e f i b q path w p is)
side_below {f = f} k i b q path t is quiet (constant_body {g = g} {e = e} m) w p = absurd (other_binding g k e f i b q path w p is)
side_below k i b q path t is quiet (scrutinee d n) w p = absurd cc
side_below k i b q path t is quiet (branch v h n s d) w p = absurd cc
side_below {e = e} {f = f} k i b q path t is quiet (of_constructor c j args m h l s) w p = absurd (no_letrec a_constructor e e k f (form_applied args (con c)) (λ u. cc) w)
side_below {e = e} {f = f} k i b q path t is quiet (of_words r j args m h l n s) w p = absurd (no_letrec a_primitive e e k f (form_applied args (prim r)) (λ u. cc) w)
side_below {e = e} {f = f} k i b q path t is quiet (of_element r j args m h n s) w p = absurd (no_letrec a_primitive e e k f (form_applied args (prim r)) (λ u. cc) w)
side_below k i b q path t is quiet (of_vector m s) w p = absurd cc
side_below {e = e} {f = f} k i b q path t is quiet (demanded {p = r} {args = args} d) w p = absurd (no_letrec a_primitive e e k f (form_applied args (prim r)) (λ u. cc) w)
side_below {e = e} {f = f} k i b q path t is quiet (begins r j n args m v u z s) w p = absurd (no_letrec a_primitive e e k f (form_applied args (prim r)) (λ u. cc) w)

side_active : {o : Origins} {at to : Spot} {x e f : TermTree} {p : List ℕ} (k : Group) (i : ℕ) (b : TypeTree × TermTree) (path : List ℕ) → AreTermTypes (setting_at o) [] (with_more (declared k) at.vars) → binding_at k i ≡ Some b → IsQuiet b.1 → IsActive o at e p to x → e ≡ letrec k f → p ≡ i ∷ path → IsStill o to x
side_active k i b path t is quiet at_it w p = absurd cc
side_active k i b path t is quiet (below {q = q} d r) w p = active_still (side_below k i b q path t is quiet d w p) r

sides_typed : {s : Setting} {vars : List TypeTree} {g : Group} {e : TermTree} {t : TypeTree} → HasType s [] vars (letrec g e) t → AreTermTypes s [] vars → AreTermTypes s [] (with_more (declared g) vars)
sides_typed {s} {vars} (h_letrec {g = g} d k bs) t = typed_more s [] (declared g) vars (bound_typed bs) t

passed : (o : Origins) (at : Spot) (e : TermTree) (t : TypeTree) (i : ℕ) → AreTermTypes (setting_at o) [] at.vars → HasType (setting_at o) [] at.vars e t → IsQuietSide e i → (path : List ℕ) (to : Spot) (x : TermTree) → IsActive o at e (i ∷ path) to x → IsStill o to x
passed o at (letrec g e) t i typed has q path to x r = side_active g i q.0 path (sides_typed has typed) q.1.0 q.1.1 r refl refl
passed o at _ t i typed has q path to x r = absurd q

pub quiet_sides_are_passed : QuietSidesArePassed
quiet_sides_are_passed o at e t i h typed has q path to x rule new r m = no_still h (passed o at e t i typed has q path to x r) m
