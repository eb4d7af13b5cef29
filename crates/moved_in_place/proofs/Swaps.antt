-- A term and the part at a place of each form change places: what is put is put as elsewhere, and what is taken stood there.
use Rattle.std.proofs.Common.{◌≡◌, ◌≢◌, ℕ, suc, ◌-◌, ◌<◌, ◌∙◌, sym, ap, subst, refl, arith, Bool, true, false, List, ◌∷◌, ◌++◌, length, replicate, take, drop, set, get_or, Some}
use Rattle.std.proofs.lemmas.List.{length-drop}
use Rattle.std.specs.Prelude.{option_and_then}
use Rattle.chw_types.specs.TypeTree.{TypeTree}
use Rattle.chw_terms.specs.declared.term.Alt.{Alt}
use Rattle.chw_terms.specs.declared.term.Arg.{Arg}
use Rattle.chw_terms.specs.declared.term.Binding.{Binding}
use Rattle.chw_terms.specs.TermTree.{TermTree, app, lam, ty_lam, letrec, vec_lit, case_of}
use Rattle.chw_terms.specs.TermView.{terms_of, group_of, alts_of, applied_to, applied}
use Rattle.chw_typing.specs.Paths.{child, part_of_group}
use Rattle.chw_typing.specs.PartSpines.{is_function, spine_at}
use Rattle.chw_typing.proofs.PartChildren.{side_there, body_there, element_there, branch_there}
use Rattle.chw_typing.proofs.PartPlaces.{spine_of_function, spine_through, argument_there}
use Rattle.chw_typing.proofs.Puts.{put_in_body, no_body, put_in_argument, put_in_side, put_in_group, put_in_element, put_in_scrutinee, put_in_branch, put_at_head, put_at_argument}
use Rattle.moved_in_place.specs.Swapped.{IsTaken, IsSwapped, IsSwappedInArg, IsSwappedInBody}

-- what is taken from below a spine
taken_on : (e c x y : TermTree) (p q : List ℕ) (put : Bool) → spine_at e p ≡ spine_at c q → IsTaken c q x y put → IsTaken e p x y put
taken_on e c x y p q true s h = s ∙ h
taken_on e c x y p q false s h = h

-- from below a child that is no function
taken_below : (e c x y : TermTree) (i : ℕ) (rest : List ℕ) (put : Bool) → is_function e i ≡ false → child e i ≡ Some c → IsTaken c rest x y put → IsTaken e (i ∷ rest) x y put
taken_below e c x y i rest put apart is h = taken_on e c x y (i ∷ rest) rest put (spine_through e i rest apart ∙ ap (option_and_then (λ c. spine_at c rest)) is) h

-- from the function of the last arguments
taken_in_function : (e x y : TermTree) (more : List Arg) (i : ℕ) (rest : List ℕ) (put : Bool) → IsTaken e (i ∷ rest) x y put → IsTaken (applied e more) (replicate (length more) 0 ++ i ∷ rest) x y put
taken_in_function e x y more i rest put h = taken_on (applied e more) e x y (replicate (length more) 0 ++ i ∷ rest) (i ∷ rest) put (spine_of_function e more i rest) h

pub swapped_in_body : (old x new y : TermTree) (i : ℕ) (rest : List ℕ) (put : Bool) → i ≡ 0 → IsSwapped old rest x new y put → IsSwappedInBody old (i ∷ rest) x new y put
swapped_in_body old x new y i rest put first h =
    let puts = put_in_body old x new i rest put first h.0 in (
      λ t. (puts.0 t, subst (λ i. IsTaken (lam t old) (i ∷ rest) x y put) (sym first) (taken_below (lam t old) old x y 0 rest put refl refl h.1)),
      λ k. (puts.1 k, subst (λ i. IsTaken (ty_lam k old) (i ∷ rest) x y put) (sym first) (taken_below (ty_lam k old) old x y 0 rest put refl refl h.1)),
    )

pub nothing_in_body : (old x : TermTree) (i : ℕ) (rest : List ℕ) → i ≢ 0 → IsSwappedInBody old (i ∷ rest) x old x false
nothing_in_body old x i rest other = let none = no_body old x i rest other in (λ t. (none.0 t, refl), λ k. (none.1 k, refl))

pub swapped_in_argument : (f old x new y : TermTree) (i : ℕ) (rest : List ℕ) (put : Bool) → i ≡ 1 → IsSwapped old rest x new y put → IsSwapped (app f old) (i ∷ rest) x (app f new) y put
swapped_in_argument f old x new y i rest put first h =
    (put_in_argument f old x new i rest put first h.0, subst (λ i. IsTaken (app f old) (i ∷ rest) x y put) (sym first) (taken_below (app f old) old x y 1 rest put refl refl h.1))

pub swapped_in_side : (bs : List Binding) (e x new y : TermTree) (i : ℕ) (rest : List ℕ) (d : Binding) (put : Bool) → i < length bs → IsSwapped (get_or bs i d).body rest x new y put → IsSwapped (letrec (group_of bs) e) (i ∷ rest) x (letrec (group_of (set bs i (record (get_or bs i d) { body = new }))) e) y put
swapped_in_side bs e x new y i rest d put within h =
    (put_in_side bs e x new i rest d put within h.0, taken_below (letrec (group_of bs) e) (get_or bs i d).body x y i rest put refl (side_there bs e i d within) h.1)

pub swapped_in_group : (bs : List Binding) (old x new y : TermTree) (i : ℕ) (rest : List ℕ) (put : Bool) → i ≡ length bs → IsSwapped old rest x new y put → IsSwapped (letrec (group_of bs) old) (i ∷ rest) x (letrec (group_of bs) new) y put
swapped_in_group bs old x new y i rest put last h =
    (put_in_group bs old x new i rest put last h.0, taken_below (letrec (group_of bs) old) old x y i rest put refl (ap (part_of_group (group_of bs) old) last ∙ body_there bs old) h.1)

pub swapped_in_element : (t : TypeTree) (es : List TermTree) (x new y : TermTree) (i : ℕ) (rest : List ℕ) (d : TermTree) (put : Bool) → i < length es → IsSwapped (get_or es i d) rest x new y put → IsSwapped (vec_lit t (terms_of es)) (i ∷ rest) x (vec_lit t (terms_of (set es i new))) y put
swapped_in_element t es x new y i rest d put within h =
    (put_in_element t es x new i rest d put within h.0, taken_below (vec_lit t (terms_of es)) (get_or es i d) x y i rest put refl (element_there es i d within) h.1)

pub swapped_in_scrutinee : (old x new y : TermTree) (alts : List Alt) (i : ℕ) (rest : List ℕ) (put : Bool) → i ≡ 0 → IsSwapped old rest x new y put → IsSwapped (case_of old (alts_of alts)) (i ∷ rest) x (case_of new (alts_of alts)) y put
swapped_in_scrutinee old x new y alts i rest put first h =
    let e = case_of old (alts_of alts) in
    (put_in_scrutinee old x new alts i rest put first h.0, subst (λ i. IsTaken e (i ∷ rest) x y put) (sym first) (taken_below e old x y 0 rest put refl refl h.1))

pub swapped_in_branch : (e x new y : TermTree) (alts : List Alt) (i j : ℕ) (rest : List ℕ) (d : Alt) (put : Bool) → i ≡ suc j → j < length alts → IsSwapped (get_or alts j d).body rest x new y put → IsSwapped (case_of e (alts_of alts)) (i ∷ rest) x (case_of e (alts_of (set alts j (record (get_or alts j d) { body = new })))) y put
swapped_in_branch e x new y alts i j rest d put later within h =
    let of = case_of e (alts_of alts) in
    (put_in_branch e x new alts i j rest d put later within h.0, subst (λ k. IsTaken of (k ∷ rest) x y put) (sym later) (taken_below of (get_or alts j d).body x y (suc j) rest put refl (branch_there alts j d within) h.1))

-- at the end of a path's zeros: in the head
pub swapped_at_head : (old x new y : TermTree) (args : List Arg) (path rest : List ℕ) (z i : ℕ) (put : Bool) → z ≡ length args → path ≡ replicate z 0 ++ i ∷ rest → IsSwapped old (i ∷ rest) x new y put → IsSwapped (applied old args) path x (applied new args) y put
swapped_at_head old x new y args path rest z i put all is h =
    let way : replicate (length args) 0 ++ i ∷ rest ≡ path = ap (λ n. replicate n 0 ++ i ∷ rest) (sym all) ∙ sym is in
    (put_at_head old x new args path rest z i put all is h.0, subst (λ p. IsTaken (applied old args) p x y put) way (taken_in_function old x y args i rest put h.1))

-- and in an argument
pub swapped_at_argument : (e x y : TermTree) (args : List Arg) (old new : Arg) (path rest : List ℕ) (z i : ℕ) (put : Bool) → z < length args → old ≡ get_or args (length args - z - 1) old → path ≡ replicate z 0 ++ i ∷ rest → IsSwappedInArg old (i ∷ rest) x new y put
    → IsSwapped (applied e args) path x (applied e (set args (length args - z - 1) new)) y put
swapped_at_argument e x y args old new path rest z i put some there is h =
    let m = length args - z - 1 in
    let within : m < length args = omega arith in
    let f = applied e (take m args) in
    let more = drop (suc m) args in
    let count : length more ≡ z = length-drop (suc m) args ∙ omega arith in
    let way : replicate (length more) 0 ++ i ∷ rest ≡ path = ap (λ n. replicate n 0 ++ i ∷ rest) count ∙ sym is in (
      put_at_argument e x args old new path rest z i put some there is (λ f. (h f).0),
      subst (λ g. IsTaken g path x y put) (argument_there args e m old within there)
          (subst (λ p. IsTaken (applied (applied_to f old) more) p x y put) way (taken_in_function (applied_to f old) x y more i rest put (h f).1)),
    )
