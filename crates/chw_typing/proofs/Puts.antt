-- A term put at a place of each form.
use Rattle.std.proofs.Common.{◌≡◌, ◌≢◌, ℕ, zero, suc, ◌-◌, ◌<◌, ◌≤◌, ◌∙◌, sym, ap, subst, refl, arith, Bool, false, List, ◌∷◌, ◌++◌, length, replicate, take, drop, set, get_or}
use Rattle.std.proofs.lemmas.List.{length-drop, take_at}
use Rattle.chw_types.specs.TypeTree.{TypeTree}
use Rattle.chw_terms.specs.declared.term.Alt.{Alt}
use Rattle.chw_terms.specs.declared.term.Arg.{Arg}
use Rattle.chw_terms.specs.declared.term.Binding.{Binding}
use Rattle.chw_terms.specs.TermTree.{TermTree, app, lam, ty_lam, letrec, vec_lit, case_of}
use Rattle.chw_terms.specs.TermView.{terms_of, group_of, alts_of, applied_to, applied}
use Rattle.chw_typing.specs.Paths.{with_child, with_body, part_of_group}
use Rattle.chw_typing.specs.PartSpines.{IsPut}
use Rattle.chw_typing.specs.Steps.{IsPutInBody}
use Rattle.chw_typing.proofs.PartChildren.{side_there, body_there, nothing_there, element_there, no_element, branch_there, no_branch, with_side_set, same_body, same_sides, other_body, with_element_set, with_branch_set}
use Rattle.chw_typing.proofs.PartPlaces.{put_below, none_below, put_in_function, argument_there, argument_set}

pub put_in_body : (old x new : TermTree) (i : ℕ) (rest : List ℕ) (put : Bool) → i ≡ 0 → IsPut old rest x new put → IsPutInBody old (i ∷ rest) x new put
put_in_body old x new zero rest put first h = (λ t. put_below (lam t old) old x new 0 rest put refl refl h, λ k. put_below (ty_lam k old) old x new 0 rest put refl refl h)
put_in_body old x new (suc i) rest put first h = absurd cc

pub no_body : (old x : TermTree) (i : ℕ) (rest : List ℕ) → i ≢ 0 → IsPutInBody old (i ∷ rest) x old false
no_body old x zero rest other = absurd (other refl)
no_body old x (suc i) rest other = (λ t. none_below (lam t old) x (suc i) rest refl refl, λ k. none_below (ty_lam k old) x (suc i) rest refl refl)

pub put_in_argument : (f old x new : TermTree) (i : ℕ) (rest : List ℕ) (put : Bool) → i ≡ 1 → IsPut old rest x new put → IsPut (app f old) (i ∷ rest) x (app f new) put
put_in_argument f old x new zero rest put first h = absurd cc
put_in_argument f old x new (suc zero) rest put first h = put_below (app f old) old x new 1 rest put refl refl h
put_in_argument f old x new (suc (suc i)) rest put first h = absurd cc

pub no_argument : (f old x : TermTree) (i : ℕ) (rest : List ℕ) → i ≢ 0 → i ≢ 1 → IsPut (app f old) (i ∷ rest) x (app f old) false
no_argument f old x zero rest other next = absurd (other refl)
no_argument f old x (suc zero) rest other next = absurd (next refl)
no_argument f old x (suc (suc i)) rest other next = none_below (app f old) x (suc (suc i)) rest refl refl

pub put_in_side : (bs : List Binding) (e x new : TermTree) (i : ℕ) (rest : List ℕ) (d : Binding) (put : Bool) → i < length bs → IsPut (get_or bs i d).body rest x new put → IsPut (letrec (group_of bs) e) (i ∷ rest) x (letrec (group_of (set bs i (record (get_or bs i d) { body = new }))) e) put
put_in_side bs e x new i rest d put within h =
    subst (λ f. IsPut (letrec (group_of bs) e) (i ∷ rest) x f put)
    (ap (λ g. letrec g (with_body (group_of bs) e i new)) (with_side_set bs e new i d within) ∙ ap (letrec (group_of (set bs i (record (get_or bs i d) { body = new })))) (same_body bs e new i within))
    (put_below (letrec (group_of bs) e) (get_or bs i d).body x new i rest put refl (side_there bs e i d within) h)

pub put_in_group : (bs : List Binding) (old x new : TermTree) (i : ℕ) (rest : List ℕ) (put : Bool) → i ≡ length bs → IsPut old rest x new put → IsPut (letrec (group_of bs) old) (i ∷ rest) x (letrec (group_of bs) new) put
put_in_group bs old x new i rest put last h =
    subst (λ f. IsPut (letrec (group_of bs) old) (i ∷ rest) x f put)
    (ap (λ k. with_child (letrec (group_of bs) old) k new) last ∙ ap (λ g. letrec g (with_body (group_of bs) old (length bs) new)) (same_sides bs new) ∙ ap (letrec (group_of bs)) (other_body bs old new))
    (put_below (letrec (group_of bs) old) old x new i rest put refl (ap (part_of_group (group_of bs) old) last ∙ body_there bs old) h)

pub none_in_group : (bs : List Binding) (e x : TermTree) (i : ℕ) (rest : List ℕ) → length bs < i → IsPut (letrec (group_of bs) e) (i ∷ rest) x (letrec (group_of bs) e) false
none_in_group bs e x i rest h = none_below (letrec (group_of bs) e) x i rest refl (nothing_there bs e i h)

pub put_in_element : (t : TypeTree) (es : List TermTree) (x new : TermTree) (i : ℕ) (rest : List ℕ) (d : TermTree) (put : Bool) → i < length es → IsPut (get_or es i d) rest x new put → IsPut (vec_lit t (terms_of es)) (i ∷ rest) x (vec_lit t (terms_of (set es i new))) put
put_in_element t es x new i rest d put within h =
    subst (λ f. IsPut (vec_lit t (terms_of es)) (i ∷ rest) x f put) (ap (vec_lit t) (with_element_set es i new))
    (put_below (vec_lit t (terms_of es)) (get_or es i d) x new i rest put refl (element_there es i d within) h)

pub none_in_vector : (t : TypeTree) (es : List TermTree) (x : TermTree) (i : ℕ) (rest : List ℕ) → length es ≤ i → IsPut (vec_lit t (terms_of es)) (i ∷ rest) x (vec_lit t (terms_of es)) false
none_in_vector t es x i rest h = none_below (vec_lit t (terms_of es)) x i rest refl (no_element es i h)

pub put_in_scrutinee : (old x new : TermTree) (alts : List Alt) (i : ℕ) (rest : List ℕ) (put : Bool) → i ≡ 0 → IsPut old rest x new put → IsPut (case_of old (alts_of alts)) (i ∷ rest) x (case_of new (alts_of alts)) put
put_in_scrutinee old x new alts zero rest put first h = put_below (case_of old (alts_of alts)) old x new 0 rest put refl refl h
put_in_scrutinee old x new alts (suc i) rest put first h = absurd cc

pub put_in_branch : (e x new : TermTree) (alts : List Alt) (i j : ℕ) (rest : List ℕ) (d : Alt) (put : Bool) → i ≡ suc j → j < length alts → IsPut (get_or alts j d).body rest x new put → IsPut (case_of e (alts_of alts)) (i ∷ rest) x (case_of e (alts_of (set alts j (record (get_or alts j d) { body = new })))) put
put_in_branch e x new alts i j rest d put later within h =
    subst (λ k. IsPut (case_of e (alts_of alts)) (k ∷ rest) x (case_of e (alts_of (set alts j (record (get_or alts j d) { body = new })))) put) (sym later)
    (subst (λ f. IsPut (case_of e (alts_of alts)) (suc j ∷ rest) x f put) (ap (case_of e) (with_branch_set alts new j d within))
    (put_below (case_of e (alts_of alts)) (get_or alts j d).body x new (suc j) rest put refl (branch_there alts j d within) h))

pub none_in_case : (e x : TermTree) (alts : List Alt) (i j : ℕ) (rest : List ℕ) → i ≡ suc j → length alts ≤ j → IsPut (case_of e (alts_of alts)) (i ∷ rest) x (case_of e (alts_of alts)) false
none_in_case e x alts i j rest later h =
    subst (λ k. IsPut (case_of e (alts_of alts)) (k ∷ rest) x (case_of e (alts_of alts)) false) (sym later) (none_below (case_of e (alts_of alts)) x (suc j) rest refl (no_branch alts j h))

-- a list behind a reference that is written back into its vector
pub written_back : {X : Type 0} (n : ℕ) (new items : List X) → length new ≡ length items → n ≡ length items → take n (new ++ drop (length new) items) ≡ new
written_back n new items kept all = take_at new (drop (length new) items) n (kept ∙ sym all)

-- at the end of a path's zeros: in the head
pub put_at_head : (old x new : TermTree) (args : List Arg) (path rest : List ℕ) (z i : ℕ) (put : Bool) → z ≡ length args → path ≡ replicate z 0 ++ i ∷ rest → IsPut old (i ∷ rest) x new put → IsPut (applied old args) path x (applied new args) put
put_at_head old x new args path rest z i put all is h =
    subst (λ p. IsPut (applied old args) p x (applied new args) put) (sym (is ∙ ap (λ n. replicate n 0 ++ i ∷ rest) all)) (put_in_function old x new args i rest put h)

-- and in an argument
pub put_at_argument : (e x : TermTree) (args : List Arg) (old new : Arg) (path rest : List ℕ) (z i : ℕ) (put : Bool) → z < length args → old ≡ get_or args (length args - z - 1) old → path ≡ replicate z 0 ++ i ∷ rest → ((f : TermTree) → IsPut (applied_to f old) (i ∷ rest) x (applied_to f new) put)
    → IsPut (applied e args) path x (applied e (set args (length args - z - 1) new)) put
put_at_argument e x args old new path rest z i put some there is h =
    let m = length args - z - 1 in
    let within : m < length args = omega arith in
    let f = applied e (take m args) in
    let more = drop (suc m) args in
    let count : length more ≡ z = length-drop (suc m) args ∙ omega arith in
    let whole : applied (applied_to f old) more ≡ applied e args = argument_there args e m old within there in
    let changed : applied (applied_to f new) more ≡ applied e (set args m new) = argument_set args e m new within in
    let way : replicate (length more) 0 ++ i ∷ rest ≡ path = ap (λ n. replicate n 0 ++ i ∷ rest) count ∙ sym is in
    subst (λ y. IsPut y path x (applied e (set args m new)) put) whole
    (subst (λ y. IsPut (applied (applied_to f old) more) path x y put) changed
    (subst (λ p. IsPut (applied (applied_to f old) more) p x (applied (applied_to f new) more) put) way
    (put_in_function (applied_to f old) x (applied_to f new) more i rest put (h f))))
