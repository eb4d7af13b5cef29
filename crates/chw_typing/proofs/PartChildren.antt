-- The children of groups, vectors and cases by their numbers in lists.
use Rattle.std.proofs.Common.{◌≡◌, ℕ, zero, suc, ◌<◌, ◌≤◌, ap, refl, arith, List, [], ◌∷◌, length, get_or, set, Some, None}
use Rattle.std.specs.Prelude.{option_map}
use Rattle.chw_terms.specs.declared.term.Alt.{Alt}
use Rattle.chw_terms.specs.declared.term.Binding.{Binding}
use Rattle.chw_terms.specs.TermTree.{TermTree, term_and, bind, alt}
use Rattle.chw_terms.specs.TermView.{terms_of, group_of, alts_of}
use Rattle.chw_typing.specs.Paths.{element_at, with_element, part_of_group, with_side, with_body, Branch, branch_at, with_branch}

pub side_there : (bs : List Binding) (e : TermTree) (i : ℕ) (d : Binding) → i < length bs → part_of_group (group_of bs) e i ≡ Some (get_or bs i d).body
side_there [] e i d h = absurd (omega arith)
side_there (c ∷ bs) e zero d h = refl
side_there (c ∷ bs) e (suc i) d h = side_there bs e i d (omega arith)

pub body_there : (bs : List Binding) (e : TermTree) → part_of_group (group_of bs) e (length bs) ≡ Some e
body_there [] e = refl
body_there (c ∷ bs) e = body_there bs e

pub nothing_there : (bs : List Binding) (e : TermTree) (i : ℕ) → length bs < i → part_of_group (group_of bs) e i ≡ None
nothing_there [] e zero h = absurd (omega arith)
nothing_there [] e (suc i) h = refl
nothing_there (c ∷ bs) e zero h = absurd (omega arith)
nothing_there (c ∷ bs) e (suc i) h = nothing_there bs e i (omega arith)

pub element_there : (es : List TermTree) (i : ℕ) (d : TermTree) → i < length es → element_at (terms_of es) i ≡ Some (get_or es i d)
element_there [] i d h = absurd (omega arith)
element_there (e ∷ es) zero d h = refl
element_there (e ∷ es) (suc i) d h = element_there es i d (omega arith)

pub no_element : (es : List TermTree) (i : ℕ) → length es ≤ i → element_at (terms_of es) i ≡ None
no_element [] i h = refl
no_element (e ∷ es) zero h = absurd (omega arith)
no_element (e ∷ es) (suc i) h = no_element es i (omega arith)

pub branch_there : (alts : List Alt) (i : ℕ) (d : Alt) → i < length alts → option_map (λ (b : Branch). b.body) (branch_at (alts_of alts) i) ≡ Some (get_or alts i d).body
branch_there [] i d h = absurd (omega arith)
branch_there (c ∷ alts) zero d h = refl
branch_there (c ∷ alts) (suc i) d h = branch_there alts i d (omega arith)

pub no_branch : (alts : List Alt) (i : ℕ) → length alts ≤ i → option_map (λ (b : Branch). b.body) (branch_at (alts_of alts) i) ≡ None
no_branch [] i h = refl
no_branch (c ∷ alts) zero h = absurd (omega arith)
no_branch (c ∷ alts) (suc i) h = no_branch alts i (omega arith)

-- the same with another one in a place
pub with_side_set : (bs : List Binding) (e x : TermTree) (i : ℕ) (d : Binding) → i < length bs → with_side (group_of bs) i x ≡ group_of (set bs i (record (get_or bs i d) { body = x }))
with_side_set [] e x i d h = absurd (omega arith)
with_side_set (c ∷ bs) e x zero d h = refl
with_side_set (c ∷ bs) e x (suc i) d h = ap (bind c.ty c.body) (with_side_set bs e x i d (omega arith))

pub same_body : (bs : List Binding) (e x : TermTree) (i : ℕ) → i < length bs → with_body (group_of bs) e i x ≡ e
same_body [] e x i h = absurd (omega arith)
same_body (c ∷ bs) e x zero h = refl
same_body (c ∷ bs) e x (suc i) h = same_body bs e x i (omega arith)

pub same_sides : (bs : List Binding) (x : TermTree) → with_side (group_of bs) (length bs) x ≡ group_of bs
same_sides [] x = refl
same_sides (c ∷ bs) x = ap (bind c.ty c.body) (same_sides bs x)

pub other_body : (bs : List Binding) (e x : TermTree) → with_body (group_of bs) e (length bs) x ≡ x
other_body [] e x = refl
other_body (c ∷ bs) e x = other_body bs e x

pub with_element_set : (es : List TermTree) (i : ℕ) (x : TermTree) → with_element (terms_of es) i x ≡ terms_of (set es i x)
with_element_set [] i x = refl
with_element_set (e ∷ es) zero x = refl
with_element_set (e ∷ es) (suc i) x = ap (term_and e) (with_element_set es i x)

pub with_branch_set : (alts : List Alt) (x : TermTree) (i : ℕ) (d : Alt) → i < length alts → with_branch (alts_of alts) i x ≡ alts_of (set alts i (record (get_or alts i d) { body = x }))
with_branch_set [] x i d h = absurd (omega arith)
with_branch_set (c ∷ alts) x zero d h = refl
with_branch_set (c ∷ alts) x (suc i) d h = ap (alt c.pattern c.body) (with_branch_set alts x i d (omega arith))
