-- What the loops over types owe.
use Rattle.std.proofs.Common.{◌≡◌, ℕ, suc, ◌+◌, ◌-◌, ◌<◌, ◌≤◌, Bool, true, false, ◌&&◌, if◌then◌else◌, refl, sym, ap, ◌∙◌, List, [], ◌∷◌, ◌++◌, length, get_or, drop, set, arith}
use Rattle.std.specs.Prelude.{◌==◌, Option, Some, None}
use Rattle.std.specs.List.{slice_get}
use Rattle.std.proofs.lemmas.Bool.{eqb-true, eq-eqb}
use Rattle.std.proofs.lemmas.List.{drop_more, drop_all}
use Rattle.chw_types.specs.declared.declarations.ConDecl.{ConDecl}
use Rattle.type_ports.specs.declared.rows.Row.{Row}
use Rattle.chw_types.specs.TypeTree.{TypeTree, data_of, TypeTrees}
use Rattle.chw_types.specs.TypeView.{trees_of}
use Rattle.chw_types.specs.Arguments.{all_fields}
use Rattle.type_ports.specs.RowsFound.{has_marks, marks_of, first_of, unknown_in, unknown_args, unknown_among, mark, fits, fits_args, marked, marked_args, fits_all, marked_all}

pub unknown_args_at : (rows : List Row) (ts : List TypeTree) (i : ℕ) (t : TypeTree) → i < length ts → t ≡ get_or ts i t → unknown_args rows (trees_of (drop i ts)) ≡ first_of (unknown_in rows t) (unknown_args rows (trees_of (drop (i + 1) ts)))
unfolding unknown_in
unknown_args_at rows ts i t l e =
    ap (λ us. unknown_args rows (trees_of us)) (drop_more ts i t l) ∙ ap (λ u. first_of (unknown_in rows u) (unknown_args rows (trees_of (drop (i + 1) ts)))) (sym e)

pub unknown_among_at : (rows : List Row) (ts : List TypeTree) (i : ℕ) (t : TypeTree) → i < length ts → t ≡ get_or ts i t → unknown_among rows (drop i ts) ≡ first_of (unknown_in rows t) (unknown_among rows (drop (i + 1) ts))
unknown_among_at rows ts i t l e =
    ap (unknown_among rows) (drop_more ts i t l) ∙ ap (λ u. first_of (unknown_in rows u) (unknown_among rows (drop (i + 1) ts))) (sym e)

first_assoc : (a b c : Option ℕ) → first_of a (first_of b c) ≡ first_of (first_of a b) c
first_assoc None b c = refl
first_assoc (Some d) b c = refl

unknown_among_append : (rows : List Row) (ts us : List TypeTree) → unknown_among rows (ts ++ us) ≡ first_of (unknown_among rows ts) (unknown_among rows us)
unknown_among_append rows [] us = refl
unknown_among_append rows (t ∷ ts) us = ap (first_of (unknown_in rows t)) (unknown_among_append rows ts us) ∙ first_assoc (unknown_in rows t) (unknown_among rows ts) (unknown_among rows us)

fields_at : (cs : List ConDecl) (i : ℕ) (c : ConDecl) → i < length cs → c ≡ get_or cs i c → all_fields (drop i cs) ≡ c.fields ++ all_fields (drop (i + 1) cs)
fields_at cs i c l e = ap all_fields (drop_more cs i c l) ∙ ap (λ d. d.fields ++ all_fields (drop (i + 1) cs)) (sym e)

pub unknown_fields_at : (rows : List Row) (cs : List ConDecl) (i : ℕ) (c : ConDecl) → i < length cs → c ≡ get_or cs i c → unknown_among rows (all_fields (drop i cs)) ≡ first_of (unknown_among rows c.fields) (unknown_among rows (all_fields (drop (i + 1) cs)))
unknown_fields_at rows cs i c l e = ap (unknown_among rows) (fields_at cs i c l e) ∙ unknown_among_append rows c.fields (all_fields (drop (i + 1) cs))

mark_set_at : (x : ℕ) (b : Bool) (marks : List Bool) (q : Bool) → (q ≡ true → x ≡ length marks) → (x ≡ length marks → q ≡ true) → x < length (b ∷ marks) → (x < length marks → set marks (length marks - 1 - x) true ≡ mark x marks) → set (b ∷ marks) (length (b ∷ marks) - 1 - x) true ≡ (if q then true ∷ marks else b ∷ mark x marks)
mark_set_at x b marks true is back l inner =
    let same = is refl in
    let e : length (b ∷ marks) - 1 - x ≡ 0 = omega arith in
    ap (λ n. set (b ∷ marks) n true) e
mark_set_at x b marks false is back l inner =
    let ne : x ≡ length marks → ⊥ = λ e. absurd (let f = back e in cc) in
    let below : x < length marks = omega arith in
    let e : length (b ∷ marks) - 1 - x ≡ suc (length marks - 1 - x) = omega arith in
    ap (λ n. set (b ∷ marks) n true) e ∙ ap (λ m. b ∷ m) (inner below)

pub mark_set : (x : ℕ) (marks : List Bool) → x < length marks → set marks (length marks - 1 - x) true ≡ mark x marks
mark_set x [] l = absurd (omega arith)
mark_set x (b ∷ marks) l = mark_set_at x b marks (x == length marks) (eqb-true x (length marks)) (eq-eqb x (length marks)) l (mark_set x marks)

pub fits_all_at : (rows : List Row) (n : ℕ) (ts : List TypeTree) (i : ℕ) (t : TypeTree) → i < length ts → t ≡ get_or ts i t → fits_all rows n (drop i ts) ≡ (fits rows n t && fits_all rows n (drop (i + 1) ts))
fits_all_at rows n ts i t l e =
    ap (fits_all rows n) (drop_more ts i t l) ∙ ap (λ u. fits rows n u && fits_all rows n (drop (i + 1) ts)) (sym e)

pub marked_all_at : (rows : List Row) (marks : List Bool) (ts : List TypeTree) (i : ℕ) (t : TypeTree) → i < length ts → t ≡ get_or ts i t → marked_all rows (drop i ts) marks ≡ marked_all rows (drop (i + 1) ts) (marked rows t marks)
marked_all_at rows marks ts i t l e =
    ap (λ us. marked_all rows us marks) (drop_more ts i t l) ∙ ap (λ u. marked_all rows (drop (i + 1) ts) (marked rows u marks)) (sym e)

and_assoc : (a b c : Bool) → (a && (b && c)) ≡ ((a && b) && c)
and_assoc true b c = refl
and_assoc false b c = refl

fits_all_append : (rows : List Row) (n : ℕ) (ts us : List TypeTree) → fits_all rows n (ts ++ us) ≡ (fits_all rows n ts && fits_all rows n us)
fits_all_append rows n [] us = refl
fits_all_append rows n (t ∷ ts) us = ap (λ b. fits rows n t && b) (fits_all_append rows n ts us) ∙ and_assoc (fits rows n t) (fits_all rows n ts) (fits_all rows n us)

marked_all_append : (rows : List Row) (ts us : List TypeTree) (marks : List Bool) → marked_all rows (ts ++ us) marks ≡ marked_all rows us (marked_all rows ts marks)
marked_all_append rows [] us marks = refl
marked_all_append rows (t ∷ ts) us marks = marked_all_append rows ts us (marked rows t marks)

pub fits_fields_at : (rows : List Row) (n : ℕ) (cs : List ConDecl) (i : ℕ) (c : ConDecl) → i < length cs → c ≡ get_or cs i c → fits_all rows n (all_fields (drop i cs)) ≡ (fits_all rows n c.fields && fits_all rows n (all_fields (drop (i + 1) cs)))
fits_fields_at rows n cs i c l e = ap (fits_all rows n) (fields_at cs i c l e) ∙ fits_all_append rows n c.fields (all_fields (drop (i + 1) cs))

pub marked_fields_at : (rows : List Row) (marks : List Bool) (cs : List ConDecl) (i : ℕ) (c : ConDecl) → i < length cs → c ≡ get_or cs i c → marked_all rows (all_fields (drop i cs)) marks ≡ marked_all rows (all_fields (drop (i + 1) cs)) (marked_all rows c.fields marks)
marked_fields_at rows marks cs i c l e = ap (λ ts. marked_all rows ts marks) (fields_at cs i c l e) ∙ marked_all_append rows c.fields (all_fields (drop (i + 1) cs)) marks

-- arguments that are marked, and those that aren't
pub fits_args_marked : (rows : List Row) (n : ℕ) (asks : List Bool) (ts : List TypeTree) (i : ℕ) (b : Bool) (t : TypeTree) → i < length asks → i < length ts → get_or asks i b ≡ true → t ≡ get_or ts i t → fits_args rows n (drop i asks) (trees_of (drop i ts)) ≡ (fits rows n t && fits_args rows n (drop (i + 1) asks) (trees_of (drop (i + 1) ts)))
unfolding fits
fits_args_marked rows n asks ts i b t l k e f =
    (λ j. fits_args rows n ((drop_more asks i b l ∙ ap (λ c. c ∷ drop (i + 1) asks) e) j) (trees_of ((drop_more ts i t k ∙ ap (λ u. u ∷ drop (i + 1) ts) (sym f)) j)))

pub fits_args_free : (rows : List Row) (n : ℕ) (asks : List Bool) (ts : List TypeTree) (i : ℕ) (b : Bool) (t : TypeTree) → i < length asks → i < length ts → get_or asks i b ≡ false → t ≡ get_or ts i t → fits_args rows n (drop i asks) (trees_of (drop i ts)) ≡ fits_args rows n (drop (i + 1) asks) (trees_of (drop (i + 1) ts))
unfolding fits
fits_args_free rows n asks ts i b t l k e f =
    (λ j. fits_args rows n ((drop_more asks i b l ∙ ap (λ c. c ∷ drop (i + 1) asks) e) j) (trees_of ((drop_more ts i t k ∙ ap (λ u. u ∷ drop (i + 1) ts) (sym f)) j)))

pub marked_args_marked : (rows : List Row) (marks asks : List Bool) (ts : List TypeTree) (i : ℕ) (b : Bool) (t : TypeTree) → i < length asks → i < length ts → get_or asks i b ≡ true → t ≡ get_or ts i t → marked_args rows (drop i asks) (trees_of (drop i ts)) marks ≡ marked_args rows (drop (i + 1) asks) (trees_of (drop (i + 1) ts)) (marked rows t marks)
unfolding marked
marked_args_marked rows marks asks ts i b t l k e f =
    (λ j. marked_args rows ((drop_more asks i b l ∙ ap (λ c. c ∷ drop (i + 1) asks) e) j) (trees_of ((drop_more ts i t k ∙ ap (λ u. u ∷ drop (i + 1) ts) (sym f)) j)) marks)

pub marked_args_free : (rows : List Row) (marks asks : List Bool) (ts : List TypeTree) (i : ℕ) (b : Bool) (t : TypeTree) → i < length asks → i < length ts → get_or asks i b ≡ false → t ≡ get_or ts i t → marked_args rows (drop i asks) (trees_of (drop i ts)) marks ≡ marked_args rows (drop (i + 1) asks) (trees_of (drop (i + 1) ts)) marks
unfolding marked
marked_args_free rows marks asks ts i b t l k e f =
    (λ j. marked_args rows ((drop_more asks i b l ∙ ap (λ c. c ∷ drop (i + 1) asks) e) j) (trees_of ((drop_more ts i t k ∙ ap (λ u. u ∷ drop (i + 1) ts) (sym f)) j)) marks)

-- the number of arguments is wrong
pub fits_args_lengths : (rows : List Row) (n : ℕ) (asks : List Bool) (ts : List TypeTree) → (length ts ≡ length asks → ⊥) → fits_args rows n asks (trees_of ts) ≡ false
unfolding fits
fits_args_lengths rows n [] [] h = absurd (h refl)
fits_args_lengths rows n [] (t ∷ ts) h = refl
fits_args_lengths rows n (true ∷ asks) [] h = refl
fits_args_lengths rows n (false ∷ asks) [] h = refl
fits_args_lengths rows n (true ∷ asks) (t ∷ ts) h = ap (λ b. fits rows n t && b) (fits_args_lengths rows n asks ts (λ e. h (ap suc e))) ∙ and_no (fits rows n t)
  where
    and_no : (b : Bool) → (b && false) ≡ false
    and_no true = refl
    and_no false = refl
fits_args_lengths rows n (false ∷ asks) (t ∷ ts) h = fits_args_lengths rows n asks ts (λ e. h (ap suc e))

-- the type is a data type, and its row is found
pub data_fits : (rows : List Row) (n d : ℕ) (ts : TypeTrees) (t : TypeTree) (asks : List Bool) (b : Bool) → data_of d ts ≡ t → has_marks (slice_get rows d) ≡ true → asks ≡ marks_of (slice_get rows d) → fits_args rows n asks ts ≡ b → b ≡ fits rows n t
unfolding fits
data_fits rows n d ts t asks b e has is f =
    sym f ∙ ap (λ m. fits_args rows n m ts) is ∙ ap (λ h. h && fits_args rows n (marks_of (slice_get rows d)) ts) (sym has) ∙ ap (fits rows n) e

pub data_marked : (rows : List Row) (d : ℕ) (ts : TypeTrees) (t : TypeTree) (asks marks done : List Bool) → data_of d ts ≡ t → asks ≡ marks_of (slice_get rows d) → done ≡ marked_args rows asks ts marks → done ≡ marked rows t marks
unfolding marked
data_marked rows d ts t asks marks done e is f = f ∙ ap (λ m. marked_args rows m ts marks) is ∙ ap (λ u. marked rows u marks) e

pub fits_stops : (rows : List Row) (n : ℕ) (asks : List Bool) (ts : List TypeTree) (i : ℕ) (b : Bool) (t : TypeTree) → i < length asks → i < length ts → get_or asks i b ≡ true → t ≡ get_or ts i t → false ≡ fits rows n t → fits_args rows n (drop i asks) (trees_of (drop i ts)) ≡ fits_args rows n asks (trees_of ts) → fits_args rows n asks (trees_of ts) ≡ false
fits_stops rows n asks ts i b t l k e f fail inv =
    sym inv ∙ fits_args_marked rows n asks ts i b t l k e f ∙ ap (λ c. c && fits_args rows n (drop (i + 1) asks) (trees_of (drop (i + 1) ts))) (sym fail)

pub fits_ends : (rows : List Row) (n : ℕ) (asks : List Bool) (ts : List TypeTree) (i : ℕ) → length asks ≤ i → length ts ≤ i → fits_args rows n (drop i asks) (trees_of (drop i ts)) ≡ fits_args rows n asks (trees_of ts) → fits_args rows n asks (trees_of ts) ≡ true
unfolding fits
fits_ends rows n asks ts i l k inv = sym inv ∙ (λ j. fits_args rows n (drop_all i asks l j) (trees_of (drop_all i ts k j)))

pub marked_ends : (rows : List Row) (asks done marks : List Bool) (ts : List TypeTree) (i : ℕ) → length asks ≤ i → length ts ≤ i → marked_args rows (drop i asks) (trees_of (drop i ts)) done ≡ marked_args rows asks (trees_of ts) marks → done ≡ marked_args rows asks (trees_of ts) marks
unfolding marked
marked_ends rows asks done marks ts i l k inv = (λ j. marked_args rows (sym (drop_all i asks l) j) (trees_of (sym (drop_all i ts k) j)) done) ∙ inv

-- the next constructor's fields
pub field_found : (rows : List Row) (cs : List ConDecl) (i : ℕ) (c : ConDecl) (fs : List TypeTree) (d : ℕ) → i < length cs → c ≡ get_or cs i c → fs ≡ c.fields → Some d ≡ unknown_among rows fs → unknown_among rows (all_fields (drop i cs)) ≡ unknown_among rows (all_fields cs) → Some d ≡ unknown_among rows (all_fields cs)
field_found rows cs i c fs d l e is f inv =
    ap (λ o. first_of o (unknown_among rows (all_fields (drop (i + 1) cs)))) (f ∙ ap (unknown_among rows) is) ∙ sym (unknown_fields_at rows cs i c l e) ∙ inv

pub no_field_found : (rows : List Row) (cs : List ConDecl) (i : ℕ) (c : ConDecl) (fs : List TypeTree) → i < length cs → c ≡ get_or cs i c → fs ≡ c.fields → None ≡ unknown_among rows fs → unknown_among rows (all_fields (drop i cs)) ≡ unknown_among rows (all_fields cs) → unknown_among rows (all_fields (drop (i + 1) cs)) ≡ unknown_among rows (all_fields cs)
no_field_found rows cs i c fs l e is f inv =
    ap (λ o. first_of o (unknown_among rows (all_fields (drop (i + 1) cs)))) (f ∙ ap (unknown_among rows) is) ∙ sym (unknown_fields_at rows cs i c l e) ∙ inv

pub fields_stop : (rows : List Row) (n : ℕ) (cs : List ConDecl) (i : ℕ) (c : ConDecl) (fs : List TypeTree) → i < length cs → c ≡ get_or cs i c → fs ≡ c.fields → false ≡ fits_all rows n fs → fits_all rows n (all_fields (drop i cs)) ≡ fits_all rows n (all_fields cs) → false ≡ fits_all rows n (all_fields cs)
fields_stop rows n cs i c fs l e is f inv =
    ap (λ b. b && fits_all rows n (all_fields (drop (i + 1) cs))) (f ∙ ap (fits_all rows n) is) ∙ sym (fits_fields_at rows n cs i c l e) ∙ inv

pub fields_fit : (rows : List Row) (n : ℕ) (cs : List ConDecl) (i : ℕ) (c : ConDecl) (fs : List TypeTree) → i < length cs → c ≡ get_or cs i c → fs ≡ c.fields → true ≡ fits_all rows n fs → fits_all rows n (all_fields (drop i cs)) ≡ fits_all rows n (all_fields cs) → fits_all rows n (all_fields (drop (i + 1) cs)) ≡ fits_all rows n (all_fields cs)
fields_fit rows n cs i c fs l e is f inv =
    ap (λ b. b && fits_all rows n (all_fields (drop (i + 1) cs))) (f ∙ ap (fits_all rows n) is) ∙ sym (fits_fields_at rows n cs i c l e) ∙ inv

pub fields_marked : (rows : List Row) (marks start done : List Bool) (cs : List ConDecl) (i : ℕ) (c : ConDecl) (fs : List TypeTree) → i < length cs → c ≡ get_or cs i c → fs ≡ c.fields → done ≡ marked_all rows fs marks → marked_all rows (all_fields (drop i cs)) marks ≡ marked_all rows (all_fields cs) start → marked_all rows (all_fields (drop (i + 1) cs)) done ≡ marked_all rows (all_fields cs) start
fields_marked rows marks start done cs i c fs l e is f inv =
    ap (marked_all rows (all_fields (drop (i + 1) cs))) (f ∙ ap (λ us. marked_all rows us marks) is) ∙ sym (marked_fields_at rows marks cs i c l e) ∙ inv
