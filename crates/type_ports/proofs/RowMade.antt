-- The row that is made of a data type's fields is right, and what a settled table tells of a closed type.
use Rattle.std.proofs.Common.{◌≡◌, ℕ, suc, zero, ◌<◌, Bool, true, false, refl, sym, ap, subst, ◌∙◌, List, [], ◌∷◌, ◌++◌, length, arith}
use Rattle.std.specs.Prelude.{reverse, replicate, Some}
use Rattle.std.specs.List.{slice_get}
use Rattle.std.proofs.lemmas.Bool.{and_parts, and_from}
use Rattle.std.proofs.lemmas.List.{reverse-append, length-reverse, length-replicate}
use Rattle.chw_types.specs.declared.declarations.Data.{Data}
use Rattle.type_ports.specs.declared.rows.Row.{Row}
use Rattle.chw_types.specs.TypeTree.{TypeTree, ty_var, data_of, TypeTrees, no_types, type_and}
use Rattle.chw_types.specs.TypeMoves.{Substitution}
use Rattle.chw_types.specs.Arguments.{list_of, given, arguments, all_fields}
use Rattle.type_ports.specs.Representable.{Representable, representable_data, AllRepresentable, none_to_represent, represent_and}
use Rattle.type_ports.specs.RowsFound.{fits, marked, fits_all, marked_all}
use Rattle.type_ports.specs.RowsRight.{MarkedRepresentable, Both, Settled}
use Rattle.chw_types.proofs.TypeLaws.{sub_ids}
use Rattle.type_ports.proofs.RowsTell.{Asked, Holds, Right, var_not, rep_asked, asked_rep, length_marked, marked_holds, holds_marked, asked_fits}

abbrev pub SettledAll : List Row → List TypeTree → Type 0
SettledAll rows [] = Unit {0}
SettledAll rows (t ∷ ts) = Settled rows t × SettledAll rows ts

abbrev AskedAll : List Row → (ℕ → Type 0) → List TypeTree → Type 0
AskedAll rows P [] = Unit {0}
AskedAll rows P (t ∷ ts) = Asked rows P t × AskedAll rows P ts

all_asked : (datas : List Data) (rows : List Row) → Right datas rows → (σ : Substitution) (ts : List TypeTree) → SettledAll rows ts → AllRepresentable datas ts σ → AskedAll rows (λ x. Representable datas (σ x)) ts
all_asked datas rows h σ [] s r = tt
all_asked datas rows h σ (t ∷ ts) s (represent_and r rs) = (rep_asked datas rows h σ t s.0 r, all_asked datas rows h σ ts s.1 rs)

asked_all : (datas : List Data) (rows : List Row) → Right datas rows → (σ : Substitution) (ts : List TypeTree) → SettledAll rows ts → AskedAll rows (λ x. Representable datas (σ x)) ts → AllRepresentable datas ts σ
asked_all datas rows h σ [] s a = none_to_represent
asked_all datas rows h σ (t ∷ ts) s a = represent_and (asked_rep datas rows h σ t s.0 a.0) (asked_all datas rows h σ ts s.1 a.1)

pub length_marked_all : (rows : List Row) (ts : List TypeTree) (marks : List Bool) → length (marked_all rows ts marks) ≡ length marks
length_marked_all rows [] marks = refl
length_marked_all rows (t ∷ ts) marks = length_marked_all rows ts (marked rows t marks) ∙ length_marked rows t marks

marked_all_holds : (rows : List Row) (P : ℕ → Type 0) (ts : List TypeTree) (marks : List Bool) → fits_all rows (length marks) ts ≡ true → Holds (marked_all rows ts marks) P → Holds marks P × AskedAll rows P ts
marked_all_holds rows P [] marks f h = (h, tt)
marked_all_holds rows P (t ∷ ts) marks f h =
    let w = and_parts (fits rows (length marks) t) (fits_all rows (length marks) ts) f in
    let later = marked_all_holds rows P ts (marked rows t marks) (subst (λ n. fits_all rows n ts ≡ true) (sym (length_marked rows t marks)) w.1) h in
    let first = marked_holds rows P t marks w.0 later.0 in
    (first.0, (first.1, later.1))

holds_marked_all : (rows : List Row) (P : ℕ → Type 0) (ts : List TypeTree) (marks : List Bool) → Holds marks P → AskedAll rows P ts → Holds (marked_all rows ts marks) P
holds_marked_all rows P [] marks h a = h
holds_marked_all rows P (t ∷ ts) marks h a = holds_marked_all rows P ts (marked rows t marks) (holds_marked rows P t marks h a.0) a.1

asked_fits_all : (rows : List Row) (P : ℕ → Type 0) (n : ℕ) → ((x : ℕ) → P x → x < n) → (ts : List TypeTree) → AskedAll rows P ts → fits_all rows n ts ≡ true
asked_fits_all rows P n w [] a = refl
asked_fits_all rows P n w (t ∷ ts) a = and_from _ _ (asked_fits rows P n w t a.0) (asked_fits_all rows P n w ts a.1)

no_marks_hold : (P : ℕ → Type 0) (n : ℕ) → Holds (replicate n false) P
no_marks_hold P zero = tt
no_marks_hold P (suc n) = ((λ e. absurd (cc)), no_marks_hold P n)

given_within : (datas : List Data) (us : List TypeTree) (x : ℕ) → Representable datas (given us x) → x < length us
given_within datas [] x r = absurd (var_not r)
given_within datas (a ∷ us) zero r = omega arith
given_within datas (a ∷ us) (suc x) r = let w = given_within datas us x r in omega arith

given_last : (us : List TypeTree) (t : TypeTree) → given (us ++ t ∷ []) (length us) ≡ t
given_last [] t = refl
given_last (a ∷ us) t = given_last us t

given_before : (us : List TypeTree) (t : TypeTree) (x : ℕ) → x < length us → given (us ++ t ∷ []) x ≡ given us x
given_before [] t x l = absurd (omega arith)
given_before (a ∷ us) t zero l = refl
given_before (a ∷ us) t (suc x) l = given_before us t x (omega arith)

turned : (t : TypeTree) (ts : TypeTrees) → reverse (list_of (type_and t ts)) ≡ reverse (list_of ts) ++ t ∷ []
turned t ts = reverse-append (t ∷ []) (list_of ts)

arguments_first : (t : TypeTree) (ts : TypeTrees) (n : ℕ) → length (list_of ts) ≡ n → arguments (type_and t ts) n ≡ t
arguments_first t ts n l =
    ap (λ us. given us n) (turned t ts) ∙ ap (given (reverse (list_of ts) ++ t ∷ [])) (sym l ∙ sym (length-reverse (list_of ts))) ∙ given_last (reverse (list_of ts)) t

arguments_before : (t : TypeTree) (ts : TypeTrees) (x : ℕ) → x < length (list_of ts) → arguments (type_and t ts) x ≡ arguments ts x
arguments_before t ts x l =
    ap (λ us. given us x) (turned t ts) ∙ given_before (reverse (list_of ts)) t x (subst (λ n. x < n) (sym (length-reverse (list_of ts))) l)

holds_below : (P Q : ℕ → Type 0) (marks : List Bool) → ((x : ℕ) → x < length marks → P x → Q x) → Holds marks P → Holds marks Q
holds_below P Q [] w h = tt
holds_below P Q (b ∷ marks) w h = ((λ e. w (length marks) (omega arith) (h.0 e)), holds_below P Q marks (λ x l p. w x (omega arith) p) h.1)

holds_args : (datas : List Data) (marks : List Bool) (ts : TypeTrees) → length (list_of ts) ≡ length marks → Holds marks (λ x. Representable datas (arguments ts x)) → MarkedRepresentable datas marks ts
holds_args datas [] no_types l h = tt
holds_args datas [] (type_and t ts) l h = absurd (omega arith)
holds_args datas (b ∷ marks) no_types l h = absurd (omega arith)
holds_args datas (b ∷ marks) (type_and t ts) l h =
    let k : length (list_of ts) ≡ length marks = omega arith in (
      (λ e. subst (Representable datas) (arguments_first t ts (length marks) k) (h.0 e)),
      holds_args datas marks ts k (holds_below _ _ marks (λ x w r. subst (Representable datas) (arguments_before t ts x (subst (λ n. x < n) (sym k) w)) r) h.1),
    )

args_hold : (datas : List Data) (marks : List Bool) (ts : TypeTrees) → MarkedRepresentable datas marks ts → (length (list_of ts) ≡ length marks) × Holds marks (λ x. Representable datas (arguments ts x))
args_hold datas [] no_types m = (refl, tt)
args_hold datas [] (type_and t ts) m = absurd m
args_hold datas (b ∷ marks) no_types m = absurd m
args_hold datas (b ∷ marks) (type_and t ts) m =
    let inner = args_hold datas marks ts m.1 in (
      ap suc inner.0,
      (
        (λ e. subst (Representable datas) (sym (arguments_first t ts (length marks) inner.0)) (m.0 e)),
        holds_below _ _ marks (λ x w r. subst (Representable datas) (sym (arguments_before t ts x (subst (λ n. x < n) (sym inner.0) w))) r) inner.1,
      ),
    )

-- the fields of a representable data type
fields_of : (datas : List Data) {d : ℕ} {ts : TypeTrees} (it : Data) → slice_get datas d ≡ Some it → Representable datas (data_of d ts) → (length (list_of ts) ≡ length it.params) × AllRepresentable datas (all_fields it.cons) (arguments ts)
fields_of datas it e (representable_data {it = other} {ts = ts} f l all) =
    let is : other ≡ it = cc in
    (l ∙ ap (λ o. length o.params) is, subst (λ o. AllRepresentable datas (all_fields o.cons) (arguments ts)) is all)

-- where the fields don't fit, the data type is never representable
pub never_right : (datas : List Data) (rows : List Row) → Right datas rows → (d : ℕ) (it : Data) → slice_get datas d ≡ Some it → SettledAll rows (all_fields it.cons) → fits_all rows (length it.params) (all_fields it.cons) ≡ false → (ts : TypeTrees) → Representable datas (data_of d ts) → ⊥
never_right datas rows h d it e s f ts r =
    let all = fields_of datas it e r in
    let asked = all_asked datas rows h (arguments ts) (all_fields it.cons) s all.1 in
    let fit = asked_fits_all rows _ (length it.params) (λ x p. subst (λ n. x < n) (length-reverse (list_of ts) ∙ all.0) (given_within datas (reverse (list_of ts)) x p)) (all_fields it.cons) asked in
    absurd (cc)

-- where they fit, it is where the marked arguments are
pub asks_right : (datas : List Data) (rows : List Row) → Right datas rows → (d : ℕ) (it : Data) → slice_get datas d ≡ Some it → SettledAll rows (all_fields it.cons) → fits_all rows (length it.params) (all_fields it.cons) ≡ true → (marks : List Bool) → marks ≡ marked_all rows (all_fields it.cons) (replicate (length it.params) false) → (ts : TypeTrees) → Both (Representable datas (data_of d ts)) (MarkedRepresentable datas marks ts)
asks_right datas rows h d it e s f marks is ts = (there, back)
  where
    start : List Bool
    start = replicate (length it.params) false

    as_long : length start ≡ length it.params
    as_long = length-replicate (length it.params) false

    there : Representable datas (data_of d ts) → MarkedRepresentable datas marks ts
    there r =
        let all = fields_of datas it e r in
        let asked = all_asked datas rows h (arguments ts) (all_fields it.cons) s all.1 in
        holds_args datas marks ts (all.0 ∙ sym as_long ∙ sym (length_marked_all rows (all_fields it.cons) start) ∙ ap length (sym is))
        (subst (λ m. Holds m (λ x. Representable datas (arguments ts x))) (sym is) (holds_marked_all rows _ (all_fields it.cons) start (no_marks_hold _ (length it.params)) asked))

    back : MarkedRepresentable datas marks ts → Representable datas (data_of d ts)
    back m =
        let held = args_hold datas marks ts m in
        let w = marked_all_holds rows (λ x. Representable datas (arguments ts x)) (all_fields it.cons) start (subst (λ n. fits_all rows n (all_fields it.cons) ≡ true) (sym as_long) f) (subst (λ m. Holds m (λ x. Representable datas (arguments ts x))) is held.1) in
        representable_data e (held.0 ∙ ap length is ∙ length_marked_all rows (all_fields it.cons) start ∙ as_long) (asked_all datas rows h (arguments ts) (all_fields it.cons) s w.1)

none_holds : (P : ℕ → Type 0) (marks : List Bool) → length marks ≡ 0 → Holds marks P
none_holds P [] l = tt
none_holds P (b ∷ marks) l = absurd (omega arith)

-- a closed type is representable where it fits without variables
pub closed_fits : (datas : List Data) (rows : List Row) → Right datas rows → (t : TypeTree) → Settled rows t → Representable datas t → fits rows 0 t ≡ true
closed_fits datas rows h t s r =
    asked_fits rows (λ x. Representable datas (ty_var x)) 0 (λ x p. absurd (var_not p)) t
    (rep_asked datas rows h ty_var t s (subst (Representable datas) (sym (sub_ids t)) r))

pub fits_closed : (datas : List Data) (rows : List Row) → Right datas rows → (t : TypeTree) → Settled rows t → fits rows 0 t ≡ true → Representable datas t
fits_closed datas rows h t s f =
    subst (Representable datas) (sub_ids t)
    (asked_rep datas rows h ty_var t s (marked_holds rows (λ x. Representable datas (ty_var x)) t [] f (none_holds _ _ (length_marked rows t []))).1)

pub told : (datas : List Data) (rows : List Row) → Right datas rows → (t : TypeTree) → Settled rows t → (r : Bool) → r ≡ fits rows 0 t → (r ≡ true → Representable datas t) × (Representable datas t → r ≡ true)
told datas rows h t s r e = ((λ f. fits_closed datas rows h t s (sym e ∙ f)), (λ p. e ∙ closed_fits datas rows h t s p))
