-- Right rows tell which types are representable.
use Rattle.std.proofs.Common.{◌≡◌, ℕ, suc, ◌<◌, Bool, true, false, if◌then◌else◌, refl, sym, ap, subst, ◌∙◌, List, [], ◌∷◌, length, arith}
use Rattle.std.specs.Prelude.{◌==◌, Option, Some, None}
use Rattle.std.specs.List.{slice_get}
use Rattle.std.proofs.lemmas.Bool.{eqb-true, eq-eqb, ltb-true, lt-ltb, and_parts, and_from}
use Rattle.chw_types.specs.declared.declarations.Data.{Data}
use Rattle.chw_types.specs.declared.kind.Kind.{Kind}
use Rattle.type_ports.specs.declared.rows.Row.{Row}
use Rattle.type_ports.specs.declared.rows.Row.TheVariants.{Unknown, Open, Never, Asks}
use Rattle.chw_types.specs.TypeTree.{TypeTree, ty_var, nat_lit, nat_sum, nat_product, domain, scalar, vector, data_of, fun, signal, for_all, TypeTrees, no_types, type_and}
use Rattle.chw_types.specs.TypeMoves.{Substitution, sub, sub_all}
use Rattle.type_ports.specs.Representable.{Representable, representable_scalar, representable_vector}
use Rattle.type_ports.specs.RowsFound.{has_marks, marks_of, mark, fits, fits_args, marked, marked_args}
use Rattle.type_ports.specs.RowsRight.{MarkedRepresentable, IsRight, IsSettled, Settled, SettledArgs}

-- the type is representable where the variables are of which this says so
abbrev mutual
  pub Asked : List Row → (ℕ → Type 0) → TypeTree → Type 0
  Asked rows P (ty_var x) = P x
  Asked rows P (scalar s w) = Unit {0}
  Asked rows P (vector n t) = Asked rows P t
  Asked rows P (data_of d ts) = (has_marks (slice_get rows d) ≡ true) × AskedArgs rows P (marks_of (slice_get rows d)) ts
  Asked rows P _ = ⊥

  pub AskedArgs : List Row → (ℕ → Type 0) → List Bool → TypeTrees → Type 0
  AskedArgs rows P [] no_types = Unit {0}
  AskedArgs rows P (b ∷ marks) (type_and t ts) = (b ≡ true → Asked rows P t) × AskedArgs rows P marks ts
  AskedArgs rows P [] (type_and t ts) = ⊥
  AskedArgs rows P (b ∷ marks) no_types = ⊥

pub var_not : {datas : List Data} {x : ℕ} → Representable datas (ty_var x) → ⊥
var_not r = elim r [ ]

lit_not : {datas : List Data} {n : ℕ} → Representable datas (nat_lit n) → ⊥
lit_not r = elim r [ ]

sum_not : {datas : List Data} {a b : TypeTree} → Representable datas (nat_sum a b) → ⊥
sum_not r = elim r [ ]

product_not : {datas : List Data} {a b : TypeTree} → Representable datas (nat_product a b) → ⊥
product_not r = elim r [ ]

domain_not : {datas : List Data} {d : ℕ} → Representable datas (domain d) → ⊥
domain_not r = elim r [ ]

fun_not : {datas : List Data} {a b : TypeTree} → Representable datas (fun a b) → ⊥
fun_not r = elim r [ ]

signal_not : {datas : List Data} {a b : TypeTree} → Representable datas (signal a b) → ⊥
signal_not r = elim r [ ]

for_all_not : {datas : List Data} {k : Kind} {t : TypeTree} → Representable datas (for_all k t) → ⊥
for_all_not r = elim r [ ]

element : {datas : List Data} {n t : TypeTree} → Representable datas (vector n t) → Representable datas t
element (representable_vector r) = r

-- the table's rows are right for all data types
abbrev pub Right : List Data → List Row → Type 0
Right datas rows = (d : ℕ) → IsRight datas d (slice_get rows d)

row_tells : (datas : List Data) (d : ℕ) (row : Option Row) (ts : TypeTrees) → IsRight datas d row → IsSettled row → Representable datas (data_of d ts) → (has_marks row ≡ true) × MarkedRepresentable datas (marks_of row) ts
row_tells datas d None ts right s r = absurd (right ts r)
row_tells datas d (Some Unknown) ts right s r = absurd s
row_tells datas d (Some Open) ts right s r = absurd s
row_tells datas d (Some Never) ts right s r = absurd (right ts r)
row_tells datas d (Some (Asks marks)) ts right s r = (refl, (right ts).0 r)

row_told : (datas : List Data) (d : ℕ) (row : Option Row) (ts : TypeTrees) → IsRight datas d row → has_marks row ≡ true → MarkedRepresentable datas (marks_of row) ts → Representable datas (data_of d ts)
row_told datas d None ts right e m = absurd (cc)
row_told datas d (Some Unknown) ts right e m = absurd (cc)
row_told datas d (Some Open) ts right e m = absurd (cc)
row_told datas d (Some Never) ts right e m = absurd (cc)
row_told datas d (Some (Asks marks)) ts right e m = (right ts).1 m

mutual
  unfolding sub

  pub rep_asked : (datas : List Data) (rows : List Row) → Right datas rows → (σ : Substitution) (t : TypeTree) → Settled rows t → Representable datas (sub t σ) → Asked rows (λ x. Representable datas (σ x)) t
  rep_asked datas rows h σ (ty_var x) s r = r
  rep_asked datas rows h σ (scalar k w) s r = tt
  rep_asked datas rows h σ (vector n t) s r = rep_asked datas rows h σ t s (element r)
  rep_asked datas rows h σ (data_of d ts) s r =
      let w = row_tells datas d (slice_get rows d) (sub_all ts σ) (h d) s.0 r in (w.0, rep_asked_args datas rows h σ ts (marks_of (slice_get rows d)) s.1 w.1)
  rep_asked datas rows h σ (nat_lit n) s r = lit_not r
  rep_asked datas rows h σ (nat_sum a b) s r = sum_not r
  rep_asked datas rows h σ (nat_product a b) s r = product_not r
  rep_asked datas rows h σ (domain d) s r = domain_not r
  rep_asked datas rows h σ (fun a b) s r = fun_not r
  rep_asked datas rows h σ (signal a b) s r = signal_not r
  rep_asked datas rows h σ (for_all k t) s r = for_all_not r

  rep_asked_args : (datas : List Data) (rows : List Row) → Right datas rows → (σ : Substitution) (ts : TypeTrees) (marks : List Bool) → SettledArgs rows ts → MarkedRepresentable datas marks (sub_all ts σ) → AskedArgs rows (λ x. Representable datas (σ x)) marks ts
  rep_asked_args datas rows h σ no_types [] ss m = tt
  rep_asked_args datas rows h σ (type_and t ts) (b ∷ marks) ss m = (λ e. rep_asked datas rows h σ t ss.0 (m.0 e), rep_asked_args datas rows h σ ts marks ss.1 m.1)
  rep_asked_args datas rows h σ no_types (b ∷ marks) ss m = m
  rep_asked_args datas rows h σ (type_and t ts) [] ss m = m

mutual
  unfolding sub

  pub asked_rep : (datas : List Data) (rows : List Row) → Right datas rows → (σ : Substitution) (t : TypeTree) → Settled rows t → Asked rows (λ x. Representable datas (σ x)) t → Representable datas (sub t σ)
  asked_rep datas rows h σ (ty_var x) s a = a
  asked_rep datas rows h σ (scalar k w) s a = representable_scalar
  asked_rep datas rows h σ (vector n t) s a = representable_vector (asked_rep datas rows h σ t s a)
  asked_rep datas rows h σ (data_of d ts) s a = row_told datas d (slice_get rows d) (sub_all ts σ) (h d) a.0 (asked_rep_args datas rows h σ ts (marks_of (slice_get rows d)) s.1 a.1)
  asked_rep datas rows h σ (nat_lit n) s a = absurd a
  asked_rep datas rows h σ (nat_sum b c) s a = absurd a
  asked_rep datas rows h σ (nat_product b c) s a = absurd a
  asked_rep datas rows h σ (domain d) s a = absurd a
  asked_rep datas rows h σ (fun b c) s a = absurd a
  asked_rep datas rows h σ (signal b c) s a = absurd a
  asked_rep datas rows h σ (for_all k t) s a = absurd a

  asked_rep_args : (datas : List Data) (rows : List Row) → Right datas rows → (σ : Substitution) (ts : TypeTrees) (marks : List Bool) → SettledArgs rows ts → AskedArgs rows (λ x. Representable datas (σ x)) marks ts → MarkedRepresentable datas marks (sub_all ts σ)
  asked_rep_args datas rows h σ no_types [] ss a = tt
  asked_rep_args datas rows h σ (type_and t ts) (b ∷ marks) ss a = (λ e. asked_rep datas rows h σ t ss.0 (a.0 e), asked_rep_args datas rows h σ ts marks ss.1 a.1)
  asked_rep_args datas rows h σ no_types (b ∷ marks) ss a = a
  asked_rep_args datas rows h σ (type_and t ts) [] ss a = a

-- the variables of which this says so are marked at most
abbrev pub Holds : List Bool → (ℕ → Type 0) → Type 0
Holds [] P = Unit {0}
Holds (b ∷ marks) P = (b ≡ true → P (length marks)) × Holds marks P

mark_length : (x : ℕ) (b : Bool) (marks : List Bool) (q : Bool) → length (mark x marks) ≡ length marks → length (if q then true ∷ marks else b ∷ mark x marks) ≡ length (b ∷ marks)
mark_length x b marks true e = refl
mark_length x b marks false e = ap suc e

pub length_mark : (x : ℕ) (marks : List Bool) → length (mark x marks) ≡ length marks
length_mark x [] = refl
length_mark x (b ∷ marks) = mark_length x b marks (x == length marks) (length_mark x marks)

mark_held : (P : ℕ → Type 0) (x : ℕ) (b : Bool) (marks : List Bool) (q : Bool) → (q ≡ true → x ≡ length marks) → (x ≡ length marks → q ≡ true) → (Holds (mark x marks) P → Holds marks P × (x < length marks → P x)) → Holds (if q then true ∷ marks else b ∷ mark x marks) P → Holds (b ∷ marks) P × (x < length (b ∷ marks) → P x)
mark_held P x b marks true is back inner g = ((λ e. g.0 refl, g.1), λ l. subst P (sym (is refl)) (g.0 refl))
mark_held P x b marks false is back inner g =
    let later = inner g.1 in
    let ne : x ≡ length marks → ⊥ = λ e. absurd (let f = back e in cc) in
    ((λ e. subst P (length_mark x marks) (g.0 e), later.0), λ l. later.1 (omega arith))

mark_holds : (P : ℕ → Type 0) (x : ℕ) (marks : List Bool) → Holds (mark x marks) P → Holds marks P × (x < length marks → P x)
mark_holds P x [] h = (tt, λ l. absurd (omega arith))
mark_holds P x (b ∷ marks) h = mark_held P x b marks (x == length marks) (eqb-true x (length marks)) (eq-eqb x (length marks)) (mark_holds P x marks) h

held_mark : (P : ℕ → Type 0) (x : ℕ) (b : Bool) (marks : List Bool) (q : Bool) → (q ≡ true → x ≡ length marks) → Holds (b ∷ marks) P → P x → Holds (mark x marks) P → Holds (if q then true ∷ marks else b ∷ mark x marks) P
held_mark P x b marks true is h p later = (λ e. subst P (is refl) p, h.1)
held_mark P x b marks false is h p later = (λ e. subst P (sym (length_mark x marks)) (h.0 e), later)

holds_mark : (P : ℕ → Type 0) (x : ℕ) (marks : List Bool) → Holds marks P → P x → Holds (mark x marks) P
holds_mark P x [] h p = tt
holds_mark P x (b ∷ marks) h p = held_mark P x b marks (x == length marks) (eqb-true x (length marks)) h p (holds_mark P x marks h.1 p)

mutual
  unfolding marked

  pub length_marked : (rows : List Row) (t : TypeTree) (marks : List Bool) → length (marked rows t marks) ≡ length marks
  length_marked rows (ty_var x) marks = length_mark x marks
  length_marked rows (scalar s w) marks = refl
  length_marked rows (vector n t) marks = length_marked rows t marks
  length_marked rows (data_of d ts) marks = length_marked_args rows ts (marks_of (slice_get rows d)) marks
  length_marked rows (nat_lit n) marks = refl
  length_marked rows (nat_sum a b) marks = refl
  length_marked rows (nat_product a b) marks = refl
  length_marked rows (domain d) marks = refl
  length_marked rows (fun a b) marks = refl
  length_marked rows (signal a b) marks = refl
  length_marked rows (for_all k t) marks = refl

  pub length_marked_args : (rows : List Row) (ts : TypeTrees) (asks marks : List Bool) → length (marked_args rows asks ts marks) ≡ length marks
  length_marked_args rows no_types [] marks = refl
  length_marked_args rows no_types (true ∷ asks) marks = refl
  length_marked_args rows no_types (false ∷ asks) marks = refl
  length_marked_args rows (type_and t ts) [] marks = refl
  length_marked_args rows (type_and t ts) (true ∷ asks) marks = length_marked_args rows ts asks (marked rows t marks) ∙ length_marked rows t marks
  length_marked_args rows (type_and t ts) (false ∷ asks) marks = length_marked_args rows ts asks marks

-- what the marks hold is what was marked, and what the type asks
mutual
  unfolding fits marked

  pub marked_holds : (rows : List Row) (P : ℕ → Type 0) (t : TypeTree) (marks : List Bool) → fits rows (length marks) t ≡ true → Holds (marked rows t marks) P → Holds marks P × Asked rows P t
  marked_holds rows P (ty_var x) marks f h = let w = mark_holds P x marks h in (w.0, w.1 (ltb-true _ _ f))
  marked_holds rows P (scalar s w) marks f h = (h, tt)
  marked_holds rows P (vector n t) marks f h = marked_holds rows P t marks f h
  marked_holds rows P (data_of d ts) marks f h =
      let w = and_parts (has_marks (slice_get rows d)) (fits_args rows (length marks) (marks_of (slice_get rows d)) ts) f in
      let all = marked_args_holds rows P ts (marks_of (slice_get rows d)) marks w.1 h in
      (all.0, (w.0, all.1))
  marked_holds rows P (nat_lit n) marks f h = absurd (cc)
  marked_holds rows P (nat_sum a b) marks f h = absurd (cc)
  marked_holds rows P (nat_product a b) marks f h = absurd (cc)
  marked_holds rows P (domain d) marks f h = absurd (cc)
  marked_holds rows P (fun a b) marks f h = absurd (cc)
  marked_holds rows P (signal a b) marks f h = absurd (cc)
  marked_holds rows P (for_all k t) marks f h = absurd (cc)

  marked_args_holds : (rows : List Row) (P : ℕ → Type 0) (ts : TypeTrees) (asks marks : List Bool) → fits_args rows (length marks) asks ts ≡ true → Holds (marked_args rows asks ts marks) P → Holds marks P × AskedArgs rows P asks ts
  marked_args_holds rows P no_types [] marks f h = (h, tt)
  marked_args_holds rows P no_types (true ∷ asks) marks f h = absurd (cc)
  marked_args_holds rows P no_types (false ∷ asks) marks f h = absurd (cc)
  marked_args_holds rows P (type_and t ts) [] marks f h = absurd (cc)
  marked_args_holds rows P (type_and t ts) (true ∷ asks) marks f h =
      let w = and_parts (fits rows (length marks) t) (fits_args rows (length marks) asks ts) f in
      let later = marked_args_holds rows P ts asks (marked rows t marks) (subst (λ n. fits_args rows n asks ts ≡ true) (sym (length_marked rows t marks)) w.1) h in
      let first = marked_holds rows P t marks w.0 later.0 in
      (first.0, (λ e. first.1, later.1))
  marked_args_holds rows P (type_and t ts) (false ∷ asks) marks f h =
      let later = marked_args_holds rows P ts asks marks f h in (later.0, (λ e. absurd (cc), later.1))

mutual
  unfolding marked

  pub holds_marked : (rows : List Row) (P : ℕ → Type 0) (t : TypeTree) (marks : List Bool) → Holds marks P → Asked rows P t → Holds (marked rows t marks) P
  holds_marked rows P (ty_var x) marks h a = holds_mark P x marks h a
  holds_marked rows P (scalar s w) marks h a = h
  holds_marked rows P (vector n t) marks h a = holds_marked rows P t marks h a
  holds_marked rows P (data_of d ts) marks h a = holds_marked_args rows P ts (marks_of (slice_get rows d)) marks h a.1
  holds_marked rows P (nat_lit n) marks h a = h
  holds_marked rows P (nat_sum b c) marks h a = h
  holds_marked rows P (nat_product b c) marks h a = h
  holds_marked rows P (domain d) marks h a = h
  holds_marked rows P (fun b c) marks h a = h
  holds_marked rows P (signal b c) marks h a = h
  holds_marked rows P (for_all k t) marks h a = h

  holds_marked_args : (rows : List Row) (P : ℕ → Type 0) (ts : TypeTrees) (asks marks : List Bool) → Holds marks P → AskedArgs rows P asks ts → Holds (marked_args rows asks ts marks) P
  holds_marked_args rows P no_types [] marks h a = h
  holds_marked_args rows P no_types (true ∷ asks) marks h a = h
  holds_marked_args rows P no_types (false ∷ asks) marks h a = h
  holds_marked_args rows P (type_and t ts) [] marks h a = h
  holds_marked_args rows P (type_and t ts) (true ∷ asks) marks h a = holds_marked_args rows P ts asks (marked rows t marks) (holds_marked rows P t marks h (a.0 refl)) a.1
  holds_marked_args rows P (type_and t ts) (false ∷ asks) marks h a = holds_marked_args rows P ts asks marks h a.1

-- what is asked fits
mutual
  unfolding fits

  pub asked_fits : (rows : List Row) (P : ℕ → Type 0) (n : ℕ) → ((x : ℕ) → P x → x < n) → (t : TypeTree) → Asked rows P t → fits rows n t ≡ true
  asked_fits rows P n w (ty_var x) a = lt-ltb _ _ (w x a)
  asked_fits rows P n w (scalar s v) a = refl
  asked_fits rows P n w (vector m t) a = asked_fits rows P n w t a
  asked_fits rows P n w (data_of d ts) a = and_from _ _ a.0 (asked_fits_args rows P n w ts (marks_of (slice_get rows d)) a.1)
  asked_fits rows P n w (nat_lit k) a = absurd a
  asked_fits rows P n w (nat_sum b c) a = absurd a
  asked_fits rows P n w (nat_product b c) a = absurd a
  asked_fits rows P n w (domain d) a = absurd a
  asked_fits rows P n w (fun b c) a = absurd a
  asked_fits rows P n w (signal b c) a = absurd a
  asked_fits rows P n w (for_all k t) a = absurd a

  asked_fits_args : (rows : List Row) (P : ℕ → Type 0) (n : ℕ) → ((x : ℕ) → P x → x < n) → (ts : TypeTrees) (asks : List Bool) → AskedArgs rows P asks ts → fits_args rows n asks ts ≡ true
  asked_fits_args rows P n w no_types [] a = refl
  asked_fits_args rows P n w no_types (b ∷ asks) a = absurd a
  asked_fits_args rows P n w (type_and t ts) [] a = absurd a
  asked_fits_args rows P n w (type_and t ts) (true ∷ asks) a = and_from _ _ (asked_fits rows P n w t (a.0 refl)) (asked_fits_args rows P n w ts asks a.1)
  asked_fits_args rows P n w (type_and t ts) (false ∷ asks) a = asked_fits_args rows P n w ts asks a.1
