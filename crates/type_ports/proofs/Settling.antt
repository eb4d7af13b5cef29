-- What the search for rows keeps.
use Rattle.std.proofs.Common.{◌≡◌, ℕ, suc, zero, ◌<◌, ◌≤◌, ◌⊎◌, inl, inr, Bool, true, false, refl, sym, ap, subst, ◌∙◌, List, [], ◌∷◌, ◌++◌, length, set, arith}
use Rattle.std.specs.Prelude.{reverse, replicate, Option, Some, None}
use Rattle.std.specs.List.{slice_get}
use Rattle.std.proofs.lemmas.Bool.{cases_eq}
use Rattle.std.proofs.lemmas.List.{length-set, length-replicate, reverse-append}
use Rattle.chw_types.specs.declared.declarations.Data.{Data}
use Rattle.type_ports.specs.declared.rows.Row.{Row}
use Rattle.type_ports.specs.declared.rows.Row.TheVariants.{Unknown, Open, Never, Asks}
use Rattle.chw_types.specs.TypeTree.{TypeTree, ty_var, nat_lit, nat_sum, nat_product, domain, scalar, vector, data_of, fun, signal, for_all, TypeTrees, no_types, type_and}
use Rattle.chw_types.specs.Arguments.{all_fields}
use Rattle.chw_types.specs.References.{Mentions, MentionsAny, MentionedIn, HasNoCycle}
use Rattle.type_ports.specs.Representable.{Representable, representable_data}
use Rattle.type_ports.specs.RowsFound.{unknown_row, is_unknown, unknown_rows, first_of, found_if, unknown_in, unknown_args, unknown_among}
use Rattle.type_ports.specs.RowsRight.{IsRight, IsNotOpen, IsSettled, Settled, SettledArgs, IsTable, IsWholeTable, IsRowOf}
use Rattle.type_ports.proofs.RowMade.{SettledAll, never_right, asks_right}

-- the row of an open data type
abbrev pub IsOpen : Option Row → Type 0
IsOpen (Some Open) = Unit {0}
IsOpen _ = ⊥

abbrev pub Before : (ℕ → ℕ) → ℕ → List ℕ → Type 0
Before place x [] = Unit {0}
Before place x (y ∷ ys) = (place x < place y) × Before place x ys

-- each has an earlier place than those after it
abbrev pub Chain : (ℕ → ℕ) → List ℕ → Type 0
Chain place [] = Unit {0}
Chain place (x ∷ xs) = Before place x xs × Chain place xs

abbrev pub AllBelow : ℕ → List ℕ → Type 0
AllBelow n [] = Unit {0}
AllBelow n (x ∷ xs) = (x < n) × AllBelow n xs

abbrev pub On : ℕ → List ℕ → Type 0
On d [] = ⊥
On d (x ∷ xs) = (d ≡ x) ⊎ On d xs

-- the rows are right, and those of the stack, the top first, are open: each refers to the one above it
pub record Working (datas : List Data) (place : ℕ → ℕ) (rows : List Row) (stack : List ℕ) : Type 0 where
  pub table : IsTable datas rows
  pub chain : Chain place stack
  pub below : AllBelow (length datas) stack
  pub open_on : (d : ℕ) → IsOpen (slice_get rows d) → On d stack

get_set_same : (rows : List Row) (i : ℕ) (r : Row) → i < length rows → slice_get (set rows i r) i ≡ Some r
get_set_same [] i r l = absurd (omega arith)
get_set_same (x ∷ rows) zero r l = refl
get_set_same (x ∷ rows) (suc i) r l = get_set_same rows i r (omega arith)

get_set_other : (rows : List Row) (i d : ℕ) (r : Row) → (d ≡ i → ⊥) → slice_get (set rows i r) d ≡ slice_get rows d
get_set_other [] i d r ne = refl
get_set_other (x ∷ rows) zero zero r ne = absurd (ne refl)
get_set_other (x ∷ rows) zero (suc d) r ne = refl
get_set_other (x ∷ rows) (suc i) zero r ne = refl
get_set_other (x ∷ rows) (suc i) (suc d) r ne = get_set_other rows i d r (λ e. ne (ap suc e))

-- what holds of a new row and of the old ones holds of all
rows_set : (P : ℕ → Option Row → Type 0) (rows : List Row) (i : ℕ) (r : Row) → i < length rows → P i (Some r) → ((d : ℕ) → (d ≡ i → ⊥) → P d (slice_get rows d)) → (d : ℕ) → P d (slice_get (set rows i r) d)
rows_set P rows i r l here there d =
    elim (cases_eq d i) [
      | inl e ↦ subst (λ x. P x (slice_get (set rows i r) x)) (sym e) (subst (P i) (sym (get_set_same rows i r l)) here)
      | inr ne ↦ subst (P d) (sym (get_set_other rows i d r ne)) (there d ne)
    ]

unknown_within : (rows : List Row) (d : ℕ) → is_unknown rows d ≡ true → d < length rows
unknown_within [] d e = absurd (cc)
unknown_within (x ∷ rows) zero e = omega arith
unknown_within (x ∷ rows) (suc d) e = let w = unknown_within rows d e in omega arith

open_within : (rows : List Row) (d : ℕ) → IsOpen (slice_get rows d) → d < length rows
open_within [] d o = absurd o
open_within (x ∷ rows) zero o = omega arith
open_within (x ∷ rows) (suc d) o = let w = open_within rows d o in omega arith

pub opened_count : (rows : List Row) (d : ℕ) → is_unknown rows d ≡ true → suc (unknown_rows (set rows d Open)) ≡ unknown_rows rows
opened_count [] d e = absurd (cc)
opened_count (Unknown ∷ rows) zero e = refl
opened_count (Open ∷ rows) zero e = absurd (cc)
opened_count (Never ∷ rows) zero e = absurd (cc)
opened_count (Asks v ∷ rows) zero e = absurd (cc)
opened_count (Unknown ∷ rows) (suc d) e = ap suc (opened_count rows d e)
opened_count (Open ∷ rows) (suc d) e = opened_count rows d e
opened_count (Never ∷ rows) (suc d) e = opened_count rows d e
opened_count (Asks v ∷ rows) (suc d) e = opened_count rows d e

-- the row of a data type by its fields is none that is unknown or open
abbrev pub IsKnown : Row → Type 0
IsKnown Unknown = ⊥
IsKnown Open = ⊥
IsKnown _ = Unit {0}

known_one : (r : Row) (rows : List Row) → IsKnown r → unknown_rows (r ∷ rows) ≡ unknown_rows rows
known_one Unknown rows k = absurd k
known_one Open rows k = absurd k
known_one Never rows k = refl
known_one (Asks v) rows k = refl

pub known_count : (rows : List Row) (d : ℕ) (r : Row) → IsKnown r → unknown_rows (set rows d r) ≤ unknown_rows rows
known_count [] d r k = omega arith
known_count (Unknown ∷ rows) zero r k = let e = known_one r rows k in omega arith
known_count (Open ∷ rows) zero r k = let e = known_one r rows k in omega arith
known_count (Never ∷ rows) zero r k = let e = known_one r rows k in omega arith
known_count (Asks v ∷ rows) zero r k = let e = known_one r rows k in omega arith
known_count (Unknown ∷ rows) (suc d) r k = let e = known_count rows d r k in omega arith
known_count (Open ∷ rows) (suc d) r k = known_count rows d r k
known_count (Never ∷ rows) (suc d) r k = known_count rows d r k
known_count (Asks v ∷ rows) (suc d) r k = known_count rows d r k

row_known : (rows : List Row) (it : Data) (r : Row) → IsRowOf rows it r → IsKnown r
row_known rows it Unknown h = absurd h
row_known rows it Open h = absurd h
row_known rows it Never h = tt
row_known rows it (Asks v) h = tt

before_more : (place : ℕ → ℕ) (x y : ℕ) (s : List ℕ) → place x < place y → Before place y s → Before place x s
before_more place x y [] l h = tt
before_more place x y (z ∷ s) l h = (omega (arith, h.0), before_more place x y s l h.1)

-- what stands on the stack has no earlier place than its top
not_before : (place : ℕ → ℕ) (x d : ℕ) (s : List ℕ) → Before place x s → On d (x ∷ s) → place d < place x → ⊥
not_before place x d s h (inl e) l = let f : place d ≡ place x = ap place e in absurd (omega arith)
not_before place x d s h (inr o) l = later s h o
  where
    later : (s : List ℕ) → Before place x s → On d s → ⊥
    later [] h o = o
    later (y ∷ s) h (inl e) = let f : place d ≡ place y = ap place e in absurd (omega (arith, h.0))
    later (y ∷ s) h (inr o) = later s h.1 o

first_cases : (a b : Option ℕ) (d : ℕ) → first_of a b ≡ Some d → (a ≡ Some d) ⊎ (b ≡ Some d)
first_cases None b d e = inr e
first_cases (Some x) b d e = inl e

first_none : (a b : Option ℕ) → first_of a b ≡ None → (a ≡ None) × (b ≡ None)
first_none None b e = (refl, e)
first_none (Some x) b e = absurd (cc)

found_cases : (b : Bool) (c d : ℕ) → found_if b c ≡ Some d → (b ≡ true) × (c ≡ d)
found_cases true c d e = (refl, cc)
found_cases false c d e = absurd (cc)

found_none : (b : Bool) (c : ℕ) → found_if b c ≡ None → b ≡ false
found_none true c e = absurd (cc)
found_none false c e = refl

-- the first unknown is mentioned
mutual
  unfolding unknown_in

  found_mentioned : (rows : List Row) (t : TypeTree) (d : ℕ) → unknown_in rows t ≡ Some d → Mentions t d × (is_unknown rows d ≡ true)
  found_mentioned rows (vector n t) d e = let w = found_mentioned rows t d e in (inr w.0, w.1)
  found_mentioned rows (data_of c ts) d e =
      elim (first_cases (found_if (is_unknown rows c) c) (unknown_args rows ts) d e) [
        | inl f ↦ let w = found_cases (is_unknown rows c) c d f in (inl w.1, subst (λ x. is_unknown rows x ≡ true) w.1 w.0)
        | inr f ↦ let w = found_args rows ts d f in (inr w.0, w.1)
      ]
  found_mentioned rows (ty_var x) d e = absurd (cc)
  found_mentioned rows (nat_lit n) d e = absurd (cc)
  found_mentioned rows (nat_sum a b) d e = absurd (cc)
  found_mentioned rows (nat_product a b) d e = absurd (cc)
  found_mentioned rows (domain x) d e = absurd (cc)
  found_mentioned rows (scalar s w) d e = absurd (cc)
  found_mentioned rows (fun a b) d e = absurd (cc)
  found_mentioned rows (signal a b) d e = absurd (cc)
  found_mentioned rows (for_all k t) d e = absurd (cc)

  found_args : (rows : List Row) (ts : TypeTrees) (d : ℕ) → unknown_args rows ts ≡ Some d → MentionsAny ts d × (is_unknown rows d ≡ true)
  found_args rows no_types d e = absurd (cc)
  found_args rows (type_and t ts) d e =
      elim (first_cases (unknown_in rows t) (unknown_args rows ts) d e) [
        | inl f ↦ let w = found_mentioned rows t d f in (inl w.0, w.1)
        | inr f ↦ let w = found_args rows ts d f in (inr w.0, w.1)
      ]

found_among : (rows : List Row) (ts : List TypeTree) (d : ℕ) → unknown_among rows ts ≡ Some d → MentionedIn ts d × (is_unknown rows d ≡ true)
found_among rows [] d e = absurd (cc)
found_among rows (t ∷ ts) d e =
    elim (first_cases (unknown_in rows t) (unknown_among rows ts) d e) [
      | inl f ↦ let w = found_mentioned rows t d f in (inl w.0, w.1)
      | inr f ↦ let w = found_among rows ts d f in (inr w.0, w.1)
    ]

settled_row : (o : Option Row) → unknown_row o ≡ false → (IsOpen o → ⊥) → IsSettled o
settled_row None e h = tt
settled_row (Some Unknown) e h = absurd (cc)
settled_row (Some Open) e h = h tt
settled_row (Some Never) e h = tt
settled_row (Some (Asks v)) e h = tt

-- where nothing is unknown and nothing open, all is settled
mutual
  unfolding unknown_in

  pub settled_none : (rows : List Row) (t : TypeTree) → ((e : ℕ) → Mentions t e → IsOpen (slice_get rows e) → ⊥) → unknown_in rows t ≡ None → Settled rows t
  settled_none rows (vector n t) h e = settled_none rows t (λ c m. h c (inr m)) e
  settled_none rows (data_of c ts) h e =
      let w = first_none (found_if (is_unknown rows c) c) (unknown_args rows ts) e in
      (settled_row (slice_get rows c) (found_none (is_unknown rows c) c w.0) (h c (inl refl)), settled_args rows ts (λ d m. h d (inr m)) w.1)
  settled_none rows (ty_var x) h e = tt
  settled_none rows (nat_lit n) h e = tt
  settled_none rows (nat_sum a b) h e = tt
  settled_none rows (nat_product a b) h e = tt
  settled_none rows (domain x) h e = tt
  settled_none rows (scalar s w) h e = tt
  settled_none rows (fun a b) h e = tt
  settled_none rows (signal a b) h e = tt
  settled_none rows (for_all k t) h e = tt

  settled_args : (rows : List Row) (ts : TypeTrees) → ((e : ℕ) → MentionsAny ts e → IsOpen (slice_get rows e) → ⊥) → unknown_args rows ts ≡ None → SettledArgs rows ts
  settled_args rows no_types h e = tt
  settled_args rows (type_and t ts) h e =
      let w = first_none (unknown_in rows t) (unknown_args rows ts) e in
      (settled_none rows t (λ d m. h d (inl m)) w.0, settled_args rows ts (λ d m. h d (inr m)) w.1)

settled_among : (rows : List Row) (ts : List TypeTree) → ((e : ℕ) → MentionedIn ts e → IsOpen (slice_get rows e) → ⊥) → unknown_among rows ts ≡ None → SettledAll rows ts
settled_among rows [] h e = tt
settled_among rows (t ∷ ts) h e =
    let w = first_none (unknown_in rows t) (unknown_among rows ts) e in
    (settled_none rows t (λ d m. h d (inl m)) w.0, settled_among rows ts (λ d m. h d (inr m)) w.1)

table_set : (datas : List Data) (rows : List Row) (i : ℕ) (r : Row) → i < length rows → IsRight datas i (Some r) → IsTable datas rows → IsTable datas (set rows i r)
table_set datas rows i r l right h =
    record { same_length = length-set rows i r ∙ h.same_length; right = rows_set (IsRight datas) rows i r l right (λ d ne. h.right d) }

-- a row is opened
open_set : (rows : List Row) (i : ℕ) (s : List ℕ) → i < length rows → ((d : ℕ) → IsOpen (slice_get rows d) → On d s) → (d : ℕ) → IsOpen (slice_get (set rows i Open) d) → On d (i ∷ s)
open_set rows i s l h = rows_set (λ d o. IsOpen o → On d (i ∷ s)) rows i Open l (λ o. inl refl) (λ d ne o. inr (h d o))

not_both : (o : Option Row) → IsNotOpen o → IsOpen o → ⊥
not_both None n o = o
not_both (Some Unknown) n o = o
not_both (Some Open) n o = n
not_both (Some Never) n o = o
not_both (Some (Asks v)) n o = o

pub started : (datas : List Data) (order : HasNoCycle datas) (rows : List Row) (first : ℕ) → IsWholeTable datas rows → is_unknown rows first ≡ true → Working datas order.place (set rows first Open) (first ∷ [])
started datas order rows first h e =
    let l = unknown_within rows first e in
    record {
      table = table_set datas rows first Open l tt h.table;
      chain = (tt, tt);
      below = (subst (λ n. first < n) h.table.same_length l, tt);
      open_on = open_set rows first [] l (λ d o. not_both (slice_get rows d) (h.none_open d) o);
    }

pub opened : (datas : List Data) (order : HasNoCycle datas) (rows : List Row) (top next : ℕ) (s : List ℕ) (it : Data) → slice_get datas top ≡ Some it → Working datas order.place rows (top ∷ s) → Some next ≡ unknown_among rows (all_fields it.cons) → Working datas order.place (set rows next Open) (next ∷ top ∷ s)
opened datas order rows top next s it known h e =
    let found = found_among rows (all_fields it.cons) next (sym e) in
    let l = unknown_within rows next found.1 in
    let within = subst (λ n. next < n) h.table.same_length l in
    let less = order.earlier top next within (it, known, found.0) in
    record {
      table = table_set datas rows next Open l tt h.table;
      chain = ((less, before_more order.place next top s less h.chain.0), h.chain);
      below = (within, h.below);
      open_on = open_set rows next (top ∷ s) l h.open_on;
    }

known_not_open : (r : Row) → IsKnown r → IsOpen (Some r) → ⊥
known_not_open Unknown k o = k
known_not_open Open k o = k
known_not_open Never k o = o
known_not_open (Asks v) k o = o

off_top : (top d : ℕ) (s : List ℕ) → (d ≡ top → ⊥) → On d (top ∷ s) → On d s
off_top top d s ne (inl e) = absurd (ne e)
off_top top d s ne (inr o) = o

row_right : (datas : List Data) (rows : List Row) → ((d : ℕ) → IsRight datas d (slice_get rows d)) → (d : ℕ) (it : Data) → slice_get datas d ≡ Some it → SettledAll rows (all_fields it.cons) → (r : Row) → IsRowOf rows it r → IsRight datas d (Some r)
row_right datas rows h d it known settled Unknown is = absurd is
row_right datas rows h d it known settled Open is = absurd is
row_right datas rows h d it known settled Never is = never_right datas rows h d it known settled is
row_right datas rows h d it known settled (Asks v) is = asks_right datas rows h d it known settled is.0 v.items is.1

pub finished : (datas : List Data) (order : HasNoCycle datas) (rows : List Row) (top : ℕ) (s : List ℕ) (it : Data) (r : Row) → slice_get datas top ≡ Some it → Working datas order.place rows (top ∷ s) → None ≡ unknown_among rows (all_fields it.cons) → IsRowOf rows it r → Working datas order.place (set rows top r) s
finished datas order rows top s it r known h e is =
    let l = subst (λ n. top < n) (sym h.table.same_length) h.below.0 in
    let settled = settled_among rows (all_fields it.cons) (λ d m o. not_before order.place top d s h.chain.0 (h.open_on d o) (order.earlier top d (subst (λ n. d < n) h.table.same_length (open_within rows d o)) (it, known, m))) (sym e) in
    record {
      table = table_set datas rows top r l (row_right datas rows h.table.right top it known settled r is) h.table;
      chain = h.chain.1;
      below = h.below.1;
      open_on = rows_set (λ d o. IsOpen o → On d s) rows top r l (λ o. absurd (known_not_open r (row_known rows it r is) o)) (λ d ne o. off_top top d s ne (h.open_on d o));
    }

none_open_of : (o : Option Row) → (IsOpen o → ⊥) → IsNotOpen o
none_open_of None h = tt
none_open_of (Some Unknown) h = tt
none_open_of (Some Open) h = h tt
none_open_of (Some Never) h = tt
none_open_of (Some (Asks v)) h = tt

pub ended : (datas : List Data) (place : ℕ → ℕ) (rows : List Row) → Working datas place rows [] → IsWholeTable datas rows
ended datas place rows h = record { table = h.table; none_open = λ d. none_open_of (slice_get rows d) (h.open_on d) }

pub whole_settled : (datas : List Data) (rows : List Row) (t : TypeTree) → IsWholeTable datas rows → unknown_in rows t ≡ None → Settled rows t
whole_settled datas rows t h e = settled_none rows t (λ d m o. not_both (slice_get rows d) (h.none_open d) o) e

pub popped : (old new : List ℕ) (x : ℕ) → old ≡ new ++ x ∷ [] → reverse old ≡ x ∷ reverse new
popped old new x e = ap reverse e ∙ reverse-append new (x ∷ [])

no_data : (datas : List Data) (d : ℕ) → length datas ≤ d → slice_get datas d ≡ None
no_data [] d l = refl
no_data (x ∷ datas) zero l = absurd (omega arith)
no_data (x ∷ datas) (suc d) l = no_data datas d (omega arith)

not_known : (datas : List Data) (d : ℕ) → slice_get datas d ≡ None → (ts : TypeTrees) → Representable datas (data_of d ts) → ⊥
not_known datas d e ts (representable_data f l all) = absurd (cc)

start_rows : (P : Option Row → Type 0) (n d : ℕ) → (n ≤ d → P None) → P (Some Unknown) → P (slice_get (replicate n Unknown) d)
start_rows P zero d h k = h (omega arith)
start_rows P (suc n) zero h k = k
start_rows P (suc n) (suc d) h k = start_rows P n d (λ l. h (omega arith)) k

pub start_table : (datas : List Data) (n : ℕ) → n ≡ length datas → IsWholeTable datas (replicate n Unknown)
start_table datas n e =
    record {
      table = record {
        same_length = length-replicate n Unknown ∙ e;
        right = λ d. start_rows (IsRight datas d) n d (λ l. not_known datas d (no_data datas d (subst (λ m. m ≤ d) e l))) tt;
      };
      none_open = λ d. start_rows IsNotOpen n d (λ l. tt) tt;
    }

data_there : (datas : List Data) (d : ℕ) → d < length datas → (it : Data) × (slice_get datas d ≡ Some it)
data_there [] d l = absurd (omega arith)
data_there (x ∷ datas) zero l = (x, refl)
data_there (x ∷ datas) (suc d) l = data_there datas d (omega arith)

pub first_below : (datas : List Data) (rows : List Row) (first : ℕ) → IsWholeTable datas rows → is_unknown rows first ≡ true → first < length rows
first_below datas rows first h e = unknown_within rows first e

pub began : (datas : List Data) (order : HasNoCycle datas) (rows rows' : List Row) (first : ℕ) (stack : List ℕ) → IsWholeTable datas rows → is_unknown rows first ≡ true → rows' ≡ set rows first Open → stack ≡ first ∷ [] → Working datas order.place rows' (reverse stack)
began datas order rows rows' first stack h e is on =
    subst (λ r. Working datas order.place r (reverse stack)) (sym is) (subst (λ s. Working datas order.place (set rows first Open) (reverse s)) (sym on) (started datas order rows first h e))

at_top : (datas : List Data) (place : ℕ → ℕ) (rows : List Row) (old new : List ℕ) (top : ℕ) → old ≡ new ++ top ∷ [] → Working datas place rows (reverse old) → Working datas place rows (top ∷ reverse new)
at_top datas place rows old new top e h = subst (Working datas place rows) (popped old new top e) h

pub top_below : (datas : List Data) (place : ℕ → ℕ) (rows : List Row) (old new : List ℕ) (top : ℕ) → old ≡ new ++ top ∷ [] → Working datas place rows (reverse old) → top < length datas
top_below datas place rows old new top e h = (at_top datas place rows old new top e h).below.0

pub top_has_row : (datas : List Data) (place : ℕ → ℕ) (rows : List Row) (old new : List ℕ) (top : ℕ) → old ≡ new ++ top ∷ [] → Working datas place rows (reverse old) → top < length rows
top_has_row datas place rows old new top e h = subst (λ n. top < n) (sym h.table.same_length) (top_below datas place rows old new top e h)

pub next_unknown : (datas : List Data) (rows : List Row) (top next : ℕ) → top < length datas → ((it : Data) → slice_get datas top ≡ Some it → Some next ≡ unknown_among rows (all_fields it.cons)) → is_unknown rows next ≡ true
next_unknown datas rows top next l f = let w = data_there datas top l in (found_among rows (all_fields w.0.cons) next (sym (f w.0 w.1))).1

pub next_below : (datas : List Data) (rows : List Row) (top next : ℕ) → top < length datas → ((it : Data) → slice_get datas top ≡ Some it → Some next ≡ unknown_among rows (all_fields it.cons)) → next < length rows
next_below datas rows top next l f = unknown_within rows next (next_unknown datas rows top next l f)

pub went_on : (datas : List Data) (order : HasNoCycle datas) (rows rows' : List Row) (old new pushed : List ℕ) (top next : ℕ) → old ≡ new ++ top ∷ [] → Working datas order.place rows (reverse old) → ((it : Data) → slice_get datas top ≡ Some it → Some next ≡ unknown_among rows (all_fields it.cons)) → pushed ≡ new ++ top ∷ next ∷ [] → rows' ≡ set rows next Open → Working datas order.place rows' (reverse pushed)
went_on datas order rows rows' old new pushed top next e h f on is =
    let w = data_there datas top (top_below datas order.place rows old new top e h) in
    let more = opened datas order rows top next (reverse new) w.0 w.1 (at_top datas order.place rows old new top e h) (f w.0 w.1) in
    subst (λ r. Working datas order.place r (reverse pushed)) (sym is) (subst (Working datas order.place (set rows next Open)) (sym (ap reverse on ∙ reverse-append new (top ∷ next ∷ []))) more)

pub went_back : (datas : List Data) (order : HasNoCycle datas) (rows rows' : List Row) (old new : List ℕ) (top : ℕ) (r : Row) → old ≡ new ++ top ∷ [] → Working datas order.place rows (reverse old) → ((it : Data) → slice_get datas top ≡ Some it → None ≡ unknown_among rows (all_fields it.cons)) → ((it : Data) → slice_get datas top ≡ Some it → IsRowOf rows it r) → rows' ≡ set rows top r → Working datas order.place rows' (reverse new)
went_back datas order rows rows' old new top r e h f g is =
    let w = data_there datas top (top_below datas order.place rows old new top e h) in
    subst (λ r. Working datas order.place r (reverse new)) (sym is) (finished datas order rows top (reverse new) w.0 r w.1 (at_top datas order.place rows old new top e h) (f w.0 w.1) (g w.0 w.1))

pub fewer_unknown : (datas : List Data) (rows : List Row) (top : ℕ) (r : Row) → top < length datas → ((it : Data) → slice_get datas top ≡ Some it → IsRowOf rows it r) → unknown_rows (set rows top r) ≤ unknown_rows rows
fewer_unknown datas rows top r l g = let w = data_there datas top l in known_count rows top r (row_known rows w.0 r (g w.0 w.1))

pub found_unknown : (rows : List Row) (t : TypeTree) (d : ℕ) → unknown_in rows t ≡ Some d → is_unknown rows d ≡ true
found_unknown rows t d e = (found_mentioned rows t d e).1
