-- Names in tables.
use Rattle.std.proofs.Common.{◌≡◌, ℕ, ◌+◌, ◌<◌, Bool, true, false, cond, not, ◌||◌, List, [], ◌∷◌, ◌++◌, length, map, take, drop, get_or, Option, Some, None, refl, sym, ap, ◌∙◌, subst, append_assoc, arith}
use Rattle.std.specs.Prelude.{IsTrue}
use Rattle.std.specs.Borrow.{Bor}
use Rattle.std.specs.List.{AllByRecursion, flat_map}
use Rattle.std.specs.Option.{is_some, option_map}
use Rattle.std.specs.Str.{bytes_eq}
use Rattle.std.proofs.lemmas.Bool.{false≢true}
use Rattle.std.proofs.lemmas.List.{map_more}
use Rattle.std.proofs.lemmas.Slice.Eq.{bytes_eq-Decides}
use Rattle.name_tables.specs.Names.{AreDistinct, is_among, place_of, with_name}
use Rattle.stimulus.specs.Texts.{texts}
use Rattle.blif_text.specs.BlifText.{Said}
use Rattle.blif_read.specs.Naming.{HasAlso, HasSame}
use Rattle.blif_read.specs.Shown.{all_said, said_of}
use Rattle.blif_read.specs.declared.statement.Said.{Said as ReadSaid}
use Rattle.blif_read.proofs.Lists.{around, flat_more}

same_tests : (p q : Bool) → (p ≡ true → q ≡ true) → (q ≡ true → p ≡ true) → p ≡ q
same_tests true q f g = sym (f refl)
same_tests false true f g = g refl
same_tests false false f g = refl

bytes_sym : (a b : List ℕ) → bytes_eq a b ≡ bytes_eq b a
bytes_sym a b =
    same_tests (bytes_eq a b) (bytes_eq b a) (λ h. (bytes_eq-Decides b a).1 (sym ((bytes_eq-Decides a b).0 h)))
    (λ h. (bytes_eq-Decides a b).1 (sym ((bytes_eq-Decides b a).0 h)))

among_cons : (x : List ℕ) (xs : List (List ℕ)) (n : List ℕ) → is_among (x ∷ xs) n ≡ (bytes_eq n x || is_among xs n)
among_cons x xs n = at (bytes_eq n x) (place_of xs n)
  where
    at : (b : Bool) (o : Option ℕ) → is_some (cond b (Some 0) (option_map (λ (p : ℕ). p + 1) o)) ≡ (b || is_some o)
    at true o = refl
    at false None = refl
    at false (Some p) = refl

or_assoc : (a b c : Bool) → (a || (b || c)) ≡ ((a || b) || c)
or_assoc true b c = refl
or_assoc false b c = refl

or_false : (a : Bool) → (a || false) ≡ a
or_false true = refl
or_false false = refl

or_true : (a : Bool) → (a || true) ≡ true
or_true true = refl
or_true false = refl

neither : (a b : Bool) → (a || b) ≡ false → (a ≡ false) × (b ≡ false)
neither true b e = absurd (false≢true (sym e))
neither false b e = (refl, e)

pub among_append : (xs ys : List (List ℕ)) (n : List ℕ) → is_among (xs ++ ys) n ≡ (is_among xs n || is_among ys n)
among_append [] ys n = refl
among_append (x ∷ xs) ys n =
    among_cons x (xs ++ ys) n ∙ ap (λ b. bytes_eq n x || b) (among_append xs ys n) ∙ or_assoc (bytes_eq n x) (is_among xs n) (is_among ys n)
    ∙ ap (λ b. b || is_among ys n) (sym (among_cons x xs n))

among_self : (x n : List ℕ) → is_among (x ∷ []) n ≡ bytes_eq n x
among_self x n = among_cons x [] n ∙ or_false (bytes_eq n x)

-- what is among the names with one more
with_among : (xs : List (List ℕ)) (x n : List ℕ) → is_among (with_name xs x) n ≡ (is_among xs n || is_among (x ∷ []) n)
with_among xs x n = by (is_among xs x) refl
  where
    there : (c : Bool) → bytes_eq n x ≡ c → is_among xs x ≡ true → is_among xs n ≡ (is_among xs n || is_among (x ∷ []) n)
    there true same h =
        let all : is_among xs n ≡ true = ap (is_among xs) ((bytes_eq-Decides n x).0 same) ∙ h in
        all ∙ sym (ap (λ b. b || is_among (x ∷ []) n) all)
    there false other h = sym (ap (λ b. is_among xs n || b) (among_self x n ∙ other) ∙ or_false (is_among xs n))

    by : (b : Bool) → is_among xs x ≡ b → is_among (cond b xs (xs ++ x ∷ [])) n ≡ (is_among xs n || is_among (x ∷ []) n)
    by false h = among_append xs (x ∷ []) n
    by true h = there (bytes_eq n x) refl h

-- a table, and names that are added
pub also_none : (table : List (List ℕ)) → HasAlso table [] table
also_none table = record { either = λ n. sym (or_false (is_among table n)) }

also_more : (old more table new : List (List ℕ)) (name : List ℕ) → HasAlso old more table → new ≡ with_name table name → HasAlso old (more ++ name ∷ []) new
also_more old more table new name also is = record {
  either = λ n.
      ap (λ (t : List (List ℕ)). is_among t n) is ∙ with_among table name n ∙ ap (λ b. b || is_among (name ∷ []) n) (also.either n)
      ∙ sym (or_assoc (is_among old n) (is_among more n) (is_among (name ∷ []) n))
      ∙ ap (λ b. is_among old n || b) (sym (among_append more (name ∷ []) n));
}

pub also_next : (old table new : List (List ℕ)) (names : List (Bor (List ℕ))) (i : ℕ) (d : Bor (List ℕ)) (name : List ℕ) → i < length names
    → name ≡ (get_or names i d).now → HasAlso old (texts (take i names)) table → new ≡ with_name table name → HasAlso old (texts (take (i + 1) names)) new
also_next old table new names i d name within is also new_is =
    subst (λ (more : List (List ℕ)). HasAlso old more new)
    (ap (λ (x : List ℕ). texts (take i names) ++ x ∷ []) is ∙ sym (map_more (λ (t : Bor (List ℕ)). t.now) names i d within))
    (also_more old (texts (take i names)) table new name also new_is)

pub same_none : (table : List (List ℕ)) → table ≡ [] → HasSame [] table
same_none table none = record { same = λ n. ap (λ (t : List (List ℕ)). is_among t n) none }

same_more : (names more table new : List (List ℕ)) → HasSame names table → HasAlso table more new → HasSame (names ++ more) new
same_more names more table new same also = record {
  same = λ n. also.either n ∙ ap (λ b. b || is_among more n) (same.same n) ∙ sym (among_append names more n);
}

-- the names of one statement more
pub noted : (f : Said → List (List ℕ)) (all : List ReadSaid) (i : ℕ) (it d : ReadSaid) (table new more : List (List ℕ)) → i < length all → it ≡ get_or all i d
    → HasSame (flat_map f (all_said (take i all))) table → HasAlso table more new → more ≡ f (said_of it)
    → HasSame (flat_map f (all_said (take (i + 1) all))) new
noted f all i it d table new more within is same also more_is =
    subst (λ (names : List (List ℕ)). HasSame names new)
    (ap (λ (m : List (List ℕ)). flat_map f (all_said (take i all)) ++ m) more_is ∙ sym (flat_more f all i it d within is))
    (same_more (flat_map f (all_said (take i all))) more table new same also)

-- one more name that isn't among them
distinct_push : (xs : List (List ℕ)) (x : List ℕ) → AreDistinct xs → is_among xs x ≡ false → AreDistinct (xs ++ x ∷ [])
distinct_push [] x distinct none = (refl, tt)
distinct_push (y ∷ ys) x distinct none =
    let both = neither (bytes_eq x y) (is_among ys x) (sym (among_cons y ys x) ∙ none) in
    let other : is_among (x ∷ []) y ≡ false = among_self x y ∙ bytes_sym y x ∙ both.0 in (
      among_append ys (x ∷ []) y ∙ ap (λ b. b || is_among (x ∷ []) y) distinct.0 ∙ other,
      distinct_push ys x distinct.1 both.1,
    )

-- a name that stands again behind itself
distinct_again : (xs : List (List ℕ)) (x : List ℕ) (ys : List (List ℕ)) → is_among xs x ≡ true → AreDistinct (xs ++ x ∷ ys) → ⊥
distinct_again [] x ys among distinct = false≢true among
distinct_again (z ∷ zs) x ys among distinct = by (bytes_eq x z) refl (λ later. distinct_again zs x ys later distinct.1)
  where
    by : (b : Bool) → bytes_eq x z ≡ b → (is_among zs x ≡ true → ⊥) → ⊥
    by true same never =
        let here : is_among (x ∷ ys) z ≡ true = among_cons x ys z ∙ ap (λ b. b || is_among ys z) (bytes_sym z x ∙ same) in
        false≢true (sym distinct.0 ∙ among_append zs (x ∷ ys) z ∙ ap (λ b. is_among zs z || b) here ∙ or_true (is_among zs z))
    by false other never = never (sym (ap (λ b. b || is_among zs x) other) ∙ sym (among_cons z zs x) ∙ among)

not_false : (b : Bool) → b ≡ false → (c : Bool) → b ≡ not c → c ≡ true
not_false b is_false true is = refl
not_false b is_false false is = absurd (false≢true (sym is_false ∙ is))

not_true : (b : Bool) → b ≡ true → (c : Bool) → b ≡ not c → c ≡ false
not_true b is_true true is = absurd (false≢true (sym is ∙ is_true))
not_true b is_true false is = refl

-- names that are declared behind old ones, each of which is new
pub record AreDeclared (old : List (List ℕ)) (names : List (List ℕ)) (table : List (List ℕ)) : Type 0 where
  pub names_are : table ≡ old ++ names
  pub distinct : AreDistinct table

pub declared_none : (old : List (List ℕ)) → AreDistinct old → (table : List (List ℕ)) → table ≡ old ++ [] → AreDeclared old [] table
declared_none old distinct table is = record { names_are = is; distinct = subst AreDistinct (sym (is ∙ append_nil old)) distinct }
  where
    append_nil : (xs : List (List ℕ)) → xs ++ [] ≡ xs
    append_nil [] = refl
    append_nil (x ∷ xs) = ap (λ (t : List (List ℕ)). x ∷ t) (append_nil xs)

pub declared_next : (old table new : List (List ℕ)) (names : List (Bor (List ℕ))) (i : ℕ) (d : Bor (List ℕ)) (name : List ℕ) (is_new : Bool) → i < length names
    → name ≡ (get_or names i d).now → AreDeclared old (texts (take i names)) table → is_new ≡ not (is_among table name) → is_new ≡ true
    → new ≡ with_name table name → AreDeclared old (texts (take (i + 1) names)) new
declared_next old table new names i d name is_new within is so_far answer is_true new_is =
    let among : is_among table name ≡ false = not_true is_new is_true (is_among table name) answer in
    let pushed : new ≡ table ++ name ∷ [] = new_is ∙ ap (λ b. cond b table (table ++ name ∷ [])) among in
    record {
      names_are = pushed ∙ ap (λ (t : List (List ℕ)). t ++ name ∷ []) so_far.names_are ∙ append_assoc old (texts (take i names)) (name ∷ [])
          ∙ ap (λ (x : List ℕ). old ++ (texts (take i names) ++ x ∷ [])) is ∙ ap (λ (t : List (List ℕ)). old ++ t) (sym (map_more (λ (t : Bor (List ℕ)). t.now) names i d within));
      distinct = subst AreDistinct (sym pushed) (distinct_push table name so_far.distinct among);
    }

-- a name that is there already
pub declared_again : (old table : List (List ℕ)) (names : List (Bor (List ℕ))) (i : ℕ) (d : Bor (List ℕ)) (name : List ℕ) (is_new : Bool) → i < length names
    → name ≡ (get_or names i d).now → AreDeclared old (texts (take i names)) table → is_new ≡ not (is_among table name) → is_new ≡ false
    → AreDistinct (old ++ texts names) → ⊥
declared_again old table names i d name is_new within is so_far answer is_false distinct =
    let among : is_among table name ≡ true = not_false is_new is_false (is_among table name) answer in
    let rest = texts (drop (i + 1) names) in
    let all : old ++ texts names ≡ table ++ name ∷ rest =
    ap (λ (t : List (List ℕ)). old ++ t) (around (λ (t : Bor (List ℕ)). t.now) names i (get_or names i d) d within refl)
    ∙ sym (append_assoc old (texts (take i names)) ((get_or names i d).now ∷ rest)) ∙ ap (λ (t : List (List ℕ)). t ++ (get_or names i d).now ∷ rest) (sym so_far.names_are)
    ∙ ap (λ (x : List ℕ). table ++ x ∷ rest) (sym is) in
    distinct_again table name rest among (subst AreDistinct all distinct)
