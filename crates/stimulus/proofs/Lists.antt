-- What holds of all texts holds of each, and names that differ.
use Rattle.std.proofs.Common.{◌≡◌, ℕ, zero, suc, ◌+◌, ◌<◌, Bool, true, false, not, ◌||◌, List, [], ◌∷◌, ◌++◌, length, get_or, take, drop, map, Option, Some, None, refl, sym, ap, ◌∙◌, subst, arith}
use Rattle.std.specs.Borrow.{Bor}
use Rattle.std.specs.Prelude.{cond}
use Rattle.std.specs.List.{AllByRecursion, list_any}
use Rattle.std.specs.Option.{is_some, option_map}
use Rattle.std.specs.Str.{bytes_eq}
use Rattle.std.proofs.lemmas.Bool.{false≢true}
use Rattle.std.proofs.lemmas.List.{take_more, map-append, take-append-drop, drop_more}
use Rattle.std.proofs.lemmas.List.Folds.{list_any-append}
use Rattle.std.proofs.lemmas.Slice.Eq.{bytes_eq-Decides}
use Rattle.name_tables.specs.Names.{place_of, is_among, with_name, AreDistinct}
use Rattle.stimulus.specs.Texts.{before, texts}

-- what holds of all texts holds of each
pub all_text_at : (P : List ℕ → Type 0) (ts : List (Bor (List ℕ))) (i : ℕ) (d : Bor (List ℕ)) → i < length ts → AllByRecursion P (texts ts) → P (get_or ts i d).now
all_text_at P [] i d within all = absurd (omega arith)
all_text_at P (t ∷ ts) zero d within all = all.0
all_text_at P (t ∷ ts) (suc i) d within all = all_text_at P ts i d (omega arith) all.1

-- the names of domains
abbrev pub names : List (Bor (List ℕ)) → List (List ℕ)
names domains = map (before 33) (texts domains)

names_append : (ds es : List (Bor (List ℕ))) → names (ds ++ es) ≡ names ds ++ names es
names_append ds es = ap (map (before 33)) (map-append (λ (t : Bor (List ℕ)). t.now) ds es) ∙ map-append (before 33) (texts ds) (texts es)

names_more : (ds : List (Bor (List ℕ))) (i : ℕ) (d : Bor (List ℕ)) → i < length ds → names (take (i + 1) ds) ≡ names (take i ds) ++ before 33 (get_or ds i d).now ∷ []
names_more ds i d within = ap names (take_more ds i d within) ∙ names_append (take i ds) (get_or ds i d ∷ [])

names_around : (ds : List (Bor (List ℕ))) (i : ℕ) (d : Bor (List ℕ)) → i < length ds → names ds ≡ names (take i ds) ++ before 33 (get_or ds i d).now ∷ names (drop (i + 1) ds)
names_around ds i d within =
    ap names (sym (take-append-drop i ds) ∙ ap (λ es. take i ds ++ es) (drop_more ds i d within)) ∙ names_append (take i ds) (get_or ds i d ∷ drop (i + 1) ds)

either : (b : Bool) (o : Option ℕ) (a : Bool) → a ≡ is_some o → (b || a) ≡ is_some (cond b (Some 0) (option_map (λ (p : ℕ). p + 1) o))
either true o a e = refl
either false None a e = e
either false (Some p) a e = e

any_is : (name : List ℕ) (ns : List (List ℕ)) → list_any (bytes_eq name) ns ≡ is_among ns name
any_is name [] = refl
any_is name (n ∷ ns) = either (bytes_eq name n) (place_of ns name) (list_any (bytes_eq name) ns) (any_is name ns)

same_tests : (p q : Bool) → (p ≡ true → q ≡ true) → (q ≡ true → p ≡ true) → p ≡ q
same_tests true q f g = sym (f refl)
same_tests false true f g = g refl
same_tests false false f g = refl

bytes_sym : (a b : List ℕ) → bytes_eq a b ≡ bytes_eq b a
bytes_sym a b =
    same_tests (bytes_eq a b) (bytes_eq b a) (λ h. (bytes_eq-Decides b a).1 (sym ((bytes_eq-Decides a b).0 h)))
    (λ h. (bytes_eq-Decides a b).1 (sym ((bytes_eq-Decides b a).0 h)))

neither : (a b : Bool) → (a || b) ≡ false → (a ≡ false) × (b ≡ false)
neither true b e = absurd (false≢true (sym e))
neither false b e = (refl, e)

or_right : (a b : Bool) → b ≡ true → (a || b) ≡ true
or_right true b e = refl
or_right false b e = e

or_left : (a b : Bool) → a ≡ true → (a || b) ≡ true
or_left true b e = refl
or_left false b e = absurd (false≢true e)

-- one more name, that isn't among them
distinct_push : (xs : List (List ℕ)) (x : List ℕ) → AreDistinct xs → list_any (bytes_eq x) xs ≡ false → AreDistinct (xs ++ x ∷ [])
distinct_push [] x d e = (refl, tt)
distinct_push (y ∷ ys) x d e =
    let n = neither (bytes_eq x y) (list_any (bytes_eq x) ys) e in
    let apart : bytes_eq y x ≡ false = bytes_sym y x ∙ n.0 in
    let before_it : list_any (bytes_eq y) ys ≡ false = any_is y ys ∙ d.0 in
    let none : list_any (bytes_eq y) (ys ++ x ∷ []) ≡ false = list_any-append (bytes_eq y) ys (x ∷ []) ∙ rw (before_it, apart) refl in
    (sym (any_is y (ys ++ x ∷ [])) ∙ none, distinct_push ys x d.1 n.1)

-- a name that stands again after others
distinct_again : (xs : List (List ℕ)) (x : List ℕ) (ys : List (List ℕ)) → list_any (bytes_eq x) xs ≡ true → AreDistinct (xs ++ x ∷ ys) → ⊥
distinct_again [] x ys e d = false≢true e
distinct_again (z ∷ zs) x ys e d = at (bytes_eq x z) refl (λ rest. distinct_again zs x ys rest d.1)
  where
    at : (b : Bool) → bytes_eq x z ≡ b → (list_any (bytes_eq x) zs ≡ true → ⊥) → ⊥
    at true h later =
        let same : bytes_eq z x ≡ true = bytes_sym z x ∙ h in
        let inner : (bytes_eq z x || list_any (bytes_eq z) ys) ≡ true = or_left (bytes_eq z x) (list_any (bytes_eq z) ys) same in
        let again : list_any (bytes_eq z) (zs ++ x ∷ ys) ≡ true = list_any-append (bytes_eq z) zs (x ∷ ys) ∙ or_right (list_any (bytes_eq z) zs) _ inner in
        false≢true (sym d.0 ∙ sym (any_is z (zs ++ x ∷ ys)) ∙ again)
    at false h later = let rest : list_any (bytes_eq x) zs ≡ true = rw h at e in later rest

not_false : (b : Bool) → false ≡ not b → b ≡ true
not_false true e = refl
not_false false e = absurd (false≢true e)

not_true : (b : Bool) → true ≡ not b → b ≡ false
not_true false e = refl
not_true true e = absurd (false≢true (sym e))

-- a name that was declared before
pub name_again : (ds : List (Bor (List ℕ))) (i : ℕ) (d : Bor (List ℕ)) (declared : List (List ℕ)) (name : List ℕ) (is_new : Bool) → i < length ds
    → declared ≡ names (take i ds) → name ≡ before 33 (get_or ds i d).now → is_new ≡ not (is_among declared name) → is_new ≡ false → AreDistinct (names ds) → ⊥
name_again ds i d declared name is_new within so_far named answer old distinct =
    let among : is_among declared name ≡ true = not_false _ (sym old ∙ answer) in
    let again : list_any (bytes_eq (before 33 (get_or ds i d).now)) (names (take i ds)) ≡ true =
    any_is (before 33 (get_or ds i d).now) (names (take i ds)) ∙ sym (ap (λ n. is_among (names (take i ds)) n) named) ∙ sym (ap (λ ns. is_among ns name) so_far) ∙ among in
    distinct_again (names (take i ds)) (before 33 (get_or ds i d).now) (names (drop (i + 1) ds)) again (subst AreDistinct (names_around ds i d within) distinct)

-- a name that wasn't
pub name_new : (ds : List (Bor (List ℕ))) (i : ℕ) (d : Bor (List ℕ)) (declared after : List (List ℕ)) (name : List ℕ) (is_new : Bool) → i < length ds
    → declared ≡ names (take i ds) → AreDistinct (names (take i ds)) → name ≡ before 33 (get_or ds i d).now → is_new ≡ not (is_among declared name) → is_new ≡ true
    → after ≡ with_name declared name → (after ≡ names (take (i + 1) ds)) × AreDistinct (names (take (i + 1) ds))
name_new ds i d declared after name is_new within so_far distinct named answer is after_is =
    let among : is_among declared name ≡ false = not_true _ (sym is ∙ answer) in
    let more = names_more ds i d within in
    let none : list_any (bytes_eq (before 33 (get_or ds i d).now)) (names (take i ds)) ≡ false =
    any_is (before 33 (get_or ds i d).now) (names (take i ds)) ∙ sym (ap (λ n. is_among (names (take i ds)) n) named) ∙ sym (ap (λ ns. is_among ns name) so_far) ∙ among in (
      after_is ∙ ap (λ b. cond b declared (declared ++ name ∷ [])) among ∙ ap (λ ns. ns ++ name ∷ []) so_far ∙ ap (λ n. names (take i ds) ++ n ∷ []) named ∙ sym more,
      subst AreDistinct (sym more) (distinct_push (names (take i ds)) (before 33 (get_or ds i d).now) distinct none),
    )
