-- Codes that are declared one after the other.
use Rattle.std.proofs.Common.{◌≡◌, ℕ, ◌+◌, ◌<◌, Bool, true, false, not, ◌||◌, List, [], ◌∷◌, ◌++◌, length, get_or, take, drop, map, Option, Some, None, refl, sym, ap, ◌∙◌, subst}
use Rattle.std.specs.Prelude.{cond}
use Rattle.std.specs.List.{list_any}
use Rattle.std.specs.Option.{is_some, option_map}
use Rattle.std.specs.Str.{bytes_eq}
use Rattle.std.proofs.lemmas.Bool.{false≢true}
use Rattle.std.proofs.lemmas.List.{map-append}
use Rattle.std.proofs.lemmas.List.Folds.{list_any-append}
use Rattle.std.proofs.lemmas.Slice.Eq.{bytes_eq-Decides}
use Rattle.name_tables.specs.Names.{place_of, is_among, with_name, AreDistinct}
use Rattle.wave_text.specs.Faults.{IsTwiceAt}
use Rattle.wave_text.specs.VcdText.{Declared as Variable, codes_of}
use Rattle.wave_read.specs.Shown.{variable_of}
use Rattle.wave_read.specs.declared.source.Declared.{Declared}
use Rattle.wave_read.proofs.Searching.{around, mapped_more}

either : (b : Bool) (o : Option ℕ) (a : Bool) → a ≡ is_some o → (b || a) ≡ is_some (cond b (Some 0) (option_map (λ (p : ℕ). p + 1) o))
either true o a e = refl
either false None a e = e
either false (Some p) a e = e

any_is : (name : List ℕ) (ns : List (List ℕ)) → list_any (bytes_eq name) ns ≡ is_among ns name
any_is name [] = refl
any_is name (n ∷ ns) = either (bytes_eq name n) (place_of ns name) (list_any (bytes_eq name) ns) (any_is name ns)

same_tests : (p q : Bool) → (p ≡ true → q ≡ true) → (q ≡ true → p ≡ true) → p ≡ q
same_tests true q f g = sym (f refl)
same_tests false true f g = g refl
same_tests false false f g = refl

bytes_sym : (a b : List ℕ) → bytes_eq a b ≡ bytes_eq b a
bytes_sym a b =
    same_tests (bytes_eq a b) (bytes_eq b a) (λ h. (bytes_eq-Decides b a).1 (sym ((bytes_eq-Decides a b).0 h)))
    (λ h. (bytes_eq-Decides a b).1 (sym ((bytes_eq-Decides b a).0 h)))

neither : (a b : Bool) → (a || b) ≡ false → (a ≡ false) × (b ≡ false)
neither true b e = absurd (false≢true (sym e))
neither false b e = (refl, e)

-- one more name, that isn't among them
distinct_push : (xs : List (List ℕ)) (x : List ℕ) → AreDistinct xs → list_any (bytes_eq x) xs ≡ false → AreDistinct (xs ++ x ∷ [])
distinct_push [] x d e = (refl, tt)
distinct_push (y ∷ ys) x d e =
    let n = neither (bytes_eq x y) (list_any (bytes_eq x) ys) e in
    let apart : bytes_eq y x ≡ false = bytes_sym y x ∙ n.0 in
    let before_it : list_any (bytes_eq y) ys ≡ false = any_is y ys ∙ d.0 in
    let none : list_any (bytes_eq y) (ys ++ x ∷ []) ≡ false = list_any-append (bytes_eq y) ys (x ∷ []) ∙ rw (before_it, apart) refl in
    (sym (any_is y (ys ++ x ∷ [])) ∙ none, distinct_push ys x d.1 n.1)

not_false : (b : Bool) → false ≡ not b → b ≡ true
not_false true e = refl
not_false false e = absurd (false≢true e)

not_true : (b : Bool) → true ≡ not b → b ≡ false
not_true false e = refl
not_true true e = absurd (false≢true (sym e))

codes_more : (ds : List Declared) (i : ℕ) (it d : Declared) → i < length ds → it ≡ get_or ds i d
    → codes_of (map variable_of (take (i + 1) ds)) ≡ codes_of (map variable_of (take i ds)) ++ it.code.now ∷ []
codes_more ds i it d within is =
    ap codes_of (mapped_more variable_of ds i it d within is) ∙ map-append (λ (v : Variable). v.code) (map variable_of (take i ds)) (variable_of it ∷ [])

-- a code that wasn't declared before
pub codes_declared : (ds : List Declared) (i : ℕ) (it d : Declared) (codes after : List (List ℕ)) (is_new : Bool) → i < length ds → it ≡ get_or ds i d
    → codes ≡ codes_of (map variable_of (take i ds)) → is_new ≡ not (is_among codes it.code.now) → is_new ≡ true → after ≡ with_name codes it.code.now
    → after ≡ codes_of (map variable_of (take (i + 1) ds))
codes_declared ds i it d codes after is_new within is so_far answer new after_is =
    let among : is_among codes it.code.now ≡ false = not_true (is_among codes it.code.now) (sym new ∙ answer) in
    after_is ∙ ap (λ (b : Bool). cond b codes (codes ++ it.code.now ∷ [])) among ∙ ap (λ (cs : List (List ℕ)). cs ++ it.code.now ∷ []) so_far
    ∙ sym (codes_more ds i it d within is)

pub codes_distinct : (codes after : List (List ℕ)) (code : List ℕ) (is_new : Bool) → AreDistinct codes → is_new ≡ not (is_among codes code) → is_new ≡ true → after ≡ with_name codes code
    → AreDistinct after
codes_distinct codes after code is_new distinct answer new after_is =
    let among : is_among codes code ≡ false = not_true (is_among codes code) (sym new ∙ answer) in
    let pushed : after ≡ codes ++ code ∷ [] = after_is ∙ ap (λ (b : Bool). cond b codes (codes ++ code ∷ [])) among in
    subst AreDistinct (sym pushed) (distinct_push codes code distinct (any_is code codes ∙ among))

-- a code that was
pub code_again : (ds : List Declared) (i : ℕ) (it d : Declared) (codes : List (List ℕ)) (is_new : Bool) → i < length ds → it ≡ get_or ds i d
    → codes ≡ codes_of (map variable_of (take i ds)) → AreDistinct codes → is_new ≡ not (is_among codes it.code.now) → is_new ≡ false → IsTwiceAt (map variable_of ds) it.at
code_again ds i it d codes is_new within is so_far distinct answer old = record {
  earlier = map variable_of (take i ds);
  again = variable_of it;
  others = map variable_of (drop (i + 1) ds);
  declared_are = around variable_of ds i it d within is;
  distinct = subst AreDistinct so_far distinct;
  there = ap (λ (cs : List (List ℕ)). is_among cs it.code.now) (sym so_far) ∙ not_false (is_among codes it.code.now) (sym old ∙ answer);
  here = refl;
}
