-- Names of which none stands twice.
use Rattle.std.proofs.Common.{◌≡◌, ℕ, ◌+◌, Bool, true, false, cond, List, [], ◌∷◌, ◌++◌, Option, Some, None, refl, sym, ap, ◌∙◌}
use Rattle.std.specs.Option.{is_some, option_map}
use Rattle.std.specs.Str.{bytes_eq}
use Rattle.std.proofs.lemmas.Bool.{false≢true}
use Rattle.std.proofs.lemmas.Slice.Eq.{bytes_eq-Decides}
use Rattle.name_tables.specs.Names.{AreDistinct, is_among, place_of}

pub same_some : (o : Option ℕ) → is_some (option_map (λ (place : ℕ). place + 1) o) ≡ is_some o
same_some None = refl
same_some (Some k) = refl

unequal : (b : Bool) → (b ≡ true → ⊥) → b ≡ false
unequal true never = absurd (never refl)
unequal false never = refl

-- the test of one more name
step_among : (b : Bool) (o : Option ℕ) → is_some (cond b (Some 0) (option_map (λ (place : ℕ). place + 1) o)) ≡ cond b true (is_some o)
step_among true o = refl
step_among false o = same_some o

neither : (b c : Bool) → cond b true c ≡ false → (b ≡ false) × (c ≡ false)
neither true c none = absurd (false≢true (sym none))
neither false c none = (refl, none)

-- names with one more, of which none is this
none_more : (ys : List (List ℕ)) (x y : List ℕ) → is_among ys y ≡ false → bytes_eq y x ≡ false → is_among (ys ++ x ∷ []) y ≡ false
none_more [] x y none other = step_among (bytes_eq y x) None ∙ ap (λ b. cond b true false) other
none_more (z ∷ zs) x y none other =
    let both = neither (bytes_eq y z) (is_among zs y) (sym (step_among (bytes_eq y z) (place_of zs y)) ∙ none) in
    step_among (bytes_eq y z) (place_of (zs ++ x ∷ []) y) ∙ ap (λ b. cond b true (is_among (zs ++ x ∷ []) y)) both.0 ∙ none_more zs x y both.1 other

-- one more name that isn't among them
pub distinct_push : (xs : List (List ℕ)) (x : List ℕ) → AreDistinct xs → is_among xs x ≡ false → AreDistinct (xs ++ x ∷ [])
distinct_push [] x distinct none = (refl, tt)
distinct_push (y ∷ ys) x distinct none =
    let both = neither (bytes_eq x y) (is_among ys x) (sym (step_among (bytes_eq x y) (place_of ys x)) ∙ none) in
    let other : bytes_eq y x ≡ false =
    unequal (bytes_eq y x) (λ same. false≢true (sym both.0 ∙ (bytes_eq-Decides x y).1 (sym ((bytes_eq-Decides y x).0 same)))) in
    (none_more ys x y distinct.0 other, distinct_push ys x distinct.1 both.1)
