-- The table of the first places of names.
use Rattle.std.proofs.Common.{◌≡◌, ℕ, ◌+◌, ◌≤◌, ◌^◌, Bool, true, false, cond, List, [], ◌∷◌, ◌++◌, length, Option, Some, None, Bor, refl, sym, ap, ◌∙◌, length-append, arith}
use Rattle.std.specs.Option.{is_some, option_map}
use Rattle.std.specs.Str.{bytes_eq}
use Rattle.std.proofs.lemmas.Bool.{false≢true}
use Rattle.std.proofs.lemmas.List.{length-map, map-append}
use Rattle.std.proofs.lemmas.Slice.Eq.{bytes_eq-Decides}
use Rattle.name_tables.specs.Names.{place_of, texts}
use Rattle.name_tables.specs.Places.{Table, at}
use Rattle.verilog_names.specs.Firsts.{AreFirsts}

-- the place of a name with one name more: the one that it had, or the last
abbrev pub place_more : Option ℕ → Bool → ℕ → Option ℕ
place_more (Some p) same last = Some p
place_more None same last = cond same (Some last) None

pub place_of_more : (names : List (List ℕ)) (name other : List ℕ) → place_of (names ++ name ∷ []) other ≡ place_more (place_of names other) (bytes_eq other name) (length names)
place_of_more [] name other = refl
place_of_more (n ∷ names) name other = by (bytes_eq other n) (place_of names other) (bytes_eq other name) (place_of_more names name other)
  where
    by : (b : Bool) (o : Option ℕ) (same : Bool) → place_of (names ++ name ∷ []) other ≡ place_more o same (length names)
        → cond b (Some 0) (option_map (λ (p : ℕ). p + 1) (place_of (names ++ name ∷ []) other))
        ≡ place_more (cond b (Some 0) (option_map (λ (p : ℕ). p + 1) o)) same (length (n ∷ names))
    by true o same e = refl
    by false (Some p) same e = ap (option_map (λ (p : ℕ). p + 1)) e
    by false None true e = ap (option_map (λ (p : ℕ). p + 1)) e ∙ (let h : length names + 1 ≡ length (n ∷ names) = omega arith in ap (λ n. Some n) h)
    by false None false e = ap (option_map (λ (p : ℕ). p + 1)) e

-- the table with this place for this name
abbrev pub IsWith : Table ℕ → Table ℕ → List ℕ → ℕ → Type 0
IsWith old new name place =
    (other : List ℕ) → at new other ≡ cond (bytes_eq name other) (Some place) (at old other)

bytes_apart : (a b : List ℕ) → bytes_eq a b ≡ bytes_eq b a
bytes_apart a b = by (bytes_eq a b) (bytes_eq b a) refl refl
  where
    by : (p q : Bool) → bytes_eq a b ≡ p → bytes_eq b a ≡ q → p ≡ q
    by true true e f = refl
    by false false e f = refl
    by true false e f = absurd (false≢true (sym f ∙ (bytes_eq-Decides b a).1 (sym ((bytes_eq-Decides a b).0 e))))
    by false true e f = absurd (false≢true (sym e ∙ (bytes_eq-Decides a b).1 (sym ((bytes_eq-Decides b a).0 f))))

all_texts : (names : List (Bor (List ℕ))) (name : Bor (List ℕ)) → texts (names ++ name ∷ []) ≡ texts names ++ name.now ∷ []
all_texts names name = map-append _ names (name ∷ [])

placed_more : (names : List (Bor (List ℕ))) (name : Bor (List ℕ)) (other : List ℕ)
    → place_of (texts (names ++ name ∷ [])) other ≡ place_more (place_of (texts names) other) (bytes_eq other name.now) (length names)
placed_more names name other =
    ap (λ ns. place_of ns other) (all_texts names name) ∙ place_of_more (texts names) name.now other
    ∙ ap (place_more (place_of (texts names) other) (bytes_eq other name.now)) (length-map names _)

-- a name that is new is noted with its place
pub noted : (old new : Table ℕ) (names : List (Bor (List ℕ))) (name : Bor (List ℕ)) (place : ℕ) → AreFirsts old names → length names + 1 ≤ 2 ^ 32 → place ≡ length names
    → is_some (at old name.now) ≡ false → IsWith old new name.now place → AreFirsts new (names ++ name ∷ [])
noted old new names name place firsts few is unknown with_it = record {
  firsts = λ other. with_it other
      ∙ ap (λ b. cond b (Some place) (at old other)) (bytes_apart name.now other)
      ∙ ap (λ o. cond (bytes_eq other name.now) (Some place) o) (firsts.firsts other)
      ∙ by other (bytes_eq other name.now) (place_of (texts names) other) refl refl
      ∙ sym (placed_more names name other);
  few = rw length-append (omega arith);
}
  where
    by : (other : List ℕ) (b : Bool) (o : Option ℕ) → bytes_eq other name.now ≡ b → place_of (texts names) other ≡ o
        → cond b (Some place) o ≡ place_more o b (length names)
    by other true (Some p) same at =
        let here : place_of (texts names) name.now ≡ Some p = ap (place_of (texts names)) (sym ((bytes_eq-Decides other name.now).0 same)) ∙ at in
        absurd (false≢true (sym unknown ∙ ap is_some (firsts.firsts name.now ∙ here)))
    by other true None same at = ap (λ n. Some n) is
    by other false (Some p) same at = refl
    by other false None same at = refl

-- a name that is known changes no place
pub kept : (table : Table ℕ) (names : List (Bor (List ℕ))) (name : Bor (List ℕ)) → AreFirsts table names → length names + 1 ≤ 2 ^ 32
    → is_some (at table name.now) ≡ true → AreFirsts table (names ++ name ∷ [])
kept table names name firsts few known = record {
  firsts = λ other. firsts.firsts other ∙ by other (bytes_eq other name.now) (place_of (texts names) other) refl refl ∙ sym (placed_more names name other);
  few = rw length-append (omega arith);
}
  where
    by : (other : List ℕ) (b : Bool) (o : Option ℕ) → bytes_eq other name.now ≡ b → place_of (texts names) other ≡ o → o ≡ place_more o b (length names)
    by other true (Some p) same at = refl
    by other true None same at =
        let here : place_of (texts names) name.now ≡ None = ap (place_of (texts names)) (sym ((bytes_eq-Decides other name.now).0 same)) ∙ at in
        absurd (false≢true (ap is_some (sym (firsts.firsts name.now ∙ here)) ∙ known))
    by other false (Some p) same at = refl
    by other false None same at = refl
