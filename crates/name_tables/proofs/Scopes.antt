-- How the tables of a scope follow its binders.
use Rattle.std.proofs.Common.{◌≡◌, ℕ, ◌+◌, ◌-◌, ◌<◌, ◌^◌, Bool, true, false, cond, List, [], ◌∷◌, ◌++◌, length, reverse, Option, Some, None, Bor, refl, sym, ap, ◌∙◌, subst, length-append, arith}
use Rattle.std.specs.Option.{option_map, option_flatten}
use Rattle.std.specs.Str.{bytes_eq}
use Rattle.std.proofs.lemmas.List.{reverse-append, length-map, length-reverse}
use Rattle.std.proofs.lemmas.Option.{none-some, same_Some}
use Rattle.std.proofs.lemmas.Slice.Eq.{bytes_eq-Decides}
use Rattle.name_tables.specs.Binders.{names_of, level_of, KnowHidden, names_in, level_at, IsScope}
use Rattle.name_tables.specs.Names.{place_of}
use Rattle.name_tables.specs.Places.{Table, at}
use Rattle.name_tables.specs.declared.scope.Binder.{Binder}
use Rattle.name_tables.proofs.Names.{IsWith, bytes_self, bytes_sym}

-- a level is below the count of the binders
pub level_below : (names : List (List ℕ)) (name : List ℕ) (level : ℕ) → level_of names name ≡ Some level → level < length names
level_below [] name level e = absurd (none-some level e)
level_below (n ∷ names) name level e = by (bytes_eq name n) (level_below names name level) e
  where
    by : (b : Bool) → (level_of names name ≡ Some level → level < length names) → cond b (Some (length names)) (level_of names name) ≡ Some level
        → level < length (n ∷ names)
    by true rest h = let same : length names ≡ level = same_Some (length names) level h in omega arith
    by false rest h = let below : level < length names = rest h in omega arith

-- as many binders are inside of the innermost binder of a name as its level leaves
pub place_by_level : (names : List (List ℕ)) (name : List ℕ) → place_of names name ≡ option_map (λ (level : ℕ). length names - 1 - level) (level_of names name)
place_by_level [] name = refl
place_by_level (n ∷ names) name = by (bytes_eq name n) (level_of names name) refl (place_by_level names name)
  where
    by : (b : Bool) (o : Option ℕ) → level_of names name ≡ o → place_of names name ≡ option_map (λ (level : ℕ). length names - 1 - level) (level_of names name)
        → cond b (Some 0) (option_map (λ (p : ℕ). p + 1) (place_of names name))
        ≡ option_map (λ (level : ℕ). length (n ∷ names) - 1 - level) (cond b (Some (length names)) (level_of names name))
    by true o is e = let h : 0 ≡ length (n ∷ names) - 1 - length names = omega arith in ap (λ p. Some p) h
    by false None is e = rw (e, is) refl
    by false (Some level) is e =
        let below : level < length names = level_below names name level is in
        let h : length names - 1 - level + 1 ≡ length (n ∷ names) - 1 - level = omega arith in
        rw (e, is) (ap (λ p. Some p) h)

-- a binder more, inside of all others
pub one_inside : (binders : List Binder) (b : Binder) → reverse (binders ++ b ∷ []) ≡ b ∷ reverse binders
one_inside binders b = reverse-append binders (b ∷ [])

pub names_inside : (binders : List Binder) (b : Binder) → names_in (binders ++ b ∷ []) ≡ b.name.now ∷ names_in binders
names_inside binders b = ap names_of (one_inside binders b)

pub count_of_names : (binders : List Binder) → length (names_in binders) ≡ length binders
count_of_names binders = length-map (reverse binders) _ ∙ length-reverse binders

flatten_choice : (b : Bool) (x : Option ℕ) (o : Option (Option ℕ)) → option_flatten (cond b (Some x) o) ≡ cond b x (option_flatten o)
flatten_choice true x o = refl
flatten_choice false x o = refl

changed : (old new : Table (Option ℕ)) (name : List ℕ) (level : Option ℕ) → IsWith old new name level → (other : List ℕ)
    → level_at new other ≡ cond (bytes_eq other name) level (level_at old other)
changed old new name level with_it other =
    ap option_flatten (with_it other) ∙ flatten_choice (bytes_eq name other) level _
    ∙ ap (λ b. cond b level (level_at old other)) (bytes_sym name other)

-- a binder opens
pub opened : (old new : Table (Option ℕ)) (binders : List Binder) (b : Binder) → IsScope old binders → length binders + 1 < 2 ^ 32
    → b.hidden ≡ level_at old b.name.now → IsWith old new b.name.now (Some (length binders)) → IsScope new (binders ++ b ∷ [])
opened old new binders b scope few hides with_it = record {
  levels = λ name. changed old new b.name.now (Some (length binders)) with_it name
      ∙ ap (λ o. cond (bytes_eq name b.name.now) (Some (length binders)) o) (scope.levels name)
      ∙ ap (λ n. cond (bytes_eq name b.name.now) (Some n) (level_of (names_in binders) name)) (sym (count_of_names binders))
      ∙ ap (λ names. level_of names name) (sym (names_inside binders b));
  hidden = subst KnowHidden (sym (one_inside binders b)) (hides ∙ scope.levels b.name.now, scope.hidden);
  few = rw length-append (omega arith);
}

restored : (same : Bool) (at : List ℕ) (name : List ℕ) (names : List (List ℕ)) (hidden : Option ℕ) → bytes_eq name at ≡ same → hidden ≡ level_of names at
    → cond same hidden (cond same (Some (length names)) (level_of names name)) ≡ level_of names name
restored true at name names hidden same is = is ∙ ap (level_of names) (sym ((bytes_eq-Decides name at).0 same))
restored false at name names hidden same is = refl

-- the innermost binder closes
pub closed : (old new : Table (Option ℕ)) (binders rest : List Binder) (b : Binder) → IsScope old binders → binders ≡ rest ++ b ∷ []
    → IsWith old new b.name.now b.hidden → IsScope new rest
closed old new binders rest b scope are with_it =
    let inside : reverse binders ≡ b ∷ reverse rest = ap reverse are ∙ one_inside rest b in
    let known : KnowHidden (b ∷ reverse rest) = subst KnowHidden inside scope.hidden in
    let count : length binders ≡ length rest + 1 = ap length are ∙ length-append rest (b ∷ []) in
    record {
      levels = λ name. changed old new b.name.now b.hidden with_it name
          ∙ ap (λ o. cond (bytes_eq name b.name.now) b.hidden o) (scope.levels name ∙ ap (λ bs. level_of (names_of bs) name) inside)
          ∙ restored (bytes_eq name b.name.now) b.name.now name (names_in rest) b.hidden refl known.0;
      hidden = known.1;
      few = let few = scope.few in omega arith;
    }

-- the innermost binder's name is in the table
pub innermost_known : (table : Table (Option ℕ)) (binders rest : List Binder) (b : Binder) → IsScope table binders → binders ≡ rest ++ b ∷ []
    → at table b.name.now ≡ None → ⊥
innermost_known table binders rest b scope are none =
    let here : level_of (b.name.now ∷ names_in rest) b.name.now ≡ Some (length (names_in rest)) =
    ap (λ same. cond same (Some (length (names_in rest))) (level_of (names_in rest) b.name.now)) (bytes_self b.name.now) in
    let inside : reverse binders ≡ b ∷ reverse rest = ap reverse are ∙ one_inside rest b in
    none-some _ (sym (ap option_flatten none) ∙ scope.levels b.name.now ∙ ap (λ bs. level_of (names_of bs) b.name.now) inside ∙ here)

-- what the table finds for a name is its level
pub found : (table : Table (Option ℕ)) (binders : List Binder) (names : List (List ℕ)) (name : Bor (List ℕ)) (entry : Option (Option ℕ)) → IsScope table binders
    → names_in binders ≡ names → entry ≡ at table name.now → option_flatten entry ≡ level_of names name.now
found table binders names name entry scope are is = ap option_flatten is ∙ scope.levels name.now ∙ ap (λ ns. level_of ns name.now) are

-- the place of a name of this level, or of none
pub placed : (names : List (List ℕ)) (name : List ℕ) (level : Option ℕ) → level ≡ level_of names name
    → option_map (λ (l : ℕ). length names - 1 - l) level ≡ place_of names name
placed names name level is = ap (λ (o : Option ℕ). option_map (λ (l : ℕ). length names - 1 - l) o) is ∙ sym (place_by_level names name)
