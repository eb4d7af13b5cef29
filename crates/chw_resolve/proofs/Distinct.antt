-- Names of which none is declared twice are distinct.
use Rattle.std.proofs.Common.{◌≡◌, ℕ, ◌+◌, Bool, true, false, cond, ◌||◌, List, [], ◌∷◌, ◌++◌, Option, Some, None, refl, sym, ap, ◌∙◌}
use Rattle.std.specs.List.{list_any}
use Rattle.std.specs.Option.{is_some, option_map}
use Rattle.std.specs.Str.{bytes_eq}
use Rattle.std.proofs.lemmas.Bool.{false≢true, false_from_ne_true, or_left, or_right}
use Rattle.std.proofs.lemmas.List.Folds.{list_any-append}
use Rattle.std.proofs.lemmas.Slice.Eq.{bytes_eq-Decides}
use Rattle.chw_grammar.specs.declared.word.Word.{Word}
use Rattle.chw_names.specs.Words.{when, names_of, seconds}
use Rattle.chw_resolve.proofs.Empty.{left_nil, right_nil, when_nil}
use Rattle.chw_resolve.proofs.Shaped.{HaveForm}
use Rattle.chw_terms.specs.Names.{AreNames}
use Rattle.name_tables.specs.Names.{place_of, is_among, with_name}

among_is : (names : List (List ℕ)) (name : List ℕ) → is_among names name ≡ list_any (bytes_eq name) names
among_is [] name = refl
among_is (n ∷ names) name = by (bytes_eq name n) (place_of names name) ∙ ap (λ b. bytes_eq name n || b) (among_is names name)
  where
    by : (b : Bool) (o : Option ℕ) → is_some (cond b (Some 0) (option_map (λ (p : ℕ). p + 1) o)) ≡ (b || is_some o)
    by true o = refl
    by false None = refl
    by false (Some p) = refl

among_last : (names : List (List ℕ)) (name : List ℕ) → is_among (names ++ name ∷ []) name ≡ true
among_last names name =
    among_is (names ++ name ∷ []) name ∙ list_any-append (bytes_eq name) names (name ∷ [])
    ∙ or_right (list_any (bytes_eq name) names) (list_any (bytes_eq name) (name ∷ [])) (or_left (bytes_eq name name) false ((bytes_eq-Decides name name).1 refl))

among_before : (names : List (List ℕ)) (new name : List ℕ) → is_among names name ≡ true → is_among (names ++ new ∷ []) name ≡ true
among_before names new name h =
    among_is (names ++ new ∷ []) name ∙ list_any-append (bytes_eq name) names (new ∷ [])
    ∙ or_left (list_any (bytes_eq name) names) (list_any (bytes_eq name) (new ∷ [])) (sym (among_is names name) ∙ h)

-- a name that is added is among the names, and those before it still are
added : (names : List (List ℕ)) (name : List ℕ) → is_among (with_name names name) name ≡ true
added names name = by (is_among names name) refl
  where
    by : (b : Bool) → is_among names name ≡ b → is_among (cond b names (names ++ name ∷ [])) name ≡ true
    by true h = h
    by false h = among_last names name

kept : (names : List (List ℕ)) (new name : List ℕ) → is_among names name ≡ true → is_among (with_name names new) name ≡ true
kept names new name h = by (is_among names new)
  where
    by : (b : Bool) → is_among (cond b names (names ++ new ∷ [])) name ≡ true
    by true = h
    by false = among_before names new name h

module _ (known : List (List ℕ)) (w : Word) (ws : List Word) (once : seconds known (w ∷ ws) ≡ []) where
  is_new : is_among known w.bytes ≡ false
  is_new = when_nil (is_among known w.bytes) w (left_nil (when (is_among known w.bytes) w) (seconds (with_name known w.bytes) ws) once)

  later_once : seconds (with_name known w.bytes) ws ≡ []
  later_once = right_nil (when (is_among known w.bytes) w) (seconds (with_name known w.bytes) ws) once

-- a known name is none of the words
apart : (known : List (List ℕ)) (name : List ℕ) (ws : List Word) → is_among known name ≡ true → seconds known ws ≡ [] → list_any (bytes_eq name) (names_of ws) ≡ false
apart known name [] h once = refl
apart known name (w ∷ ws) h once =
    let differ : bytes_eq name w.bytes ≡ false =
    false_from_ne_true (bytes_eq name w.bytes) (λ t. false≢true (sym (is_new known w ws once) ∙ ap (λ (n : List ℕ). is_among known n) (sym ((bytes_eq-Decides name w.bytes).0 t)) ∙ h)) in
    let later = apart (with_name known w.bytes) name ws (kept known w.bytes name h) (later_once known w ws once) in
    (λ i. differ i || later i)

pub are_names : (Form : List ℕ → Type 0) (known : List (List ℕ)) (ws : List Word) → HaveForm Form ws → seconds known ws ≡ [] → AreNames Form (names_of ws)
are_names Form known [] formed once = tt
are_names Form known (w ∷ ws) formed once =
    let later = later_once known w ws once in
    (formed.0, apart (with_name known w.bytes) w.bytes ws (added known w.bytes) later, are_names Form (with_name known w.bytes) ws formed.1 later)
