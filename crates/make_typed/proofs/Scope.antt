-- The names in scope inside the filter.
use Rattle.std.specs.Prelude.{◌≡◌, ℕ, suc, ◌+◌, ◌<◌, Bool, true, false, cond, ◌||◌, ◌&&◌, nat_le, List, [], ◌∷◌, map, codes, Option, Some, None, is_some, option_map, slice_get, refl}
use Rattle.std.specs.Str.{bytes_eq}
use Rattle.std.proofs.Common.{ap, arith, inl, inr, subst, sym, ◌∙◌}
use Rattle.std.proofs.lemmas.Bool.{false_from_ne_true, false≢true, or_right}
use Rattle.std.proofs.lemmas.Slice.Eq.{bytes_eq-Decides}
use Rattle.chw_grammar.specs.declared.term_tree.Binding.{Binding}
use Rattle.chw_grammar.specs.TermView.{bindings_of}
use Rattle.chw_names.specs.Twices.{binding_words}
use Rattle.chw_names.specs.Unknowns.{within}
use Rattle.name_tables.specs.Names.{is_among, place_of}
use Rattle.make_text.specs.MakeTree.{filter, product_name, tap_name}
use Rattle.make_typed.proofs.Filter.{Binds, Each, binds_last, binds_product_of, binds_tap, filter_has}

-- names among others

among : (n : List ℕ) (ns : List (List ℕ)) (name : List ℕ) → is_among (n ∷ ns) name ≡ (bytes_eq name n || is_among ns name)
among n ns name = at (bytes_eq name n) (place_of ns name)
  where
    at : (b : Bool) (o : Option ℕ) → is_some (cond b (Some 0) (option_map (λ (p : ℕ). p + 1) o)) ≡ (b || is_some o)
    at true o = refl
    at false None = refl
    at false (Some p) = refl

among_first : (n : List ℕ) (ns : List (List ℕ)) (name : List ℕ) → n ≡ name → is_among (n ∷ ns) name ≡ true
among_first n ns name e = among n ns name ∙ ap (λ (b : Bool). b || is_among ns name) ((bytes_eq-Decides name n).1 (sym e))

among_later : (n : List ℕ) (ns : List (List ℕ)) (name : List ℕ) → is_among ns name ≡ true → is_among (n ∷ ns) name ≡ true
among_later n ns name h = among n ns name ∙ or_right (bytes_eq name n) (is_among ns name) h

-- the binders of bindings, and names around them
abbrev pub inside_of : List Binding → List (List ℕ) → List (List ℕ)
inside_of bs names = within (binding_words (bindings_of bs)) names

among_outside : (bs : List Binding) (names : List (List ℕ)) (name : List ℕ) → is_among names name ≡ true → is_among (inside_of bs names) name ≡ true
among_outside [] names name h = h
among_outside (b ∷ bs) names name h = among_outside bs (b.name.bytes ∷ names) name (among_later b.name.bytes names name h)

among_inside : (bs : List Binding) (names : List (List ℕ)) (name : List ℕ) → Binds name bs → is_among (inside_of bs names) name ≡ true
among_inside [] names name h = absurd h
among_inside (b ∷ bs) names name (inl e) = among_outside bs (b.name.bytes ∷ names) name (among_first b.name.bytes names name e)
among_inside (b ∷ bs) names name (inr h) = among_inside bs (b.name.bytes ∷ names) name h

-- names that pass a test

abbrev pub AllPass : (List ℕ → Bool) → List (List ℕ) → Type 0
AllPass test [] = Unit {0}
AllPass test (n ∷ ns) = (test n ≡ true) × AllPass test ns

pub no_place : (test : List ℕ → Bool) (names : List (List ℕ)) (name : List ℕ) → AllPass test names → test name ≡ false → place_of names name ≡ None
no_place test [] name all fails = refl
no_place test (n ∷ ns) name all fails =
    let differ : bytes_eq name n ≡ false =
    false_from_ne_true (bytes_eq name n) (λ e. false≢true (sym fails ∙ ap test ((bytes_eq-Decides name n).0 e) ∙ all.0)) in
    let later : place_of ns name ≡ None = no_place test ns name all.1 fails in
    (λ i. cond (differ i) (Some 0) (option_map (λ (p : ℕ). p + 1) (later i)))

inside_pass : (test : List ℕ → Bool) (bs : List Binding) (names : List (List ℕ)) → Each (λ b. test b.name.bytes ≡ true) bs → AllPass test names
    → AllPass test (inside_of bs names)
inside_pass test [] names each all = all
inside_pass test (b ∷ bs) names each all = inside_pass test bs (b.name.bytes ∷ names) each.1 (each.0, all)

-- `s`, `t`, `x`, `y` or `z` comes first
abbrev pub is_local : List ℕ → Bool
is_local [] = false
is_local (c ∷ cs) = (nat_le 115 c && nat_le c 116) || nat_le 120 c

-- the names in scope in the bindings of the filter
unfoldable pub scope : ℕ → List (List ℕ)
scope taps = inside_of (filter taps) (codes "x" ∷ [])

scope_is_local : (taps : ℕ) → AllPass is_local (scope taps)
unfolding scope
scope_is_local taps =
    inside_pass is_local (filter taps) (codes "x" ∷ []) (filter_has (λ b. is_local b.name.bytes ≡ true) taps refl (λ k small. refl) (λ k small. refl) refl refl) (refl, tt)

pub no_local : (taps : ℕ) (name : List ℕ) → is_local name ≡ false → place_of (scope taps) name ≡ None
no_local taps name fails = no_place is_local (scope taps) name (scope_is_local taps) fails

pub tap_in_scope : (taps k : ℕ) → k < taps → is_among (scope taps) (tap_name k) ≡ true
unfolding scope
tap_in_scope taps k small = among_inside (filter taps) (codes "x" ∷ []) (tap_name k) (binds_tap taps k small)

pub product_in_scope : (taps k : ℕ) → k < taps → is_among (scope taps) (product_name k) ≡ true
unfolding scope
product_in_scope taps k small = among_inside (filter taps) (codes "x" ∷ []) (product_name k) (binds_product_of taps k small)

pub input_in_scope : (taps : ℕ) → is_among (scope taps) (codes "x") ≡ true
unfolding scope
input_in_scope taps = among_outside (filter taps) (codes "x" ∷ []) (codes "x") refl

pub sum_in_scope : (taps : ℕ) → is_among (scope taps) (codes "y") ≡ true
unfolding scope
sum_in_scope taps = among_inside (filter taps) (codes "x" ∷ []) (codes "y") (binds_last taps (codes "y") (inl refl))

pub last_in_scope : (taps : ℕ) → is_among (scope taps) (codes "z") ≡ true
unfolding scope
last_in_scope taps = among_inside (filter taps) (codes "x" ∷ []) (codes "z") (binds_last taps (codes "z") (inr (inl refl)))

-- a name in scope has a place, and there stands what a table has for it

pub record IsPlaced {X : Type 0} (of : List ℕ → X) (names : List (List ℕ)) (name : List ℕ) : Type 0 where
  pub place : ℕ
  pub is : place_of names name ≡ Some place
  pub holds : slice_get (map of names) place ≡ Some (of name)

pub placed : {X : Type 0} (of : List ℕ → X) (names : List (List ℕ)) (name : List ℕ) → is_among names name ≡ true → IsPlaced of names name
placed of [] name h = absurd (false≢true h)
placed of (n ∷ ns) name h = by (bytes_eq name n) refl (placed of ns name)
  where
    by : (b : Bool) → bytes_eq name n ≡ b → (is_among ns name ≡ true → IsPlaced of ns name) → IsPlaced of (n ∷ ns) name
    by true e behind =
        let same : name ≡ n = (bytes_eq-Decides name n).0 e in
        record {
          place = 0;
          is = ap (λ (b : Bool). cond b (Some 0) (option_map (λ (p : ℕ). p + 1) (place_of ns name))) e;
          holds = ap (λ (m : List ℕ). Some (of m)) (sym same);
        }
    by false e behind =
        let later : is_among ns name ≡ true = ap (λ (b : Bool). b || is_among ns name) (sym e) ∙ sym (among n ns name) ∙ h in
        let at = behind later in
        let next : at.place + 1 ≡ suc at.place = omega arith in
        record {
          place = at.place + 1;
          is =
              ap (λ (b : Bool). cond b (Some 0) (option_map (λ (p : ℕ). p + 1) (place_of ns name))) e
              ∙ ap (option_map (λ (p : ℕ). p + 1)) at.is;
          holds = subst (λ (p : ℕ). slice_get (map of (n ∷ ns)) p ≡ Some (of name)) (sym next) at.holds;
        }
