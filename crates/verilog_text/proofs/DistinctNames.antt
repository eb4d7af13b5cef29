-- Printed names of which none stands twice.
use Rattle.std.proofs.Common.{◌≡◌, ℕ, ◌+◌, ◌<◌, ◌≤◌, ◌^◌, Bool, true, false, cond, ◌||◌, eqb, List, [], ◌∷◌, ◌++◌, ◌⊎◌, length, map, drop, inl, inr, sym, refl, ap, ◌∙◌, subst, arith}
use Rattle.std.specs.Prelude.{decimal, if◌then◌else◌}
use Rattle.std.specs.List.{flat_map, AllByRecursion}
use Rattle.std.specs.Str.{bytes_eq}
use Rattle.std.proofs.lemmas.Bool.{false≢true, false_from_ne_true, ne_eqb}
use Rattle.std.proofs.lemmas.Fmt.{decimal_injective}
use Rattle.std.proofs.lemmas.Slice.Eq.{bytes_eq-Decides}
use Rattle.chw_base.specs.Names.{IsUpper}
use Rattle.chw_base.specs.declared.index.DomId.{DomId}
use Rattle.chw_clock.specs.Histories.{is_one_of}
use Rattle.chw_clock.specs.declared.event.Port.{Port}
use Rattle.name_tables.specs.Names.{AreDistinct, is_among}
use Rattle.net_rules.specs.PortsHold.{FitsPort, full_name}
use Rattle.verilog_text.specs.Names.{clock_name, domain_name, reset_name}
use Rattle.verilog_text.specs.Text.{clock_names}
use Rattle.verilog_text.specs.VForms.{IsNumber}
use Rattle.verilog_text.proofs.Firsts.{digit_range}
use Rattle.verilog_text.proofs.OnePorts.{full, same_full, same_place, upper_at}
use Rattle.verilog_text.proofs.Places.{among}
use Rattle.verilog_text.proofs.PrintedNames.{number_form}
use Rattle.verilog_text.proofs.PrintedSource.{numbered_as}

-- a name that isn't the first and none of the others is none of all
pub not_among : (n : List ℕ) (ns : List (List ℕ)) (name : List ℕ) → (name ≡ n → ⊥) → is_among ns name ≡ false → is_among (n ∷ ns) name ≡ false
not_among n ns name other absent =
    among n ns name ∙ ap (λ b. b || is_among ns name) (false_from_ne_true (bytes_eq name n) (λ same. other ((bytes_eq-Decides name n).0 same))) ∙ absent

pub not_in_both : (xs ys : List (List ℕ)) (name : List ℕ) → is_among xs name ≡ false → is_among ys name ≡ false → is_among (xs ++ ys) name ≡ false
not_in_both [] ys name first second = second
not_in_both (x ∷ xs) ys name first second = by_case (bytes_eq name x) refl (not_in_both xs ys name)
  where
    by_case : (b : Bool) → bytes_eq name x ≡ b → (is_among xs name ≡ false → is_among ys name ≡ false → is_among (xs ++ ys) name ≡ false) → is_among (x ∷ (xs ++ ys)) name ≡ false
    by_case true is more = absurd (false≢true (sym first ∙ among x xs name ∙ ap (λ b. b || is_among xs name) is))
    by_case false is more =
        let rest : is_among xs name ≡ false = ap (λ b. b || is_among xs name) (sym is) ∙ sym (among x xs name) ∙ first in
        among x (xs ++ ys) name ∙ ap (λ b. b || is_among (xs ++ ys) name) is ∙ more rest second

-- what sort of name is printed: by its second byte a clock or reset, else by its first
abbrev pub by_first : ℕ → ℕ
by_first b =
    if eqb b 111 || eqb b 121 then 1 else (if eqb b 105 then 2 else (if eqb b 119 then 3 else (if eqb b 114 then 4 else (if eqb b 117 then 5 else 6))))

abbrev pub tag : List ℕ → ℕ
tag [] = 6
tag (b ∷ []) = by_first b
tag (b ∷ c ∷ bytes) = if eqb c 108 || eqb c 115 then 0 else by_first b

pub tag_numbered : (letter k : ℕ) → k < 2 ^ 64 → tag (letter ∷ decimal k) ≡ by_first letter
tag_numbered letter k small = at (decimal k) (number_form k small)
  where
    at : (bytes : List ℕ) → IsNumber bytes → tag (letter ∷ bytes) ≡ by_first letter
    at [] form = absurd form
    at (b ∷ bytes) form =
        let inside = digit_range b form.0 in
        ap (λ v. cond (v || eqb b 115) 0 (by_first letter)) (ne_eqb b 108 (λ same. omega arith)) ∙ ap (λ v. cond v 0 (by_first letter)) (ne_eqb b 115 (λ same. omega arith))

abbrev pub HasTag : ℕ → List ℕ → Type 0
HasTag t name = tag name ≡ t

-- names of greater tags are others
absent_above : (t : ℕ) (names : List (List ℕ)) (name : List ℕ) → HasTag t name → AllByRecursion (λ (n : List ℕ). t < tag n) names → is_among names name ≡ false
absent_above t [] name has above = refl
absent_above t (n ∷ names) name has above =
    let more = above.0 in
    not_among n names name (λ same. omega (arith, has, ap tag same)) (absent_above t names name has above.1)

pub distinct_above : (t : ℕ) (names more : List (List ℕ)) → AreDistinct names → AreDistinct more → AllByRecursion (HasTag t) names → AllByRecursion (λ (n : List ℕ). t < tag n) more → AreDistinct (names ++ more)
distinct_above t [] more first second tags above = second
distinct_above t (n ∷ names) more first second tags above =
    (not_in_both names more n first.0 (absent_above t more n tags.0 above), distinct_above t names more first.1 second tags.1 above)

-- names of a letter and the number of their place, of which some are left out
module _ {A B : Type 0} (letter : ℕ) (item : ℕ → A → B) (names_in : B → List (List ℕ))
    (each : (k : ℕ) (x : A) → (names_in (item k x) ≡ []) ⊎ (names_in (item k x) ≡ (letter ∷ decimal k) ∷ [])) where
  absent_before : (j a : ℕ) (xs : List A) → j < a → a + length xs ≤ 2 ^ 64 → is_among (flat_map names_in (numbered_as item a xs)) (letter ∷ decimal j) ≡ false
  absent_before j a [] less small = refl
  absent_before j a (x ∷ xs) less small = by_case (each a x) (absent_before j (a + 1) xs (omega arith) (omega arith))
    where
      by_case : (names_in (item a x) ≡ []) ⊎ (names_in (item a x) ≡ (letter ∷ decimal a) ∷ []) → is_among (flat_map names_in (numbered_as item (a + 1) xs)) (letter ∷ decimal j) ≡ false
          → is_among (names_in (item a x) ++ flat_map names_in (numbered_as item (a + 1) xs)) (letter ∷ decimal j) ≡ false
      by_case (inl none) later = ap (λ (l : List (List ℕ)). is_among (l ++ flat_map names_in (numbered_as item (a + 1) xs)) (letter ∷ decimal j)) none ∙ later
      by_case (inr one) later =
          ap (λ (l : List (List ℕ)). is_among (l ++ flat_map names_in (numbered_as item (a + 1) xs)) (letter ∷ decimal j)) one
          ∙ not_among (letter ∷ decimal a) (flat_map names_in (numbered_as item (a + 1) xs)) (letter ∷ decimal j)
          (λ same. omega (arith, decimal_injective j a (omega arith) (omega arith) (ap (drop 1) same))) later

  pub numbered_distinct : (a : ℕ) (xs : List A) → a + length xs ≤ 2 ^ 64 → AreDistinct (flat_map names_in (numbered_as item a xs))
  numbered_distinct a [] small = tt
  numbered_distinct a (x ∷ xs) small = by_case (each a x) (numbered_distinct (a + 1) xs (omega arith))
    where
      by_case : (names_in (item a x) ≡ []) ⊎ (names_in (item a x) ≡ (letter ∷ decimal a) ∷ []) → AreDistinct (flat_map names_in (numbered_as item (a + 1) xs))
          → AreDistinct (names_in (item a x) ++ flat_map names_in (numbered_as item (a + 1) xs))
      by_case (inl none) later = subst (λ (l : List (List ℕ)). AreDistinct (l ++ flat_map names_in (numbered_as item (a + 1) xs))) (sym none) later
      by_case (inr one) later =
          subst (λ (l : List (List ℕ)). AreDistinct (l ++ flat_map names_in (numbered_as item (a + 1) xs))) (sym one) (absent_before a (a + 1) xs (omega arith) (omega arith), later)

  pub numbered_tags : (a : ℕ) (xs : List A) → a + length xs ≤ 2 ^ 64 → AllByRecursion (HasTag (by_first letter)) (flat_map names_in (numbered_as item a xs))
  numbered_tags a [] small = tt
  numbered_tags a (x ∷ xs) small = by_case (each a x) (numbered_tags (a + 1) xs (omega arith))
    where
      by_case : (names_in (item a x) ≡ []) ⊎ (names_in (item a x) ≡ (letter ∷ decimal a) ∷ []) → AllByRecursion (HasTag (by_first letter)) (flat_map names_in (numbered_as item (a + 1) xs))
          → AllByRecursion (HasTag (by_first letter)) (names_in (item a x) ++ flat_map names_in (numbered_as item (a + 1) xs))
      by_case (inl none) later =
          subst (λ (l : List (List ℕ)). AllByRecursion (HasTag (by_first letter)) (l ++ flat_map names_in (numbered_as item (a + 1) xs))) (sym none) later
      by_case (inr one) later =
          subst (λ (l : List (List ℕ)). AllByRecursion (HasTag (by_first letter)) (l ++ flat_map names_in (numbered_as item (a + 1) xs))) (sym one) (tag_numbered letter a (omega arith), later)

-- clocks and resets
abbrev reset_or_none : Bool → List ℕ → List (List ℕ)
reset_or_none b d = cond b (reset_name d ∷ []) []

clock_is : (d e : List ℕ) → clock_name d ≡ clock_name e → d ≡ e
clock_is d e same = ap (drop 4) same

no_clock : (d e : List ℕ) → clock_name d ≡ reset_name e → ⊥
no_clock d e same = let heads : 99 ∷ (108 ∷ 107 ∷ 95 ∷ d) ≡ 114 ∷ (115 ∷ 116 ∷ 95 ∷ e) = same in first 99 114 _ _ heads (λ is. omega arith)
  where
    first : (x y : ℕ) (xs ys : List ℕ) → x ∷ xs ≡ y ∷ ys → (x ≡ y → ⊥) → ⊥
    first x y xs ys same other = other cc

names_absent : (resets : List DomId) (k : ℕ) (domains : List (List ℕ)) (d : List ℕ) → is_among domains d ≡ false
    → (is_among (clock_names resets k domains) (clock_name d) ≡ false) × (is_among (clock_names resets k domains) (reset_name d) ≡ false)
names_absent resets k [] d absent = (refl, refl)
names_absent resets k (e ∷ domains) d absent = by_case (bytes_eq d e) refl (names_absent resets (k + 1) domains d)
  where
    tail : (b : Bool) → (d ≡ e → ⊥) → (is_among (clock_names resets (k + 1) domains) (clock_name d) ≡ false) × (is_among (clock_names resets (k + 1) domains) (reset_name d) ≡ false)
        → (is_among (clock_name e ∷ (reset_or_none b e ++ clock_names resets (k + 1) domains)) (clock_name d) ≡ false)
        × (is_among (clock_name e ∷ (reset_or_none b e ++ clock_names resets (k + 1) domains)) (reset_name d) ≡ false)
    tail true other later = (
      not_among (clock_name e) (reset_name e ∷ clock_names resets (k + 1) domains) (clock_name d) (λ same. other (clock_is d e same))
          (not_among (reset_name e) (clock_names resets (k + 1) domains) (clock_name d) (no_clock d e) later.0),
      not_among (clock_name e) (reset_name e ∷ clock_names resets (k + 1) domains) (reset_name d) (λ same. no_clock e d (sym same))
          (not_among (reset_name e) (clock_names resets (k + 1) domains) (reset_name d) (λ same. other (ap (drop 4) same)) later.1),
    )
    tail false other later = (
      not_among (clock_name e) (clock_names resets (k + 1) domains) (clock_name d) (λ same. other (clock_is d e same)) later.0,
      not_among (clock_name e) (clock_names resets (k + 1) domains) (reset_name d) (λ same. no_clock e d (sym same)) later.1,
    )

    by_case : (b : Bool) → bytes_eq d e ≡ b
        → (is_among domains d ≡ false → (is_among (clock_names resets (k + 1) domains) (clock_name d) ≡ false) × (is_among (clock_names resets (k + 1) domains) (reset_name d) ≡ false))
        → (is_among (clock_names resets k (e ∷ domains)) (clock_name d) ≡ false) × (is_among (clock_names resets k (e ∷ domains)) (reset_name d) ≡ false)
    by_case true is later = absurd (false≢true (sym absent ∙ among e domains d ∙ ap (λ b. b || is_among domains d) is))
    by_case false is later =
        let rest : is_among domains d ≡ false = ap (λ b. b || is_among domains d) (sym is) ∙ sym (among e domains d) ∙ absent in
        tail (is_one_of resets (record { number = k })) (λ same. false≢true (sym is ∙ (bytes_eq-Decides d e).1 same)) (later rest)

pub signals_distinct : (resets : List DomId) (k : ℕ) (domains : List (List ℕ)) → AreDistinct domains → AreDistinct (clock_names resets k domains)
signals_distinct resets k [] distinct = tt
signals_distinct resets k (d ∷ domains) distinct =
    with_reset (is_one_of resets (record { number = k })) (names_absent resets (k + 1) domains d distinct.0) (signals_distinct resets (k + 1) domains distinct.1)
  where
    with_reset : (b : Bool) → (is_among (clock_names resets (k + 1) domains) (clock_name d) ≡ false) × (is_among (clock_names resets (k + 1) domains) (reset_name d) ≡ false)
        → AreDistinct (clock_names resets (k + 1) domains) → AreDistinct (clock_name d ∷ (reset_or_none b d ++ clock_names resets (k + 1) domains))
    with_reset true absent later = (not_among (reset_name d) (clock_names resets (k + 1) domains) (clock_name d) (no_clock d d) absent.0, (absent.1, later))
    with_reset false absent later = (absent.0, later)

pub signals_tags : (resets : List DomId) (k : ℕ) (domains : List (List ℕ)) → AllByRecursion (HasTag 0) (clock_names resets k domains)
signals_tags resets k [] = tt
signals_tags resets k (d ∷ domains) = (refl, with_reset (is_one_of resets (record { number = k })) (signals_tags resets (k + 1) domains))
  where
    with_reset : (b : Bool) → AllByRecursion (HasTag 0) (clock_names resets (k + 1) domains) → AllByRecursion (HasTag 0) (reset_or_none b d ++ clock_names resets (k + 1) domains)
    with_reset true later = (refl, later)
    with_reset false later = later

pub clocks_distinct : (domains : List (List ℕ)) → AreDistinct domains → AreDistinct (map clock_name domains)
clocks_distinct [] distinct = tt
clocks_distinct (d ∷ domains) distinct = (absent domains distinct.0, clocks_distinct domains distinct.1)
  where
    absent : (names : List (List ℕ)) → is_among names d ≡ false → is_among (map clock_name names) (clock_name d) ≡ false
    absent [] none = refl
    absent (e ∷ names) none = by_case (bytes_eq d e) refl (absent names)
      where
        by_case : (b : Bool) → bytes_eq d e ≡ b → (is_among names d ≡ false → is_among (map clock_name names) (clock_name d) ≡ false) → is_among (map clock_name (e ∷ names)) (clock_name d) ≡ false
        by_case true is later = absurd (false≢true (sym none ∙ among e names d ∙ ap (λ b. b || is_among names d) is))
        by_case false is later =
            let rest : is_among names d ≡ false = ap (λ b. b || is_among names d) (sym is) ∙ sym (among e names d) ∙ none in
            not_among (clock_name e) (map clock_name names) (clock_name d) (λ same. false≢true (sym is ∙ (bytes_eq-Decides d e).1 (clock_is d e same))) (later rest)

-- the names of ports that don't agree in domain and name
module _ (letter : ℕ) (domains : List (List ℕ)) (forms : AllByRecursion IsUpper domains) where
  abbrev pub printed : Port → List ℕ
  printed p = full letter (domain_name domains p.dom) p.name

  module _ (distinct : AreDistinct domains) where
    one_port : (p q : Port) → p.dom.number < length domains → q.dom.number < length domains → printed p ≡ printed q → full_name p ≡ full_name q
    one_port p q p_within q_within same =
        let parts = same_full letter (domain_name domains p.dom) (domain_name domains q.dom) p.name q.name
        (upper_at domains p.dom.number forms p_within) (upper_at domains q.dom.number forms q_within) same in
        let numbers = same_place domains forms distinct p.dom.number q.dom.number p_within q_within parts.0 in
        λ i. numbers i ∷ parts.1 i

    port_absent : (p : Port) → p.dom.number < length domains → (ps : List Port) → AllByRecursion (FitsPort (length domains)) ps → is_among (map full_name ps) (full_name p) ≡ false
        → is_among (map printed ps) (printed p) ≡ false
    port_absent p within [] fit none = refl
    port_absent p within (q ∷ ps) fit none = by_case (bytes_eq (full_name p) (full_name q)) refl (port_absent p within ps fit.1)
      where
        by_case : (b : Bool) → bytes_eq (full_name p) (full_name q) ≡ b → (is_among (map full_name ps) (full_name p) ≡ false → is_among (map printed ps) (printed p) ≡ false)
            → is_among (printed q ∷ map printed ps) (printed p) ≡ false
        by_case true is later =
            absurd (false≢true (sym none ∙ among (full_name q) (map full_name ps) (full_name p) ∙ ap (λ b. b || is_among (map full_name ps) (full_name p)) is))
        by_case false is later =
            let rest : is_among (map full_name ps) (full_name p) ≡ false =
            ap (λ b. b || is_among (map full_name ps) (full_name p)) (sym is) ∙ sym (among (full_name q) (map full_name ps) (full_name p)) ∙ none in
            not_among (printed q) (map printed ps) (printed p)
            (λ same. false≢true (sym is ∙ (bytes_eq-Decides (full_name p) (full_name q)).1 (one_port p q within fit.0.0 same))) (later rest)

    pub ports_distinct : (ps : List Port) → AllByRecursion (FitsPort (length domains)) ps → AreDistinct (map full_name ps) → AreDistinct (map printed ps)
    ports_distinct [] fit apart = tt
    ports_distinct (p ∷ ps) fit apart = (port_absent p fit.0.0 ps fit.1 apart.0, ports_distinct ps fit.1 apart.1)
