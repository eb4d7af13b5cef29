-- The names of a module's ports are those of at most one list of ports.
use Rattle.std.proofs.Common.{◌≡◌, ℕ, zero, suc, ◌+◌, ◌<◌, ◌≤◌, Bool, true, false, eqb, ◌||◌, List, [], ◌∷◌, ◌++◌, length, map, drop, get_or, Some, sym, refl, ap, ◌∙◌, subst, append_assoc, arith}
use Rattle.std.specs.Prelude.{if◌then◌else◌}
use Rattle.std.specs.List.{AllByRecursion}
use Rattle.std.proofs.lemmas.Bool.{false≢true, or_left, or_right, eqb-true, eqb-false, ne_eqb, eq-eqb}
use Rattle.std.proofs.lemmas.Option.{slice_get-get_or}
use Rattle.chw_base.specs.Names.{AllOf, IsUpper, is_capital, is_digit, is_letter_or_digit, is_small_letter}
use Rattle.chw_base.specs.declared.index.DomId.{DomId}
use Rattle.chw_clock.specs.Histories.{is_one_of}
use Rattle.chw_clock.specs.declared.event.Port.{Port}
use Rattle.name_tables.specs.Names.{AreDistinct}
use Rattle.net_rules.specs.PortsHold.{FitsPort, RiseWithin}
use Rattle.verilog_text.specs.Names.{clock_name, domain_name, reset_name}
use Rattle.verilog_text.specs.Text.{clock_names}
use Rattle.verilog_text.proofs.Places.{one_place}
use Rattle.verilog_text.proofs.Runs.{same_run}

abbrev dom : ℕ → DomId
dom n = record { number = n }

-- the first name begins with `r`
abbrev begins_r : List (List ℕ) → Bool
begins_r [] = false
begins_r ([] ∷ names) = false
begins_r ((b ∷ bytes) ∷ names) = eqb b 114

no_reset_first : (resets : List DomId) (k : ℕ) (domains : List (List ℕ)) → begins_r (clock_names resets k domains) ≡ false
no_reset_first resets k [] = refl
no_reset_first resets k (d ∷ domains) = refl

abbrev reset_behind : Bool → List ℕ → List (List ℕ)
reset_behind b d = if b then reset_name d ∷ [] else []

-- whether a reset stands behind a clock is seen in the names
same_reset : (b c : Bool) (d : List ℕ) (rest more : List (List ℕ)) → begins_r rest ≡ false → begins_r more ≡ false → reset_behind b d ++ rest ≡ reset_behind c d ++ more → (b ≡ c) × (rest ≡ more)
same_reset true true d rest more no_r none_r same = (refl, cc)
same_reset false false d rest more no_r none_r same = (refl, same)
same_reset true false d rest more no_r none_r same = absurd (false≢true (sym none_r ∙ sym (ap begins_r same)))
same_reset false true d rest more no_r none_r same = absurd (false≢true (sym no_r ∙ ap begins_r same))

-- the clocks and resets determine the domains, and which of them have a reset
pub same_clocks : (resets others : List DomId) (k : ℕ) (domains more : List (List ℕ)) → clock_names resets k domains ≡ clock_names others k more
    → (domains ≡ more) × ((j : ℕ) → k ≤ j → j < k + length domains → is_one_of resets (dom j) ≡ is_one_of others (dom j))
same_clocks resets others k [] [] same = (refl, λ j from to. absurd (omega arith))
same_clocks resets others k [] (e ∷ more) same = absurd (cc)
same_clocks resets others k (d ∷ domains) [] same = absurd (cc)
same_clocks resets others k (d ∷ domains) (e ∷ more) same =
    let clocks : clock_name d ≡ clock_name e = cc in
    let names : d ≡ e = ap (drop 4) clocks in
    let behind : reset_behind (is_one_of resets (dom k)) d ++ clock_names resets (k + 1) domains
    ≡ reset_behind (is_one_of others (dom k)) e ++ clock_names others (k + 1) more = cc in
    let step = same_reset (is_one_of resets (dom k)) (is_one_of others (dom k)) d (clock_names resets (k + 1) domains) (clock_names others (k + 1) more)
    (no_reset_first resets (k + 1) domains) (no_reset_first others (k + 1) more)
    (behind ∙ ap (λ (x : List ℕ). reset_behind (is_one_of others (dom k)) x ++ clock_names others (k + 1) more) (sym names)) in
    let later = same_clocks resets others (k + 1) domains more step.1 in
    ((λ i. names i ∷ later.0 i), each step.0 later.1)
  where
    each : is_one_of resets (dom k) ≡ is_one_of others (dom k)
        → ((j : ℕ) → k + 1 ≤ j → j < k + 1 + length domains → is_one_of resets (dom j) ≡ is_one_of others (dom j))
        → (j : ℕ) → k ≤ j → j < k + length (d ∷ domains) → is_one_of resets (dom j) ≡ is_one_of others (dom j)
    each here later j from to = by_case (eqb j k) refl
      where
        by_case : (b : Bool) → eqb j k ≡ b → is_one_of resets (dom j) ≡ is_one_of others (dom j)
        by_case true is =
            let at : j ≡ k = eqb-true j k is in
            subst (λ (x : ℕ). is_one_of resets (dom x) ≡ is_one_of others (dom x)) (sym at) here
        by_case false is = let other = eqb-false j k is in later j (omega arith) (omega arith)

-- none of rising numbers is below the least
none_below : (least end j : ℕ) (domains : List DomId) → RiseWithin least end domains → j < least → is_one_of domains (dom j) ≡ false
none_below least end j [] rise less = refl
none_below least end j (d ∷ domains) rise less =
    let from = rise.0 in
    let here : eqb d.number j ≡ false = ne_eqb d.number j (λ same. omega arith) in
    ap (λ b. b || is_one_of domains (dom j)) here ∙ none_below (d.number + 1) end j domains rise.2 (omega arith)

first_is : (d : DomId) (domains : List DomId) → is_one_of (d ∷ domains) (dom d.number) ≡ true
first_is d domains = ap (λ b. b || is_one_of domains (dom d.number)) (eq-eqb d.number d.number refl)

-- rising numbers are determined by which there are
pub same_rising : (least end : ℕ) (a b : List DomId) → RiseWithin least end a → RiseWithin least end b
    → ((j : ℕ) → least ≤ j → j < end → is_one_of a (dom j) ≡ is_one_of b (dom j)) → a ≡ b
same_rising least end [] [] first second same = refl
same_rising least end [] (e ∷ b) first second same =
    absurd (false≢true (same e.number second.0 second.1 ∙ first_is e b))
same_rising least end (d ∷ a) [] first second same =
    absurd (false≢true (sym (same d.number first.0 first.1) ∙ first_is d a))
same_rising least end (d ∷ a) (e ∷ b) first second same =
    let no_less : d.number < e.number → ⊥ =
    λ less. false≢true (sym (none_below e.number end d.number (e ∷ b) (le_refl e.number, second.1, second.2) less) ∙ sym (same d.number first.0 first.1) ∙ first_is d a) in
    let no_more : e.number < d.number → ⊥ =
    λ less. false≢true (sym (none_below d.number end e.number (d ∷ a) (le_refl d.number, first.1, first.2) less) ∙ same e.number second.0 second.1 ∙ first_is e b) in
    let numbers : d.number ≡ e.number = omega arith in
    let later = same_rising (d.number + 1) end a b first.2 (subst (λ (n : ℕ). RiseWithin (n + 1) end b) (sym numbers) second.2) (behind numbers) in
    λ i. record { number = numbers i } ∷ later i
  where
    le_refl : (n : ℕ) → n ≤ n
    le_refl n = omega arith

    behind : d.number ≡ e.number → (j : ℕ) → d.number + 1 ≤ j → j < end → is_one_of a (dom j) ≡ is_one_of b (dom j)
    behind numbers j from to =
        let least_is = first.0 in
        let not_d : eqb d.number j ≡ false = ne_eqb d.number j (λ is. omega arith) in
        let not_e : eqb e.number j ≡ false = ne_eqb e.number j (λ is. omega arith) in
        ap (λ b. b || is_one_of a (dom j)) (sym not_d) ∙ same j (omega arith) to ∙ ap (λ x. x || is_one_of b (dom j)) not_e

-- a letter, `_`, a domain, `_` and a name
abbrev pub full : ℕ → List ℕ → List ℕ → List ℕ
full letter domain name = (((letter ∷ 95 ∷ []) ++ domain) ++ 95 ∷ []) ++ name

all_letters : (name : List ℕ) → IsUpper name → AllOf is_letter_or_digit name
all_letters [] form = absurd form
all_letters (b ∷ name) form = (or_right (is_small_letter b) _ (or_left (is_capital b) (is_digit b) form.0), form.1)

pub same_full : (letter : ℕ) (d e : List ℕ) (name other : List ℕ) → IsUpper d → IsUpper e → full letter d name ≡ full letter e other → (d ≡ e) × (name ≡ other)
same_full letter d e name other d_form e_form same =
    let split : d ++ 95 ∷ name ≡ e ++ 95 ∷ other =
    sym (append_assoc d (95 ∷ []) name) ∙ ap (drop 2) same ∙ append_assoc e (95 ∷ []) other in
    let parts = same_run is_letter_or_digit e (95 ∷ other) d (95 ∷ name) (all_letters e e_form) refl (all_letters d d_form) refl split in
    (parts.0, ap (drop 1) parts.1)

pub upper_at : (domains : List (List ℕ)) (k : ℕ) → AllByRecursion IsUpper domains → k < length domains → IsUpper (get_or domains k [])
upper_at [] k forms within = absurd (omega arith)
upper_at (d ∷ domains) zero forms within = forms.0
upper_at (d ∷ domains) (suc k) forms within = upper_at domains k forms.1 (omega arith)

module _ (domains : List (List ℕ)) (forms : AllByRecursion IsUpper domains) (distinct : AreDistinct domains) where
  pub same_place : (j k : ℕ) → j < length domains → k < length domains → get_or domains j [] ≡ get_or domains k [] → j ≡ k
  same_place j k j_within k_within same =
      one_place domains j k (get_or domains k []) distinct
      (slice_get-get_or domains j [] j_within ∙ ap Some same) (slice_get-get_or domains k [] k_within)

  -- the full name and the width determine the port
  same_port : (letter : ℕ) (p q : Port) → p.dom.number < length domains → q.dom.number < length domains
      → full letter (domain_name domains p.dom) p.name ≡ full letter (domain_name domains q.dom) q.name → p.width ≡ q.width → p ≡ q
  same_port letter p q p_within q_within names widths =
      let parts = same_full letter (domain_name domains p.dom) (domain_name domains q.dom) p.name q.name
      (upper_at domains p.dom.number forms p_within) (upper_at domains q.dom.number forms q_within) names in
      let numbers = same_place p.dom.number q.dom.number p_within q_within parts.0 in
      λ i. record { name = parts.1 i; dom = record { number = numbers i }; width = widths i }

  pub same_ports : (letter : ℕ) (ps qs : List Port) → AllByRecursion (FitsPort (length domains)) ps → AllByRecursion (FitsPort (length domains)) qs
      → map (λ (p : Port). full letter (domain_name domains p.dom) p.name) ps ≡ map (λ (p : Port). full letter (domain_name domains p.dom) p.name) qs
      → map (λ (p : Port). p.width) ps ≡ map (λ (p : Port). p.width) qs → ps ≡ qs
  same_ports letter [] [] first second names widths = refl
  same_ports letter [] (q ∷ qs) first second names widths = absurd (cc)
  same_ports letter (p ∷ ps) [] first second names widths = absurd (cc)
  same_ports letter (p ∷ ps) (q ∷ qs) first second names widths =
      let name_is : full letter (domain_name domains p.dom) p.name ≡ full letter (domain_name domains q.dom) q.name = ap head_name names in
      let width_is : p.width ≡ q.width = cc in
      let head = same_port letter p q first.0.0 second.0.0 name_is width_is in
      let tail = same_ports letter ps qs first.1 second.1 (ap (drop 1) names) (ap (drop 1) widths) in
      λ i. head i ∷ tail i
    where
      head_name : List (List ℕ) → List ℕ
      head_name [] = []
      head_name (n ∷ names) = n
