-- Clocks and resets that stand in a text pass their checks, and make the domains of the net.
use Rattle.std.proofs.Common.{◌≡◌, ℕ, suc, ◌+◌, ◌≤◌, Bool, true, false, cond, eqb, ◌&&◌, ◌||◌, List, [], ◌∷◌, ◌++◌, length, Option, Some, None, refl, sym, ap, ◌∙◌, subst, arith}
use Rattle.std.specs.List.{AllByRecursion, list_all}
use Rattle.std.specs.Str.{bytes_eq}
use Rattle.std.proofs.lemmas.Bool.{and_from, eqb-false, eqb-true, ne_eqb}
use Rattle.std.proofs.lemmas.Slice.Eq.{bytes_eq-Decides}
use Rattle.chw_base.specs.Names.{AllOf, BeginsThen, IsLowerWord, IsUpper, is_capital, is_letter_or_digit, is_name_byte, is_small_letter}
use Rattle.chw_base.specs.declared.index.DomId.{DomId}
use Rattle.chw_clock.specs.Histories.{is_one_of}
use Rattle.net_rules.specs.PortsHold.{RiseWithin}
use Rattle.verilog_text.specs.Names.{clock_name, reset_name}
use Rattle.verilog_text.specs.Text.{clock_names}
use Rattle.verilog_tree.specs.Sources.{bytes_of}
use Rattle.verilog_tree.specs.declared.word.Word.{Word}
use Rattle.verilog_rules.specs.Declarations.{domains_of, is_clock, resets_of, signal_domain}
use Rattle.verilog_rules.specs.NameRules.{is_signal_behind, signal_checks, texts}
use Rattle.verilog_rules.specs.Texts.{begins_then, is_lower_word, is_upper}
use Rattle.verilog_rules.proofs.Holding.{AllTrue}
use Rattle.verilog_rules.proofs.Signals.{clock_domains, clock_resets, dom, none_below, reset_domains, reset_resets}

all_so : (test : ℕ → Bool) (bs : List ℕ) → AllOf test bs → list_all test bs ≡ true
all_so test [] all = refl
all_so test (b ∷ bs) all = and_from (test b) (list_all test bs) all.0 (all_so test bs all.1)

begins_back : (first other : ℕ → Bool) (bs : List ℕ) → BeginsThen first other bs → begins_then first other bs ≡ true
begins_back first other [] is = absurd is
begins_back first other (b ∷ bs) is = and_from (first b) (list_all other bs) is.0 (all_so other bs is.1)

pub upper_back : (bs : List ℕ) → IsUpper bs → is_upper bs ≡ true
upper_back bs is = begins_back is_capital is_letter_or_digit bs is

pub lower_back : (bs : List ℕ) → IsLowerWord bs → is_lower_word bs ≡ true
lower_back bs is = begins_back is_small_letter is_name_byte bs is

names_agree : (r s : List DomId) (k : ℕ) (domains : List (List ℕ)) → ((j : ℕ) → k ≤ j → is_one_of r (dom j) ≡ is_one_of s (dom j)) → clock_names r k domains ≡ clock_names s k domains
names_agree r s k [] agree = refl
names_agree r s k (d ∷ domains) agree =
    let more : clock_names r (k + 1) domains ≡ clock_names s (k + 1) domains = names_agree r s (k + 1) domains (λ j from. agree j (weaker j from)) in
    ap (λ (b : Bool). (clock_name d ∷ cond b (reset_name d ∷ []) []) ++ clock_names r (k + 1) domains) (agree k (omega arith))
    ∙ ap (λ (rest : List (List ℕ)). (clock_name d ∷ cond (is_one_of s (dom k)) (reset_name d ∷ []) []) ++ rest) more
  where
    weaker : (j : ℕ) → k + 1 ≤ j → k ≤ j
    weaker j from = omega arith

-- signals that are the clocks and resets of these domains, so many standing before
pub record SignalsWere (k : ℕ) (domains : List (List ℕ)) (resets : List DomId) (signals : List Word) : Type 0 where
  pub checks : (before : Option (List ℕ)) → AllTrue (signal_checks before signals)
  pub domains_are : domains_of signals ≡ domains
  pub resets_are : resets_of k signals ≡ resets

is_clock_name : (name d : List ℕ) → name ≡ clock_name d → is_clock name ≡ true
is_clock_name name d is = ap is_clock is

is_reset_name : (name d : List ℕ) → name ≡ reset_name d → is_clock name ≡ false
is_reset_name name d is = ap is_clock is

clock_behind : (before : Option (List ℕ)) (name d : List ℕ) → IsUpper d → name ≡ clock_name d → is_signal_behind before name ≡ true
clock_behind before name d upper is = subst (λ (n : List ℕ). is_signal_behind before n ≡ true) (sym is) (of_clock before)
  where
    of_clock : (before : Option (List ℕ)) → is_signal_behind before (clock_name d) ≡ true
    of_clock None = upper_back d upper
    of_clock (Some b) = ap (λ (u : Bool). u || (is_clock b && bytes_eq (clock_name d) (reset_name (signal_domain b)))) (upper_back d upper)

reset_behind_clock : (s t d : List ℕ) → s ≡ clock_name d → t ≡ reset_name d → is_signal_behind (Some s) t ≡ true
reset_behind_clock s t d clock reset =
    subst (λ (x : List ℕ). is_signal_behind (Some x) t ≡ true) (sym clock) (subst (λ (x : List ℕ). is_signal_behind (Some (clock_name d)) x ≡ true) (sym reset)
    ((bytes_eq-Decides (reset_name d) (reset_name d)).1 refl))

first_text : {x y : List ℕ} {xs ys : List (List ℕ)} → x ∷ xs ≡ y ∷ ys → x ≡ y
first_text is = cc

later_texts : {x y : List ℕ} {xs ys : List (List ℕ)} → x ∷ xs ≡ y ∷ ys → xs ≡ ys
later_texts is = cc

longer_domains : {d e : List ℕ} {ds es : List (List ℕ)} → d ≡ e → ds ≡ es → d ∷ ds ≡ e ∷ es
longer_domains p q = λ i. p i ∷ q i

-- a clock alone
alone_back : (k : ℕ) (s : Word) (rest : List Word) (d : List ℕ) (domains : List (List ℕ)) (resets : List DomId) → IsUpper d → bytes_of s ≡ clock_name d
    → SignalsWere (k + 1) domains resets rest → SignalsWere k (d ∷ domains) resets (s ∷ rest)
alone_back k s rest d domains resets upper is later =
    let clock : is_clock (bytes_of s) ≡ true = is_clock_name (bytes_of s) d is in
    record {
      checks = λ before. (clock_behind before (bytes_of s) d upper is, later.checks (Some (bytes_of s)));
      domains_are = clock_domains s rest clock ∙ longer_domains (ap signal_domain is) later.domains_are;
      resets_are = clock_resets k s rest clock ∙ later.resets_are;
    }

-- a clock with its reset
reset_back : (k : ℕ) (s t : Word) (rest : List Word) (d : List ℕ) (domains : List (List ℕ)) (resets : List DomId) → IsUpper d → bytes_of s ≡ clock_name d → bytes_of t ≡ reset_name d
    → SignalsWere (k + 1) domains resets rest → SignalsWere k (d ∷ domains) (dom k ∷ resets) (s ∷ t ∷ rest)
reset_back k s t rest d domains resets upper is reset later =
    let clock : is_clock (bytes_of s) ≡ true = is_clock_name (bytes_of s) d is in
    let no_clock : is_clock (bytes_of t) ≡ false = is_reset_name (bytes_of t) d reset in
    record {
      checks = λ before. (clock_behind before (bytes_of s) d upper is, (reset_behind_clock (bytes_of s) (bytes_of t) d is reset, later.checks (Some (bytes_of t))));
      domains_are = clock_domains s (t ∷ rest) clock ∙ longer_domains (ap signal_domain is) (reset_domains t rest no_clock ∙ later.domains_are);
      resets_are = clock_resets k s (t ∷ rest) clock ∙ reset_resets k t rest no_clock ∙ ap (λ (ds : List DomId). dom k ∷ ds) later.resets_are;
    }

pub signals_were : (k : ℕ) (domains : List (List ℕ)) (resets : List DomId) (signals : List Word) → AllByRecursion IsUpper domains → RiseWithin k (k + length domains) resets
    → texts signals ≡ clock_names resets k domains → SignalsWere k domains resets signals
signals_were k [] [] [] uppers rise are = record { checks = λ before. tt; domains_are = refl; resets_are = refl }
signals_were k [] (r ∷ resets) signals uppers rise are = let low = rise.0 in let high = rise.1 in absurd (omega arith)
signals_were k [] [] (s ∷ signals) uppers rise are = absurd (cc)
signals_were k (d ∷ domains) resets [] uppers rise are = absurd (cc)
signals_were k (d ∷ domains) [] (s ∷ signals) uppers rise are =
    alone_back k s signals d domains [] uppers.0 (first_text are) (signals_were (k + 1) domains [] signals uppers.1 tt (later_texts are))
signals_were k (d ∷ domains) (r ∷ resets) (s ∷ signals) uppers rise are =
    by_case (eqb r.number k) refl (λ rest rising names. signals_were (k + 1) domains resets rest uppers.1 rising names) (λ rising names. signals_were (k + 1) domains (r ∷ resets) signals uppers.1 rising names)
  where
    ends : k + suc (length domains) ≡ k + 1 + length domains
    ends = omega arith

    behind : Bool → List (List ℕ)
    behind b = cond b (reset_name d ∷ []) []

    others : r.number ≡ k → (j : ℕ) → k + 1 ≤ j → is_one_of (r ∷ resets) (dom j) ≡ is_one_of resets (dom j)
    others same j from = ap (λ (b : Bool). b || is_one_of resets (dom j)) (ne_eqb r.number j (λ also. omega arith))

    with_one : (signals : List Word) → r.number ≡ k → ((rest : List Word) → RiseWithin (k + 1) (k + 1 + length domains) resets → texts rest ≡ clock_names resets (k + 1) domains → SignalsWere (k + 1) domains resets rest)
        → texts (s ∷ signals) ≡ clock_name d ∷ reset_name d ∷ clock_names (r ∷ resets) (k + 1) domains → SignalsWere k (d ∷ domains) (r ∷ resets) (s ∷ signals)
    with_one [] same later names = absurd (cc)
    with_one (t ∷ rest) same later names =
        let more : texts rest ≡ clock_names resets (k + 1) domains = later_texts (later_texts names) ∙ names_agree (r ∷ resets) resets (k + 1) domains (others same) in
        let rising : RiseWithin (k + 1) (k + 1 + length domains) resets = rw ends at (subst (λ (n : ℕ). RiseWithin (n + 1) (k + suc (length domains)) resets) same rise.2) in
        subst (λ (x : DomId). SignalsWere k (d ∷ domains) (x ∷ resets) (s ∷ t ∷ rest)) (λ i. dom (sym same i))
        (reset_back k s t rest d domains resets uppers.0 (first_text names) (first_text (later_texts names)) (later rest rising more))

    by_case : (b : Bool) → eqb r.number k ≡ b → ((rest : List Word) → RiseWithin (k + 1) (k + 1 + length domains) resets → texts rest ≡ clock_names resets (k + 1) domains → SignalsWere (k + 1) domains resets rest)
        → (RiseWithin (k + 1) (k + 1 + length domains) (r ∷ resets) → texts signals ≡ clock_names (r ∷ resets) (k + 1) domains → SignalsWere (k + 1) domains (r ∷ resets) signals)
        → SignalsWere k (d ∷ domains) (r ∷ resets) (s ∷ signals)
    by_case true is one other =
        let here : is_one_of (r ∷ resets) (dom k) ≡ true = ap (λ (b : Bool). b || is_one_of resets (dom k)) is in
        with_one signals (eqb-true r.number k is) one (are ∙ ap (λ (b : Bool). (clock_name d ∷ cond b (reset_name d ∷ []) []) ++ clock_names (r ∷ resets) (k + 1) domains) here)
    by_case false is one other =
        let low = rise.0 in
        let apart = eqb-false r.number k is in
        let rising : RiseWithin (k + 1) (k + 1 + length domains) (r ∷ resets) = (omega arith, rw ends at rise.1, rw ends at rise.2) in
        let none : is_one_of (r ∷ resets) (dom k) ≡ false = none_below (k + 1) (k + 1 + length domains) k (r ∷ resets) rising (omega arith) in
        let names : texts (s ∷ signals) ≡ clock_name d ∷ clock_names (r ∷ resets) (k + 1) domains =
        are ∙ ap (λ (b : Bool). (clock_name d ∷ cond b (reset_name d ∷ []) []) ++ clock_names (r ∷ resets) (k + 1) domains) none in
        alone_back k s signals d domains (r ∷ resets) uppers.0 (first_text names) (other rising (later_texts names))
