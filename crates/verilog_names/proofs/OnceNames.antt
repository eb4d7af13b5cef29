-- Names declared one list after the other.
use Rattle.std.proofs.Common.{◌≡◌, ℕ, ◌+◌, ◌<◌, ◌≤◌, List, [], ◌∷◌, ◌++◌, length, get_or, take, map, Option, not, refl, sym, ap, ◌∙◌, subst, append_assoc}
use Rattle.std.specs.List.{flat_map}
use Rattle.std.proofs.lemmas.Grind.{flat_map-append}
use Rattle.std.proofs.lemmas.List.{append-nil, map-append, take_all, take_more}
use Rattle.name_tables.specs.Names.{is_among}
use Rattle.verilog_checks.proofs.Steps.{least_after_both}
use Rattle.verilog_names.specs.Declares.{Declares}
use Rattle.verilog_checks.specs.Least.{least_after}
use Rattle.verilog_rules.specs.Checks.{check}
use Rattle.verilog_rules.specs.Declarations.{port_word}
use Rattle.verilog_rules.specs.NameRules.{once_checks, texts}
use Rattle.verilog_tree.specs.Sources.{bytes_of}
use Rattle.verilog_tree.specs.declared.module.Port.{Port}
use Rattle.verilog_tree.specs.declared.word.Word.{Word}

-- the checks of words, and then of others behind them
once_both : (before : List (List ℕ)) (first others : List Word) → once_checks before (first ++ others) ≡ once_checks before first ++ once_checks (before ++ texts first) others
once_both before [] others = ap (λ b. once_checks b others) (sym (append-nil before))
once_both before (w ∷ first) others =
    ap (λ cs. check w.at (not (is_among before (bytes_of w))) ∷ cs) (once_both (before ++ bytes_of w ∷ []) first others
    ∙ ap (λ b. once_checks (before ++ bytes_of w ∷ []) first ++ once_checks b others) (append_assoc before (bytes_of w ∷ []) (texts first)))

-- no words
pub declares_none : {names : List (List ℕ)} {least : Option ℕ} → Declares names names least least []
declares_none {names = names} = record { names = sym (append-nil names); checks = refl }

-- words, and then others
pub declares_then : {before mid after : List (List ℕ)} {least between next : Option ℕ} (first others : List Word) → Declares before mid least between first → Declares mid after between next others
    → Declares before after least next (first ++ others)
declares_then {before = before} {mid = mid} {least = least} first others d e = record {
  names = e.names ∙ ap (λ b. b ++ texts others) d.names ∙ append_assoc before (texts first) (texts others) ∙ ap (λ b. before ++ b) (sym (map-append bytes_of first others));
  checks =
      e.checks ∙ ap (λ l. least_after l (once_checks mid others)) d.checks
      ∙ ap (λ b. least_after (least_after least (once_checks before first)) (once_checks b others)) d.names
      ∙ sym (least_after_both least (once_checks before first) (once_checks (before ++ texts first) others))
      ∙ ap (least_after least) (sym (once_both before first others));
}

-- the words of one item more
pub declares_more : {X : Type 0} (f : X → List Word) (xs : List X) (i : ℕ) (x d : X) {before mid after : List (List ℕ)} {least between next : Option ℕ} → i < length xs → x ≡ get_or xs i d
    → Declares before mid least between (flat_map f (take i xs)) → Declares mid after between next (f x) → Declares before after least next (flat_map f (take (i + 1) xs))
declares_more f xs i x d {before = before} {after = after} {least = least} {next = next} lt is e h =
    subst (λ ws. Declares before after least next ws)
    (sym (ap (flat_map f) (take_more xs i d lt) ∙ flat_map-append f (take i xs) (get_or xs i d ∷ []) ∙ ap (λ l. flat_map f (take i xs) ++ l) (append-nil (f (get_or xs i d)) ∙ ap f (sym is))))
    (declares_then (flat_map f (take i xs)) (f x) e h)

pub declares_all : {X : Type 0} (f : X → List Word) (xs : List X) (i : ℕ) {before after : List (List ℕ)} {least next : Option ℕ} → length xs ≤ i
    → Declares before after least next (flat_map f (take i xs)) → Declares before after least next (flat_map f xs)
declares_all f xs i {before = before} {after = after} {least = least} {next = next} le e = subst (λ ws. Declares before after least next ws) (ap (flat_map f) (take_all i xs le)) e

-- the names of ports
pub port_words_are : (ports : List Port) → flat_map (λ (p : Port). port_word p ∷ []) ports ≡ map port_word ports
port_words_are [] = refl
port_words_are (p ∷ ports) = ap (λ ws. port_word p ∷ ws) (port_words_are ports)
