-- What the symbols read, the grammar reads.
use Rattle.std.specs.Prelude.{◌≡◌, ℕ, ◌<◌, ◌≤◌, zero, suc, List, [], ◌∷◌, ◌++◌, refl}
use Rattle.std.proofs.Common.{arith, subst}
use Rattle.chw_grammar.specs.declared.program.Tree.{Tree}
use Rattle.chw_grammar.specs.Lexemes.{Lexeme, next}
use Rattle.chw_grammar.specs.Grammar.{TopAt, Reads}
use Rattle.chw_parser.specs.declared.symbol.Symbol.{Symbol}
use Rattle.chw_parser.specs.declared.symbol.Symbol.TheVariants.{Token, Word, Kind, Reset, Part, Act}
use Rattle.chw_parser.specs.declared.symbol.Rule.{Rule}
use Rattle.chw_parser.specs.declared.symbol.Rule.TheVariants as rule
use Rattle.chw_parser.specs.Machine.{Reading, end, on_token, on_word, on_kind, on_reset, on_part, on_act}
use Rattle.chw_parser.proofs.Chosen.{is_production}
use Rattle.chw_parser.proofs.ReadPrograms.{start}
use Rattle.chw_parser.proofs.Said.{PartAt, Sequence, seq_done, seq_token, seq_word, seq_kind, seq_reset, seq_part, seq_act, said}

-- a front of the tokens is this part, and the other symbols read what is left, in fewer steps
pub record Found (x : Rule) (s : List Symbol) (a : List Lexeme) (n : ℕ) : Type 0 where
  pub after : List Lexeme
  pub steps : ℕ
  pub fewer : steps < n
  pub part : PartAt x a after
  pub others : Reading steps s after

pub record FoundAll (p s : List Symbol) (a : List Lexeme) (n : ℕ) : Type 0 where
  pub after : List Lexeme
  pub steps : ℕ
  pub fewer : steps ≤ n
  pub parts : Sequence p a after
  pub others : Reading steps s after

abbrev Known : ℕ → Type 0
Known f = (x : Rule) (n : ℕ) (s : List Symbol) (a : List Lexeme) → Reading n (Part x ∷ s) a → n ≤ f → Found x s a n

all_found : (f : ℕ) → Known f → (p : List Symbol) (n : ℕ) (s : List Symbol) (a : List Lexeme) → Reading n (p ++ s) a → n ≤ f → FoundAll p s a n
all_found f ih [] n s a r h = record { after = a; steps = n; fewer = omega arith; parts = seq_done; others = r }
all_found f ih (Token x ∷ p) _ s _ (on_token {n = n} {l = l} {ls = a} e r) h =
    let g = all_found f ih p n s a r (omega arith) in
    record { after = g.after; steps = g.steps; fewer = omega (arith, g.fewer); parts = seq_token l e g.parts; others = g.others }
all_found f ih (Word x ∷ p) _ s _ (on_word {n = n} {l = l} {ls = a} e r) h =
    let g = all_found f ih p n s a r (omega arith) in
    record { after = g.after; steps = g.steps; fewer = omega (arith, g.fewer); parts = seq_word l e g.parts; others = g.others }
all_found f ih (Kind ∷ p) _ s _ (on_kind {n = n} {l = l} {ls = a} k e r) h =
    let g = all_found f ih p n s a r (omega arith) in
    record { after = g.after; steps = g.steps; fewer = omega (arith, g.fewer); parts = seq_kind k l e g.parts; others = g.others }
all_found f ih (Reset ∷ p) _ s _ (on_reset {n = n} {l = l} {ls = a} e r) h =
    let g = all_found f ih p n s a r (omega arith) in
    record { after = g.after; steps = g.steps; fewer = omega (arith, g.fewer); parts = seq_reset l e g.parts; others = g.others }
all_found f ih (Part x ∷ p) n s a r h =
    let one = ih x n (p ++ s) a r h in
    let g = all_found f ih p one.steps s one.after one.others (omega (arith, one.fewer)) in
    record { after = g.after; steps = g.steps; fewer = omega (arith, g.fewer, one.fewer); parts = seq_part one.after one.part g.parts; others = g.others }
all_found f ih (Act x ∷ p) _ s a (on_act {n = n} r) h =
    let g = all_found f ih p n s a r (omega arith) in
    record { after = g.after; steps = g.steps; fewer = omega (arith, g.fewer); parts = seq_act g.parts; others = g.others }

pub part_found : (f : ℕ) → Known f
part_found zero x _ s a (on_part {n = n} p e r) h = absurd (omega arith)
part_found (suc f) x _ s a (on_part {n = n} p e r) h =
    let g = all_found f (part_found f) p n s a r (omega arith) in
    record { after = g.after; steps = g.steps; fewer = omega (arith, g.fewer); part = said (is_production x (next a) p e) g.parts; others = g.others }

nothing_left : (n : ℕ) (a : List Lexeme) → Reading n [] a → a ≡ []
nothing_left _ _ end = refl

pub tree_found : (n : ℕ) (a : List Lexeme) → Reading n start a → (tree : Tree) × Reads a tree
tree_found n a r =
    let g = part_found n rule.Program n [] a r (omega arith) in
    let d = g.part in (
      record { declarations = d.0; top = d.1 },
      record { last = d.2; declared = d.3; topped = subst (λ (z : List Lexeme). TopAt d.1 d.2 z) (nothing_left g.steps g.after g.others) d.4 },
    )
