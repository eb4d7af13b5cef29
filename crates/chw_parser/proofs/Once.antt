-- What symbols make of tokens is one thing.
use Rattle.std.specs.Prelude.{◌≡◌, Some, List, ◌∷◌, ◌++◌, refl}
use Rattle.std.proofs.Common.{sym, ap, ◌∙◌, subst}
use Rattle.chw_grammar.specs.declared.type_tree.KindTree.{KindTree}
use Rattle.chw_grammar.specs.declared.type_tree.KindTree.TheVariants as kinds
use Rattle.chw_grammar.specs.declared.terminal.Terminal.{Terminal}
use Rattle.chw_grammar.specs.declared.terminal.Terminal.TheVariants as the
use Rattle.chw_grammar.specs.Lexemes.{Lexeme, kind_terminal}
use Rattle.chw_parser.specs.declared.symbol.Symbol.{Symbol}
use Rattle.parser_parts.specs.declared.value.Value.{Value}
use Rattle.parser_parts.specs.declared.value.Value.TheVariants.{OneKind}
use Rattle.chw_parser.specs.Machine.{Runs, all_read, token, word, kind, reset, part, act}

kind_back : Terminal → KindTree
kind_back the.Nat = kinds.Nat
kind_back the.Dom = kinds.Dom
kind_back the.Val = kinds.Val
kind_back _ = kinds.Cir

kind_there_back : (k : KindTree) → kind_back (kind_terminal k) ≡ k
unfolding kind_back
kind_there_back kinds.Nat = refl
kind_there_back kinds.Dom = refl
kind_there_back kinds.Val = refl
kind_there_back kinds.Cir = refl

-- two kinds of one terminal are one
pub same_kind : (j k : KindTree) → kind_terminal j ≡ kind_terminal k → j ≡ k
same_kind j k e = sym (kind_there_back j) ∙ (ap kind_back e ∙ kind_there_back k)

pub some_same : {A : Type 0} {x y : A} → Some x ≡ Some y → x ≡ y
some_same e = cc

pub one_run : {s : List Symbol} {a : List Lexeme} {vs o1 o2 : List Value} → Runs s a vs o1 → Runs s a vs o2 → o1 ≡ o2
one_run all_read all_read = refl
one_run (token e r) (token f q) = one_run r q
one_run (word e r) (word f q) = one_run r q
one_run (reset e r) (reset f q) = one_run r q
one_run {s = s} {a = a} {vs = vs} {o1 = o1} {o2 = o2} (kind {s = s'} {ls = ls} j e r) (kind k f q) =
    one_run r (subst (λ (z : KindTree). Runs s' ls (OneKind z ∷ vs) o2) (same_kind k j (sym f ∙ e)) q)
one_run {vs = vs} {o2 = o2} (part {s = s'} {ls = ls} p e r) (part p' f q) =
    one_run r (subst (λ (z : List Symbol). Runs (z ++ s') ls vs o2) (some_same (sym f ∙ e)) q)
one_run {o2 = o2} (act {s = s'} {ls = ls} vs1 e r) (act vs2 f q) =
    one_run r (subst (λ (z : List Value). Runs s' ls z o2) (some_same (sym f ∙ e)) q)
