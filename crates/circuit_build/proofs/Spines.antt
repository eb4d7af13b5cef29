-- Heads with their arguments.
use Rattle.std.proofs.Common.{◌≡◌, ◌∙◌, sym, subst, List, []}
use Rattle.chw_terms.specs.declared.term.Arg.{Arg}
use Rattle.chw_terms.specs.declared.term.Head.{Head}
use Rattle.chw_terms.specs.TermTree.{TermTree}
use Rattle.chw_terms.specs.TermView.{tree_of, applied}
use Rattle.net_built.specs.Terms.{head_of}
use Rattle.net_ready.specs.Ready.{args_of}
use Rattle.value_build.proofs.Spines.{args_are, bare_is, head_is}

-- what holds of the head and the arguments of the whole holds of the parts
pub spine_holds : (P : TermTree → List Arg → Type 0) (h : Head) (args : List Arg) (e : TermTree)
    → applied (tree_of h) args ≡ e → P (head_of e) (args_of e) → P (tree_of h) args
spine_holds P h args e is p =
    subst (λ k. P k args) (sym (head_is h args e is)) (subst (P (head_of e)) (sym (args_are h args e is)) p)

-- what has no arguments is its head
pub bare_head : (h : Head) (args : List Arg) (e : TermTree) → applied (tree_of h) args ≡ e → args_of e ≡ [] → tree_of h ≡ e
bare_head h args e is none = sym (bare_is (tree_of h) args (args_are h args e is ∙ none)) ∙ is
