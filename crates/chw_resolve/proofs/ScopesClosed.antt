-- Binders that open together and close again.
use Rattle.std.proofs.Common.{◌≡◌, ℕ, List, [], ◌∷◌, length, drop, refl, sym, ap, ◌∙◌, arith}
use Rattle.std.specs.List.{flat_map}
use Rattle.chw_grammar.specs.declared.term_tree.Binding.{Binding}
use Rattle.chw_grammar.specs.declared.term_tree.Pattern.{Pattern as WrittenPattern}
use Rattle.chw_grammar.specs.declared.term_tree.Pattern.TheVariants as pattern
use Rattle.chw_names.specs.declared.globals.Globals.{Globals}
use Rattle.chw_names.specs.Twices.{binding_name, pattern_words}
use Rattle.chw_names.specs.Unknowns.{within}
use Rattle.chw_terms.specs.declared.term.Pattern.{Pattern}
use Rattle.chw_terms.specs.TermTree.{binders}
use Rattle.chw_names.proofs.Walking.{closed_again}
use Rattle.chw_resolve.specs.Terms.{pattern_in}

-- a binder that opened closes again
pub one_closed : (name : List ℕ) (names : List (List ℕ)) {opened inside after : List (List ℕ)} → opened ≡ name ∷ names → inside ≡ opened → after ≡ drop 1 inside → after ≡ names
one_closed name names opens same closes = closes ∙ ap (drop 1) (same ∙ opens)

count_of_names : (bs : List Binding) → length (flat_map binding_name bs) ≡ length bs
count_of_names [] = refl
count_of_names (b ∷ bs) = let rest = count_of_names bs in omega arith

pub group_closed : (bs : List Binding) (names : List (List ℕ)) → drop (length bs) (within (flat_map binding_name bs) names) ≡ names
group_closed bs names = ap (λ n. drop n (within (flat_map binding_name bs) names)) (sym (count_of_names bs)) ∙ closed_again (flat_map binding_name bs) names

-- as many binders close as a pattern opened
pub pattern_closed : (g : Globals) (q : WrittenPattern) (p : Pattern) (names : List (List ℕ)) → p ≡ pattern_in g q → drop (binders p) (within (pattern_words q) names) ≡ names
pattern_closed g (pattern.Constructor w ws) p names is = ap (λ (r : Pattern). drop (binders r) (within ws names)) is ∙ closed_again ws names
pattern_closed g (pattern.Literal w) p names is = ap (λ (r : Pattern). drop (binders r) names) is
pattern_closed g pattern.Default p names is = ap (λ (r : Pattern). drop (binders r) names) is
