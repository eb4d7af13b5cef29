-- Bindings one after the other.
use Rattle.std.proofs.Common.{◌≡◌, ◌∙◌, sym, ap, subst, ℕ, ◌+◌, ◌<◌, ◌≤◌, arith, add-one, List, [], ◌∷◌, ◌++◌, drop, drop-cons, length, get_or, append_assoc, append-nil}
use Rattle.std.proofs.lemmas.List.{drop_all}
use Rattle.chw_base.specs.declared.index.WireId.{WireId}
use Rattle.chw_terms.specs.declared.scene.Sort.{Sort}
use Rattle.chw_terms.specs.declared.term.Binding.{Binding}
use Rattle.chw_terms.specs.TermView.{group_of}
use Rattle.net_built.specs.Bodies.{GroupBuilt, group_none, group_and, SideBuilt}
use Rattle.net_built.specs.Circuits.{Ground}
use Rattle.net_built.specs.Terms.{Variable}
use Rattle.net_built.specs.Wires.{Piece, nothing, ◌▸◌, after}
use Rattle.value_build.specs.Added.{Adds, next}
use Rattle.value_build.specs.Groups.{bound_of}
use Rattle.net_pieces.proofs.Behind.{behind_both, behind_nothing, next_behind}
use Rattle.value_build.proofs.Behind.{after_both, two_behind, adds_nothing}

-- so many bindings are built, and these are their wires: with what is built of the others, all are
abbrev pub GroupSoFar : Ground → Sort → List Variable → ℕ → List Binding → ℕ → List (List WireId) → Piece → Type 0
GroupSoFar ground sort scope n bs i found p =
    (q : Piece) (more : List (List WireId))
    → GroupBuilt ground sort scope (after n p) (group_of (drop i bs)) q (bound_of (drop i bs) more)
    → GroupBuilt ground sort scope n (group_of bs) (p ▸ q) (bound_of bs (found ++ more))

after_nothing : (n : ℕ) → after n nothing ≡ n
after_nothing n = omega arith

pub group_begun : (ground : Ground) (sort : Sort) (scope : List Variable) (bs : List Binding) (s : Piece)
    → Adds (GroupSoFar ground sort scope (next s) bs 0 []) s s
group_begun ground sort scope bs s =
    adds_nothing (GroupSoFar ground sort scope (next s) bs 0 []) s
    (λ q more built. subst (λ k. GroupBuilt ground sort scope k (group_of bs) q (bound_of bs more)) (after_nothing (next s)) built)

pub group_grown : (ground : Ground) (sort : Sort) (scope : List Variable) (bs : List Binding) (i : ℕ) (b : Binding)
    (found more : List (List WireId)) (wires : List WireId) (s t u : Piece)
    → i < length bs → b ≡ get_or bs i b → more ≡ found ++ wires ∷ []
    → Adds (GroupSoFar ground sort scope (next s) bs i found) s t
    → Adds (λ p. SideBuilt ground sort scope (next t) b.ty b.body p wires) t u
    → Adds (GroupSoFar ground sort scope (next s) bs (i + 1) more) s u
group_grown ground sort scope bs i b found more wires s t u l is grown before side =
    let n : ℕ = next s in
    let p : Piece = before.piece in
    let r : Piece = side.piece in
    let rest : drop i bs ≡ b ∷ drop (i + 1) bs = drop-cons bs i b l ∙ (λ k. sym is k ∷ drop (sym (add-one i) k) bs) in
    record {
      piece = p ▸ r;
      is = two_behind s t u p r before.is side.is;
      holds = λ q behind built.
          let at : next t ≡ after n p = next_behind s t p before.is in
          let here = subst (λ k. SideBuilt ground sort scope k b.ty b.body r wires) at side.holds in
          let there = subst (λ k. GroupBuilt ground sort scope k (group_of (drop (i + 1) bs)) q (bound_of (drop (i + 1) bs) behind)) (sym (after_both n p r)) built in
          let both = group_and here there in
          let left = subst (λ ds. GroupBuilt ground sort scope (after n p) (group_of ds) (r ▸ q) (bound_of ds (wires ∷ behind))) (sym rest) both in
          subst (λ ws. GroupBuilt ground sort scope n (group_of bs) ((p ▸ r) ▸ q) (bound_of bs ws))
          (sym (append_assoc found (wires ∷ []) behind) ∙ ap (λ ws. ws ++ behind) (sym grown))
          (subst (λ k. GroupBuilt ground sort scope n (group_of bs) k (bound_of bs (found ++ (wires ∷ behind)))) (sym (behind_both p r q)) (before.holds (r ▸ q) (wires ∷ behind) left));
    }

pub group_whole : (ground : Ground) (sort : Sort) (scope : List Variable) (bs : List Binding) (i : ℕ)
    (found : List (List WireId)) (s t : Piece)
    → length bs ≤ i
    → Adds (GroupSoFar ground sort scope (next s) bs i found) s t
    → Adds (λ p. GroupBuilt ground sort scope (next s) (group_of bs) p (bound_of bs found)) s t
group_whole ground sort scope bs i found s t l before =
    let n : ℕ = next s in
    let p : Piece = before.piece in
    let none : drop i bs ≡ [] = drop_all i bs l in
    let empty = subst (λ ds. GroupBuilt ground sort scope (after n p) (group_of ds) nothing (bound_of ds [])) (sym none) group_none in
    let all = before.holds nothing [] empty in
    record {
      piece = p;
      is = before.is;
      holds = subst (λ ws. GroupBuilt ground sort scope n (group_of bs) p (bound_of bs ws)) (append-nil found)
          (subst (λ k. GroupBuilt ground sort scope n (group_of bs) k (bound_of bs (found ++ []))) (behind_nothing p) all);
    }
