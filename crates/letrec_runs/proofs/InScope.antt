-- The variables in scope at right sides, where a letrec joins.
use Rattle.std.proofs.Common.{◌≡◌, ◌∙◌, ◌≤◌, ℕ, ◌+◌, sym, ap, arith, List, [], ◌++◌, map, length, take, drop, append_assoc}
use Rattle.std.proofs.lemmas.List.{length-append}
use Rattle.std.proofs.Math.Seq.{take-append_seam, drop-append_seam}
use Rattle.chw_types.specs.TypeMoves.{Renaming, raised}
use Rattle.chw_types.specs.TypeTree.{TypeTree}
use Rattle.chw_terms.specs.declared.scene.Place.{Place}
use Rattle.chw_terms.specs.declared.term.Binding.{Binding}
use Rattle.chw_terms.specs.TermMoves.{rename, exchanged}
use Rattle.chw_terms.specs.TermTree.{TermTree}
use Rattle.chw_terms.specs.TermView.{group_of}
use Rattle.chw_typing.specs.Scopes.{declared}
use Rattle.active_parts.specs.Grounds.{with_variables}
use Rattle.moved_in_place.specs.Moves.{renamed_binding}
use Rattle.open_letrec.specs.Opened.{Opened, joined_one, put_first}
use Rattle.letrec_runs.specs.Rush.{in_order, place_in}
use Rattle.letrec_runs.proofs.Groups.{declared_joined, declared_length, declared_put, declared_renamed}

abbrev types : List Binding → List TypeTree
types bs = declared (group_of bs)

-- the types of all bindings then
joined_types : (v : Opened) (cs : List Binding) (x : TermTree) → declared (in_order (joined_one v cs x)) ≡ types v.settled ++ (types cs ++ types v.left)
joined_types v cs x =
    let room : Renaming = raised (length v.left) (length cs) in
    let swap : Renaming = exchanged (length cs) (length v.left) in
    let front = map (renamed_binding room) v.settled in
    let inner = map (renamed_binding swap) cs in
    let back = put_first (rename x swap) (map (renamed_binding room) v.left) in
    declared_joined front (inner ++ back)
    ∙ ap (λ ts. types front ++ ts) (declared_joined inner back)
    ∙ (λ i. declared_renamed room v.settled i ++ (declared_renamed swap cs i ++ (declared_put [] (map (renamed_binding room) v.left) (rename x swap) ∙ declared_renamed room v.left) i))

pub place_joined : (outer inner new : Place) (v : Opened) (cs : List Binding) (x : TermTree) (ts : List TypeTree) (n : ℕ)
    → inner ≡ place_in outer v → ts ≡ types cs → n ≡ length outer.vars + length v.settled
    → new ≡ with_variables inner (take n inner.vars ++ ts ++ drop n inner.vars) → new ≡ place_in outer (joined_one v cs x)
place_joined outer inner new v cs x ts n stands tq nq is =
    let O = outer.vars in
    let S = types v.settled in
    let L = types v.left in
    let all : inner.vars ≡ (O ++ S) ++ L =
    ap (λ (p : Place). p.vars) stands ∙ ap (λ us. O ++ us) (declared_joined v.settled v.left) ∙ sym (append_assoc O S L) in
    let count : n ≡ length (O ++ S) = nq ∙ ap (λ k. length O + k) (sym (declared_length v.settled)) ∙ sym (length-append O S) in
    let front : take n inner.vars ≡ O ++ S = (λ i. take (count i) (all i)) ∙ take-append_seam (O ++ S) L in
    let back : drop n inner.vars ≡ L = (λ i. drop (count i) (all i)) ∙ drop-append_seam (O ++ S) L in
    let vars : take n inner.vars ++ ts ++ drop n inner.vars ≡ O ++ declared (in_order (joined_one v cs x)) =
    (λ i. front i ++ tq i ++ back i) ∙ append_assoc (O ++ S) (types cs) L ∙ append_assoc O S (types cs ++ L) ∙ ap (λ us. O ++ us) (sym (joined_types v cs x)) in
    is ∙ (λ i. record { mode = (stands i).mode; result = (stands i).result; vars = vars i })

-- as many variables are in scope as come from outside and as there are bindings
pub count_in_scope : (outer inner : Place) (v : Opened) → inner ≡ place_in outer v → length inner.vars ≡ length outer.vars + (length v.settled + length v.left)
count_in_scope outer inner v stands =
    ap (λ (p : Place). length p.vars) stands ∙ length-append outer.vars (declared (in_order v))
    ∙ ap (λ n. length outer.vars + n) (declared_length (v.settled ++ v.left) ∙ length-append v.settled v.left)
