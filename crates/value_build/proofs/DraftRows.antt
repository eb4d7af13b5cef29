-- Bindings and alternatives of drafts one after the other.
use Rattle.std.proofs.Common.{◌≡◌, ◌∙◌, sym, ap, refl, subst, ℕ, ◌+◌, ◌<◌, ◌≤◌, arith, add-one, List, [], ◌∷◌, ◌++◌, drop, drop-cons, length, get_or, append_assoc, append-nil, length-append}
use Rattle.std.proofs.lemmas.List.{drop_all}
use Rattle.chw_base.specs.declared.index.WireId.{WireId}
use Rattle.chw_terms.specs.declared.term.Alt.{Alt}
use Rattle.chw_terms.specs.declared.term.Binding.{Binding}
use Rattle.chw_terms.specs.TermView.{group_of, alts_of}
use Rattle.net_built.specs.Circuits.{Ground}
use Rattle.net_built.specs.Data.{field_cuts}
use Rattle.net_built.specs.Terms.{Variable}
use Rattle.net_built.specs.Wires.{Piece, nothing, ◌▸◌, after}
use Rattle.net_ready.specs.Drafts.{Known, GroupDrafted, drafted_none, drafted_and, SideDrafted, AltsDrafted, drafted_no_alts, drafted_alt}
use Rattle.net_pieces.proofs.Behind.{behind_both, behind_nothing, next_behind}
use Rattle.value_build.specs.Added.{next}
use Rattle.value_build.specs.Drafting.{Drafts, AltDrafted}
use Rattle.value_build.specs.declared.drafts.Draft.{Draft}
use Rattle.value_build.proofs.Behind.{after_both, two_behind}
use Rattle.value_build.proofs.DraftParts.{at_behind, drafts_nothing}

-- so many bindings are drafted, and these are their wires: with what is drafted of the others, all are
abbrev pub GroupSoFar : Ground → Known → ℕ → List Variable → ℕ → List Binding → ℕ → List (List WireId) → Known → Piece → Type 0
GroupSoFar ground known at scope n bs i found inner p =
    (q : Piece) (more : List (List WireId)) (rest : Known)
    → GroupDrafted ground known (at + length inner) scope (after n p) (group_of (drop i bs)) q more rest
    → GroupDrafted ground known at scope n (group_of bs) (p ▸ q) (found ++ more) (inner ++ rest)

after_nothing : (n : ℕ) → after n nothing ≡ n
after_nothing n = omega arith

no_more : (at : ℕ) → at + 0 ≡ at
no_more at = omega arith

-- the numbers behind two lists of letrecs
twice_at : (at : ℕ) (a b : Known) → (at + length a) + length b ≡ at + length (a ++ b)
twice_at at a b = omega (arith, length-append a b)

pub group_begun : (ground : Ground) (known : Known) (scope : List Variable) (bs : List Binding) (s : Draft)
    → Drafts (λ at n p inner. GroupSoFar ground known at scope n bs 0 [] inner p) s s
group_begun ground known scope bs s =
    let at : ℕ = length s.found.items in
    let n : ℕ = next s.into in
    drafts_nothing (λ at n p inner. GroupSoFar ground known at scope n bs 0 [] inner p) s
    (λ q more rest drafted.
    subst (λ k. GroupDrafted ground known k scope n (group_of bs) q more rest) (no_more at)
    (subst (λ k. GroupDrafted ground known (at + 0) scope k (group_of bs) q more rest) (after_nothing n) drafted))

pub group_grown : (ground : Ground) (known : Known) (scope : List Variable) (bs : List Binding) (i : ℕ) (b : Binding)
    (found more : List (List WireId)) (wires : List WireId) (s t u : Draft)
    → i < length bs → b ≡ get_or bs i b → more ≡ found ++ wires ∷ []
    → Drafts (λ at n p inner. GroupSoFar ground known at scope n bs i found inner p) s t
    → Drafts (λ at n p inner. SideDrafted ground known at scope n b.ty b.body p wires inner) t u
    → Drafts (λ at n p inner. GroupSoFar ground known at scope n bs (i + 1) more inner p) s u
group_grown ground known scope bs i b found more wires s t u l is grown before side =
    let at : ℕ = length s.found.items in
    let n : ℕ = next s.into in
    let p : Piece = before.piece in
    let r : Piece = side.piece in
    let a : Known = before.inner in
    let d : Known = side.inner in
    let rest : drop i bs ≡ b ∷ drop (i + 1) bs = drop-cons bs i b l ∙ (λ k. sym is k ∷ drop (sym (add-one i) k) bs) in
    let here : next t.into ≡ after n p = next_behind s.into t.into p before.is in
    let number : length t.found.items ≡ at + length a = at_behind s t a before.found in
    let one = subst (λ k. SideDrafted ground known (at + length a) scope k b.ty b.body r wires d) here
    (subst (λ k. SideDrafted ground known k scope (next t.into) b.ty b.body r wires d) number side.holds) in
    record {
      piece = p ▸ r;
      inner = a ++ d;
      is = two_behind s.into t.into u.into p r before.is side.is;
      found = side.found ∙ ap (λ ys. ys ++ d) before.found ∙ append_assoc s.found.items a d;
      holds = λ q behind inside drafted.
          let there = subst (λ k. GroupDrafted ground known ((at + length a) + length d) scope k (group_of (drop (i + 1) bs)) q behind inside) (sym (after_both n p r))
          (subst (λ k. GroupDrafted ground known k scope (after n (p ▸ r)) (group_of (drop (i + 1) bs)) q behind inside) (sym (twice_at at a d)) drafted) in
          let both = drafted_and one there in
          let left = subst (λ ds. GroupDrafted ground known (at + length a) scope (after n p) (group_of ds) (r ▸ q) (wires ∷ behind) (d ++ inside)) (sym rest) both in
          let all = before.holds (r ▸ q) (wires ∷ behind) (d ++ inside) left in
          subst (λ ks. GroupDrafted ground known at scope n (group_of bs) ((p ▸ r) ▸ q) (more ++ behind) ks) (sym (append_assoc a d inside))
          (subst (λ ws. GroupDrafted ground known at scope n (group_of bs) ((p ▸ r) ▸ q) ws (a ++ (d ++ inside)))
          (sym (append_assoc found (wires ∷ []) behind) ∙ ap (λ ws. ws ++ behind) (sym grown))
          (subst (λ k. GroupDrafted ground known at scope n (group_of bs) k (found ++ (wires ∷ behind)) (a ++ (d ++ inside))) (sym (behind_both p r q)) all));
    }

pub group_whole : (ground : Ground) (known : Known) (scope : List Variable) (bs : List Binding) (i : ℕ) (found : List (List WireId)) (s t : Draft)
    → length bs ≤ i
    → Drafts (λ at n p inner. GroupSoFar ground known at scope n bs i found inner p) s t
    → Drafts (λ at n p inner. GroupDrafted ground known at scope n (group_of bs) p found inner) s t
group_whole ground known scope bs i found s t l before =
    let at : ℕ = length s.found.items in
    let n : ℕ = next s.into in
    let p : Piece = before.piece in
    let a : Known = before.inner in
    let none : drop i bs ≡ [] = drop_all i bs l in
    let empty = subst (λ ds. GroupDrafted ground known (at + length a) scope (after n p) (group_of ds) nothing [] []) (sym none) drafted_none in
    let all = before.holds nothing [] [] empty in
    record {
      piece = p;
      inner = a;
      is = before.is;
      found = before.found;
      holds = subst (λ ks. GroupDrafted ground known at scope n (group_of bs) p found ks) (append-nil a)
          (subst (λ ws. GroupDrafted ground known at scope n (group_of bs) p ws (a ++ [])) (append-nil found)
          (subst (λ k. GroupDrafted ground known at scope n (group_of bs) k (found ++ []) (a ++ [])) (behind_nothing p) all));
    }

-- so many alternatives are drafted, and these are the wires of their results
abbrev pub AltsSoFar : Ground → Known → ℕ → List Variable → Variable → (below n : ℕ) → List Alt → ℕ → List (List WireId) → Known → Piece → Type 0
AltsSoFar ground known at scope it below n alts i found inner p =
    (q : Piece) (more : List (List WireId)) (rest : Known)
    → AltsDrafted ground known (at + length inner) scope it below (after n p) (alts_of (drop i alts)) q more rest
    → AltsDrafted ground known at scope it below n (alts_of alts) (p ▸ q) (found ++ more) (inner ++ rest)

pub alts_begun : (ground : Ground) (known : Known) (scope : List Variable) (it : Variable) (below : ℕ) (alts : List Alt) (s : Draft)
    → Drafts (λ at n p inner. AltsSoFar ground known at scope it below n alts 0 [] inner p) s s
alts_begun ground known scope it below alts s =
    let at : ℕ = length s.found.items in
    let n : ℕ = next s.into in
    drafts_nothing (λ at n p inner. AltsSoFar ground known at scope it below n alts 0 [] inner p) s
    (λ q more rest drafted.
    subst (λ k. AltsDrafted ground known k scope it below n (alts_of alts) q more rest) (no_more at)
    (subst (λ k. AltsDrafted ground known (at + 0) scope it below k (alts_of alts) q more rest) (after_nothing n) drafted))

one_alt : (ground : Ground) (known : Known) (at : ℕ) (scope : List Variable) (it : Variable) (below n : ℕ) (a : Alt) (r q : Piece)
    (wires : List WireId) (more : List Alt) (behind : List (List WireId)) (inner rest : Known)
    → AltDrafted ground known at scope it below n a.pattern a.body r wires inner
    → AltsDrafted ground known (at + length inner) scope it below (after n r) (alts_of more) q behind rest
    → AltsDrafted ground known at scope it below n (alts_of (a ∷ more)) (r ▸ q) (wires ∷ behind) (inner ++ rest)
one_alt ground known at scope it below n a r q wires more behind inner rest here there =
    let cuts : Piece = field_cuts below it.wires here.widths n in
    let seam : after n r ≡ after (after n cuts) here.block = ap (after n) here.whole ∙ sym (after_both n cuts here.block) in
    let left = subst (λ k. AltsDrafted ground known (at + length inner) scope it below k (alts_of more) q behind rest) seam there in
    let all = drafted_alt here.widths here.binds here.are refl here.drafted left in
    subst (λ k. AltsDrafted ground known at scope it below n (alts_of (a ∷ more)) k (wires ∷ behind) (inner ++ rest))
    (sym (behind_both cuts here.block q) ∙ ap (λ (k : Piece). k ▸ q) (sym here.whole)) all

pub alts_grown : (ground : Ground) (known : Known) (scope : List Variable) (it : Variable) (below : ℕ) (alts : List Alt) (i : ℕ) (a : Alt)
    (found more : List (List WireId)) (wires : List WireId) (s t u : Draft)
    → i < length alts → a ≡ get_or alts i a → more ≡ found ++ wires ∷ []
    → Drafts (λ at n p inner. AltsSoFar ground known at scope it below n alts i found inner p) s t
    → Drafts (λ at n p inner. AltDrafted ground known at scope it below n a.pattern a.body p wires inner) t u
    → Drafts (λ at n p inner. AltsSoFar ground known at scope it below n alts (i + 1) more inner p) s u
alts_grown ground known scope it below alts i a found more wires s t u l is grown before side =
    let at : ℕ = length s.found.items in
    let n : ℕ = next s.into in
    let p : Piece = before.piece in
    let r : Piece = side.piece in
    let c : Known = before.inner in
    let d : Known = side.inner in
    let rest : drop i alts ≡ a ∷ drop (i + 1) alts = drop-cons alts i a l ∙ (λ k. sym is k ∷ drop (sym (add-one i) k) alts) in
    let here : next t.into ≡ after n p = next_behind s.into t.into p before.is in
    let number : length t.found.items ≡ at + length c = at_behind s t c before.found in
    let one = subst (λ k. AltDrafted ground known (at + length c) scope it below k a.pattern a.body r wires d) here
    (subst (λ k. AltDrafted ground known k scope it below (next t.into) a.pattern a.body r wires d) number side.holds) in
    record {
      piece = p ▸ r;
      inner = c ++ d;
      is = two_behind s.into t.into u.into p r before.is side.is;
      found = side.found ∙ ap (λ ys. ys ++ d) before.found ∙ append_assoc s.found.items c d;
      holds = λ q behind inside drafted.
          let there = subst (λ k. AltsDrafted ground known ((at + length c) + length d) scope it below k (alts_of (drop (i + 1) alts)) q behind inside) (sym (after_both n p r))
          (subst (λ k. AltsDrafted ground known k scope it below (after n (p ▸ r)) (alts_of (drop (i + 1) alts)) q behind inside) (sym (twice_at at c d)) drafted) in
          let both = one_alt ground known (at + length c) scope it below (after n p) a r q wires (drop (i + 1) alts) behind d inside one there in
          let left = subst (λ ds. AltsDrafted ground known (at + length c) scope it below (after n p) (alts_of ds) (r ▸ q) (wires ∷ behind) (d ++ inside)) (sym rest) both in
          let all = before.holds (r ▸ q) (wires ∷ behind) (d ++ inside) left in
          subst (λ ks. AltsDrafted ground known at scope it below n (alts_of alts) ((p ▸ r) ▸ q) (more ++ behind) ks) (sym (append_assoc c d inside))
          (subst (λ ws. AltsDrafted ground known at scope it below n (alts_of alts) ((p ▸ r) ▸ q) ws (c ++ (d ++ inside)))
          (sym (append_assoc found (wires ∷ []) behind) ∙ ap (λ ws. ws ++ behind) (sym grown))
          (subst (λ k. AltsDrafted ground known at scope it below n (alts_of alts) k (found ++ (wires ∷ behind)) (c ++ (d ++ inside))) (sym (behind_both p r q)) all));
    }

pub alts_whole : (ground : Ground) (known : Known) (scope : List Variable) (it : Variable) (below : ℕ) (alts : List Alt) (i : ℕ) (found : List (List WireId)) (s t : Draft)
    → length alts ≤ i
    → Drafts (λ at n p inner. AltsSoFar ground known at scope it below n alts i found inner p) s t
    → Drafts (λ at n p inner. AltsDrafted ground known at scope it below n (alts_of alts) p found inner) s t
alts_whole ground known scope it below alts i found s t l before =
    let at : ℕ = length s.found.items in
    let n : ℕ = next s.into in
    let p : Piece = before.piece in
    let a : Known = before.inner in
    let none : drop i alts ≡ [] = drop_all i alts l in
    let empty = subst (λ ds. AltsDrafted ground known (at + length a) scope it below (after n p) (alts_of ds) nothing [] []) (sym none) drafted_no_alts in
    let all = before.holds nothing [] [] empty in
    record {
      piece = p;
      inner = a;
      is = before.is;
      found = before.found;
      holds = subst (λ ks. AltsDrafted ground known at scope it below n (alts_of alts) p found ks) (append-nil a)
          (subst (λ ws. AltsDrafted ground known at scope it below n (alts_of alts) p ws (a ++ [])) (append-nil found)
          (subst (λ k. AltsDrafted ground known at scope it below n (alts_of alts) k (found ++ []) (a ++ [])) (behind_nothing p) all));
    }
