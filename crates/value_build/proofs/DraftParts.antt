-- Cases, alternatives and letrecs of drafts by their parts.
use Rattle.std.proofs.Common.{◌≡◌, ◌∙◌, sym, ap, refl, subst, ℕ, suc, ◌+◌, ◌-◌, ◌<◌, arith, Bool, List, [], ◌∷◌, ◌++◌, length, reverse, length-append, append_assoc, append-nil, Some}
use Rattle.std.specs.List.{slice_get, slice_set}
use Rattle.std.proofs.lemmas.List.{reverse-append, set_at}
use Rattle.chw_base.specs.declared.index.WireId.{WireId}
use Rattle.chw_types.specs.TypeTree.{TypeTree}
use Rattle.chw_terms.specs.declared.term.Binding.{Binding}
use Rattle.chw_terms.specs.declared.term.Pattern.{Pattern}
use Rattle.chw_terms.specs.TermTree.{TermTree, var, letrec, case_of, Alts}
use Rattle.chw_terms.specs.TermView.{group_of}
use Rattle.chw_typing.specs.Scopes.{declared}
use Rattle.chw_layout.specs.Measured.{HasWidth}
use Rattle.net_built.specs.Bodies.{ValueCells}
use Rattle.net_built.specs.Circuits.{Ground}
use Rattle.net_built.specs.Data.{Tested, tested_of, words_of, tests, test_wires, chosen_wires, case_cells, variables_from, field_cuts}
use Rattle.net_built.specs.Terms.{Variable, variable, wires_at, head_of, types_of, operands_of}
use Rattle.net_built.specs.Wires.{Piece, nothing, ◌▸◌, after, wire_count, wires_from}
use Rattle.net_ready.specs.Drafts.{Known, known_at, on_wires, BlockDrafted, drafted_letrec, GroupDrafted, SideDrafted, drafted_side, drafted_case, AltsDrafted}
use Rattle.net_pieces.proofs.Behind.{behind_nothing, behind_both, next_behind}
use Rattle.value_build.specs.Added.{Adds, next}
use Rattle.value_build.specs.Alternatives.{IsBound}
use Rattle.value_build.specs.Drafting.{Drafts, IsOpened, IsFilled, AltDrafted, CaseDrafted}
use Rattle.value_build.specs.Groups.{bound_of}
use Rattle.value_build.specs.Tests.{first_of, tests_and_choice, IsTested, IsChoice}
use Rattle.value_build.specs.declared.cases.Tested.{Tested as Held}
use Rattle.value_build.specs.declared.drafts.Draft.{Draft}
use Rattle.value_build.proofs.Behind.{two_behind}
use Rattle.value_build.proofs.Parts.{first_is}

-- nothing is added
pub drafts_nothing : (P : (at n : ℕ) → Piece → Known → Type 0) (s : Draft) → P (length s.found.items) (next s.into) nothing [] → Drafts P s s
drafts_nothing P s h = record { piece = nothing; inner = []; is = sym (behind_nothing s.into); found = sym (append-nil s.found.items); holds = h }

-- the number of the next letrec, behind others
pub at_behind : (s t : Draft) (inner : Known) → t.found.items ≡ s.found.items ++ inner → length t.found.items ≡ length s.found.items + length inner
at_behind s t inner is = ap length is ∙ length-append s.found.items inner

-- the variables of bindings, by their types
pub bound_is : (bs : List Binding) (wires : List (List WireId)) → bound_of bs wires ≡ on_wires (declared (group_of bs)) wires
bound_is [] wires = refl
bound_is (b ∷ bs) [] = ap (λ vs. variable b.ty [] ∷ vs) (bound_is bs [])
bound_is (b ∷ bs) (w ∷ wires) = ap (λ vs. variable b.ty w ∷ vs) (bound_is bs wires)

-- the place of a letrec stays there
pub place_there : (before opened later : List (List (List WireId))) (inner : Known) (place : ℕ)
    → place ≡ length before → opened ≡ before ++ [] ∷ [] → later ≡ opened ++ inner → place < length later
place_there before opened later inner place at one more =
    let gap : Known = [] ∷ [] in
    let size : length opened ≡ length before + 1 = ap length one ∙ length-append before gap in
    let all : length later ≡ length opened + length inner = ap length more ∙ length-append opened inner in
    omega (arith, at, size, all)

-- a letrec that gives a variable
pub letrec_drafted : (ground : Ground) (known : Known) (bs : List Binding) (x place : ℕ) (found : List (List WireId)) (result : List WireId)
    (outer inner : List Variable) (s t u v : Draft)
    → IsOpened s t place → inner ≡ outer ++ bound_of bs (known_at known place) → result ≡ wires_at (reverse inner) x
    → Drafts (λ at n p within. GroupDrafted ground known at (reverse inner) n (group_of bs) p found within) t u
    → IsFilled u v place found
    → Drafts (λ at n p within. BlockDrafted ground known at (reverse outer) n (letrec (group_of bs) (var x)) p result within) s v
letrec_drafted ground known bs x place found result outer inner s t u v opened entered is group filled =
    let at : ℕ = length s.found.items in
    let n : ℕ = next s.into in
    let types : List TypeTree = declared (group_of bs) in
    let bound : List Variable = on_wires types (known_at known at) in
    let vars : bound_of bs (known_at known place) ≡ bound =
    bound_is bs (known_at known place) ∙ ap (λ k. on_wires types (known_at known k)) opened.at in
    let scope : reverse inner ≡ reverse bound ++ reverse outer =
    ap reverse (entered ∙ ap (λ vs. outer ++ vs) vars) ∙ reverse-append outer bound in
    let gap : Known = [] ∷ [] in
    let one : length t.found.items ≡ at + 1 = at_behind s t gap opened.found in
    let number : length t.found.items ≡ suc at = omega (arith, one) in
    let first = subst (λ k. GroupDrafted ground known k (reverse inner) (next t.into) (group_of bs) group.piece found group.inner) number group.holds in
    let from = subst (λ k. GroupDrafted ground known (suc at) (reverse inner) k (group_of bs) group.piece found group.inner) (ap next opened.cells) first in
    let built = subst (λ vs. GroupDrafted ground known (suc at) vs n (group_of bs) group.piece found group.inner) scope from in
    let places : u.found.items ≡ s.found.items ++ [] ∷ group.inner =
    group.found ∙ ap (λ ys. ys ++ group.inner) opened.found ∙ append_assoc s.found.items gap group.inner in
    record {
      piece = group.piece;
      inner = found ∷ group.inner;
      is = filled.cells ∙ group.is ∙ ap (λ (k : Piece). k ▸ group.piece) opened.cells;
      found = filled.found ∙ ap (λ ys. slice_set ys place found) places ∙ set_at s.found.items [] group.inner found place (sym opened.at);
      holds = subst (λ ws. BlockDrafted ground known at (reverse outer) n (letrec (group_of bs) (var x)) group.piece ws (found ∷ group.inner))
          (sym (is ∙ ap (λ vs. wires_at vs x) scope)) (drafted_letrec built);
    }

-- a right side that is no case
pub flat_drafted : (ground : Ground) (known : Known) (at : ℕ) (scope : List Variable) (ty : TypeTree) (e : TermTree) (w : ℕ) (wires : List WireId) (s t : Piece)
    → HasWidth ground.datas ty w
    → wires ≡ wires_from (next t - wire_count (w ∷ [])) (wire_count (w ∷ []))
    → Adds (ValueCells ground scope (next s) w (head_of e) (types_of e) (operands_of e)) s t
    → Adds (λ p. SideDrafted ground known at scope (next s) ty e p wires []) s t
flat_drafted ground known at scope ty e w wires s t measured last cells =
    let p : Piece = cells.piece in
    let here : next t ≡ after (next s) p = next_behind s t p cells.is in
    record {
      piece = p;
      is = cells.is;
      holds = subst (λ ws. SideDrafted ground known at scope (next s) ty e p ws [])
          (sym (last ∙ ap (λ n. wires_from (n - wire_count (w ∷ [])) (wire_count (w ∷ []))) here))
          (drafted_side measured cells.holds);
    }

-- cells alone are a draft without letrecs
pub drafts_cells : (P : (at n : ℕ) → Piece → Known → Type 0) (s t : Draft) → t.found.items ≡ s.found.items
    → Adds (λ p. P (length s.found.items) (next s.into) p []) s.into t.into → Drafts P s t
drafts_cells P s t same cells = record { piece = cells.piece; inner = []; is = cells.is; found = same ∙ sym (append-nil s.found.items); holds = cells.holds }

-- a case on a variable: what is tested, the alternatives, and the choice
pub case_drafted : (ground : Ground) (known : Known) (scope : List Variable) (it : Variable) (whole w : ℕ) (alts : Alts)
    (results : List (List WireId)) (wires : List WireId) (held : Held) (s t u v : Draft)
    → HasWidth ground.datas it.ty whole
    → IsTested (tested_of ground.datas it.ty whole (next s.into) it.wires) s.into t.into held
    → t.found.items ≡ s.found.items
    → Drafts (λ at n p inner. AltsDrafted ground known at scope it (whole - held.bits) n alts p results inner) t u
    → IsChoice held.bits held.wires (words_of held.bits (first_of ground.datas it.ty) alts) results w u.into v.into wires
    → v.found.items ≡ u.found.items
    → Drafts (λ at n p inner. CaseDrafted ground known at scope it n w alts p wires inner) s v
case_drafted ground known scope it whole w alts results wires held s t u v measured tested before built choice behind =
    let at : ℕ = length s.found.items in
    let n : ℕ = next s.into in
    let on : Tested = tested_of ground.datas it.ty whole n it.wires in
    let p : Piece = built.piece in
    let m : ℕ = after (after n on.cells) p in
    let first : first_of ground.datas it.ty ≡ on.first = first_is ground.datas it.ty whole n it.wires in
    let here : next t.into ≡ after n on.cells = next_behind s.into t.into on.cells tested.cells in
    let there : next u.into ≡ m = next_behind t.into u.into p built.is ∙ ap (λ k. after k p) here in
    let both : u.into ≡ s.into ▸ (on.cells ▸ p) = two_behind s.into t.into u.into on.cells p tested.cells built.is in
    let last : Piece = tests_and_choice on.bits on.wires (words_of on.bits on.first alts) results w m in
    let cells : v.into ≡ u.into ▸ last =
    choice.cells
    ∙ (λ i. u.into ▸ tests_and_choice (tested.bits i) (tested.wires i) (words_of (tested.bits i) (first i) alts) results w (there i)) in
    let tests_on = subst (λ k. AltsDrafted ground known (length t.found.items) scope it (whole - k) (next t.into) alts p results built.inner) tested.bits built.holds in
    let from = subst (λ k. AltsDrafted ground known (length t.found.items) scope it (whole - on.bits) k alts p results built.inner) here tests_on in
    record {
      piece = case_cells on alts w n p results;
      inner = built.inner;
      is = two_behind s.into u.into v.into (on.cells ▸ p) last both cells ∙ ap (λ (k : Piece). s.into ▸ k) (behind_both on.cells p last);
      found = behind ∙ built.found ∙ ap (λ ys. ys ++ built.inner) before;
      holds = record {
        whole = whole;
        width = measured;
        cells = p;
        results = results;
        alternatives = subst (λ k. AltsDrafted ground known k scope it (whole - on.bits) (after n on.cells) alts p results built.inner) (ap length before) from;
        is = refl;
        result = choice.result
            ∙ (λ i.
            let words : List (List Bool) = words_of (tested.bits i) (first i) alts in
            chosen_wires w (test_wires (tested.bits i) (tested.wires i) words (there i)) results
            (after (there i) (tests (tested.bits i) (tested.wires i) words (there i))));
      };
    }

-- as the right side of a binding
pub case_side_drafted : (ground : Ground) (known : Known) (scope : List Variable) (it : Variable) (x w : ℕ) (alts : Alts) (ty : TypeTree)
    (wires : List WireId) (s t : Draft)
    → slice_get scope x ≡ Some it → HasWidth ground.datas ty w
    → Drafts (λ at n p inner. CaseDrafted ground known at scope it n w alts p wires inner) s t
    → Drafts (λ at n p inner. SideDrafted ground known at scope n ty (case_of (var x) alts) p wires inner) s t
case_side_drafted ground known scope it x w alts ty wires s t held measured d =
    let at : ℕ = length s.found.items in
    let n : ℕ = next s.into in
    let k = d.holds in
    let on : Tested = tested_of ground.datas it.ty k.whole n it.wires in
    let side = drafted_case on held k.width measured refl k.alternatives in
    record {
      piece = d.piece;
      inner = d.inner;
      is = d.is;
      found = d.found;
      holds = subst (λ q. SideDrafted ground known at scope n ty (case_of (var x) alts) q wires d.inner) (sym k.is)
          (subst (λ ws. SideDrafted ground known at scope n ty (case_of (var x) alts) (case_cells on alts w n k.cells k.results) ws d.inner) (sym k.result) side);
    }

-- an alternative: its fields, and its block
pub alt_drafted : (ground : Ground) (known : Known) (it : Variable) (below : ℕ) (q : Pattern) (e : TermTree) (wires : List WireId)
    (outer inner : List Variable) (s t u : Draft)
    → IsBound ground it below q s.into t.into outer inner → t.found.items ≡ s.found.items
    → Drafts (λ at n p within. BlockDrafted ground known at (reverse inner) n e p wires within) t u
    → Drafts (λ at n p within. AltDrafted ground known at (reverse outer) it below n q e p wires within) s u
alt_drafted ground known it below q e wires outer inner s t u bound before block =
    let n : ℕ = next s.into in
    let fields = bound.are in
    let cuts : Piece = field_cuts below it.wires fields.widths n in
    let vars : List Variable = variables_from n bound.fields fields.widths in
    let scope : reverse inner ≡ reverse vars ++ reverse outer = ap reverse fields.bound ∙ reverse-append outer vars in
    let here : next t.into ≡ after n cuts = next_behind s.into t.into cuts fields.cuts in
    let inside = subst (λ vs. BlockDrafted ground known (length t.found.items) vs (next t.into) e block.piece wires block.inner) scope block.holds in
    let from = subst (λ k. BlockDrafted ground known (length t.found.items) (reverse vars ++ reverse outer) k e block.piece wires block.inner) here inside in
    record {
      piece = cuts ▸ block.piece;
      inner = block.inner;
      is = two_behind s.into t.into u.into cuts block.piece fields.cuts block.is;
      found = block.found ∙ ap (λ ys. ys ++ block.inner) before;
      holds = record {
        fields = bound.fields;
        widths = fields.widths;
        binds = bound.binds;
        are = fields.are;
        block = block.piece;
        drafted = subst (λ k. BlockDrafted ground known k (reverse vars ++ reverse outer) (after n cuts) e block.piece wires block.inner) (ap length before) from;
        whole = refl;
      };
    }
