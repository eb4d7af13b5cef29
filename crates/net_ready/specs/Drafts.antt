-- Passes over the block of a value: what is built where the wires of the bindings needn't be those
-- that the right sides give.
use Rattle.std.specs.Prelude.{◌≡◌, ℕ, suc, ◌+◌, ◌-◌, List, [], ◌∷◌, ◌++◌, length, reverse, Some}
use Rattle.std.specs.Prelude.{slice_get, slice_index_or}
use Rattle.chw_base.specs.declared.index.WireId.{WireId}
use Rattle.chw_types.specs.TypeTree.{TypeTree}
use Rattle.chw_terms.specs.declared.term.Pattern.{Pattern}
use Rattle.chw_terms.specs.TermTree.{TermTree, var, letrec, case_of, Group, no_bindings, bind}
use Rattle.chw_terms.specs.TermTree.{Alts, no_alts, alt}
use Rattle.chw_typing.specs.HeadTypes.{PatternOf}
use Rattle.chw_typing.specs.Scopes.{declared}
use Rattle.chw_layout.specs.Measured.{HasWidth}
use Rattle.net_built.specs.Bodies.{ValueCells}
use Rattle.net_built.specs.Circuits.{Ground}
use Rattle.net_built.specs.Data.{HaveWidths, field_cuts, Tested, tested_of, variables_from}
use Rattle.net_built.specs.Data.{case_cells, case_wires}
use Rattle.net_built.specs.Terms.{head_of, types_of, operands_of, Variable, variable, wires_at}
use Rattle.net_built.specs.Wires.{Piece, nothing, ◌▸◌, after, last_wires}

-- the wires of the bindings of each letrec, in the order of the text
abbrev pub Known : Type 0
Known = List (List (List WireId))

-- those of the letrec of this number; of one that isn't there none
abbrev pub known_at : Known → ℕ → List (List WireId)
known_at known at = slice_index_or known at []

-- variables of these types on these wires; one for which there are none left has none
abbrev pub on_wires : List TypeTree → List (List WireId) → List Variable
on_wires [] wires = []
on_wires (t ∷ ts) [] = variable t [] ∷ on_wires ts []
on_wires (t ∷ ts) (w ∷ wires) = variable t w ∷ on_wires ts wires

mutual
  -- with these variables in scope, from wire n on, where the bindings of the block's letrecs, of
  -- which the first one has this number, have the wires that are known, the block has these cells,
  -- its result these wires, and the right sides give these wires
  pub data BlockDrafted (ground : Ground) (known : Known)
      : ℕ → List Variable → ℕ → TermTree → Piece → List WireId → Known → Type 0 where
    drafted_variable : {at : ℕ} {scope : List Variable} {n x : ℕ}
        → BlockDrafted ground known at scope n (var x) nothing (wires_at scope x) []
    drafted_letrec : {at : ℕ} {scope : List Variable} {n x : ℕ} {g : Group} {p : Piece}
        {found : List (List WireId)} {inner : Known}
        → GroupDrafted ground known (suc at)
        (reverse (on_wires (declared g) (known_at known at)) ++ scope) n g p found inner
        → BlockDrafted ground known at scope n (letrec g (var x)) p
        (wires_at (reverse (on_wires (declared g) (known_at known at)) ++ scope) x) (found ∷ inner)

  -- the bindings have these cells one after the other, their right sides give these wires, and so
  -- do those of the letrecs in them
  pub data GroupDrafted (ground : Ground) (known : Known)
      : ℕ → List Variable → ℕ → Group → Piece → List (List WireId) → Known → Type 0 where
    drafted_none : {at : ℕ} {scope : List Variable} {n : ℕ}
        → GroupDrafted ground known at scope n no_bindings nothing [] []
    drafted_and : {at : ℕ} {scope : List Variable} {n : ℕ} {t : TypeTree} {e : TermTree}
        {g : Group} {p q : Piece} {wires : List WireId} {found : List (List WireId)}
        {inner rest : Known}
        → SideDrafted ground known at scope n t e p wires inner
        → GroupDrafted ground known (at + length inner) scope (after n p) g q found rest
        → GroupDrafted ground known at scope n (bind t e g) (p ▸ q) (wires ∷ found) (inner ++ rest)

  -- the right side of a binding of this type has these cells, and its result these wires
  pub data SideDrafted (ground : Ground) (known : Known)
      : ℕ → List Variable → ℕ → TypeTree → TermTree → Piece → List WireId → Known → Type 0 where
    drafted_side : {at : ℕ} {scope : List Variable} {n w : ℕ} {t : TypeTree} {e : TermTree}
        {p : Piece}
        → HasWidth ground.datas t w
        → ValueCells ground scope n w (head_of e) (types_of e) (operands_of e) p
        → SideDrafted ground known at scope n t e p (last_wires n p (w ∷ [])) []
    drafted_case : {at : ℕ} {scope : List Variable} {n x whole w : ℕ} {t : TypeTree} {alts : Alts}
        {it : Variable} {p : Piece} {results : List (List WireId)} {inner : Known} (on : Tested)
        → slice_get scope x ≡ Some it → HasWidth ground.datas it.ty whole
        → HasWidth ground.datas t w
        → on ≡ tested_of ground.datas it.ty whole n it.wires
        → AltsDrafted ground known at scope it (whole - on.bits) (after n on.cells) alts p results
        inner
        → SideDrafted ground known at scope n t (case_of (var x) alts)
        (case_cells on alts w n p results) (case_wires on alts w n p results) inner

  -- alternatives on a variable, with so many bits below what is tested: for each the fields and the
  -- block; these are the wires of the results
  pub data AltsDrafted (ground : Ground) (known : Known)
      : ℕ → List Variable → Variable → ℕ → ℕ → Alts → Piece → List (List WireId) → Known
      → Type 0 where
    drafted_no_alts : {at : ℕ} {scope : List Variable} {it : Variable} {below n : ℕ}
        → AltsDrafted ground known at scope it below n no_alts nothing [] []
    drafted_alt : {at : ℕ} {scope : List Variable} {it : Variable} {below n : ℕ} {q : Pattern}
        {e : TermTree} {more : Alts} {fields : List TypeTree} {p r s : Piece} {wires : List WireId}
        {results : List (List WireId)} {inner rest : Known} (widths : List ℕ)
        → PatternOf ground.datas it.ty q fields → HaveWidths ground.datas fields widths
        → p ≡ field_cuts below it.wires widths n
        → BlockDrafted ground known at (reverse (variables_from n fields widths) ++ scope)
        (after n p) e r wires inner
        → AltsDrafted ground known (at + length inner) scope it below (after (after n p) r) more s
        results rest
        → AltsDrafted ground known at scope it below n (alt q e more) (p ▸ r ▸ s) (wires ∷ results)
        (inner ++ rest)

-- so many passes over a block, of which the first one knows nothing and each further one what the
-- one before it gave; none gave what it knew. The last one gave this.
pub data Passes (ground : Ground) (scope : List Variable) (n : ℕ) (e : TermTree)
    : ℕ → Known → Type 0 where
  no_pass : Passes ground scope n e 0 []
  one_more : {k : ℕ} {known found : Known} {p : Piece} {wires : List WireId}
      → Passes ground scope n e k known
      → BlockDrafted ground known 0 scope n e p wires found → (known ≡ found → ⊥)
      → Passes ground scope n e (suc k) found

abbrev mutual
  -- how many bindings stand in a block, in the alternatives of its right sides too
  pub bindings_in : TermTree → ℕ
  bindings_in (letrec g e) = bindings_in_group g
  bindings_in (case_of e alts) = bindings_in_alts alts
  bindings_in _ = 0

  pub bindings_in_group : Group → ℕ
  bindings_in_group no_bindings = 0
  bindings_in_group (bind t e g) = suc (bindings_in e + bindings_in_group g)

  pub bindings_in_alts : Alts → ℕ
  bindings_in_alts no_alts = 0
  bindings_in_alts (alt q e more) = bindings_in e + bindings_in_alts more
