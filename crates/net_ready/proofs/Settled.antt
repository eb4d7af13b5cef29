-- A pass that gives what was known builds the block.
use Rattle.std.proofs.Common.{◌≡◌, ℕ, suc, ◌+◌, arith, List, [], ◌∷◌, ◌++◌, length, reverse, refl, sym, subst, append_assoc, length-append}
use Rattle.chw_base.specs.declared.index.WireId.{WireId}
use Rattle.chw_types.specs.TypeTree.{TypeTree}
use Rattle.chw_terms.specs.declared.scene.Sort.TheVariants.{Value}
use Rattle.chw_terms.specs.TermTree.{TermTree, Group, Alts}
use Rattle.chw_typing.specs.Scopes.{declared}
use Rattle.net_built.specs.Bodies.{BlockBuilt, block_variable, block_letrec, GroupBuilt, group_none, group_and, SideBuilt, side_of_value, side_of_case, AltsBuilt, alts_none, alts_and}
use Rattle.net_built.specs.Circuits.{Ground}
use Rattle.net_built.specs.Terms.{Variable}
use Rattle.net_built.specs.Wires.{Piece}
use Rattle.net_ready.specs.Drafts.{Known, known_at, on_wires, BlockDrafted, drafted_variable, drafted_letrec, GroupDrafted, drafted_none, drafted_and, SideDrafted, drafted_side, drafted_case, AltsDrafted, drafted_no_alts, drafted_alt}

-- from this letrec on these wires are known
abbrev Settled : Known → ℕ → Known → Type 0
Settled known at [] = Unit {0}
Settled known at (f ∷ found) = (known_at known at ≡ f) × Settled known (suc at) found

settled_front : (known : Known) (at : ℕ) (a b : Known) → Settled known at (a ++ b) → Settled known at a
settled_front known at [] b h = tt
settled_front known at (f ∷ a) b h = (h.0, settled_front known (suc at) a b h.1)

settled_back : (known : Known) (at : ℕ) (a b : Known) → Settled known at (a ++ b) → Settled known (at + length a) b
settled_back known at [] b h = let e : at ≡ at + 0 = omega arith in subst (λ k. Settled known k b) e h
settled_back known at (f ∷ a) b h =
    let e : suc at + length a ≡ at + suc (length a) = omega arith in
    subst (λ k. Settled known k b) e (settled_back known (suc at) a b h.1)

-- what stands behind others
pub at_seam : (pre : Known) (f : List (List WireId)) (found : Known) → known_at (pre ++ f ∷ found) (length pre) ≡ f
at_seam [] f found = refl
at_seam (g ∷ pre) f found = at_seam pre f found

settled_behind : (pre found : Known) → Settled (pre ++ found) (length pre) found
settled_behind pre [] = tt
settled_behind pre (f ∷ found) =
    let size : length (pre ++ f ∷ []) ≡ suc (length pre) = omega (arith, length-append pre (f ∷ [])) in
    let behind = settled_behind (pre ++ f ∷ []) found in
    let along = subst (λ known. Settled known (length (pre ++ f ∷ [])) found) (append_assoc pre (f ∷ []) found) behind in
    (at_seam pre f found, subst (λ k. Settled (pre ++ f ∷ found) k found) size along)

mutual
  block_settled : {ground : Ground} {known : Known} {at : ℕ} {scope : List Variable} {n : ℕ} {e : TermTree} {p : Piece} {wires : List WireId} {found : Known} → BlockDrafted ground known at scope n e p wires found → Settled known at found → BlockBuilt ground Value scope n e p wires
  block_settled drafted_variable h = block_variable
  block_settled {ground} {known} (drafted_letrec {at = at} {scope = scope} {n = n} {g = g} {p = p} group) h =
      let bound : List Variable = on_wires (declared g) (known_at known at) in
      block_letrec bound (subst (λ f. GroupBuilt ground Value (reverse bound ++ scope) n g p (on_wires (declared g) f)) (sym h.0) (group_settled group h.1))

  group_settled : {ground : Ground} {known : Known} {at : ℕ} {scope : List Variable} {n : ℕ} {g : Group} {p : Piece} {found : List (List WireId)} {inner : Known} → GroupDrafted ground known at scope n g p found inner → Settled known at inner → GroupBuilt ground Value scope n g p (on_wires (declared g) found)
  group_settled drafted_none h = group_none
  group_settled {known = known} (drafted_and {at = at} {inner = inner} {rest = rest} side more) h =
      group_and (side_settled side (settled_front known at inner rest h)) (group_settled more (settled_back known at inner rest h))

  side_settled : {ground : Ground} {known : Known} {at : ℕ} {scope : List Variable} {n : ℕ} {t : TypeTree} {e : TermTree} {p : Piece} {wires : List WireId} {inner : Known} → SideDrafted ground known at scope n t e p wires inner → Settled known at inner → SideBuilt ground Value scope n t e p wires
  side_settled (drafted_side width cells) h = side_of_value width cells
  side_settled (drafted_case on held measured width is alts) h = side_of_case on held measured width is (alts_settled alts h)

  alts_settled : {ground : Ground} {known : Known} {at : ℕ} {scope : List Variable} {it : Variable} {below n : ℕ} {alts : Alts} {p : Piece} {results : List (List WireId)} {inner : Known} → AltsDrafted ground known at scope it below n alts p results inner → Settled known at inner → AltsBuilt ground scope it below n alts p results
  alts_settled drafted_no_alts h = alts_none
  alts_settled {known = known} (drafted_alt {at = at} {inner = inner} {rest = rest} widths pattern have is block more) h =
      alts_and widths pattern have is (block_settled block (settled_front known at inner rest h)) (alts_settled more (settled_back known at inner rest h))

pub built_once_settled : {ground : Ground} {known : Known} {scope : List Variable} {n : ℕ} {e : TermTree} {p : Piece} {wires : List WireId} {found : Known} → BlockDrafted ground known 0 scope n e p wires found → known ≡ found → BlockBuilt ground Value scope n e p wires
built_once_settled {found = found} draft same =
    block_settled draft (subst (λ known. Settled known 0 found) (sym same) (settled_behind [] found))
