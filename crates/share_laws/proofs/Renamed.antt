-- New numbers of wires: cells by their places, and widths.
use Rattle.std.proofs.Common.{◌≡◌, ℕ, zero, suc, ◌+◌, ◌<◌, ◌≤◌, List, [], ◌∷◌, ◌++◌, length, map, take, Some, slice_get, refl, sym, ap, subst, ◌∙◌, arith}
use Rattle.std.specs.Prelude.{option_and_then, option_map, slice_index}
use Rattle.std.proofs.lemmas.Option.{same_Some, slice_get-get_or, slice_get-map}
use Rattle.chw_base.specs.declared.index.WireId.{WireId}
use Rattle.netlist.specs.Feeds.{target}
use Rattle.netlist.specs.NetValue.{HasCell}
use Rattle.netlist.specs.Sound.{Sound}
use Rattle.netlist.specs.declared.net.Cell.{Cell}
use Rattle.netlist.specs.declared.net.Flat.{Flat}
use Rattle.netlist.proofs.Driven.{target_is_wire}
use Rattle.share_laws.specs.Shares.{AllBecome, AreSharedCells, Becomes, IsAmong, IsLive, IsNumbered, IsProper, IsSharedCell, Shares, Stands}
use Rattle.share_laws.specs.Shares.IsLive.{for_cell, for_output}
use Rattle.share_laws.specs.Shares.IsNumbered.{as_input, as_kept}
use Rattle.share_laws.specs.Shares.IsProper.{of_cell, of_input}
use Rattle.share_laws.specs.Shares.IsSharedCell.{as_constant, as_own}
use Rattle.share_laws.proofs.Widths.{AreAsWide, same_width}

-- the wire that the cell at a place is of
pub record SharedAt (flat : Flat) (kept : List ℕ) (n : ℕ) (ws : List ℕ) (k : ℕ) (cell : Cell) : Type 0 where
  pub w : ℕ
  pub there : slice_get ws k ≡ Some w
  pub is_shared : IsSharedCell flat kept w (n + k) cell

pub shared_at : (flat : Flat) (kept : List ℕ) (n : ℕ) (ws : List ℕ) (cells : List Cell) (k : ℕ) (cell : Cell)
    → AreSharedCells flat kept n ws cells → slice_get cells k ≡ Some cell → SharedAt flat kept n ws k cell
shared_at flat kept n [] [] k cell all e = absurd (cc)
shared_at flat kept n [] (c ∷ cells) k cell all e = absurd all
shared_at flat kept n (w ∷ ws) [] k cell all e = absurd all
shared_at flat kept n (w ∷ ws) (c ∷ cells) zero cell all e =
    let is : c ≡ cell = cc in
    let same : n ≡ n + zero = omega arith in
    record {
      w = w;
      there = refl;
      is_shared = subst (λ m. IsSharedCell flat kept w m cell) same (subst (λ x. IsSharedCell flat kept w n x) is all.0);
    }
shared_at flat kept n (w ∷ ws) (c ∷ cells) (suc k) cell all e =
    let rest = shared_at flat kept (n + 1) ws cells k cell all.1 e in
    let same : n + 1 + k ≡ n + suc k = omega arith in
    record { w = rest.w; there = rest.there; is_shared = subst (λ m. IsSharedCell flat kept rest.w m cell) same rest.is_shared }

-- a shared cell drives the new number of its wire
pub shared_target : (flat : Flat) (kept : List ℕ) (w n : ℕ) (cell : Cell) → IsSharedCell flat kept w n cell → target cell ≡ Some n
shared_target flat kept w n cell (as_constant bits k e) = ap target e
shared_target flat kept w n cell (as_own own unknown has t same u reads) = u

pub count_shared : (flat : Flat) (kept : List ℕ) (n : ℕ) (ws : List ℕ) (cells : List Cell) → AreSharedCells flat kept n ws cells → length cells ≡ length ws
count_shared flat kept n [] [] all = refl
count_shared flat kept n [] (c ∷ cells) all = absurd all
count_shared flat kept n (w ∷ ws) [] all = absurd all
count_shared flat kept n (w ∷ ws) (c ∷ cells) all = ap suc (count_shared flat kept (n + 1) ws cells all.1)

-- items of the first of a list, before others
get_taken : (n : ℕ) (xs ys : List ℕ) (k : ℕ) → k < n → n ≤ length xs → slice_get (take n xs ++ ys) k ≡ slice_get xs k
get_taken zero xs ys k l m = absurd (omega (arith, l))
get_taken (suc n) [] ys k l m = absurd (omega (arith, m))
get_taken (suc n) (x ∷ xs) ys zero l m = refl
get_taken (suc n) (x ∷ xs) ys (suc k) l m = get_taken n xs ys k (omega (arith, l)) (omega (arith, m))

get_behind : (n : ℕ) (xs ys : List ℕ) (k : ℕ) → n ≤ length xs → slice_get (take n xs ++ ys) (n + k) ≡ slice_get ys k
get_behind zero xs ys k m = let e : zero + k ≡ k = omega arith in ap (λ j. slice_get ys j) e
get_behind (suc n) [] ys k m = absurd (omega (arith, m))
get_behind (suc n) (x ∷ xs) ys k m =
    let e : suc n + k ≡ suc (n + k) = omega arith in
    ap (λ j. slice_get (x ∷ (take n xs ++ ys)) j) e ∙ get_behind n xs ys k (omega (arith, m))

-- a live wire stands for those equal to it
pub live_stands : (flat : Flat) (w : ℕ) → IsLive flat w → Stands flat w
live_stands flat _ (for_output k o v e serves) = serves.stands
live_stands flat _ (for_cell w cell k r v live unknown has t e serves) = serves.stands

module _ (flat : Flat) (sound : Sound flat) where
  pub proper_within : (w : ℕ) → IsProper flat w → w < length flat.widths
  proper_within w (of_input l) = omega (arith, l, sound.all)
  proper_within w (of_cell cell has t none) = target_is_wire flat sound has.0 w (ap (λ o. option_and_then target o) has.1 ∙ t)

  pub live_within : (w : ℕ) → IsLive flat w → w < length flat.widths
  live_within _ (for_output k o v e serves) = proper_within v serves.stands.proper
  live_within _ (for_cell w cell k r v live unknown has t e serves) = proper_within v serves.stands.proper

  module _ (shared : Flat) (s : Shares flat shared) where
    pub kept_within : (w : ℕ) → IsAmong s.kept w → w < length flat.widths
    kept_within w i = live_within w ((s.live w).0 i).0

    -- a new number has the width of its wire
    pub new_width : (v n : ℕ) → IsNumbered (length flat.ports.inputs) s.kept v n → slice_get shared.widths n ≡ slice_get flat.widths v
    new_width v n num = ap (λ ws. slice_get ws n) s.widths ∙ from num
      where
        few : length flat.ports.inputs ≤ length flat.widths
        few = omega (arith, sound.all)

        from : IsNumbered (length flat.ports.inputs) s.kept v n
            → slice_get (take (length flat.ports.inputs) flat.widths ++ map (λ w. slice_index flat.widths w) s.kept) n ≡ slice_get flat.widths v
        from (as_input l e) =
            let rest = map (λ w. slice_index flat.widths w) s.kept in
            ap (λ k. slice_get (take (length flat.ports.inputs) flat.widths ++ rest) k) e
            ∙ get_taken (length flat.ports.inputs) flat.widths rest v l few
        from (as_kept k at e) =
            let rest = map (λ w. slice_index flat.widths w) s.kept in
            ap (λ k. slice_get (take (length flat.ports.inputs) flat.widths ++ rest) k) e
            ∙ get_behind (length flat.ports.inputs) flat.widths rest k few
            ∙ slice_get-map (λ w. slice_index flat.widths w) s.kept k
            ∙ ap (λ o. option_map (λ w. slice_index flat.widths w) o) at
            ∙ sym (slice_get-get_or flat.widths v 0 (kept_within v (k, at)))

    pub become_width : (w n : ℕ) → Becomes flat s.kept w n → slice_get flat.widths w ≡ slice_get shared.widths n
    become_width w n b = sym (new_width b.by n b.numbered ∙ same_width flat sound b.by w b.serves.same)

    pub become_wide : (ws ns : List WireId) → AllBecome flat s.kept ws ns → AreAsWide flat.widths shared.widths ws ns
    become_wide [] [] all = tt
    become_wide [] (n ∷ ns) all = absurd all
    become_wide (w ∷ ws) [] all = absurd all
    become_wide (w ∷ ws) (n ∷ ns) all = (become_width w.number n.number all.0, become_wide ws ns all.1)

    -- the cell that drives a new number is the shared one of its wire
    pub cell_of : (cell : Cell) (v n : ℕ) → HasCell shared cell → target cell ≡ Some n → IsNumbered (length flat.ports.inputs) s.kept v n
        → IsSharedCell flat s.kept v n cell
    cell_of cell v n has t num = from num
      where
        at : SharedAt flat s.kept (length flat.ports.inputs) s.kept has.0 cell
        at = shared_at flat s.kept (length flat.ports.inputs) s.kept shared.cells has.0 cell s.cells has.1

        place : n ≡ length flat.ports.inputs + has.0
        place = same_Some _ _ (sym t ∙ shared_target flat s.kept at.w (length flat.ports.inputs + has.0) cell at.is_shared)

        from : IsNumbered (length flat.ports.inputs) s.kept v n → IsSharedCell flat s.kept v n cell
        from (as_input l e) = absurd (omega (arith, l, e, place))
        from (as_kept k there e) =
            let same : has.0 ≡ k = omega (arith, e, place) in
            let both : Some at.w ≡ Some v = sym at.there ∙ ap (λ j. slice_get s.kept j) same ∙ there in
            let is : at.w ≡ v = cc in
            subst (λ w. IsSharedCell flat s.kept w n cell) is
            (subst (λ m. IsSharedCell flat s.kept at.w m cell) (sym place) at.is_shared)
